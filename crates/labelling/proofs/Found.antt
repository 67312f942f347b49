-- Some gates found in front of a row.
use Prim.Native.Nat.{ℕ, ◌≤◌}
use mathlib.Core.Path.{◌≡◌, sym, ◌∙◌, ap}
use mathlib.Core.List.{List}
use native.Mathlib.Omega.{arith}
use lib.ListN.{length, take, drop, length-append}
use lib.Seq.{take_at}
use Rattle.labelling.specs.Promises.{Found}

pub found_front : {gates before : List ℕ} {count : ℕ} {after : List ℕ} → Found gates before count after → take count after ≡ gates
found_front {gates} {before} {count} f =
    ap (take count) f.row_is ∙ take_at gates (drop (length gates) before) count (sym f.many)

pub found_fits : {gates before : List ℕ} {count : ℕ} {after : List ℕ} → Found gates before count after → count ≤ length after
found_fits {gates} {before} f = omega (arith, f.many, ap length f.row_is, length-append gates (drop (length gates) before))
