-- Laws of specs/Line.antt: what is answered in each case.
use Prim.Native.Nat.{ℕ, ◌≤◌}
use mathlib.Core.Path.{◌≡◌, refl, ap}
use mathlib.Core.Bool.{false}
use mathlib.Core.List.{List}
use lib.ListN.{length}
use Rattle.std.specs.Prelude.{Result, Err}
use Rattle.model.specs.Network.{Network, size}
use Rattle.frames.specs.declared.Refusal.{Refusal}
use Rattle.frames.specs.Put.{LineWritten}
use Rattle.texts.specs.Reading.{Reading, refused, network}
use Rattle.labelling.specs.Promises.{either_short}
use Rattle.labelling.proofs.Room.{room}
use Rattle.results.specs.Line.{told_line, told_answer, told_row, LineAnswered}
use Rattle.results.specs.steps.Marked.{refusing}

-- a refusal of the rows handed over, and a line of what they hold

pub told_refused : (reading : Reading) (index : ℕ) (labels row out : List ℕ) {f : Refusal} → refusing reading labels row f
    → LineAnswered index reading labels row out (Err f) out
unfolding told_answer told_row
told_refused (refused g) index labels row out h = record { answer = ap (λ k. Err k) h; kept = refl }
told_refused (network n) index labels row out h = record { answer = rw h.0 (ap (λ k. Err k) h.1); kept = rw h.0 }

pub told_told : {reading : Reading} {n : Network} {labels row : List ℕ} (index : ℕ) (out : List ℕ) {r : Result ℕ Refusal} {after : List ℕ}
    → reading ≡ network n → either_short (size n) labels row ≡ false → LineWritten (told_line index n labels row) out r after
    → LineAnswered index reading labels row out r after
unfolding told_answer told_row
told_told index out e t w = record { answer = rw (e, t) w.answer; kept = rw (e, t) w.kept }

-- and what is answered where labels and marks have room
pub told_written : (n : Network) (labels row : List ℕ) {index : ℕ} {out : List ℕ} {r : Result ℕ Refusal} {after : List ℕ}
    → size n ≤ length labels → size n ≤ length row → LineAnswered index (network n) labels row out r after
    → LineWritten (told_line index n labels row) out r after
unfolding told_answer told_row
told_written n labels row h l a =
    let t = room (size n) labels row h l in record { answer = rw t at a.answer; kept = rw t at a.kept }
