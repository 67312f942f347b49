-- Lines that go wrong easily, each where it stands, with the number that the table gives and its column: one table, one statement.
use Prim.Native.Nat.{ℕ}
use Prim.Native.String.{String}
use mathlib.Core.Path.{◌≡◌, refl}
use mathlib.Core.Bool.{true, false}
use mathlib.Core.List.{List, [], ◌∷◌, map}
use mathlib.Core.Option.{Option, none, some}
use Rattle.frames.specs.declared.Place.{Place}
use Rattle.frames.specs.declared.Place.TheVariants.{Opening, AfterGates, Closed}
use Rattle.frames.specs.Text.{Line}
use Rattle.frames.specs.Table.{fault, column}
use Rattle.frames.specs.Typed.{typed}

-- a line, its place, its number and column if it has one
infix 68 ◌at◌gives◌
data Case : Type 0 where
  ◌at◌gives◌ : Line → Place → Option (ℕ × ℕ) → Case

pointed : Line → Option ℕ → Option (ℕ × ℕ)
unfolding column
pointed l none = none
pointed l (some k) = some (k, column k l)

found : Case → Option (ℕ × ℕ)
unfolding fault pointed
found (l at p gives k) = pointed l (fault p l)

given : Case → Option (ℕ × ℕ)
given (l at p gives k) = k

ended : String → Line
unfolding typed
ended s = record { digits = typed s; ended = true }

unended : String → Line
unfolding typed
unended s = record { digits = typed s; ended = false }

cases : List Case
unfolding ended unended
cases =
    -- without fault
    ended "01FFFFFFFFFFFF" at Opening gives none
    ∷ ended "02FFFFFFFF00" at AfterGates 0 gives none
    ∷ ended "02000000000200010002" at AfterGates 3 gives none
    -- 23: empty
    ∷ ended "" at Opening gives some (23, 0)
    ∷ ended "" at Closed gives some (23, 0)
    -- 21: a lower-case digit, 0D before 0A, the bytes beside the digits, the first of two; before 22, 24 and 3, after 0F too
    ∷ ended "01000000000a00" at Opening gives some (21, 12)
    ∷ ended "01000000000000\r" at Opening gives some (21, 15)
    ∷ ended "/1" at Opening gives some (21, 1)
    ∷ ended "0:" at Opening gives some (21, 2)
    ∷ ended "@1" at Opening gives some (21, 1)
    ∷ ended "0G" at Closed gives some (21, 2)
    ∷ ended "01000 00000 00" at Opening gives some (21, 6)
    ∷ unended "7E7E7g7" at AfterGates 1 gives some (21, 6)
    -- 22: a digit too few, or too many; before 24 and 3
    ∷ ended "0100000000000" at Opening gives some (22, 0)
    ∷ ended "010000000000000" at Opening gives some (22, 0)
    ∷ unended "7E7" at Closed gives some (22, 0)
    -- 24: not ended; before 3 and 4
    ∷ unended "01000000000000" at Opening gives some (24, 0)
    ∷ unended "0F" at AfterGates 0 gives some (24, 0)
    ∷ unended "7E" at Closed gives some (24, 0)
    -- 3: an unknown type, a gate or an end first, a second header, any line after 0F; before 4
    ∷ ended "7E" at AfterGates 1 gives some (3, 0)
    ∷ ended "020000000000" at Opening gives some (3, 0)
    ∷ ended "0F" at Opening gives some (3, 0)
    ∷ ended "01000000000000" at AfterGates 0 gives some (3, 0)
    ∷ ended "0F0001" at Closed gives some (3, 0)
    -- 4: lengths, counts 9 and 255; before 5 to 8
    ∷ ended "010000000000" at Opening gives some (4, 0)
    ∷ ended "0100000000000000" at Opening gives some (4, 0)
    ∷ ended "0F00" at AfterGates 0 gives some (4, 0)
    ∷ ended "020000000001" at AfterGates 512 gives some (4, 0)
    ∷ ended "0200000000FF" at AfterGates 1 gives some (4, 0)
    ∷ ended "020000000009000000010002000300040005000600070008" at AfterGates 9 gives some (4, 0)
    -- 5: a 513th gate; before 6
    ∷ ended "020000000000" at AfterGates 511 gives none
    ∷ ended "020000000000" at AfterGates 512 gives some (5, 0)
    ∷ ended "0200000000010200" at AfterGates 512 gives some (5, 0)
    -- 6: a fan-in of its own number, falling, twice
    ∷ ended "0200000000010000" at AfterGates 0 gives some (6, 0)
    ∷ ended "0200000000010003" at AfterGates 3 gives some (6, 0)
    ∷ ended "02000000000200010000" at AfterGates 3 gives some (6, 0)
    ∷ ended "02000000000200010001" at AfterGates 3 gives some (6, 0)
    -- 7: another count; before 8
    ∷ ended "0F0002" at AfterGates 3 gives some (7, 0)
    ∷ ended "0F0001" at AfterGates 0 gives some (7, 0)
    -- 8: no gates
    ∷ ended "0F0000" at AfterGates 0 gives some (8, 0)
    ∷ ended "0F0200" at AfterGates 512 gives none
    ∷ []

cases_hold : map found cases ≡ map given cases
unfolding cases found given
cases_hold = refl
