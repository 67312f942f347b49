-- What some rows answer, by computation from the definition: the row is spelled, and the text is read.
use Prim.Native.Nat.{ℕ}
use Rattle.std.specs.Prelude.{Result, Ok, Err}
use Rattle.frames.specs.declared.Refusal.{Refusal}
use mathlib.Core.Path.{◌≡◌, refl}
use mathlib.Core.List.{List, [], ◌∷◌}
use Rattle.units.specs.Units.{cells, ticks}
use Rattle.frames.specs.Refusal.{at_line, no_room}
use Rattle.rows.specs.declared.Header.{Header}
use Rattle.rows.specs.Read.{checked}

-- the row of network A; the count of gate 2 and the fan-in of gate 3 are left open, and unused places hold 7
row : ℕ → ℕ → List ℕ
row third of_3 =
    1 ∷ 1 ∷ 0 ∷ 7 ∷ 7 ∷ 7 ∷ 7 ∷ 7 ∷ 7 ∷ 7 ∷ 7
    ∷ 1 ∷ 2 ∷ 0 ∷ 7 ∷ 7 ∷ 7 ∷ 7 ∷ 7 ∷ 7 ∷ 7 ∷ 7
    ∷ 1 ∷ 3 ∷ third ∷ 0 ∷ 1 ∷ 7 ∷ 7 ∷ 7 ∷ 7 ∷ 7 ∷ 7
    ∷ 1 ∷ 1 ∷ 1 ∷ of_3 ∷ 7 ∷ 7 ∷ 7 ∷ 7 ∷ 7 ∷ 7 ∷ 7
    ∷ 1 ∷ 2 ∷ 2 ∷ 2 ∷ 3 ∷ 7 ∷ 7 ∷ 7 ∷ 7 ∷ 7 ∷ 7
    ∷ []

-- A's header; M and the number of gates are left open
header : ℕ → ℕ → Header
header capacity gates = record { capacity = cells capacity; hop = ticks 4; gates = gates }

A : ℕ → ℕ → ℕ → ℕ → Result Header Refusal
unfolding checked row header
A capacity gates third of_3 = checked (header capacity gates) (row third of_3)

record Answers : Type 0 where
  network_A : A 3 5 2 1 ≡ Ok (header 3 5)
  first_four : A 3 4 2 1 ≡ Ok (header 3 4)
  capacity_above : A 4_294_967_296 5 2 1 ≡ Ok (header 4_294_967_295 5)
  no_gates : A 3 0 2 1 ≡ Err (at_line 8 2)
  row_too_short : A 3 6 2 1 ≡ Err no_room
  nine_fan_ins : A 3 5 9 1 ≡ Err (at_line 4 4)
  most_fan_ins : A 3 5 65_535 1 ≡ Err (at_line 4 4)
  own_fan_in : A 3 5 2 3 ≡ Err (at_line 6 5)
  heavy : A 0 5 2 1 ≡ Err (at_line 9 2)
  nine_before_heavy : A 0 5 9 1 ≡ Err (at_line 4 4)

answers : Answers
unfolding A
answers =
    record {
      network_A = refl;
      first_four = refl;
      capacity_above = refl;
      no_gates = refl;
      row_too_short = refl;
      nine_fan_ins = refl;
      most_fan_ins = refl;
      own_fan_in = refl;
      heavy = refl;
      nine_before_heavy = refl;
    }
