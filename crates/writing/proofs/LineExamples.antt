-- Network A in its row, and its lines.
use Prim.Native.Nat.{ℕ}
use mathlib.Core.Path.{◌≡◌, refl}
use mathlib.Core.List.{List, [], ◌∷◌, ◌++◌}
use lib.ListN.{replicate}
use Rattle.units.specs.Units.{cells, ticks}
use Rattle.frames.specs.Refusal.{no_room}
use Rattle.std.specs.Prelude.{Ok, Err}
use Rattle.frames.specs.Put.{line_at, line_answer, line_row}
use Rattle.rows.specs.declared.Header.{Header}
use Rattle.rows.specs.Spelling.{row_lines}

a_header : Header
a_header = record { capacity = cells 3; hop = ticks 4; gates = 5 }

-- a block of eleven places a gate; places that no gate uses hold 7
a_row : List ℕ
a_row =
    (1 ∷ 1 ∷ 0 ∷ replicate 8 7)
    ++ (1 ∷ 2 ∷ 0 ∷ replicate 8 7)
    ++ (1 ∷ 3 ∷ 2 ∷ 0 ∷ 1 ∷ replicate 6 7)
    ++ (1 ∷ 1 ∷ 1 ∷ 1 ∷ replicate 7 7)
    ++ (1 ∷ 2 ∷ 2 ∷ 2 ∷ 3 ∷ replicate 6 7)
    ++ (7 ∷ [])

a_lines : List (List ℕ)
unfolding row_lines a_header a_row
a_lines = row_lines a_header a_row

-- the digits of each line, and its line feed
a_text : a_lines
    ≡ (48 ∷ 49 ∷ 48 ∷ 48 ∷ 48 ∷ 48 ∷ 48 ∷ 48 ∷ 48 ∷ 51 ∷ 48 ∷ 48 ∷ 48 ∷ 52 ∷ 10 ∷ [])
    ∷ (48 ∷ 50 ∷ 48 ∷ 48 ∷ 48 ∷ 49 ∷ 48 ∷ 48 ∷ 48 ∷ 49 ∷ 48 ∷ 48 ∷ 10 ∷ [])
    ∷ (48 ∷ 50 ∷ 48 ∷ 48 ∷ 48 ∷ 49 ∷ 48 ∷ 48 ∷ 48 ∷ 50 ∷ 48 ∷ 48 ∷ 10 ∷ [])
    ∷ (48 ∷ 50 ∷ 48 ∷ 48 ∷ 48 ∷ 49 ∷ 48 ∷ 48 ∷ 48 ∷ 51 ∷ 48 ∷ 50 ∷ 48 ∷ 48 ∷ 48 ∷ 48 ∷ 48 ∷ 48 ∷ 48 ∷ 49 ∷ 10 ∷ [])
    ∷ (48 ∷ 50 ∷ 48 ∷ 48 ∷ 48 ∷ 49 ∷ 48 ∷ 48 ∷ 48 ∷ 49 ∷ 48 ∷ 49 ∷ 48 ∷ 48 ∷ 48 ∷ 49 ∷ 10 ∷ [])
    ∷ (48 ∷ 50 ∷ 48 ∷ 48 ∷ 48 ∷ 49 ∷ 48 ∷ 48 ∷ 48 ∷ 50 ∷ 48 ∷ 50 ∷ 48 ∷ 48 ∷ 48 ∷ 50 ∷ 48 ∷ 48 ∷ 48 ∷ 51 ∷ 10 ∷ [])
    ∷ (48 ∷ 70 ∷ 48 ∷ 48 ∷ 48 ∷ 53 ∷ 10 ∷ [])
    ∷ []
unfolding a_lines
a_text = refl

a_line : ℕ → List ℕ
unfolding line_at a_lines
a_line index = line_at index a_lines

-- Past the last line nothing is written, and its length is 0.
line_7 : a_line 7 ≡ []
unfolding a_line
line_7 = refl

past_the_last : line_answer (a_line 7) [] ≡ Ok 0
unfolding line_answer a_line
past_the_last = refl

-- The end needs seven places: with six the answer is 10, with eight the last one is kept.
too_few : line_answer (a_line 6) (replicate 6 9) ≡ Err no_room
unfolding line_answer a_line
too_few = refl

enough : line_row (a_line 6) (replicate 8 9) ≡ a_line 6 ++ (9 ∷ [])
unfolding line_row a_line
enough = refl
