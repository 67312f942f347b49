-- antt computes every worked row, P1 to P24, and blocks of lines.
use Rattle.std.specs.Prelude.{Ok, Err}
use Rattle.results.specs.Block.{block_of}
use Prim.Native.Nat.{ℕ}
use mathlib.Core.Path.{◌≡◌, refl}
use mathlib.Core.List.{List, [], ◌++◌}
use lib.ListN.{drop, replicate}
use Rattle.frames.specs.Digits.{spell_line}
use Rattle.frames.specs.Typed.{typed}
use Rattle.frames.specs.Refusal.{at_line, no_room}
use Rattle.texts.specs.Spelling.{join}
use Rattle.results.specs.Result.{refusal_bytes}
use Rattle.results.specs.Block.{fitting, run_answer, lines_answer}
use Rattle.drawing.specs.Answer.{answer_lines}
use Rattle.drawing.specs.Prepared.{Lent, tell_lines_answer}
use Rattle.drawing.specs.Examples.{row, A, rows, Worked}

pub worked : Worked
unfolding answer_lines rows row A typed
worked = refl

-- The blocks of P1, whose ten lines have 15 bytes each, but the last three 19, 23 and 7: two lines in 40 places, none in 14,
-- the last two in 30 and not in 29, and none past the last.

abbrev p1_lines : List (List ℕ)
p1_lines = answer_lines (typed "01000000030004\n" ++ A)

pub blocks :
    (lines_answer p1_lines (replicate 40 0) ≡ Ok (block_of 2 30))
    × (lines_answer p1_lines (replicate 14 0) ≡ Err no_room)
    × (lines_answer (drop 8 p1_lines) (replicate 30 0) ≡ Ok (block_of 2 30))
    × (lines_answer (drop 8 p1_lines) (replicate 29 0) ≡ Ok (block_of 1 23))
    × (lines_answer (drop 10 p1_lines) [] ≡ Ok (block_of 0 0))
unfolding lines_answer run_answer fitting answer_lines A typed join
blocks = (refl, refl, refl, refl, refl)

-- a refusal has its one line, of 13 bytes, in the first block
pub refusal_blocks :
    (l : Lent)
    → (tell_lines_answer (Err (at_line 3 1)) 0 l (replicate 13 0) ≡ Ok (block_of 1 13))
    × (tell_lines_answer (Err (at_line 3 1)) 0 l (replicate 12 0) ≡ Err no_room)
    × (tell_lines_answer (Err (at_line 3 1)) 1 l (replicate 13 0) ≡ Ok (block_of 0 0))
unfolding tell_lines_answer lines_answer run_answer fitting join spell_line refusal_bytes
refusal_blocks l = (refl, refl, refl)
