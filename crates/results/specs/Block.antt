-- A run of lines in one call: as many whole lines, from an index on, as the lent row has room for.
use Rattle.std.specs.Prelude.{ℕ, ◌-◌, ◌≤◌, ◌≡◌, cond, List, [], ◌∷◌, ◌++◌, ltb, length, take, drop, Result, Ok, Err}
use Rattle.model.specs.Network.{Network, size}
use Rattle.frames.specs.declared.Refusal.{Refusal}
use Rattle.frames.specs.Refusal.{no_room}
use Rattle.texts.specs.Reading.{Reading, refused, network}
use Rattle.frames.specs.Digits.{spell_line}
use Rattle.texts.specs.Spelling.{join}
use Rattle.labelling.specs.Promises.{either_short}
use Rattle.selection.specs.Selection.{roots}
use Rattle.results.specs.declared.block.Block.{Block}
use Rattle.results.specs.Result.{result_lines, refusal_bytes}

-- [R7] as many whole lines from the front as together have room
unfoldable pub fitting : ℕ → List (List ℕ) → List (List ℕ)
fitting room [] = []
fitting room (l ∷ ls) = cond (ltb room (length l)) [] (l ∷ fitting (room - length l) ls)

-- [R7] What `fitting` picks, in words: lines from the front whose bytes together have room, and no longer run of them has.
pub record LongestRun (room : ℕ) (ls run : List (List ℕ)) : Type 0 where
  pub front : run ≡ take (length run) ls
  pub room_for : length (join run) ≤ room
  pub longest : (k : ℕ) → k ≤ length ls → length (join (take k ls)) ≤ room → k ≤ length run

-- so many lines and their bytes
abbrev pub block_of : ℕ → ℕ → Block
block_of count length = record { count = count; length = length }

-- The answer for the lines that are left and those of them that fit: how many fit and their bytes; 10 at line 0 where a
-- line is left and none fits.
unfoldable pub run_answer : List (List ℕ) → List (List ℕ) → Result Block Refusal
run_answer [] fit = Ok (block_of 0 0)
run_answer (l ∷ ls) [] = Err no_room
run_answer (l ∷ ls) (f ∷ fit) = Ok (block_of (length (f ∷ fit)) (length (join (f ∷ fit))))

-- some bytes in front of a row, the rest of the row as it was
abbrev pub in_front : List ℕ → List ℕ → List ℕ
in_front bytes out = bytes ++ drop (length bytes) out

unfoldable pub lines_answer : List (List ℕ) → List ℕ → Result Block Refusal
lines_answer ls out = run_answer ls (fitting (length out) ls)

-- [R3] The row afterwards: the lines that fit in front, the rest as it was; where none fits all of it as it was.
unfoldable pub lines_row : List (List ℕ) → List ℕ → List ℕ
lines_row ls out = in_front (join (fitting (length out) ls)) out

pub record LinesWritten (ls : List (List ℕ)) (out : List ℕ) (r : Result Block Refusal) (row : List ℕ) : Type 0 where
  pub answer : r ≡ lines_answer ls out
  pub kept : row ≡ lines_row ls out

-- The lines of the result of a network, from labels and marks. The marked gates are the roots.
unfoldable pub drawn_lines : Network → List ℕ → List ℕ → List (List ℕ)
drawn_lines n labels row = result_lines n labels (roots row (size n))

-- A refusal of the text that the row spells is handed on; the labels and the marks need a place for each gate.
unfoldable pub block_answer : ℕ → Reading → List ℕ → List ℕ → List ℕ → Result Block Refusal
block_answer index (refused f) labels row out = Err f
block_answer index (network n) labels row out =
    cond (either_short (size n) labels row) (Err no_room) (lines_answer (drop index (drawn_lines n labels row)) out)

unfoldable pub block_row : ℕ → Reading → List ℕ → List ℕ → List ℕ → List ℕ
block_row index (refused f) labels row out = out
block_row index (network n) labels row out =
    cond (either_short (size n) labels row) out (lines_row (drop index (drawn_lines n labels row)) out)

pub record BlockAnswered (index : ℕ) (reading : Reading) (labels row out : List ℕ) (r : Result Block Refusal) (after : List ℕ) : Type 0 where
  pub answer : r ≡ block_answer index reading labels row out
  pub kept : after ≡ block_row index reading labels row out

-- [F13] the lines of a refusal: one
abbrev pub refusal_lines : Refusal → List (List ℕ)
refusal_lines f = spell_line (refusal_bytes f) ∷ []
