-- What the writers of lines answer, and what they leave in the lent row.
use Rattle.std.specs.Prelude.{ℕ, ◌+◌, ◌≡◌, Bool, cond, List, [], ◌++◌, length, get_or, set, drop, leb, ltb, Result, Ok, Err}
use Rattle.std.proofs.lemmas.List.Edits.{sets}
use Rattle.frames.specs.declared.Refusal.{Refusal}
use Rattle.frames.specs.Refusal.{no_room}
use Rattle.frames.specs.Text.{line_feed}
use Rattle.frames.specs.Digits.{digits}

-- do the digits of these bytes have room in the row, from this place on
unfoldable pub room : List ℕ → ℕ → List ℕ → Bool
unfolding digits
room bs at out = leb (at + length (digits bs)) (length out)

-- Bytes put as digits into a row from a place on. With room for all of them the answer is the place past them;
-- otherwise it is the place itself, and the row is as it was.
pub record Put (bs : List ℕ) (at : ℕ) (out : List ℕ) (next : ℕ) (row : List ℕ) : Type 0 where
  pub answer : next ≡ cond (room bs at out) (at + length (digits bs)) at
  pub kept : row ≡ cond (room bs at out) (sets out at (digits bs)) out

-- A line feed put past a line's digits, and the line's length; without room for it a refusal, and the row as it was.
pub record Fed (at : ℕ) (out : List ℕ) (r : Result ℕ Refusal) (row : List ℕ) : Type 0 where
  pub answer : r ≡ cond (ltb at (length out)) (Ok (at + 1)) (Err no_room)
  pub kept : row ≡ cond (ltb at (length out)) (set out at line_feed) out

-- [R6] the line's length, or 10 where the row is shorter
unfoldable pub line_answer : List ℕ → List ℕ → Result ℕ Refusal
line_answer line out = cond (ltb (length out) (length line)) (Err no_room) (Ok (length line))

-- [R6] [R4] The row afterwards: the line in front, the rest as it was; on a refusal all of it as it was.
unfoldable pub line_row : List ℕ → List ℕ → List ℕ
line_row line out = cond (ltb (length out) (length line)) out (line ++ drop (length line) out)

pub record LineWritten (line : List ℕ) (out : List ℕ) (r : Result ℕ Refusal) (row : List ℕ) : Type 0 where
  pub answer : r ≡ line_answer line out
  pub kept : row ≡ line_row line out

-- [R6] the line of an index, counted from 0; past the last there is an empty one
unfoldable pub line_at : ℕ → List (List ℕ) → List ℕ
line_at index lines = get_or lines index []
