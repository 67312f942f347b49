-- The steps of a run of lines.
use Rattle.std.specs.Prelude.{ℕ, ◌+◌, ◌-◌, ◌≡◌, cond, List, [], ◌++◌, ltb, length, take, drop}
use Rattle.texts.specs.Spelling.{join}
use Rattle.frames.specs.Put.{line_at}
use Rattle.results.specs.declared.block.Block.{Block}
use Rattle.results.specs.Block.{fitting, in_front, block_of, lines_row}

-- a line that has room, or nothing
unfoldable pub if_fits : ℕ → List ℕ → List ℕ
if_fits room line = cond (ltb room (length line)) [] line

-- A line put into a row from a place on, if it has room there, and its bytes.
pub record Added (line : List ℕ) (at : ℕ) (out : List ℕ) (bytes : ℕ) (row : List ℕ) : Type 0 where
  pub many : bytes ≡ length (if_fits (length out - at) line)
  pub row_is : row ≡ take at out ++ (if_fits (length out - at) line ++ drop (at + bytes) out)

-- The first of the lines that fit stands in front of the row with so many bytes, 0 where there is none.
pub record Begun (ls : List (List ℕ)) (first : ℕ) (out : List ℕ) : Type 0 where
  pub many : first ≡ length (line_at 0 (fitting (length out) ls))
  pub stands : out ≡ in_front (line_at 0 (fitting (length out) ls)) out

-- All that fit stand in front of the row.
pub record Ran (ls : List (List ℕ)) (out : List ℕ) (r : Block) (row : List ℕ) : Type 0 where
  pub answer : r ≡ block_of (length (fitting (length out) ls)) (length (join (fitting (length out) ls)))
  pub kept : row ≡ lines_row ls out
