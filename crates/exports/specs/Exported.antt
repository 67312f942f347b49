-- What the exported functions promise.
use Rattle.std.specs.Prelude.{ℕ, ◌≡◌, ◌↔◌, List, length, Result, Ok, Err}
use Rattle.units.specs.Units.{cells, ticks}
use Rattle.frames.specs.Put.{line_at, line_answer, line_row}
use Rattle.frames.specs.declared.Refusal.{Refusal}
use Rattle.rows.specs.declared.Header.{Header}
use Rattle.rows.specs.Spelling.{row_answer}
use Rattle.labelling.specs.Promises.{label_answer, label_row}
use Rattle.drawing.specs.Answer.{answer_lines}
use Rattle.exports.specs.declared.Answer.{Answer}

-- the capacity M, the hop delay D and the number of gates, each as a number
abbrev pub header_from : ℕ → ℕ → ℕ → Header
header_from capacity hop gates = record { capacity = cells capacity; hop = ticks hop; gates = gates }

-- [O1] A refusal is its number, its line and its column, all as they are.
abbrev pub refused : Refusal → Answer
refused f = record { number = f.number; line = f.line; column = f.column; length = 0 }

-- Refusals are numbered from 1 (`label_told_0` in proofs/Zero.antt), so that 0 stands for none.
abbrev pub done : ℕ → Answer
done length = record { number = 0; line = 0; column = 0; length = length }

-- Labels written are no line, and have no length.
unfoldable pub label_told : Result (Unit {0}) Refusal → Answer
label_told (Ok u) = done 0
label_told (Err f) = refused f

-- What `labelling::label` answers, told by its numbers, and what it leaves in the lent row.
pub record LabelledOut (h : Header) (row labels : List ℕ) (r : Answer) (after : List ℕ) : Type 0 where
  pub answer : r ≡ label_told (label_answer (row_answer h row) labels)
  pub kept : after ≡ label_row (row_answer h row) labels

-- [R6] The line's length, 0 past the last line; 10, line 0, for less room than asked for.
unfoldable pub line_told : Result ℕ Refusal → Answer
line_told (Ok k) = done k
line_told (Err f) = refused f

-- One line of what a text answers, written into a row.
pub record LineOut (text : List ℕ) (index : ℕ) (out : List ℕ) (r : Answer) (row : List ℕ) : Type 0 where
  pub answer : r ≡ line_told (line_answer (line_at index (answer_lines text)) out)
  pub kept : row ≡ line_row (line_at index (answer_lines text)) out

-- [O1] The number 0 is told exactly where nothing is refused.
pub record ZeroIsNone : Type 0 where
  pub labels :
      (h : Header) (row labels : List ℕ)
      → ((label_told (label_answer (row_answer h row) labels)).number ≡ 0) ↔ (label_answer (row_answer h row) labels ≡ Ok (tt {0}))
  pub line :
      (line out : List ℕ)
      → ((line_told (line_answer line out)).number ≡ 0) ↔ (line_answer line out ≡ Ok (length line))
