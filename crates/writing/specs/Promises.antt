-- What writing a line of a network in its row answers, and what it leaves in the lent row.
use Rattle.std.specs.Prelude.{ℕ, ◌≡◌, List, Result, Err}
use Rattle.frames.specs.declared.Refusal.{Refusal}
use Rattle.frames.specs.Put.{line_answer, line_row, line_at}
use Rattle.texts.specs.Reading.{Reading, refused, network}
use Rattle.rows.specs.declared.Header.{Header}
use Rattle.rows.specs.Spelling.{row_lines, row_answer}

-- [R5] a refusal of the text that the row spells is handed on
unfoldable pub answer_unless : Reading → Result ℕ Refusal → Result ℕ Refusal
answer_unless (refused f) w = Err f
answer_unless (network n) w = w

-- [R4] on a refusal the row as it was
unfoldable pub row_unless : Reading → List ℕ → List ℕ → List ℕ
row_unless (refused f) out row = out
row_unless (network n) out row = row

-- One line of the text that a header and a row spell, written into a lent row.
pub record RowWritten (index : ℕ) (h : Header) (row out : List ℕ) (r : Result ℕ Refusal) (after : List ℕ) : Type 0 where
  pub answer : r ≡ answer_unless (row_answer h row) (line_answer (line_at index (row_lines h row)) out)
  pub kept : after ≡ row_unless (row_answer h row) out (line_row (line_at index (row_lines h row)) out)
