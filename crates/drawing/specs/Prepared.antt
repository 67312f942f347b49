-- A whole text: what preparing its result answers and leaves in the lent rows, and what each line told is.
use Rattle.std.specs.Prelude.{ℕ, ◌≡◌, Bool, cond, ◌||◌, List, ◌++◌, drop, Result, Ok, Err}
use Rattle.model.specs.Network.{Network, size}
use Rattle.model.specs.Label.{labels as labels_of}
use Rattle.model.specs.Drawing.{marks as marks_of}
use Rattle.frames.specs.Refusal.{no_room}
use Rattle.texts.specs.Reading.{Reading, refused, network, reading}
use Rattle.frames.specs.declared.Refusal.{Refusal}
use Rattle.rows.specs.declared.Header.{Header}
use Rattle.rows.specs.Row.{too_short, header_of, fill}
use Rattle.rows.specs.Spelling.{row_answer}
use Rattle.frames.specs.Put.{line_at, line_answer, line_row}
use Rattle.labelling.specs.Promises.{written, either_short}
use Rattle.results.specs.declared.block.Block.{Block}
use Rattle.drawing.specs.declared.Prepared.{Prepared}
use Rattle.results.specs.Line.{told_answer, told_row}
use Rattle.results.specs.Block.{lines_answer, lines_row, block_answer, block_row, refusal_lines}

-- the rows that are lent for a text
pub record Lent : Type 0 where
  pub row : List ℕ
  pub labels : List ℕ
  pub marks : List ℕ

-- three rows, handed over one by one
abbrev pub lent_of : List ℕ → List ℕ → List ℕ → Lent
lent_of row labels marks = record { row = row; labels = labels; marks = marks }

-- those of what a text came to
abbrev pub lent_in : Prepared → Lent
lent_in p = lent_of p.row.now p.labels.now p.marks.now

-- [R3] is a row shorter than its formula
unfoldable pub any_short : ℕ → Lent → Bool
any_short gates l = too_short gates l.row || either_short gates l.labels l.marks

-- [O5] a network for which a row is too short answers 10, line 0
unfoldable pub prepared_answer : Reading → Lent → Result Header Refusal
prepared_answer (refused f) l = Err f
prepared_answer (network n) l = cond (any_short (size n) l) (Err no_room) (Ok (header_of n))

-- the network, its labels and the marks of its drawn clusters in front of the rows, the rest as it was
unfoldable pub prepared_rows : Network → Lent → Lent
prepared_rows n l =
    record {
      row = fill n.gates l.row;
      labels = written (labels_of n) l.labels;
      marks = marks_of n (labels_of n) ++ drop (size n) l.marks;
    }

-- [R4] on a refusal the rows as they were
unfoldable pub prepared_lent : Reading → Lent → Lent
prepared_lent (refused f) l = l
prepared_lent (network n) l = cond (any_short (size n) l) l (prepared_rows n l)

pub record PreparedInto (text : List ℕ) (before : Lent) (r : Result Header Refusal) (after : Lent) : Type 0 where
  pub answer : r ≡ prepared_answer (reading text) before
  pub lent : after ≡ prepared_lent (reading text) before

-- [F13] one line of what was prepared: of a result, or of a refusal
unfoldable pub tell_answer : Result Header Refusal → ℕ → Lent → List ℕ → Result ℕ Refusal
tell_answer (Err f) index l out = line_answer (line_at index (refusal_lines f)) out
tell_answer (Ok h) index l out =
    told_answer index (row_answer h l.row) l.labels l.marks out

unfoldable pub tell_row : Result Header Refusal → ℕ → Lent → List ℕ → List ℕ
tell_row (Err f) index l out = line_row (line_at index (refusal_lines f)) out
tell_row (Ok h) index l out =
    told_row index (row_answer h l.row) l.labels l.marks out

pub record Told (p : Result Header Refusal) (index : ℕ) (l : Lent) (out : List ℕ) (r : Result ℕ Refusal) (after : List ℕ) : Type 0 where
  pub answer : r ≡ tell_answer p index l out
  pub kept : after ≡ tell_row p index l out

-- Lines of what was prepared, a block at a time.
unfoldable pub tell_lines_answer : Result Header Refusal → ℕ → Lent → List ℕ → Result Block Refusal
tell_lines_answer (Err f) index l out = lines_answer (drop index (refusal_lines f)) out
tell_lines_answer (Ok h) index l out =
    block_answer index (row_answer h l.row) l.labels l.marks out

unfoldable pub tell_lines_row : Result Header Refusal → ℕ → Lent → List ℕ → List ℕ
tell_lines_row (Err f) index l out = lines_row (drop index (refusal_lines f)) out
tell_lines_row (Ok h) index l out =
    block_row index (row_answer h l.row) l.labels l.marks out

pub record ToldLines (p : Result Header Refusal) (index : ℕ) (l : Lent) (out : List ℕ) (r : Result Block Refusal) (after : List ℕ) : Type 0 where
  pub answer : r ≡ tell_lines_answer p index l out
  pub kept : after ≡ tell_lines_row p index l out
