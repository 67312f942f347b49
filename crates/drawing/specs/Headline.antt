-- The promise over a whole text, in one place: whatever `prepare` and then `tell` or `tell_lines` do by their contracts, the
-- lines told are exactly those that the text answers, which are the model's result of the network that it spells, or its one refusal.
use Rattle.std.specs.Prelude.{ℕ, ◌*◌, ◌≤◌, ◌<◌, ◌≡◌, List, ◌++◌, length, drop, Result, Ok, Err}
use Rattle.results.specs.Block.{block_of}
use Rattle.results.specs.declared.block.Block.{Block}
use Rattle.rows.specs.declared.Header.{Header}
use Rattle.model.specs.Ceilings.{most_gates}
use Rattle.texts.specs.Spelling.{join}
use Rattle.frames.specs.declared.Refusal.{Refusal}
use Rattle.frames.specs.Put.{line_at, LineWritten}
use Rattle.results.specs.Block.{fitting, in_front, LinesWritten}
use Rattle.rows.specs.Row.{places}
use Rattle.drawing.specs.Answer.{answer_lines}
use Rattle.drawing.specs.Demands.{most_line}
use Rattle.drawing.specs.Prepared.{Lent, PreparedInto, Told, ToldLines}

-- [B9] Rows with room for the largest network: 5,632 places for the gates, and 512 each for labels and marks.
pub record Ample (l : Lent) : Type 0 where
  pub row : places * most_gates ≤ length l.row
  pub labels : most_gates ≤ length l.labels
  pub marks : most_gates ≤ length l.marks

-- What is told of a text that was prepared so, with these rows.
pub record Answers (text : List ℕ) (p : Result Header Refusal) (l : Lent) : Type 0 where
  -- the line of an index is the text's own, and past the last line there is nothing
  pub line :
      (index : ℕ) (out : List ℕ) (r : Result ℕ Refusal) (row : List ℕ) → Told p index l out r row
      → LineWritten (line_at index (answer_lines text)) out r row
  -- [B7] room for the longest line always suffices
  pub room :
      (index : ℕ) (out : List ℕ) (r : Result ℕ Refusal) (row : List ℕ) → Told p index l out r row → most_line ≤ length out
      → (r ≡ Ok (length (line_at index (answer_lines text))))
      × (row ≡ line_at index (answer_lines text) ++ drop (length (line_at index (answer_lines text))) out)
  -- a block has the text's own lines from its index on, as many whole ones as have room
  pub lines :
      (index : ℕ) (out : List ℕ) (r : Result Block Refusal) (row : List ℕ) → ToldLines p index l out r row
      → LinesWritten (drop index (answer_lines text)) out r row
  -- with room for the longest line it is never refused, and has a line wherever one is left
  pub block_room :
      (index : ℕ) (out : List ℕ) (r : Result Block Refusal) (row : List ℕ) → ToldLines p index l out r row → most_line ≤ length out
      → let run = fitting (length out) (drop index (answer_lines text)) in
      (r ≡ Ok (block_of (length run) (length (join run)))) × (row ≡ in_front (join run) out) × (index < length (answer_lines text) → 0 < length run)
  -- [B9] such rows suffice for every text
  pub never_10 : (f : Refusal) → p ≡ Err f → f.number ≡ 10 → ⊥

abbrev pub Headline : Type 0
Headline = (text : List ℕ) (before after : Lent) (p : Result Header Refusal) → Ample before → PreparedInto text before p after → Answers text p after
