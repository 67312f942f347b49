-- What a text answers, printed a block of lines at a time.
use Rattle.std.specs.Prelude.{ℕ, ◌+◌, ◌≤◌, ◌≡◌, ◌⊎◌, List, length, drop, Result, Ok, Err}
use Rattle.texts.specs.Spelling.{join}
use Rattle.frames.specs.declared.Refusal.{Refusal}
use Rattle.rows.specs.declared.Header.{Header}
use Rattle.results.specs.Block.{fitting}
use Rattle.drawing.specs.Answer.{answer_lines}
use Rattle.drawing.specs.Demands.{most_line}
use Rattle.drawing.specs.Prepared.{Lent, PreparedInto}
use Rattle.drawing.specs.Headline.{Ample}
use Rattle.cluster.specs.declared.WriteFailed.{WriteFailed}

-- [B9] What was prepared of a text, in rows that suffice for every text.
pub record Prepared (p : Result Header Refusal) (l : Lent) : Type 0 where
  pub text : List ℕ
  pub before : Lent
  pub ample : Ample before
  pub into : PreparedInto text before p l

-- [R7] A block of what a text answers: from the line of an index on, as many whole lines as have room.
abbrev pub block : ℕ → List ℕ → ℕ → List (List ℕ)
block room text index = fitting room (drop index (answer_lines text))

-- Where the blocks begin: the first at the first line, every other behind the one before it.
pub data Begins (room : ℕ) (text : List ℕ) : ℕ → Type 0 where
  first : Begins room text 0
  next : {index : ℕ} → Begins room text index → Begins room text (index + length (block room text index))

-- The line of an index is the first that is not printed yet, and [B7] a block has room for the longest line.
pub record Unprinted (room : ℕ) (p : Result Header Refusal) (l : Lent) (index : ℕ) : Type 0 where
  pub roomy : most_line ≤ room
  pub prepared : Prepared p l
  pub begins : Begins room prepared.text index

-- the bytes of a block of so many lines
pub record BlockBytes (count : ℕ) (bytes : List ℕ) : Type 0 where
  pub room : ℕ
  pub text : List ℕ
  pub index : ℕ
  pub lines : count ≡ length (block room text index)
  pub whole : bytes ≡ join (block room text index)

-- So many lines are printed, or a write fails.
abbrev pub Prints : ℕ → Result ℕ WriteFailed → Type 0
Prints count r = (r ≡ Ok count) ⊎ (r ≡ Err (record {}))

-- the lines of the block that begins at an index
abbrev pub BlockPrinted : ℕ → Result Header Refusal → Lent → ℕ → Result ℕ WriteFailed → Type 0
BlockPrinted room p l index r = (t : Prepared p l) → Prints (length (block room t.text index)) r

-- every line that the text answers
abbrev pub AllPrinted : Result Header Refusal → Lent → Result ℕ WriteFailed → Type 0
AllPrinted p l r = (t : Prepared p l) → Prints (length (answer_lines t.text)) r
