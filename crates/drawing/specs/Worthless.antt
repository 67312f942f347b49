-- Four worthless builds: none of them keeps what `prepare`, `tell` and `tell_lines` promise.
use Rattle.std.specs.Prelude.{ℕ, ◌≡◌, ◌⊎◌, false, List, set, Result, Err}
use Rattle.results.specs.declared.block.Block.{Block}
use Rattle.rows.specs.declared.Header.{Header}
use Rattle.model.specs.Network.{Network, size}
use Rattle.model.specs.Label.{label}
use Rattle.frames.specs.declared.Refusal.{Refusal}
use Rattle.texts.specs.Reading.{network, reading}
use Rattle.drawing.specs.Prepared.{Lent, any_short, PreparedInto, Told, ToldLines}

-- A build, by what it does. With a text and the rows lent for it: what preparing answers, and how it leaves these rows. With
-- what was prepared, an index, the rows and a row to write into: what telling a line or a block answers, and how it
-- leaves that last row.
pub record Build : Type 0 where
  pub prepared : List ℕ → Lent → Result Header Refusal
  pub rows : List ℕ → Lent → Lent
  pub told : Result Header Refusal → ℕ → Lent → List ℕ → Result ℕ Refusal
  pub line : Result Header Refusal → ℕ → Lent → List ℕ → List ℕ
  pub told_lines : Result Header Refusal → ℕ → Lent → List ℕ → Result Block Refusal
  pub lines : Result Header Refusal → ℕ → Lent → List ℕ → List ℕ

-- It keeps the promises, whatever it is given: these are the contracts of the three functions.
pub record Keeps (b : Build) : Type 0 where
  pub prepare : (text : List ℕ) (before : Lent) → PreparedInto text before (b.prepared text before) (b.rows text before)
  pub tell : (p : Result Header Refusal) (index : ℕ) (l : Lent) (out : List ℕ) → Told p index l out (b.told p index l out) (b.line p index l out)
  pub tell_lines :
      (p : Result Header Refusal) (index : ℕ) (l : Lent) (out : List ℕ) → ToldLines p index l out (b.told_lines p index l out) (b.lines p index l out)

-- A text that spells a network, and rows with room for it. A build is worthless for what it does with these; whatever it does
-- with other texts and with shorter rows, it falls.
pub record Accepted (text : List ℕ) (l : Lent) (n : Network) : Type 0 where
  pub reads : reading text ≡ network n
  pub roomy : any_short (size n) l ≡ false

-- It refuses every text, each by any number, line and column.
abbrev pub RefusesAll : Build → Type 0
RefusesAll b = (text : List ℕ) (l : Lent) (n : Network) → Accepted text l n → (f : Refusal) × (b.prepared text l ≡ Err f)

-- What it writes of a text, at an index and into a row, it writes of every other.
abbrev pub WritesAlike : Build → (Result Header Refusal → ℕ → Lent → List ℕ → List ℕ) → Type 0
WritesAlike b writes =
    (text other : List ℕ) (l : Lent) (n m : Network) → Accepted text l n → Accepted other l m
    → (index : ℕ) (out : List ℕ)
    → writes (b.prepared text l) index (b.rows text l) out ≡ writes (b.prepared other l) index (b.rows other l) out

-- It prints one fixed result, by lines or by blocks.
abbrev pub FixedResult : Build → Type 0
FixedResult b = WritesAlike b b.line ⊎ WritesAlike b b.lines

-- It writes nothing: whatever it answers, the lent rows are as they were.
abbrev pub WritesNothing : Build → Type 0
WritesNothing b = (text : List ℕ) (l : Lent) (n : Network) → Accepted text l n → b.rows text l ≡ l

-- It labels the first gate and leaves the rest of the labels as found.
abbrev pub FirstGateOnly : Build → Type 0
FirstGateOnly b =
    (text : List ℕ) (l : Lent) (n : Network) → Accepted text l n → (b.rows text l).labels ≡ set l.labels 0 (label n 0)

-- [T5] Network A with M 3 and D 4 brings each of them down, with zeros in rows that have just the room. Its labels are 1, 2, 5, 3, 10.
-- A build that refuses every text falls since A's header has to be answered; one that writes nothing, since the first
-- label has to be 1 and is 0; one that labels the first gate only, since the second has to be 2 and is 0. One with a fixed
-- result falls since A with M 1 has another output delay: the first lines have to be 110000000A0003 and 110000000F0005.
pub record Fallen (b : Build) : Type 0 where
  pub refuses_all : RefusesAll b → ⊥
  pub fixed_result : FixedResult b → ⊥
  pub writes_nothing : WritesNothing b → ⊥
  pub first_gate_only : FirstGateOnly b → ⊥

-- [T5] No build that keeps the promises is one of them.
abbrev pub WorthlessFall : Type 0
WorthlessFall = (b : Build) → Keeps b → Fallen b
