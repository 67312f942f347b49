-- The refusals of a whole text as a relation: the number that the table says, its line and its column.
use Rattle.std.specs.Prelude.{ℕ, suc, ◌+◌, ◌≤◌, ◌<◌, ◌≡◌, List, [], ◌∷◌, ◌++◌, length}
use Rattle.model.specs.Network.{Network, Heavy}
use Rattle.frames.specs.declared.Place.{Place}
use Rattle.frames.specs.declared.Place.TheVariants.{Opening, Closed}
use Rattle.frames.specs.Text.{Line, lines}
use Rattle.frames.specs.declared.Refusal.{Refusal}
use Rattle.frames.specs.Refusal.{at_column, at_line, at_no_line}
use Rattle.frames.specs.Table.{next_place}
use Rattle.frames.specs.Fault.{Given, Faultless, Column}
use Rattle.texts.specs.Reading.{most_text, nothing_read, take_in}

-- What stands before a line: the lines in front of it, each without fault where it stood, the place that they lead to, and
-- the network read from them.
pub data Before : List Line → Place → Network → Type 0 where
  first : Before [] Opening nothing_read
  after :
      {front : List Line} {p : Place} {n : Network} {l : Line} →
      Before front p n → Faultless p l → Before (front ++ (l ∷ [])) (next_place p l) (take_in n p l)

-- [N9] heavier than M, and no gate before it is
pub record LowestHeavy (n : Network) (v : ℕ) : Type 0 where
  pub heavy : Heavy n v
  pub lowest : (u : ℕ) → u < v → Heavy n u → ⊥

-- The table says a refusal of the text.
pub data Says (text : List ℕ) : Refusal → Type 0 where
  -- [N1] [O2] The others are said of a text that is not too long.
  too_long : most_text < length text → Says text (at_no_line 1)
  -- [O3] No line in front of it is faulty. [O1] Lines count from 1, and so do columns.
  faulty_line :
      {front : List Line} {l : Line} {p : Place} {n : Network} {k c : ℕ} (back : List Line) →
      length text ≤ most_text → Before front p n → lines text ≡ front ++ (l ∷ back) → Given k p l → Column l k c
      → Says text (at_column k (suc (length front)) c)
  -- [N3] [O4] No line is faulty, and the end is missing.
  no_end :
      {p : Place} {n : Network} →
      length text ≤ most_text → Before (lines text) p n → (p ≡ Closed → ⊥) → Says text (at_line 3 (suc (length (lines text))))
  -- [N9] [O5] No line is faulty, and the end is there; gate 0 stands in line 2.
  too_heavy :
      {n : Network} {v : ℕ} →
      length text ≤ most_text → Before (lines text) Closed n → LowestHeavy n v → Says text (at_line 9 (v + 2))

-- The text is a network's, and this one's.
pub record Reads (text : List ℕ) (n : Network) : Type 0 where
  pub fits : length text ≤ most_text
  pub whole : Before (lines text) Closed n
  pub light : (v : ℕ) → Heavy n v → ⊥
