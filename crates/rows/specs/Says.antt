-- The refusals of a text with a row lent, as a relation: number 10 comes after all others.
use Rattle.std.specs.Prelude.{ℕ, ◌*◌, ◌<◌, List, length}
use Rattle.model.specs.Network.{Network, size}
use Rattle.frames.specs.declared.Refusal.{Refusal}
use Rattle.frames.specs.Refusal.{no_room}
use Rattle.texts.specs.Says.{Says, Reads}
use Rattle.rows.specs.Row.{places}

-- [N10] [R3] shorter than eleven places a gate
abbrev pub Short : ℕ → List ℕ → Type 0
Short gates row = length row < places * gates

-- The table says a refusal of the text, with this row lent.
pub data SaysRoom (text row : List ℕ) : Refusal → Type 0 where
  of_text : {f : Refusal} → Says text f → SaysRoom text row f
  -- [O5] only of a text that is a network's, at line 0
  short_row : {n : Network} → Reads text n → Short (size n) row → SaysRoom text row no_room

-- The text is this network's, and the row has room for it.
pub record ReadsRoom (text row : List ℕ) (n : Network) : Type 0 where
  pub reads : Reads text n
  pub room : Short (size n) row → ⊥
