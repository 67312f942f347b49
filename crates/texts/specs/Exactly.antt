-- [O6] Given exactly when: what a text answers, held against what the table says of it.
use Rattle.std.specs.Prelude.{ℕ, ◌≡◌, ◌↔◌, List}
use Rattle.model.specs.Network.{Network}
use Rattle.frames.specs.declared.Refusal.{Refusal}
use Rattle.texts.specs.Reading.{Reading, refused, network, reading}
use Rattle.texts.specs.Says.{Says, Reads}

-- [O6] The answer r is a refusal exactly when that one is said, a network exactly when that one is read, and some network
-- exactly when nothing is said. No two refusals are said, and no two networks read.
pub record Exactly (Say : Refusal → Type 0) (Read : Network → Type 0) (r : Reading) : Type 0 where
  pub refusal : (f : Refusal) → (r ≡ refused f) ↔ Say f
  pub whole : (n : Network) → (r ≡ network n) ↔ Read n
  pub nothing : ((n : Network) × (r ≡ network n)) ↔ ((f : Refusal) → Say f → ⊥)
  pub said_once : (f g : Refusal) → Say f → Say g → f ≡ g
  pub read_once : (n m : Network) → Read n → Read m → n ≡ m

-- [O6] Every text answers exactly what the table says of it.
abbrev pub ReadingExactly : Type 0
ReadingExactly = (text : List ℕ) → Exactly (Says text) (Reads text) (reading text)
