-- What reading a text into a lent row promises.
use Rattle.std.specs.Prelude.{◌≡◌, Result, List, ℕ}
use Rattle.frames.specs.declared.Refusal.{Refusal}
use Rattle.rows.specs.declared.Header.{Header}
use Rattle.rows.specs.Read.{shown, answer, filled}

-- [T1] [R4] The answer is the table's, with this row lent, and the row afterwards is filled by a network and kept on a refusal.
pub record ReadInto (text before after : List ℕ) (r : Result Header Refusal) : Type 0 where
  pub result : r ≡ shown (answer text before)
  pub row : after ≡ filled (answer text before) before
