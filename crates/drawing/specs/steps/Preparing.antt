-- The steps of preparing a text.
use Rattle.std.specs.Prelude.{ℕ, ◌≡◌, false, List}
use Rattle.model.specs.Network.{Network}
use Rattle.texts.specs.Reading.{network, reading}
use Rattle.rows.specs.declared.Header.{Header}
use Rattle.rows.specs.Row.{header_of}
use Rattle.drawing.specs.Prepared.{Lent, any_short}

-- The text is a network's, with this header, and every row has room for it.
pub record Readable (text : List ℕ) (h : Header) (l : Lent) : Type 0 where
  pub whole : Network
  pub reads : reading text ≡ network whole
  pub header_is : header_of whole ≡ h
  pub roomy : any_short h.gates l ≡ false
