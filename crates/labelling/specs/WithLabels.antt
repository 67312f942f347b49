-- A network with a row of labels.
use Rattle.std.specs.Prelude.{◌≡◌, cond, List, ℕ, length, ltb, Result, Ok, Err, IfOk}
use Rattle.std.proofs.Math.Option.{Option, none, some}
use Rattle.frames.specs.declared.Refusal.{Refusal}
use Rattle.rows.specs.declared.Header.{Header}
use Rattle.frames.specs.Refusal.{no_room}
use Rattle.rows.specs.declared.network.Network.{Network as Standing}
use Rattle.labelling.specs.declared.labelled.Labelled.{Labelled}

-- the refusal, if it is one
abbrev pub refused_by : Result Labelled Refusal → Option Refusal
refused_by (Ok l) = none
refused_by (Err f) = some f

-- all that is handed back: the header, the numbers of the row and the labels, or the refusal
abbrev pub content : Result Labelled Refusal → Result (Header × List ℕ × List ℕ) Refusal
content (Ok l) = Ok (l.network.header, l.network.row.now, l.labels.now)
content (Err f) = Err f

-- [R2] [O5] The network and the row of labels that were handed over, and 10 where the row has fewer places than there are gates.
pub record WithLabels (n : Standing) (given : List ℕ) (r : Result Labelled Refusal) : Type 0 where
  pub answer : refused_by r ≡ cond (ltb (length given) n.header.gates) (some no_room) none
  pub header : IfOk r (λ l. l.network.header ≡ n.header)
  pub row : IfOk r (λ l. l.network.row.now ≡ n.row.now)
  pub labels : IfOk r (λ l. l.labels.now ≡ given)
