-- A network found in its row.
use Rattle.std.specs.Prelude.{◌≡◌, Result, Ok, Err, IfOk, List, ℕ}
use Rattle.model.specs.Network.{Network}
use Rattle.frames.specs.declared.Refusal.{Refusal}
use Rattle.rows.specs.declared.Header.{Header}
use Rattle.rows.specs.declared.network.Network.{Network as Standing}
use Rattle.rows.specs.Row.{network_in}
use Rattle.rows.specs.Read.{checked}

-- the network that stands in the row
abbrev pub network_of : Standing → Network
network_of n = network_in n.header n.row.now

-- the header alone
abbrev pub header_found : Result Standing Refusal → Result Header Refusal
header_found (Ok n) = Ok n.header
header_found (Err f) = Err f

-- all that is handed back: the header and the numbers of the row, or the refusal
abbrev pub content : Result Standing Refusal → Result (Header × List ℕ) Refusal
content (Ok n) = Ok (n.header, n.row.now)
content (Err f) = Err f

-- [R5] What `check` answers, and the row that was handed over.
pub record NetworkFound (h : Header) (row : List ℕ) (r : Result Standing Refusal) : Type 0 where
  pub answer : header_found r ≡ checked h row
  pub same : IfOk r (λ n. n.row.now ≡ row)
