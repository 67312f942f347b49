-- `rows::network::Network::find` meets its contract: what `check` answered, and the row that it looked at.
use Rattle.rows.proofs.Checked.{check_network}
use Rattle.rows.proofs.network.Network.find.Goals as goal

pub invariant_of-result : goal.invariant_of-result
invariant_of-result c =
    record { holds = (check_network _ _ (λ i. (c.type_inv.row i).fits) c.check.ensures c.in_ok-header.was).holds }
