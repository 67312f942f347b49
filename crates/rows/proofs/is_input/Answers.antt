-- `rows::is_input` meets its contract: a gate has no fan-ins exactly where its count is 0.
use Rattle.rows.proofs.Access.{input_counted}
use Rattle.rows.proofs.is_input.Goals as goal

pub returns : goal.returns
returns c =
    rw c.count.ensures (input_counted _ _)
