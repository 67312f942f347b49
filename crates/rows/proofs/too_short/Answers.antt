-- `rows::too_short` meets its contract: fewer whole blocks than gates.
use lib.ListN.{length}
use Rattle.rows.specs.Row.{too_short}
use Rattle.rows.proofs.Access.{eleventh}
use Rattle.rows.proofs.too_short.Goals as goal

pub returns : goal.returns
unfolding too_short
returns c =
    eleventh (length c.args.row.now) c.args.gates
