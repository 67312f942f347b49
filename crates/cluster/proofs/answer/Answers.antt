-- `cluster::answer` meets its contract: its rows suffice for every text.
use native.Mathlib.Omega.{arith}
use Rattle.cluster.proofs.Blocks.{prepared_of}
use Rattle.cluster.proofs.answer.Goals as goal

pub returns : goal.returns
returns c =
    c.print.ensures (prepared_of c.prepare-answer.ensures (omega arith))
