-- `labelling::onward::reach` meets its contract. The loop's invariant: visiting the gates that are left gives the whole sweep, and
-- no sum comes near 64 bits.
use Rattle.rows.specs.Found.{network_of}
use Rattle.labelling.proofs.OnwardLaws.{Sweeping}
use Rattle.labelling.proofs.onward.reach.Given as goal

abbrev pub invariant-loop-y : goal.invariant-loop-y
invariant-loop-y l = Sweeping (network_of l.network) l.v l.y l.initial.onward l.onward
