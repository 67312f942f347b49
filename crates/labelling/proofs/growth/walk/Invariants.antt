-- `labelling::growth::walk` meets its contract. The invariant of both loops: growing on gives what growing from the root gives, and the
-- time is the largest pull of a primary input that has joined.
use Rattle.std.proofs.Common.{◌≡◌, take}
use Rattle.rows.specs.Found.{network_of}
use Rattle.labelling.specs.steps.Growing.{input_pulls}
use Rattle.labelling.proofs.GrowthLaws.{Growing}
use Rattle.labelling.proofs.growth.walk.Given as goal

abbrev pub invariant-grow : goal.invariant-grow
invariant-grow l = record {
  none_yet : l.joined ≡ 0;
  growing : Growing (network_of l.network) l.v l.ordered l.sum.0 l.joined;
  inputs : l.inputs.0 ≡ input_pulls l.network.row.now l.pulls (take l.joined l.ordered);
}

abbrev pub decreases-grow : goal.decreases-grow
decreases-grow l = 0

abbrev pub invariant-loop-u : goal.invariant-loop-u
invariant-loop-u l = record {
  so_far : l.joined ≡ l.u-index;
  growing : Growing (network_of l.network) l.v l.ordered l.sum.0 l.joined;
  inputs : l.inputs.0 ≡ input_pulls l.network.row.now l.pulls (take l.joined l.ordered);
}
