-- `labelling::growth::grow` meets its contract: the walk over the cone in its order is the growth of v.
use Rattle.std.proofs.Common.{◌≤◌, length-take, arith}
use Rattle.labelling.proofs.GrowthLaws.{grows_below, grew}
use Rattle.labelling.proofs.growth.grow.Goals as goal

pub returns : goal.returns
returns c =
    let row = c.in_order-count.new.work.ordered in
    let o = c.in_order-count.ensures in
    let w = c.walk.ensures in
    let less : c.walk.result.joined ≤ c.in_order-count.result = omega (arith, length-take c.in_order-count.result row) in record {
      grows_below = grows_below c.args.v c.in_order-count.new.work.pulls row _ o.gates.1 c.walk.result less o.gates.0 w.stop.1;
      grew = grew c.args.v _ row _ o.gates.1 c.walk.result less c.args.labelled.now.network c.requires _ o.in_order w.grown w.inputs;
    }
