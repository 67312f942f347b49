-- `labelling::growth::or_input` meets its contract: a gate's number is below the row's length.
use Rattle.std.proofs.Common.{arith}
use Rattle.rows.proofs.Holds.{few_gates}
use Rattle.labelling.proofs.growth.or_input.Goals as goal

pub bounds-pulls-u : goal.bounds-pulls-u
bounds-pulls-u c = omega (arith, few_gates _ _ c.args.network.now.holds)
