-- `selection::reads` meets its contract. The loop's invariant: the fan-ins of the gates that have been looked at are
-- marked.
use mathlib.Core.Path.{◌≡◌}
use lib.ListN.{replicate}
use Rattle.model.specs.Basics.{upto}
use Rattle.model.specs.Ceilings.{most_gates}
use Rattle.model.specs.Drawing.{mark}
use Rattle.selection.specs.steps.Marking.{fanins_of}
use Rattle.selection.proofs.reads.Given as goal

abbrev pub invariant-loop-v : goal.invariant-loop-v
invariant-loop-v l = l.read ≡ mark (replicate most_gates 0) (fanins_of l.network.row.now (upto l.v))
