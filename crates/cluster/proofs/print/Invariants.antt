-- `cluster::print` meets its contract: each block begins behind the one before it, and the loop ends behind the last line.
use Prim.Native.Nat.{◌+◌, ◌*◌, ◌-◌}
use mathlib.Core.Path.{◌≡◌}
use lib.ListN.{length}
use Rattle.model.specs.Ceilings.{most_gates}
use Rattle.drawing.specs.Prepared.{lent_in}
use Rattle.cluster.specs.Printing.{Prepared, Begins}
use Rattle.cluster.proofs.print.Given as goal

abbrev pub invariant-loop-count : goal.invariant-loop-count
invariant-loop-count l = (length l.out ≡ length l.initial.out)
    × ((t : Prepared l.prepared.answer (lent_in l.prepared)) → Begins (length l.initial.out) t.text l.index)

abbrev pub decreases-loop-count : goal.decreases-loop-count
decreases-loop-count l = 2 + 2 * most_gates - l.index
