-- `reading::look_gates` meets its contract. The loop's invariant, `Going`: the walk over the lines that are left
-- answers what the walk over all of them does, and what was seen is known of the network so far. The measure is what is
-- left of the text.
use Prim.Native.Nat.{◌-◌}
use lib.ListN.{length}
use Rattle.reading.proofs.Looking.{Going}
use Rattle.reading.proofs.look_gates.Given as goal

abbrev pub invariant-loop-read : goal.invariant-loop-read
invariant-loop-read l = Going l.text l.first l.initial.seen l.at l.seen

abbrev pub decreases-loop-read : goal.decreases-loop-read
decreases-loop-read l = length l.text - l.at
