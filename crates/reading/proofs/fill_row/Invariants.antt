-- `reading::fill_row` meets its contract. The loop's invariant, `Filling`: the row is filled with the gates so far, and the walk
-- over the lines that are left ends with the whole network. The measure is what is left of the text.
use Prim.Native.Nat.{◌-◌}
use lib.ListN.{length}
use Rattle.reading.proofs.Filling as fill
use Rattle.reading.proofs.fill_row.Given as goal

abbrev pub invariant-loop-weight : goal.invariant-loop-weight
invariant-loop-weight l = fill.Filling l.text l.initial.row l.row l.at l.gates

abbrev pub decreases-loop-weight : goal.decreases-loop-weight
decreases-loop-weight l = length l.text - l.at
