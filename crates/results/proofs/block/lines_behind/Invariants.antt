-- `results::block::lines_behind` meets its contract. The loop's invariant: so many lines of the run that fits stand in front of
-- the row, and the next one behind them.
use Prim.Native.Nat.{◌-◌}
use lib.ListN.{length, drop}
use Rattle.rows.specs.Found.{network_of}
use Rattle.results.specs.Block.{drawn_lines, fitting}
use Rattle.results.proofs.Fitting.{Running}
use Rattle.results.proofs.block.lines_behind.Given as goal

abbrev pub invariant-loop-length : goal.invariant-loop-length
invariant-loop-length l = Running (drop l.index (drawn_lines (network_of l.drawn.labelled.network) l.drawn.labelled.labels.now l.drawn.marks.now)) l.initial.out l.out l.length l.at l.count

abbrev pub decreases-loop-length : goal.decreases-loop-length
decreases-loop-length l = length (fitting (length l.initial.out) (drop l.index (drawn_lines (network_of l.drawn.labelled.network) l.drawn.labelled.labels.now l.drawn.marks.now))) - l.count
