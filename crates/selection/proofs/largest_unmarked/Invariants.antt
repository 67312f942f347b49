-- `selection::largest_unmarked` meets its contract. The loop's invariant: the largest label of the gates without a
-- mark that have been looked at.
use Prim.Native.Nat.{◌<◌, ◌^◌}
use mathlib.Core.Path.{◌≡◌}
use lib.ListN.{length}
use Rattle.selection.specs.steps.Marking.{unmarked, largest_label}
use Rattle.selection.proofs.largest_unmarked.Given as goal

abbrev pub invariant-loop-mark : goal.invariant-loop-mark
invariant-loop-mark l = (l.largest.0 < 2 ^ 32) × (l.largest.0 ≡ largest_label l.labelled.labels.now (unmarked l.row (length l.yielded)))
