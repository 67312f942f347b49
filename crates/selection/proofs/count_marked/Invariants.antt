-- `selection::count_marked` meets its contract. The loop's invariant: the roots among the gates that have been looked at.
use Prim.Native.Nat.{◌≤◌}
use mathlib.Core.Path.{◌≡◌}
use lib.ListN.{length}
use Rattle.selection.specs.Selection.{roots}
use Rattle.selection.proofs.count_marked.Given as goal

abbrev pub invariant-loop-mark : goal.invariant-loop-mark
invariant-loop-mark l = (l.count ≤ l.mark-index) × (l.count ≡ length (roots l.marks l.mark-index))
