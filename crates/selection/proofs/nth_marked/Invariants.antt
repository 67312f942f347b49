-- `selection::nth_marked` meets its contract. The loop's invariant: the roots among the gates that have been looked
-- at, and those left to pass by, are as many as the index says.
use Prim.Native.Nat.{◌+◌}
use mathlib.Core.Path.{◌≡◌}
use lib.ListN.{length}
use Rattle.selection.specs.Selection.{roots}
use Rattle.selection.proofs.nth_marked.Given as goal

abbrev pub invariant-loop-root : goal.invariant-loop-root
invariant-loop-root l = length (roots l.marks l.root) + l.left ≡ l.index
