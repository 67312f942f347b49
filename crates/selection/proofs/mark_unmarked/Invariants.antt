-- `selection::mark_unmarked` meets its contract. The loop's invariant: the gates that have been looked at have the marks
-- that they start with.
use Prim.Native.Nat.{ℕ, ◌<◌}
use mathlib.Core.Path.{◌≡◌}
use lib.ListN.{get_or}
use Rattle.selection.proofs.Marks.{start_mark}
use Rattle.selection.proofs.mark_unmarked.Given as goal

abbrev pub invariant-loop-v : goal.invariant-loop-v
invariant-loop-v l = (k : ℕ) → k < l.v → get_or l.marks k 0 ≡ start_mark l.row k
