-- `selection::mark` meets its contract. The loop's invariant: marking what is left of the list gives what marking
-- all of it gives from the start.
use mathlib.Core.Path.{◌≡◌}
use lib.ListN.{drop}
use Rattle.model.specs.Drawing.{mark}
use Rattle.selection.proofs.mark.Given as goal

abbrev pub invariant-loop-gate : goal.invariant-loop-gate
invariant-loop-gate l = mark l.row (drop l.gate-index l.gates) ≡ mark l.initial.row l.gates
