-- `selection::mark_inputs` meets its contract. The loop's invariant: marking for the members that are left gives
-- what marking for all of them gives from the start.
use mathlib.Core.Path.{◌≡◌}
use lib.ListN.{drop}
use Rattle.model.specs.Drawing.{mark}
use Rattle.selection.specs.steps.Marking.{fanins_of, outside}
use Rattle.selection.proofs.mark_inputs.Given as goal

abbrev pub invariant-loop-member : goal.invariant-loop-member
invariant-loop-member l = mark l.marks (outside l.inside (fanins_of l.network.row.now (drop l.member-index l.members)))
    ≡ mark l.initial.marks (outside l.inside (fanins_of l.network.row.now l.members))
