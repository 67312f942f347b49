-- `selection::mark_outputs` meets its contract: the gates without a mark are those that no gate reads.
use native.Mathlib.Omega.{arith}
use Rattle.rows.proofs.Holds.{few_gates}
use Rattle.selection.specs.steps.Marking.{unread}
use Rattle.selection.proofs.mark_outputs.Goals as goal

pub mark_unmarked-requires : goal.mark_unmarked-requires
mark_unmarked-requires c =
    omega (arith, c.requires, few_gates _ _ c.args.network.now.holds)

pub returns : goal.returns
unfolding unread
returns c =
    rw (c.mark_unmarked.ensures, c.requires, c.reads.ensures)
