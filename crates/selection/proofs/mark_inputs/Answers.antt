-- `selection::mark_inputs` meets its contract. The loop's invariant: marking for the members that are left gives
-- what marking for all of them gives from the start.
use Prim.Native.Nat.{ℕ, ◌+◌, ◌<◌}
use mathlib.Core.Path.{sym, ◌∙◌, ap}
use mathlib.Core.List.{List}
use native.Mathlib.Omega.{arith}
use lib.ListN.{get_or, drop}
use Rattle.model.specs.Drawing.{mark}
use Rattle.rows.proofs.Holds.{few_gates, fanins_below}
use Rattle.labelling.proofs.Lists.{get_or_in}
use Rattle.selection.specs.steps.Marking.{fanins_of, outside}
use Rattle.selection.proofs.Marks.{inputs_next, inputs_done}
use Rattle.selection.proofs.mark_inputs.Goals as goal

pub mark_outside-requires : goal.mark_outside-requires
mark_outside-requires c =
    let n = c.args.network.now in
    let member = get_or c.args.members.now c.loop-member.member-index 0 in
    let known : member < n.header.gates = c.requires.1 _ (get_or_in _ c.loop-member.member-index (omega arith)) in (
      rw c.fan_ins.ensures (λ x m. omega (arith, fanins_below _ _ n.holds member known x m)),
      omega (arith, few_gates _ _ n.holds),
    )

pub loop-member-preserved : goal.loop-member-preserved
loop-member-preserved c =
    let a = c.args in
    let row = a.network.now.row.now in
    let i = c.loop-member.member-index in
    ap (λ (marks : List ℕ). mark marks (outside a.inside.now (fanins_of row (drop (i + 1) a.members.now))))
    (c.mark_outside.ensures ∙ rw c.fan_ins.ensures)
    ∙ inputs_next a.inside.now row c.loop-member.marks a.members.now i (omega arith)
    ∙ c.loop-member.invariant

pub returns : goal.returns
returns c =
    sym (inputs_done _ _ _ _ c.loop-member.member-index (omega arith)) ∙ c.loop-member.invariant
