-- `labelling::members::mark_cluster` meets its contract: the root and the gates that joined are the cluster.
use Rattle.std.proofs.Common.{sym, ◌∙◌, arith}
use Rattle.rows.proofs.Holds.{few_gates}
use Rattle.labelling.proofs.MemberLaws.{marks_alone, marks_joined}
use Rattle.labelling.proofs.members.mark_cluster.Goals as goal

pub bounds-inside-r : goal.bounds-inside-r
bounds-inside-r c = omega (arith, few_gates _ _ c.args.labelled.now.network.holds)

pub returns-then-is_input : goal.returns-then-is_input
returns-then-is_input c =
    marks_alone c.args.labelled.now.network c.args.r c.requires _ c.args.inside.now (sym c.is_input.ensures ∙ c.if-is_input.true)

pub mark-requires : goal.mark-requires
mark-requires c x m =
    omega (arith, few_gates _ _ c.args.labelled.now.network.holds, c.grow-grown.ensures.grows_below.gates x m)

pub returns : goal.returns
returns c =
    c.mark.ensures
    ∙ marks_joined c.args.labelled.now.network c.args.r c.requires _ c.args.inside.now
    (sym c.is_input.ensures ∙ c.if-is_input.false) _ c.grow-grown.ensures.grew.joined_is
