-- `labelling::members::mark` meets its contract. The loop's invariant: marking the gates that are left gives what marking all of
-- them gives from the start.
use Rattle.std.proofs.Common.{refl, sym, ◌∙◌, arith}
use Rattle.labelling.proofs.Lists.{get_or_in}
use Rattle.labelling.proofs.MemberLaws.{mark_next, mark_done}
use Rattle.labelling.proofs.members.mark.Goals as goal

pub bounds-inside-u : goal.bounds-inside-u
bounds-inside-u c = c.requires _ (get_or_in _ c.loop-u.u-index (omega arith))

pub loop-u-preserved : goal.loop-u-preserved
loop-u-preserved c = mark_next c.loop-u.inside _ c.loop-u.u-index _ (omega arith) refl ∙ c.loop-u.invariant

pub returns : goal.returns
returns c = sym (mark_done c.loop-u.inside _ c.loop-u.u-index (omega arith)) ∙ c.loop-u.invariant
