-- `labelling::members::collect` meets its contract. The loop's invariant: the marked gates below x stand in front of the row.
use Rattle.std.proofs.Common.{arith}
use Rattle.labelling.proofs.MemberLaws.{collecting_starts, collecting_one, collecting_other}
use Rattle.labelling.proofs.members.collect.Goals as goal
use Rattle.labelling.proofs.members.collect.Goals.{then-mark-ne0, else-mark-ne0}

pub loop-x-init : goal.loop-x-init
loop-x-init c = collecting_starts _ _

pub loop-x-preserved : goal.loop-x-preserved
loop-x-preserved c =
    elim c.if-mark-ne0.branch [
      | then-mark-ne0 w ↦
          rw (w.members-is, w.count-is) (collecting_one _ _ _ _ _ (omega arith) c.loop-x.invariant w.if-mark-ne0.true)
      | else-mark-ne0 w ↦
          rw (w.members-is, w.count-is) (collecting_other _ _ _ _ _ (omega arith) c.loop-x.invariant w.if-mark-ne0.false)
    ]
