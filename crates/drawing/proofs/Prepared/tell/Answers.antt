-- `drawing::Prepared::tell` meets its contract: a line of the result, or the one line of a refusal.
use native.Mathlib.Omega.{arith}
use Rattle.drawing.proofs.Preparing.{tell_first, tell_past, tell_result}
use Rattle.drawing.proofs.Prepared.tell.Goals as goal

pub returns-in-Ok : goal.returns-in-Ok
returns-in-Ok c = tell_result c.in-Ok.is c.line.ensures

pub returns-in-Err : goal.returns-in-Err
returns-in-Err c = tell_first c.in-Err.is (omega arith) c.refusal_line.ensures

pub returns-in-Err-2 : goal.returns-in-Err-2
returns-in-Err-2 c = tell_past c.args.out.now c.in-Err.is (omega arith)
