-- `drawing::Prepared::tell_lines` meets its contract: lines of the result, or the one line of a refusal.
use Rattle.drawing.proofs.Preparing.{lines_of_refusal, lines_of_result}
use Rattle.drawing.proofs.Prepared.tell_lines.Goals as goal

pub returns-in-Ok : goal.returns-in-Ok
returns-in-Ok c = lines_of_result c.in-Ok.is c.lines.ensures

pub returns-in-Err : goal.returns-in-Err
returns-in-Err c = lines_of_refusal c.in-Err.is c.refusal_lines.ensures
