-- Telling what was answered meets its contract: a length by itself, and a refusal by its number, its line and its column.
use Rattle.exports.specs.Exported.{line_told}
use Rattle.exports.proofs.AnswerFromResultUsizeRefusal.from.Goals as goal

pub returns-in-Ok : goal.returns-in-Ok
unfolding line_told
returns-in-Ok c = rw c.in-Ok.is

pub returns-in-Err : goal.returns-in-Err
unfolding line_told
returns-in-Err c = rw c.in-Err.is
