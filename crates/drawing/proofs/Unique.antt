-- [T4] No second outcome meets a contract of `drawing`.
use Rattle.units.specs.Outcome.{OneOutcome}
use Rattle.units.proofs.Unique.{same}
use Rattle.drawing.specs.Prepared.{lent_of}
use Rattle.drawing.proofs.prepare.Reads as prepare
use Rattle.drawing.proofs.Prepared.tell.Reads as prepared_tell
use Rattle.drawing.proofs.Prepared.tell_lines.Reads as prepared_tell_lines

-- The text is lent to be read, and three rows to be written.
pub prepare_unique : OneOutcome prepare.Learnt (λ κs exit. lent_of exit.1.0.now exit.1.1.0.now exit.1.1.1.0.now)
prepare_unique κs args r s exit exit' p q = (same p.answer q.answer, same p.lent q.lent)

-- The row that is written is the last of three parameters.
pub prepared_tell_unique : OneOutcome prepared_tell.Learnt (λ κs exit. exit.1.1.0.now)
prepared_tell_unique κs args r s exit exit' p q = (same p.answer q.answer, same p.kept q.kept)

pub prepared_tell_lines_unique : OneOutcome prepared_tell_lines.Learnt (λ κs exit. exit.1.1.0.now)
prepared_tell_lines_unique κs args r s exit exit' p q = (same p.answer q.answer, same p.kept q.kept)
