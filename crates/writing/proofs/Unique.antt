-- [T4] No second outcome meets a contract of `writing`.
use Rattle.units.specs.Outcome.{OneOutcome}
use Rattle.units.proofs.Unique.{same}
use Rattle.writing.proofs.write_line.Reads as write_line

-- The row that is written is the last of four parameters; the network's is lent to be read.
pub write_line_unique : OneOutcome write_line.Learnt (λ κs exit. exit.1.1.1.0.now)
write_line_unique κs args r s exit exit' p q = (same p.answer q.answer, same p.kept q.kept)
