-- [T4] No second outcome meets a contract of `results`.
use Rattle.units.specs.Outcome.{OneOutcome}
use Rattle.units.proofs.Unique.{same}
use Rattle.results.proofs.line.line.Reads as line_line
use Rattle.results.proofs.line.refusal_line.Reads as line_refusal_line
use Rattle.results.proofs.block.lines.Reads as block_lines
use Rattle.results.proofs.block.refusal_lines.Reads as block_refusal_lines

-- The row that is written is the last parameter.
pub line_line_unique : OneOutcome line_line.Learnt (λ κs exit. exit.1.1.1.1.1.0.now)
line_line_unique κs args r s exit exit' p q = (same p.answer q.answer, same p.kept q.kept)

pub line_refusal_line_unique : OneOutcome line_refusal_line.Learnt (λ κs exit. exit.1.0.now)
line_refusal_line_unique κs args r s exit exit' p q = (same p.answer q.answer, same p.kept q.kept)

pub block_lines_unique : OneOutcome block_lines.Learnt (λ κs exit. exit.1.1.1.1.1.0.now)
block_lines_unique κs args r s exit exit' p q = (same p.answer q.answer, same p.kept q.kept)

pub block_refusal_lines_unique : OneOutcome block_refusal_lines.Learnt (λ κs exit. exit.1.1.0.now)
block_refusal_lines_unique κs args r s exit exit' p q = (same p.answer q.answer, same p.kept q.kept)
