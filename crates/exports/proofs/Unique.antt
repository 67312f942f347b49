-- No second outcome meets a contract of `exports`.
use Rattle.units.specs.Outcome.{OneOutcome}
use Rattle.units.proofs.Unique.{same}
use Rattle.exports.proofs.lykophene_label.Reads as label
use Rattle.exports.proofs.lykophene_line.Reads as line

-- The row of labels is the last of five parameters.
pub lykophene_label_unique : OneOutcome label.Learnt (λ κs exit. exit.1.1.1.1.0.now)
lykophene_label_unique κs args r s exit exit' p q = (same p.answer q.answer, same p.kept q.kept)

-- The text is lent to be read; the row is the third parameter.
pub lykophene_line_unique : OneOutcome line.Learnt (λ κs exit. exit.1.1.0.now)
lykophene_line_unique κs args r s exit exit' p q = (same p.answer q.answer, same p.kept q.kept)
