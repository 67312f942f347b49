-- [T4] No second outcome meets a contract of `reading`.
use mathlib.Core.Path.{refl}
use Rattle.units.specs.Outcome.{OneOutcome}
use Rattle.units.proofs.Unique.{same}
use Rattle.reading.proofs.look.Reads as look
use Rattle.reading.proofs.read.Reads as read

-- The text is lent to be read, and a row to be written.
pub read_unique : OneOutcome read.Learnt (λ κs exit. exit.1.0.now)
read_unique κs args r s exit exit' p q = (same p.result q.result, same p.row q.row)

-- The text is lent to be read, so the result is the whole outcome.
pub look_unique : OneOutcome look.Learnt (λ κs exit. tt {0})
look_unique κs args r s exit exit' p q = (same p q, refl)
