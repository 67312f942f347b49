-- [T4] No second outcome meets a contract of `selection`.
use mathlib.Core.Path.{refl, ap}
use Rattle.units.specs.Units.{ticks}
use Rattle.units.specs.Outcome.{OneOutcome}
use Rattle.units.proofs.Unique.{same}
use Rattle.selection.proofs.output_delay.Reads as output_delay
use Rattle.selection.proofs.count_marked.Reads as count_marked
use Rattle.selection.proofs.nth_marked.Reads as nth_marked
use Rattle.selection.proofs.draw.Reads as draw

-- Passed by value, or lent by `&`: nothing of the arguments changes, and the result is the whole outcome.

pub output_delay_unique : OneOutcome output_delay.Learnt (λ κs exit. tt {0})
output_delay_unique κs args r s exit exit' p q = (ap ticks (same p.1 q.1), refl)

pub count_marked_unique : OneOutcome count_marked.Learnt (λ κs exit. tt {0})
count_marked_unique κs args r s exit exit' p q = (same p q, refl)

pub nth_marked_unique : OneOutcome nth_marked.Learnt (λ κs exit. tt {0})
nth_marked_unique κs args r s exit exit' p q = (same p q, refl)

-- The marks are the last of four parameters; the others are lent to be read.
pub draw_unique : OneOutcome draw.Learnt (λ κs exit. exit.1.1.1.0.now)
draw_unique κs args r s exit exit' p q = (same p.answer q.answer, same p.kept q.kept)
