-- [T4] No second outcome meets a contract of `frames`.
use mathlib.Core.Path.{refl}
use Rattle.units.specs.Outcome.{OneOutcome}
use Rattle.units.proofs.Unique.{same}
use Rattle.frames.proofs.Refusal.at_column.Reads as refusal_at_column
use Rattle.frames.proofs.Refusal.at_line.Reads as refusal_at_line
use Rattle.frames.proofs.Refusal.at_no_line.Reads as refusal_at_no_line
use Rattle.frames.proofs.Refusal.no_room.Reads as refusal_no_room
use Rattle.frames.proofs.Cause.at.Reads as cause_at
use Rattle.frames.proofs.read_line.Reads as read_line
use Rattle.frames.proofs.fan_in.Reads as fan_in
use Rattle.frames.proofs.put.put.Reads as put_put
use Rattle.frames.proofs.put.put_words.Reads as put_put_words
use Rattle.frames.proofs.put.feed.Reads as put_feed
use Rattle.frames.proofs.put.put_line.Reads as put_put_line

-- Passed by value, or lent by `&`: nothing of the arguments changes, and the result is the whole outcome.

pub cause_at_unique : OneOutcome cause_at.Learnt (λ κs exit. tt {0})
cause_at_unique κs args r s exit exit' p q = (same p q, refl)

pub refusal_at_column_unique : OneOutcome refusal_at_column.Learnt (λ κs exit. tt {0})
refusal_at_column_unique κs args r s exit exit' p q = (same p q, refl)

pub refusal_at_line_unique : OneOutcome refusal_at_line.Learnt (λ κs exit. tt {0})
refusal_at_line_unique κs args r s exit exit' p q = (same p q, refl)

pub refusal_at_no_line_unique : OneOutcome refusal_at_no_line.Learnt (λ κs exit. tt {0})
refusal_at_no_line_unique κs args r s exit exit' p q = (same p q, refl)

pub refusal_no_room_unique : OneOutcome refusal_no_room.Learnt (λ κs exit. tt {0})
refusal_no_room_unique κs args r s exit exit' p q = (same p q, refl)

pub read_line_unique : OneOutcome read_line.Learnt (λ κs exit. tt {0})
read_line_unique κs args r s exit exit' p q = (same p q, refl)

pub fan_in_unique : OneOutcome fan_in.Learnt (λ κs exit. tt {0})
fan_in_unique κs args r s exit exit' p q = (same p q, refl)

-- The row that is written is the first parameter.

pub put_put_unique : OneOutcome put_put.Learnt (λ κs exit. exit.0.now)
put_put_unique κs args r s exit exit' p q = (same p.answer q.answer, same p.kept q.kept)

pub put_put_words_unique : OneOutcome put_put_words.Learnt (λ κs exit. exit.0.now)
put_put_words_unique κs args r s exit exit' p q = (same p.answer q.answer, same p.kept q.kept)

pub put_feed_unique : OneOutcome put_feed.Learnt (λ κs exit. exit.0.now)
put_feed_unique κs args r s exit exit' p q = (same p.answer q.answer, same p.kept q.kept)

pub put_put_line_unique : OneOutcome put_put_line.Learnt (λ κs exit. exit.0.now)
put_put_line_unique κs args r s exit exit' p q = (same p.answer q.answer, same p.kept q.kept)
