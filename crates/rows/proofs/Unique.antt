-- [T4] No second outcome meets a contract of `rows`.
use Prim.Native.Nat.{ℕ}
use mathlib.Core.Path.{◌≡◌, refl, ap, sym, ◌∙◌}
use mathlib.Core.List.{List}
use Rattle.std.specs.Prelude.{Result, Ok, Err}
use Rattle.frames.specs.declared.Refusal.{Refusal}
use Rattle.rows.specs.declared.Header.{Header}
use Rattle.rows.specs.declared.network.Network.{Network as Standing}
use Rattle.rows.specs.Found.{content, NetworkFound}
use Rattle.rows.specs.Read.{checked}
use Rattle.units.specs.Units.{cells, ticks}
use Rattle.units.specs.Outcome.{OneOutcome, OneContent}
use Rattle.units.proofs.Unique.{same}
use Rattle.rows.proofs.refusal.Reads as refusal
use Rattle.rows.proofs.too_short.Reads as too_short
use Rattle.rows.proofs.weight.Reads as weight
use Rattle.rows.proofs.delay.Reads as delay
use Rattle.rows.proofs.fan_ins.Reads as fan_ins
use Rattle.rows.proofs.is_input.Reads as is_input
use Rattle.rows.proofs.put_gate.Reads as put_gate
use Rattle.rows.proofs.put_fan_in.Reads as put_fan_in
use Rattle.rows.proofs.check.Reads as check
use Rattle.rows.proofs.network.Network.find.Reads as network_find

-- Passed by value, or lent by `&`: nothing of the arguments changes, and the result is the whole outcome.

pub refusal_unique : OneOutcome refusal.Learnt (λ κs exit. tt {0})
refusal_unique κs args r s exit exit' p q = (same p q, refl)

pub too_short_unique : OneOutcome too_short.Learnt (λ κs exit. tt {0})
too_short_unique κs args r s exit exit' p q = (same p q, refl)

pub weight_unique : OneOutcome weight.Learnt (λ κs exit. tt {0})
weight_unique κs args r s exit exit' p q = (ap cells (same p q), refl)

pub delay_unique : OneOutcome delay.Learnt (λ κs exit. tt {0})
delay_unique κs args r s exit exit' p q = (ap ticks (same p q), refl)

pub is_input_unique : OneOutcome is_input.Learnt (λ κs exit. tt {0})
is_input_unique κs args r s exit exit' p q = (same p q, refl)

pub check_unique : OneOutcome check.Learnt (λ κs exit. tt {0})
check_unique κs args r s exit exit' p q = (same p q, refl)

-- The result is a part of the row.

pub fan_ins_unique : OneContent fan_ins.Learnt (λ κs r. r.now)
fan_ins_unique κs args r s exit exit' p q = same p q

-- The row that is written is the first parameter.

pub put_gate_unique : OneOutcome put_gate.Learnt (λ κs exit. exit.0.now)
put_gate_unique κs args r s exit exit' p q = (refl, same p q)

pub put_fan_in_unique : OneOutcome put_fan_in.Learnt (λ κs exit. exit.0.now)
put_fan_in_unique κs args r s exit exit' p q = (refl, same p q)

-- The network found is the header that is answered and the row that was handed over.

abbrev with_row : Result Header Refusal → List ℕ → Result (Header × List ℕ) Refusal
with_row (Ok h) row = Ok (h, row)
with_row (Err f) row = Err f

content_is : {h : Header} {row : List ℕ} (r : Result Standing Refusal) → NetworkFound h row r → content r ≡ with_row (checked h row) row
content_is {h} {row} (Ok n) p =
    ap (λ (x : List ℕ). with_row (Ok n.header) x) p.same ∙ ap (λ (a : Result Header Refusal). with_row a row) p.answer
content_is {h} {row} (Err f) p = ap (λ (a : Result Header Refusal). with_row a row) p.answer

pub network_network_find_unique : OneContent network_find.Learnt (λ κs r. content r)
network_network_find_unique κs args r s exit exit' p q = content_is r p ∙ sym (content_is s q)
