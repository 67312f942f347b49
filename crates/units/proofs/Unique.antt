-- [T4] No second outcome meets a contract of `units`. Every parameter here is passed by value, so the result is the whole outcome.
use mathlib.Core.Path.{◌≡◌, refl, sym, ap, ◌∙◌}
use Rattle.units.specs.Outcome.{OneOutcome}
use Rattle.units.specs.Units.{cells, ticks}
use Rattle.units.proofs.Cells.weight.Reads as cells_weight
use Rattle.units.proofs.Cells.plus.Reads as cells_plus
use Rattle.units.proofs.Cells.within.Reads as cells_within
use Rattle.units.proofs.Cells.weight_place.Reads as cells_weight_place
use Rattle.units.proofs.Cells.capacity_place.Reads as cells_capacity_place
use Rattle.units.proofs.Ticks.delay.Reads as ticks_delay
use Rattle.units.proofs.Ticks.plus.Reads as ticks_plus
use Rattle.units.proofs.Ticks.larger.Reads as ticks_larger
use Rattle.units.proofs.Ticks.above.Reads as ticks_above
use Rattle.units.proofs.Ticks.delay_place.Reads as ticks_delay_place
use Rattle.units.proofs.Ticks.label_place.Reads as ticks_label_place
use Rattle.units.proofs.GateNumber.new.Reads as gate_number_new
use Rattle.units.proofs.FanInCount.new.Reads as fan_in_count_new
use Rattle.units.proofs.FanInCount.count_place.Reads as fan_in_count_count_place

-- What equals the same thing is equal.
pub same : {X : Type 0} {r s x : X} → r ≡ x → s ≡ x → r ≡ s
same p q = p ∙ sym q

pub cells_weight_unique : OneOutcome cells_weight.Learnt (λ κs exit. tt {0})
cells_weight_unique κs args r s exit exit' p q = (same p q, refl)

pub cells_plus_unique : OneOutcome cells_plus.Learnt (λ κs exit. tt {0})
cells_plus_unique κs args r s exit exit' p q = (ap cells (same p q), refl)

pub cells_within_unique : OneOutcome cells_within.Learnt (λ κs exit. tt {0})
cells_within_unique κs args r s exit exit' p q = (same p q, refl)

pub cells_weight_place_unique : OneOutcome cells_weight_place.Learnt (λ κs exit. tt {0})
cells_weight_place_unique κs args r s exit exit' p q = (same p q, refl)

pub cells_capacity_place_unique : OneOutcome cells_capacity_place.Learnt (λ κs exit. tt {0})
cells_capacity_place_unique κs args r s exit exit' p q = (same p q, refl)

pub ticks_delay_unique : OneOutcome ticks_delay.Learnt (λ κs exit. tt {0})
ticks_delay_unique κs args r s exit exit' p q = (same p q, refl)

pub ticks_plus_unique : OneOutcome ticks_plus.Learnt (λ κs exit. tt {0})
ticks_plus_unique κs args r s exit exit' p q = (ap ticks (same p q), refl)

pub ticks_larger_unique : OneOutcome ticks_larger.Learnt (λ κs exit. tt {0})
ticks_larger_unique κs args r s exit exit' p q = (ap ticks (same p q), refl)

pub ticks_above_unique : OneOutcome ticks_above.Learnt (λ κs exit. tt {0})
ticks_above_unique κs args r s exit exit' p q = (same p q, refl)

pub ticks_delay_place_unique : OneOutcome ticks_delay_place.Learnt (λ κs exit. tt {0})
ticks_delay_place_unique κs args r s exit exit' p q = (same p q, refl)

pub ticks_label_place_unique : OneOutcome ticks_label_place.Learnt (λ κs exit. tt {0})
ticks_label_place_unique κs args r s exit exit' p q = (same p q, refl)

pub gate_number_new_unique : OneOutcome gate_number_new.Learnt (λ κs exit. tt {0})
gate_number_new_unique κs args r s exit exit' p q = (same p q, refl)

pub fan_in_count_new_unique : OneOutcome fan_in_count_new.Learnt (λ κs exit. tt {0})
fan_in_count_new_unique κs args r s exit exit' p q = (same p q, refl)

pub fan_in_count_count_place_unique : OneOutcome fan_in_count_count_place.Learnt (λ κs exit. tt {0})
fan_in_count_count_place_unique κs args r s exit exit' p q = (same p q, refl)
