-- `reading::fill_fan_ins` meets its contract. The loop's invariant: the fan-ins that are left, put from here, give what all of
-- them give from the start.
use Prim.Native.Nat.{◌-◌}
use mathlib.Core.Path.{◌≡◌}
use Rattle.reading.specs.steps.Passes.{with_fan_ins}
use Rattle.reading.proofs.fill_fan_ins.Given as goal

abbrev pub invariant-loop-i : goal.invariant-loop-i
invariant-loop-i l = with_fan_ins l.text l.at l.v l.i (l.count - l.i) l.row ≡ with_fan_ins l.text l.at l.v 0 l.count l.initial.row
