-- `frames::cut::rising` meets its contract. The loop's invariant: the fan-ins that are left, at least `least`, decide as all do.
use mathlib.Core.Path.{◌≡◌}
use Rattle.frames.specs.Text.{bytes, words}
use Rattle.frames.specs.Table.{rising_from}
use Rattle.frames.proofs.cut.rising.Given as goal

abbrev pub invariant-loop-fan_in : goal.invariant-loop-fan_in
invariant-loop-fan_in l = (l.fan_in-iterator.size ≡ 4)
    × (rising_from l.least l.bound (words (bytes l.fan_in-iterator.rest.now)) ≡ rising_from 0 l.bound (words (bytes l.fan_ins)))
