-- `rows::rising` meets its contract. The loop's invariant: whether the fan-ins from this one on rise from the least on is whether
-- all of them rise.
use mathlib.Core.Path.{◌≡◌}
use lib.ListN.{drop}
use Rattle.frames.specs.Table.{rising_from}
use Rattle.rows.proofs.rising.Given as goal

abbrev pub invariant-loop-fanin : goal.invariant-loop-fanin
invariant-loop-fanin l = rising_from l.least l.gate (drop l.fanin-index l.fanins) ≡ rising_from 0 l.gate l.fanins
