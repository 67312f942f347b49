-- `labelling::onward::raise` meets its contract. The loop's invariant: raising what is left of the fan-ins gives what raising all
-- of them gives from the start.
use Rattle.std.proofs.Common.{◌≡◌, drop}
use Rattle.model.specs.Onward.{raise}
use Rattle.labelling.proofs.onward.raise.Given as goal

abbrev pub invariant-loop-x : goal.invariant-loop-x
invariant-loop-x l = raise l.onward l.entry.0 (drop l.x-index l.fanins) ≡ raise l.initial.onward l.entry.0 l.fanins
