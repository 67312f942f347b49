-- `labelling::members::mark` meets its contract. The loop's invariant: marking the gates that are left gives what marking all of
-- them gives from the start.
use Rattle.std.proofs.Common.{◌≡◌, drop}
use Rattle.model.specs.Drawing.{mark}
use Rattle.labelling.proofs.members.mark.Given as goal

abbrev pub invariant-loop-u : goal.invariant-loop-u
invariant-loop-u l = mark l.inside (drop l.u-index l.gates) ≡ mark l.initial.inside l.gates
