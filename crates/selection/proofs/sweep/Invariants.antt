-- `selection::sweep` meets its contract. The loop's invariant: the sweep from here gives what the whole sweep gives
-- from the start.
use mathlib.Core.Path.{◌≡◌}
use Rattle.model.specs.Drawing.{select}
use Rattle.rows.specs.Found.{network_of}
use Rattle.selection.proofs.sweep.Given as goal

abbrev pub invariant-loop-root : goal.invariant-loop-root
invariant-loop-root l = select (network_of l.labelled.network) l.labelled.labels.now l.root l.marks
    ≡ select (network_of l.labelled.network) l.labelled.labels.now l.labelled.network.header.gates l.initial.marks
