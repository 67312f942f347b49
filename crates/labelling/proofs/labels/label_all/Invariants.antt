-- `labelling::labels::label_all` meets its contract. The loop's invariant: the gates below v are labelled, and the places behind
-- the gates are as they were. A label needs only the labels below it, and 32 bits hold it.
use Rattle.rows.specs.Found.{network_of}
use Rattle.labelling.proofs.LabelsLaws.{Labelling}
use Rattle.labelling.proofs.labels.label_all.Given as goal

abbrev pub invariant-loop-v : goal.invariant-loop-v
invariant-loop-v l = Labelling (network_of l.network) l.network.header.gates l.v l.initial.labels l.labels
