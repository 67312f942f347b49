-- `labelling::labels::label_all` meets its contract. The loop's invariant: the gates below v are labelled, and the places behind
-- the gates are as they were. A label needs only the labels below it, and 32 bits hold it.
use Rattle.std.proofs.Common.{◌<◌}
use Rattle.model.specs.Network.{size}
use Rattle.rows.specs.Found.{network_of}
use Rattle.rows.proofs.Holds.{network_size}
use Rattle.labelling.proofs.LabelsLaws.{label_now, labelling_next, labelling_ends, label_held}
use Rattle.labelling.proofs.labels.label_all.Goals as goal

pub loop-v-preserved : goal.loop-v-preserved
loop-v-preserved c =
    let network = c.args.network in
    let n = network_of network in
    let known : c.loop-v.v < size n = rw (network_size network.header network.row.now) c.loop-v-test.true in
    let made = label_now n _ _ c.loop-v.v _ _ known c.loop-v.invariant c.label_one-label.ensures in
    labelling_next n _ _ c.loop-v.v _ _ c.loop-v-test.true c.requires
    (label_held n network.holds.formed network.holds.within c.loop-v.v _ _ known made c.label_place.ensures)
    c.loop-v.invariant

pub returns : goal.returns
returns c =
    labelling_ends _ _ _ c.loop-v.v _ (network_size c.args.network.header c.args.network.row.now) c.requires c.loop-v-test.false
    c.loop-v.invariant
