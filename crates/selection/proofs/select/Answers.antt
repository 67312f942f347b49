-- `selection::select` meets its contract: the outputs' marks, swept, are the marks of the drawn clusters.
use Rattle.selection.proofs.Selected.{selected}
use Rattle.selection.proofs.select.Goals as goal

pub returns : goal.returns
returns c =
    let l = c.args.labelled.now in
    rw (c.sweep.ensures, c.mark_outputs.ensures)
    (selected l.network.header l.network.row.now l.network.holds l.labels.now)
