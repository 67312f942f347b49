-- `drawing::fill` meets its contract: reading, labelling and selecting, one after the other.
use Rattle.drawing.specs.Prepared.{lent_of}
use Rattle.drawing.proofs.Preparing.{prepared_filled}
use Rattle.drawing.proofs.fill.Goals as goal

pub returns : goal.returns
returns c =
    let a = c.args in
    prepared_filled a.text.now a.header (lent_of a.row.now a.labels.now a.marks.now) c.requires c.read.ensures.row
    c.label.ensures
    c.draw.ensures
