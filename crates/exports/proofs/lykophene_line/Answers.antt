-- `exports::lykophene_line` meets its contract: what `prepare` and `tell` ensure is, by the headline, a line of what the text
-- answers.
use lib.Dec.{lit≤}
use lib.ListN.{replicate}
use Rattle.drawing.specs.Headline.{Ample}
use Rattle.drawing.specs.Prepared.{lent_of}
use Rattle.exports.proofs.Lines.{line_out}
use Rattle.exports.proofs.lykophene_line.Goals as goal

-- the rows as they are made
ample : Ample (lent_of (replicate 5_632 0) (replicate 512 0) (replicate 512 0))
ample = record { row = lit≤ tt; labels = lit≤ tt; marks = lit≤ tt }

pub returns : goal.returns
returns c = line_out ample c.prepare-answer.ensures c.tell.ensures c.from.ensures
