-- `results::block::line_from` meets its contract: a line written into the part of the row from a place on.
use Rattle.results.proofs.Blocks.{told_at, put_from}
use Rattle.results.proofs.block.line_from.Goals as goal

pub returns : goal.returns
returns c = rw c.unwrap_or.ensures (put_from _ c.args.out.now c.args.at c.requires (rw told_at at c.known_line.ensures))
