-- `cluster::print_block` meets its contract: by the headline `tell_lines` tells the block of that index.
use mathlib.Core.Path.{sym}
use lib.Seq.{length-take-le}
use Rattle.cluster.proofs.Blocks.{told_within, told_bytes, block_printed}
use Rattle.cluster.proofs.print_block.Goals as goal

pub slice_bounds-show-end : goal.slice_bounds-show-end
slice_bounds-show-end c = told_within c.tell_lines.ensures c.in-Ok.is c.requires

pub slice_bounds-show-end-2 : goal.slice_bounds-show-end-2
slice_bounds-show-end-2 c = sym (length-take-le _ _ (told_within c.tell_lines.ensures c.in-Ok.is c.requires))

pub show-requires : goal.show-requires
show-requires c = told_bytes c.tell_lines.ensures c.in-Ok.is c.requires

pub returns : goal.returns
returns c = block_printed c.tell_lines.ensures c.in-Ok.is c.requires c.show.ensures
