-- `selection::output_delay` meets its contract: the gates without a mark are those that no gate reads.
use mathlib.Core.Path.{sym}
use Rattle.selection.specs.steps.Marking.{unread}
use Rattle.selection.proofs.Unread.{delay_is}
use Rattle.selection.proofs.output_delay.Goals as goal

pub returns : goal.returns
unfolding unread
returns c =
    let l = c.args.labelled.now in
    record {
      small = c.largest_unmarked.ensures.small;
      delay = rw (c.largest_unmarked.ensures.largest, c.reads.ensures) (sym (delay_is _ _ l.network.holds l.labels.now));
    }
