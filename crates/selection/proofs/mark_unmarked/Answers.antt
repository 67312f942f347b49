-- `selection::mark_unmarked` meets its contract: every gate has the mark that it starts with.
use native.Mathlib.Omega.{arith}
use Rattle.selection.proofs.Marks.{all_started}
use Rattle.selection.proofs.mark_unmarked.Goals as goal

pub returns : goal.returns
returns c =
    all_started c.args.row.now c.loop-v.marks _ (omega arith) (λ k h. c.loop-v.invariant k (omega arith))
