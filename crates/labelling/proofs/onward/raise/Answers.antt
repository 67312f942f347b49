-- `labelling::onward::raise` meets its contract. The loop's invariant: raising what is left of the fan-ins gives what raising all
-- of them gives from the start.
use Rattle.std.proofs.Common.{sym, ◌∙◌, arith}
use Rattle.labelling.proofs.Lists.{get_or_in}
use Rattle.labelling.proofs.OnwardLaws.{raise_next, raise_done}
use Rattle.labelling.proofs.onward.raise.Goals as goal

pub bounds-onward-x : goal.bounds-onward-x
bounds-onward-x c = rw c.from-x.ensures (c.requires _ (get_or_in _ c.loop-x.x-index (omega arith)))

pub bounds-onward-x-in-loop-x : goal.bounds-onward-x-in-loop-x
bounds-onward-x-in-loop-x c = rw c.from-x.ensures (c.requires _ (get_or_in _ c.loop-x.x-index (omega arith)))

pub loop-x-preserved : goal.loop-x-preserved
loop-x-preserved c =
    raise_next c.loop-x.onward _ _ c.loop-x.x-index _ _ (omega arith) c.from-x.ensures c.larger.ensures ∙ c.loop-x.invariant

pub returns : goal.returns
returns c = sym (raise_done _ _ _ c.loop-x.x-index (omega arith)) ∙ c.loop-x.invariant
