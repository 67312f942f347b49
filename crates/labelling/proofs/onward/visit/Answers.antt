-- `labelling::onward::visit` meets its contract: the gate's delay and its fan-ins are the network's, and the sum is far from 64
-- bits.
use Rattle.std.proofs.Common.{sym, ◌∙◌, arith}
use Rattle.rows.proofs.Holds.{delay_stands, fanins_stand, few_gates, fanins_below, delay_most}
use Rattle.labelling.proofs.OnwardLaws.{visit_known, visit_unknown}
use Rattle.labelling.proofs.onward.visit.Goals as goal

pub bounds-onward-y : goal.bounds-onward-y
bounds-onward-y c = omega (arith, few_gates _ _ c.args.network.now.holds)

pub raise-requires : goal.raise-requires
raise-requires c x m =
    let h = c.args.network.now.holds in
    omega (arith, fanins_below _ _ h c.args.y c.requires.0 x (rw c.fan_ins.ensures at m), few_gates _ _ h)

pub returns-then-here-ne0 : goal.returns-then-here-ne0
returns-then-here-ne0 c =
    let h = c.args.network.now.holds in
    let y = c.args.y in
    c.raise.ensures
    ∙ visit_known _ c.args.onward.now y _ _
    (omega (
      arith,
      c.plus-entry.ensures,
      c.delay.ensures,
      delay_most _ _ h y c.requires.0,
      delay_stands c.args.network.now.header c.args.network.now.row.now y c.requires.0,
    ))
    c.if-here-ne0.true
    (fanins_stand _ _ y c.requires.0 ∙ sym c.fan_ins.ensures)

pub returns-else-here-ne0 : goal.returns-else-here-ne0
returns-else-here-ne0 c = visit_unknown _ c.args.onward.now c.args.y c.if-here-ne0.false
