-- `rows::rising` meets its contract: a fan-in that is not in place decides, and past the last one all of them rise.
use mathlib.Core.Path.{sym, ◌∙◌}
use Rattle.rows.proofs.Faults.{rising_on, rising_broken, rising_over}
use Rattle.rows.proofs.rising.Goals as goal

pub returns-then-not-in_place : goal.returns-then-not-in_place
returns-then-not-in_place c =
    let here = rw c.from-fanin.ensures at c.in_place.ensures in
    sym (rising_broken _ c.loop-fanin.fanin-index c.loop-fanin.least _ c.loop-fanin-test.true (sym here ∙ c.if-not-in_place.true))
    ∙ c.loop-fanin.invariant

pub loop-fanin-preserved : goal.loop-fanin-preserved
loop-fanin-preserved c =
    let here = rw c.from-fanin.ensures at c.in_place.ensures in
    rw c.from-fanin.ensures
    (rising_on _ c.loop-fanin.fanin-index c.loop-fanin.least _ c.loop-fanin-test.true (sym here ∙ c.if-not-in_place.false))
    ∙ c.loop-fanin.invariant

pub returns : goal.returns
returns c = sym (rising_over _ c.loop-fanin.fanin-index c.loop-fanin.least _ c.loop-fanin-test.false) ∙ c.loop-fanin.invariant
