-- `reading::fill_fan_ins` meets its contract: each turn puts one of the fan-ins that are left.
use mathlib.Core.Path.{sym, ◌∙◌}
use Rattle.reading.proofs.Filling.{fan_ins_more, fan_ins_last}
use Rattle.reading.proofs.fill_fan_ins.Goals as goal

pub loop-i-preserved : goal.loop-i-preserved
loop-i-preserved c =
    let l = c.loop-i in
    rw (c.put_fan_in.ensures, c.fan_in.ensures) (fan_ins_more _ _ _ c.args.count l.row l.i c.loop-i-test.true ∙ l.invariant)

pub returns : goal.returns
returns c =
    let l = c.loop-i in
    sym (fan_ins_last _ _ _ c.args.count l.row l.i c.loop-i-test.false) ∙ l.invariant
