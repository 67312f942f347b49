-- `reading::fill_row` meets its contract. The loop's invariant, `Filling`: the row is filled with the gates so far, and the walk
-- over the lines that are left ends with the whole network. The measure is what is left of the text.
use mathlib.Core.Path.{sym, ap, ◌∙◌}
use native.Mathlib.Omega.{arith}
use borrow.Author.Rules.{rules}
use Rattle.std.specs.Prelude.{Ok}
use Rattle.reading.proofs.LinesRead.{header_read, gate_read}
use Rattle.reading.proofs.Filling as fill
use Rattle.reading.proofs.fill_row.Goals as goal

pub returns-in_default : goal.returns-in_default
returns-in_default c =
    absurd (fill.opens _ _ c.requires (sym c.read_line.ensures ∙ c.in_default.is) (search rules))

pub loop-weight-init : goal.loop-weight-init
loop-weight-init c =
    fill.start _ _ _ _ _ c.requires (header_read _ _ _ _ (sym c.read_line.ensures ∙ c.in-Ok-Header.is ∙ ap Ok c.in-Ok-Header.field-0-is))

pub fill_fan_ins-requires : goal.fill_fan_ins-requires
fill_fan_ins-requires c =
    fill.word_sized _ _ _ c.in-Ok-Gate.weight c.in-Ok-Gate.delay _ _ (gate_read _ _ _ _ _ _ _ (sym c.read_line-in-loop-weight.ensures ∙ c.in-Ok-Gate.is ∙ ap Ok c.in-Ok-Gate.field-0-is))

pub loop-weight-smaller : goal.loop-weight-smaller
loop-weight-smaller c =
    let g = gate_read _ _ _ _ _ _ _ (sym c.read_line-in-loop-weight.ensures ∙ c.in-Ok-Gate.is ∙ ap Ok c.in-Ok-Gate.field-0-is) in
    omega (arith, g.inside, g.ahead)

pub loop-weight-preserved : goal.loop-weight-preserved
loop-weight-preserved c =
    let g = gate_read _ _ _ _ _ _ _ (sym c.read_line-in-loop-weight.ensures ∙ c.in-Ok-Gate.is ∙ ap Ok c.in-Ok-Gate.field-0-is) in
    fill.one_on _ _ _ _ _ c.loop-weight.invariant _ _ _ _ g _ _ c.put_gate.ensures c.fill_fan_ins.ensures

pub returns-in_default-read_line : goal.returns-in_default-read_line
returns-in_default-read_line c =
    fill.done _ _ _ _ _ c.loop-weight.invariant (sym c.read_line-in-loop-weight.ensures ∙ c.in_default-read_line.is) (search rules)
