-- `rows::row_fault` meets its contract: each check is made where those before it found nothing.
use mathlib.Core.Path.{◌≡◌, sym, ◌∙◌}
use native.Mathlib.Omega.{arith}
use Rattle.std.proofs.lemmas.Result.{err_from_is_err_and}
use Rattle.std.specs.Prelude.{Err}
use Rattle.rows.specs.steps.RowCheck.{first_fault}
use Rattle.rows.proofs.Blocks.{long_enough}
use Rattle.rows.proofs.Faults.{ten_decides, one_decides, gate_decides, eight_decides, nine_decides}
use Rattle.rows.proofs.row_fault.Goals as goal

pub returns-then-too_short : goal.returns-then-too_short
returns-then-too_short c = rw c.no_room.ensures (ten_decides _ _ (sym c.too_short.ensures ∙ c.if-too_short.true))

pub returns-then-too_long : goal.returns-then-too_long
returns-then-too_long c =
    rw c.at_no_line.ensures (one_decides _ _ (sym c.too_short.ensures ∙ c.if-too_short.false) (sym c.too_long.ensures ∙ c.if-too_long.true))

pub first_fault-requires : goal.first_fault-requires
first_fault-requires c = omega (arith, long_enough _ _ (sym c.too_short.ensures ∙ c.if-too_short.false))

pub returns-in_err-first_fault : goal.returns-in_err-first_fault
returns-in_err-first_fault c =
    let p = err_from_is_err_and c.from_residual.result c.from_residual.ensures.1 in
    let told : first_fault c.args.row.now 0 c.args.header.gates ≡ Err c.in_err-first_fault.field-0.0 = sym c.first_fault.ensures ∙ c.in_err-first_fault.was in
    rw (p.1, p.2)
    (sym told
    ∙ gate_decides _ _ (sym c.too_short.ensures ∙ c.if-too_short.false) (sym c.too_long.ensures ∙ c.if-too_long.false) told)

pub returns-then-gates-eq0 : goal.returns-then-gates-eq0
returns-then-gates-eq0 c =
    rw c.at_gate.ensures
    (eight_decides _ _ (sym c.too_short.ensures ∙ c.if-too_short.false) (sym c.too_long.ensures ∙ c.if-too_long.false)
    (sym c.first_fault.ensures ∙ c.in_ok-first_fault.was) c.if-gates-eq0.true)

pub first_heavy-requires : goal.first_heavy-requires
first_heavy-requires c = omega (arith, long_enough _ _ (sym c.too_short.ensures ∙ c.if-too_short.false))

pub returns : goal.returns
returns c =
    c.first_heavy.ensures
    ∙ nine_decides _ _ (sym c.too_short.ensures ∙ c.if-too_short.false) (sym c.too_long.ensures ∙ c.if-too_long.false)
    (sym c.first_fault.ensures ∙ c.in_ok-first_fault.was) c.if-gates-eq0.false
