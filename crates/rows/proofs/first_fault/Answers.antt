-- `rows::first_fault` meets its contract: a gate with a fault decides where those before it have none.
use Prim.Native.Nat.{◌-◌}
use mathlib.Core.Path.{◌≡◌, sym, ◌∙◌}
use native.Mathlib.Omega.{arith}
use Rattle.std.proofs.lemmas.Result.{err_from_is_err_and}
use Rattle.std.specs.Prelude.{Err}
use Rattle.rows.specs.steps.RowCheck.{gate_fault, first_fault}
use Rattle.rows.proofs.Faults.{faultless_here, fault_here}
use Rattle.rows.proofs.first_fault.Goals as goal

pub returns-in_err-gate_fault : goal.returns-in_err-gate_fault
returns-in_err-gate_fault c =
    let p = err_from_is_err_and c.from_residual.result c.from_residual.ensures.1 in
    let told : gate_fault c.args.row.now c.loop-v.v ≡ Err c.in_err-gate_fault.field-0.0 = sym c.gate_fault.ensures ∙ c.in_err-gate_fault.was in
    rw (p.1, p.2) (sym told ∙ fault_here _ c.loop-v.v _ c.loop-v-test.true told ∙ c.loop-v.invariant)

pub loop-v-preserved : goal.loop-v-preserved
loop-v-preserved c =
    faultless_here _ c.loop-v.v _ c.loop-v-test.true (sym c.gate_fault.ensures ∙ c.in_ok-gate_fault.was) ∙ c.loop-v.invariant

pub returns : goal.returns
unfolding first_fault
returns c =
    let z : c.args.gates - c.loop-v.v ≡ 0 = omega arith in
    rw z at c.loop-v.invariant
