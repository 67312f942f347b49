-- `rows::first_heavy` meets its contract: a heavy gate decides where those before it are light.
use Prim.Native.Nat.{◌-◌}
use mathlib.Core.Path.{◌≡◌, sym, ◌∙◌}
use native.Mathlib.Omega.{arith}
use Rattle.std.proofs.lemmas.Result.{err_from_is_err_and}
use Rattle.std.specs.Prelude.{Err}
use Rattle.rows.specs.Row.{weight_in}
use Rattle.rows.specs.steps.RowCheck.{heavy_fault, first_heavy_fault}
use Rattle.rows.proofs.Faults.{light_here, heavy_here}
use Rattle.rows.proofs.first_heavy.Goals as goal

pub returns-in_err-heavy_fault : goal.returns-in_err-heavy_fault
returns-in_err-heavy_fault c =
    let p = err_from_is_err_and c.from_residual.result c.from_residual.ensures.1 in
    let told : heavy_fault c.loop-v.v (weight_in c.args.row.now c.loop-v.v) c.args.header.capacity.0 ≡ Err c.in_err-heavy_fault.field-0.0
    = sym (rw c.weight.ensures at c.heavy_fault.ensures) ∙ c.in_err-heavy_fault.was in
    rw (p.1, p.2) (sym told ∙ heavy_here _ _ c.loop-v.v _ c.loop-v-test.true told ∙ c.loop-v.invariant)

pub loop-v-preserved : goal.loop-v-preserved
loop-v-preserved c =
    light_here _ _ c.loop-v.v _ c.loop-v-test.true (sym (rw c.weight.ensures at c.heavy_fault.ensures) ∙ c.in_ok-heavy_fault.was)
    ∙ c.loop-v.invariant

pub returns : goal.returns
unfolding first_heavy_fault
returns c =
    let z : c.args.header.gates - c.loop-v.v ≡ 0 = omega arith in
    rw z at c.loop-v.invariant
