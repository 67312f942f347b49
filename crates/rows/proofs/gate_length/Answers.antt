-- `rows::gate_length` meets its contract: a gate has no more than eight fan-ins.
use native.Mathlib.Omega.{arith}
use Rattle.rows.specs.steps.RowCheck.{gate_length}
use Rattle.rows.proofs.Access.{few_fanins}
use Rattle.rows.proofs.gate_length.Goals as goal

pub overflow_add-result : goal.overflow_add-result
overflow_add-result c =
    rw c.fan_ins.ensures (omega (arith, few_fanins c.args.row.now c.args.v))

pub returns : goal.returns
unfolding gate_length
returns c =
    rw c.fan_ins.ensures
