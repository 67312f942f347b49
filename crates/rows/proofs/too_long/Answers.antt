-- `rows::too_long` meets its contract. Where it is left early the bytes are too many already.
use Prim.Native.Nat.{◌+◌}
use mathlib.Core.Path.{sym}
use native.Mathlib.Omega.{arith}
use borrow.Author.Tests.{lt-ltb, le-ltb}
use Rattle.texts.specs.Reading.{most_text}
use Rattle.rows.specs.steps.RowCheck.{gates_length, too_long}
use Rattle.rows.proofs.Faults.{gate_length_most, gates_length_turn, gates_length_over}
use Rattle.rows.proofs.too_long.Goals as goal

pub overflow_add-bytes : goal.overflow_add-bytes
overflow_add-bytes c = omega (arith, c.gate_length-bytes.ensures, gate_length_most c.args.row.now c.loop-v.v)

pub returns-then-bytes-gt-MOST_TEXT : goal.returns-then-bytes-gt-MOST_TEXT
unfolding too_long
returns-then-bytes-gt-MOST_TEXT c =
    let turn = gates_length_turn c.args.row.now c.loop-v.v c.args.gates (omega arith) in
    sym (lt-ltb most_text (22 + gates_length c.args.row.now 0 c.args.gates) (omega (arith, turn, c.gate_length-bytes.ensures)))

pub loop-v-preserved : goal.loop-v-preserved
loop-v-preserved c =
    let turn = gates_length_turn c.args.row.now c.loop-v.v c.args.gates (omega arith) in
    (omega arith, omega (arith, turn, c.gate_length-bytes.ensures))

pub returns : goal.returns
unfolding too_long
returns c =
    let over = gates_length_over c.args.row.now c.loop-v.v c.args.gates (omega arith) in
    sym (le-ltb most_text (22 + gates_length c.args.row.now 0 c.args.gates) (omega (arith, over, c.loop-v.invariant.1)))
