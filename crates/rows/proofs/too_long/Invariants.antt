-- `rows::too_long` meets its contract. The loop's invariant: the bytes counted are few, and with those of the gates from v on they are
-- the text's.
use Prim.Native.Nat.{◌+◌, ◌-◌, ◌≤◌}
use mathlib.Core.Path.{◌≡◌}
use Rattle.texts.specs.Reading.{most_text}
use Rattle.rows.specs.steps.RowCheck.{gates_length}
use Rattle.rows.proofs.too_long.Given as goal

abbrev pub invariant-loop-v : goal.invariant-loop-v
invariant-loop-v l = (l.bytes ≤ most_text) × (l.bytes + gates_length l.row l.v (l.gates - l.v) ≡ 22 + gates_length l.row 0 l.gates)
