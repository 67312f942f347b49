-- `rows::first_fault` meets its contract. The loop's invariant: what the gates from v on have is what all of them
-- have.
use Prim.Native.Nat.{◌-◌}
use mathlib.Core.Path.{◌≡◌}
use Rattle.rows.specs.steps.RowCheck.{first_fault}
use Rattle.rows.proofs.first_fault.Given as goal

abbrev pub invariant-loop-v : goal.invariant-loop-v
invariant-loop-v l = first_fault l.row l.v (l.gates - l.v) ≡ first_fault l.row 0 l.gates
