-- `rows::first_heavy` meets its contract. The loop's invariant: what the gates from v on have is what all of them
-- have.
use Prim.Native.Nat.{◌-◌}
use mathlib.Core.Path.{◌≡◌}
use Rattle.rows.specs.steps.RowCheck.{first_heavy_fault}
use Rattle.rows.proofs.first_heavy.Given as goal

abbrev pub invariant-loop-v : goal.invariant-loop-v
invariant-loop-v l = first_heavy_fault l.header.capacity.0 l.row l.v (l.header.gates - l.v) ≡ first_heavy_fault l.header.capacity.0 l.row 0 l.header.gates
