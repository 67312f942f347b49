-- `frames::put::put` meets its contract. The loop's invariant: the digits of the first bytes stand in the row, and next is the
-- place past them.
use Prim.Native.Nat.{◌+◌, ◌*◌}
use mathlib.Core.Path.{◌≡◌}
use lib.ListN.{take}
use Rattle.frames.proofs.Puts.{Stands}
use Rattle.frames.proofs.put.put.Given as goal

abbrev pub invariant-loop-b : goal.invariant-loop-b
invariant-loop-b l = (l.next ≡ l.at + 2 * l.b-index) × Stands (take l.b-index l.bytes) l.at l.initial.out l.next l.out
