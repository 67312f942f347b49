-- `rows::put_fan_in` meets its contract: the one place is written where it is in the row and in the block.
use mathlib.Core.Logic.{inl, inr}
use native.Mathlib.Omega.{arith}
use Rattle.rows.proofs.Access.{fanin_blockless, fanin_placeless, fanin_stored}
use Rattle.rows.proofs.put_fan_in.Goals as goal

pub returns-then-row-v : goal.returns-then-row-v
returns-then-row-v c =
    elim c.then-row-v.either [
      | inl h ↦ fanin_blockless _ _ _ _ h
      | inr h ↦ fanin_placeless _ _ _ _ h.0 h.1
    ]

pub returns : goal.returns
returns c =
    fanin_stored _ _ _ _ c.if-row-v.false (omega arith)
