-- `rows::put_gate` meets its contract: three places are set, and those behind them filled with 0.
use Prim.Native.Nat.{ℕ}
use mathlib.Core.Path.{◌∙◌, ap}
use native.Mathlib.Omega.{arith}
use lib.ListN.{length-set, length-take, length-drop, replicate}
use Rattle.rows.proofs.Access.{gate_blockless, zeroed_part, gate_stored}
use Rattle.rows.proofs.put_gate.Goals as goal

pub returns-then-row-v : goal.returns-then-row-v
returns-then-row-v c = gate_blockless _ _ _ _ _ c.if-row-v.true

pub returns : goal.returns
returns c =
    zeroed_part _ _ _ _ (omega arith) (simp length-set (omega arith)) (
    c.fill.ensures.after (λ y e. e) ∙ ap (λ (n : ℕ). replicate {A = ℕ} n 0) (simp (length-take, length-drop, length-set) (omega arith)))
    ∙ gate_stored _ _ _ _ _ c.if-row-v.false c.weight_place.ensures c.delay_place.ensures (c.from.ensures ∙ c.count_place.ensures)
