-- `rows::fan_ins` meets its contract: as many places after the count as it says, and no more than eight.
use Prim.Native.Nat.{◌+◌, ◌*◌, ◌-◌, min}
use mathlib.Core.Path.{◌≡◌}
use native.Mathlib.Omega.{arith}
use Rattle.model.specs.Ceilings.{most_fanins}
use Rattle.rows.specs.Row.{places, count_in}
use Rattle.rows.proofs.Access.{fanins_none, fanins_at}
use Rattle.rows.proofs.fan_ins.Goals as goal

pub returns-then-row-v : goal.returns-then-row-v
returns-then-row-v c = fanins_none _ _ c.if-row-v.true

pub returns : goal.returns
returns c =
    let many : c.min-many.result ≡ min (count_in c.args.row.now c.args.v) most_fanins = rw c.count.ensures at c.min-many.ensures in
    let from = places * c.args.v + 3 in
    let n : from + c.min-many.result - from ≡ c.min-many.result = omega arith in
    rw n (fanins_at _ _ c.if-row-v.false _ many)
