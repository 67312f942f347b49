-- `frames::put::put` meets its contract: with room, the stores are the digits of one byte after the other; without it, nothing
-- changed.
use native.Mathlib.Omega.{arith}
use lib.ListN.{take}
use lib.Seq.{take_all}
use mathlib.Core.Path.{◌≡◌}
use Rattle.frames.proofs.Puts.{put_none, put_all, stands_none, length_bytes, bytes_more}
use Rattle.frames.proofs.put.put.Goals as goal

pub returns-then-not-has_room : goal.returns-then-not-has_room
returns-then-not-has_room c =
    put_none _ _ _ (grind (arith, length_bytes c.args.bytes.now))

pub loop-b-init : goal.loop-b-init
loop-b-init c = (omega arith, stands_none _ _)

pub loop-b-preserved : goal.loop-b-preserved
loop-b-preserved c =
    let l = c.loop-b in
    (omega arith, bytes_more _ l.b-index _ _ _ _ c.loop-b-test.true c.figure.ensures c.figure-in-loop-b.ensures l.invariant.1)

pub returns : goal.returns
returns c =
    let bs = c.args.bytes.now in
    let all : take c.loop-b.b-index bs ≡ bs = take_all _ _ c.loop-b-test.false in
    put_all bs _ _ _ _ (omega (arith, length_bytes bs)) (rw all at c.loop-b.invariant.1)
