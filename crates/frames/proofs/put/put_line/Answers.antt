-- `frames::put::put_line` meets its contract: with room for the line, its digits are put and the line feed past them; without
-- it, nothing changed.
use Prim.Native.Nat.{◌≤◌}
use native.Mathlib.Omega.{arith}
use lib.ListN.{length}
use Rattle.frames.specs.Digits.{spell_line}
use Rattle.frames.proofs.Puts.{put_stands, length_bytes}
use Rattle.frames.proofs.WrittenLines.{length_line, line_short, line_ends}
use Rattle.frames.proofs.put.put_line.Goals as goal

pub returns-then-out-bytes : goal.returns-then-out-bytes
returns-then-out-bytes c =
    let bs = c.args.bytes.now in
    line_short (spell_line bs) c.args.out.now c.no_room.ensures (omega (arith, c.if-out-bytes.true, length_line bs, length_bytes bs))

pub returns : goal.returns
returns c =
    let bs = c.args.bytes.now in
    let fits : length (spell_line bs) ≤ length c.args.out.now = omega (arith, c.if-out-bytes.false, length_line bs, length_bytes bs) in
    line_ends bs c.args.out.now _ _ fits (put_stands bs 0 _ _ _ (omega (arith, fits, length_line bs)) c.put-end.ensures) _ _ c.feed.ensures
