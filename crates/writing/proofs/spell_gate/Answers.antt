-- `writing::spell_gate` meets its contract: the frame's parts put one after the other, and the line feed.
use mathlib.Core.Path.{ap}
use native.Mathlib.Omega.{arith}
use lib.ListN.{length}
use Rattle.frames.proofs.Puts.{put_word}
use Rattle.frames.proofs.WrittenLines.{line_short, line_ends}
use Rattle.rows.specs.Spelling.{gate_line}
use Rattle.writing.proofs.WrittenLines.{frame, gate_stands, length_gate_line, few_fanins, gate_line_is}
use Rattle.writing.proofs.spell_gate.Goals as goal

pub overflow_add-count : goal.overflow_add-count
overflow_add-count c =
    record { fits = omega (arith, few_fanins c.args.network.now.holds c.requires c.fan_ins-fan_ins.ensures) }

pub returns-then-out-count : goal.returns-then-out-count
returns-then-out-count c =
    let row = c.args.network.now.row.now in
    line_short (gate_line row c.args.gate) c.args.out.now c.no_room.ensures
    (omega (arith, length_gate_line row c.args.gate, ap length c.fan_ins-fan_ins.ensures, c.if-out-count.true))

pub overflow_cast-count : goal.overflow_cast-count
overflow_cast-count c =
    record { fits = omega (arith, few_fanins c.args.network.now.holds c.requires c.fan_ins-fan_ins.ensures) }

pub returns : goal.returns
returns c =
    let row = c.args.network.now.row.now in
    let fs = c.fan_ins-fan_ins.result.now in
    let bytes = frame c.weight_place-weight.result c.delay_place-delay.result (length fs) fs in
    let is_line = gate_line_is c.args.network.now.holds c.requires c.weight.ensures c.weight_place-weight.ensures c.delay.ensures c.delay_place-delay.ensures c.fan_ins-fan_ins.ensures in
    let stands =
    gate_stands _ _ _ _ c.if-out-count.false
    c.put-at.ensures
    (put_word _ c.to_be_bytes.ensures c.put-at-2.ensures)
    (put_word _ c.to_be_bytes-2.ensures c.put-at-3.ensures)
    c.put-at-4.ensures
    c.put_words-at.ensures in
    rw is_line
    (line_ends bytes c.args.out.now _ _
    (omega (arith, ap length is_line, length_gate_line row c.args.gate, ap length c.fan_ins-fan_ins.ensures, c.if-out-count.false))
    stands _ _ c.feed.ensures)
