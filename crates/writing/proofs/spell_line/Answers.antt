-- `writing::spell_line` meets its contract: line 0 is the header, a line up to the number of gates that gate's,
-- the next one the end, and past it there is none.
use Prim.Native.Nat.{◌<◌, ◌-◌}
use native.Mathlib.Omega.{arith}
use Rattle.frames.proofs.WrittenLines.{line_none}
use Rattle.rows.proofs.Holds.{few_gates}
use Rattle.writing.proofs.WrittenLines.{header_at, gate_at, end_at, none_at}
use Rattle.writing.proofs.spell_line.Goals as goal

pub returns-then-index-eq0 : goal.returns-then-index-eq0
returns-then-index-eq0 c =
    let n = c.args.network.now in
    rw (header_at n.header n.row.now c.if-index-eq0.true c.capacity_place-capacity.ensures c.delay_place.ensures) c.spell_header.ensures

pub returns-then-gate-header : goal.returns-then-gate-header
returns-then-gate-header c =
    let n = c.args.network.now in
    rw (gate_at n.header n.row.now c.args.index c.if-index-eq0.false c.if-gate-header.true) c.spell_gate.ensures

pub overflow_cast-header : goal.overflow_cast-header
overflow_cast-header c =
    record { fits = omega (arith, few_gates _ _ c.args.network.now.holds) }

pub returns-then-gate-header-2 : goal.returns-then-gate-header-2
returns-then-gate-header-2 c =
    let n = c.args.network.now in
    rw (end_at n.header n.row.now c.args.index c.if-index-eq0.false c.if-gate-header-2.true) c.spell_end.ensures

pub returns : goal.returns
returns c =
    let n = c.args.network.now in
    let past : n.header.gates < c.args.index - 1 = omega (arith, c.if-gate-header.false, c.if-gate-header-2.false) in
    rw (none_at n.header n.row.now c.args.index c.if-index-eq0.false past) (line_none _)
