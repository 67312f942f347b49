-- `results::block::lines_behind` meets its contract. No line is told past the last one, of which there are at most two for each gate
-- and two more.
use Prim.Native.Nat.{ℕ, ◌+◌, ◌≤◌, ◌<◌}
use mathlib.Core.List.{List}
use native.Mathlib.Numerals.{add-one}
use native.Mathlib.Omega.{arith}
use lib.ListN.{length, drop, length-drop}
use Rattle.rows.specs.Found.{network_of}
use Rattle.rows.proofs.Holds.{few_gates}
use Rattle.results.specs.declared.marked.Marked.{Marked}
use Rattle.results.specs.Block.{drawn_lines, fitting}
use Rattle.results.proofs.Roomy.{gates_of}
use Rattle.results.proofs.Fitting.{fitting_few, drop_full, drop_at_line, running_starts, running_room, running_kept, running_more, running_turns, running_ends}
use Rattle.results.proofs.Blocks.{lines_full, lines_count}
use Rattle.results.proofs.block.lines_behind.Goals as goal

abbrev lines_of : Marked → List (List ℕ)
lines_of m = drawn_lines (network_of m.labelled.network) m.labelled.labels.now m.marks.now

-- the lines that have room are few, from any index on
few : (m : Marked) (index room count : ℕ) → count < length (fitting room (drop index (lines_of m))) → index + (count + 1) ≤ 1_026
few m index room count left =
    let n = m.labelled.network in
    let most = lines_count (network_of n) m.labelled.labels.now m.marks.now in
    let gates = few_gates n.header n.row.now n.holds in
    omega (arith, left, fitting_few room (drop index (lines_of m)), length-drop index (lines_of m), gates_of m)

pub loop-length-init : goal.loop-length-init
loop-length-init c = running_starts _ _ c.requires

pub overflow_add-at : goal.overflow_add-at
overflow_add-at c = omega (arith, running_room _ _ c.loop-length.invariant)

pub overflow_add-count : goal.overflow_add-count
overflow_add-count c =
    omega (arith, few c.args.drawn.now c.args.index (length c.args.out.now) c.loop-length.count (running_more _ _ c.loop-length.invariant c.loop-length-test.true))

pub overflow_add-index : goal.overflow_add-index
overflow_add-index c =
    omega (arith, few c.args.drawn.now c.args.index (length c.args.out.now) c.loop-length.count (running_more _ _ c.loop-length.invariant c.loop-length-test.true))

pub line_from-length-requires : goal.line_from-length-requires
line_from-length-requires c = omega (arith, running_room _ _ c.loop-length.invariant, running_kept _ _ c.loop-length.invariant)

pub loop-length-smaller : goal.loop-length-smaller
loop-length-smaller c = omega (arith, running_more _ _ c.loop-length.invariant c.loop-length-test.true)

pub loop-length-preserved : goal.loop-length-preserved
loop-length-preserved c =
    rw add-one
    (running_turns _ _ c.loop-length.invariant c.loop-length-test.true
    (rw (drop_at_line, ← add-one) c.line_from-length.ensures))

pub returns : goal.returns
returns c =
    let m = c.args.drawn.now in
    running_ends _ _ c.loop-length.invariant
    (drop_full c.args.index (lines_of m) (lines_full (network_of m.labelled.network) m.labelled.labels.now m.marks.now))
    (λ more. omega (arith, c.loop-length-test.false))
