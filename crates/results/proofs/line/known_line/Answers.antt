-- `results::line::known_line` meets its contract: the 11, a 12 for each gate, and the lines behind them.
use Prim.Native.Nat.{ℕ, ◌-◌, ◌≤◌, ◌<◌}
use mathlib.Core.Path.{◌≡◌}
use mathlib.Core.List.{List}
use native.Mathlib.Omega.{arith}
use Rattle.model.specs.Network.{Network, size}
use Rattle.units.specs.Units.{held}
use Rattle.rows.specs.Found.{network_of}
use Rattle.rows.proofs.Holds.{few_gates}
use Rattle.selection.specs.Selection.{roots}
use Rattle.selection.proofs.Roots.{roots_few}
use Rattle.results.specs.Line.{told_line}
use Rattle.results.specs.declared.marked.Marked.{Marked}
use Rattle.results.proofs.LineAt.{first_at, label_at, later_at}
use Rattle.results.proofs.Roomy.{gates_of}
use Rattle.results.proofs.line.known_line.Goals as goal

few : (m : Marked) → m.labelled.network.header.gates ≤ 512
few m = let n = m.labelled.network in few_gates n.header n.row.now n.holds

abbrev net : Marked → Network
net m = network_of m.labelled.network

abbrev drawn_roots : Marked → List ℕ
drawn_roots m = roots m.marks.now (size (net m))

pub overflow_cast-clusters : goal.overflow_cast-clusters
overflow_cast-clusters c =
    let m = c.args.drawn.now in
    omega (arith, c.count_marked-clusters.ensures, roots_few m.marks.now m.labelled.network.header.gates, few m)

-- Labels are numbers of 32 bits, and so 32 bits hold the output delay.
pub returns-then-index-eq0 : goal.returns-then-index-eq0
unfolding told_line
returns-then-index-eq0 c =
    let m = c.args.drawn.now in
    let d = c.output_delay-delay in
    let held_whole : held 32 d.result.0 ≡ d.result.0 = omega (arith, d.ensures.small) in
    rw (first_at (net m) m.labelled.labels.now (drawn_roots m) c.if-index-eq0.true, gates_of m, ← d.ensures.delay, ← c.count_marked-clusters.ensures)
    (rw held_whole at c.result_line.ensures)

pub overflow_cast-gate : goal.overflow_cast-gate
overflow_cast-gate c = omega (arith, few c.args.drawn.now)

pub returns-then-gate-gates : goal.returns-then-gate-gates
unfolding told_line
returns-then-gate-gates c =
    let m = c.args.drawn.now in
    let gate : c.args.index - 1 < size (net m) = omega (arith, c.if-gate-gates.true, gates_of m) in
    rw (label_at (net m) m.labelled.labels.now (drawn_roots m) c.args.index c.if-index-eq0.false gate) c.label_line.ensures

pub returns : goal.returns
unfolding told_line
returns c =
    let m = c.args.drawn.now in
    let past : size (net m) ≤ c.args.index - 1 = omega (arith, c.if-gate-gates.false, gates_of m) in
    rw (later_at (net m) m.labelled.labels.now (drawn_roots m) c.args.index c.if-index-eq0.false past, gates_of m) c.later_line.ensures
