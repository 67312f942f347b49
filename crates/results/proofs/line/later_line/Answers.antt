-- `results::line::later_line` meets its contract: the roots' lines by index, then the end, then nothing.
use Prim.Native.Nat.{ℕ, ◌<◌}
use mathlib.Core.Path.{◌≡◌}
use mathlib.Core.List.{List}
use native.Mathlib.Omega.{arith}
use lib.ListN.{length}
use Rattle.frames.proofs.WrittenLines.{line_none}
use Rattle.rows.specs.Found.{network_of}
use Rattle.rows.proofs.Holds.{few_gates}
use Rattle.selection.specs.Selection.{roots}
use Rattle.selection.proofs.Roots.{root_known}
use Rattle.results.specs.declared.marked.Marked.{Marked}
use Rattle.results.proofs.LineAt.{cluster_at, end_at, none_at}
use Rattle.results.proofs.Roomy.{gates_of}
use Rattle.results.proofs.line.later_line.Goals as goal

abbrev drawn_roots : Marked → List ℕ
drawn_roots m = roots m.marks.now m.labelled.network.header.gates

pub member_line-requires : goal.member_line-requires
member_line-requires c =
    let m = c.args.drawn.now in
    let gates = m.labelled.network.header.gates in
    let known = root_known m.marks.now gates c.args.index gates (omega (arith, c.count_marked-clusters.ensures)) in
    omega (arith, c.nth_marked-root.ensures)

pub returns-then-index-clusters : goal.returns-then-index-clusters
returns-then-index-clusters c =
    let m = c.args.drawn.now in
    let there : c.args.index < length (drawn_roots m) = omega (arith, c.count_marked-clusters.ensures) in
    rw (cluster_at (network_of m.labelled.network) m.labelled.labels.now (drawn_roots m) c.args.index m.labelled.network.header.gates there, ← c.nth_marked-root.ensures)
    c.member_line.ensures

pub overflow_cast-gates : goal.overflow_cast-gates
overflow_cast-gates c =
    let n = c.args.drawn.now.labelled.network in omega (arith, few_gates n.header n.row.now n.holds)

pub returns-then-index-clusters-2 : goal.returns-then-index-clusters-2
returns-then-index-clusters-2 c =
    let m = c.args.drawn.now in
    let last : c.args.index ≡ length (drawn_roots m) = omega (arith, c.count_marked-clusters.ensures) in
    rw (end_at (network_of m.labelled.network) m.labelled.labels.now (drawn_roots m) c.args.index last, gates_of m) c.end_line.ensures

pub returns : goal.returns
returns c =
    let m = c.args.drawn.now in
    let past : length (drawn_roots m) < c.args.index = omega (arith, c.count_marked-clusters.ensures) in
    rw (none_at (network_of m.labelled.network) m.labelled.labels.now (drawn_roots m) c.args.index past) (line_none c.args.out.now)
