-- `selection::draw_known` meets its contract: the marks stand in front of the row, and the marked gates are the
-- roots of the drawn clusters.
use Prim.Native.Nat.{ℕ}
use mathlib.Core.Path.{◌≡◌, ◌∙◌, ap}
use mathlib.Core.Logic.{inr}
use mathlib.Core.List.{List, ◌++◌}
use lib.ListN.{length, drop}
use Rattle.model.specs.Drawing.{marks}
use Rattle.rows.specs.Found.{network_of}
use Rattle.rows.proofs.Holds.{network_size}
use Rattle.selection.specs.Selection.{roots}
use Rattle.selection.proofs.Roots.{drawn_roots}
use Rattle.selection.proofs.Answered.{drawn_short, drawn_made}
use Rattle.selection.proofs.draw_known.Goals as goal

pub returns-then-marks-gates : goal.returns-then-marks-gates
returns-then-marks-gates c =
    rw c.no_room.ensures (drawn_short c.args.labelled.now.network (inr c.if-marks-gates.true))

pub returns : goal.returns
returns c =
    let l = c.args.labelled.now in
    let n = l.network in
    let labels = l.labels.now in
    let rest = drop n.header.gates c.args.marks.now in
    let stands : c.select.new.marks ++ rest ≡ marks (network_of n) labels ++ rest =
    ap (λ (row : List ℕ). row ++ rest) c.select.ensures in
    drawn_made n l.enough c.if-marks-gates.false
    (c.count_marked.ensures
    ∙ ap (λ (row : List ℕ). length (roots row n.header.gates)) stands
    ∙ ap length (drawn_roots (network_of n) labels n.header.gates rest (network_size n.header n.row.now)))
    c.output_delay.ensures.delay
    stands
