-- `selection::nth_marked` meets its contract. The loop's invariant: the roots among the gates that have been looked
-- at, and those left to pass by, are as many as the index says.
use mathlib.Core.Path.{ap}
use mathlib.Core.List.{[], ◌∷◌}
use native.Mathlib.Omega.{arith}
use lib.ListN.{length, length-append}
use Rattle.std.proofs.lemmas.List.{length-take}
use Rattle.selection.specs.Selection.{roots}
use Rattle.selection.proofs.Roots.{roots_none, roots_marked, roots_bare, front_read, front_seen, root_here, root_past}
use Rattle.selection.proofs.nth_marked.Goals as goal
use Rattle.selection.proofs.nth_marked.Goals.{then-mark-ne0+else-left-eq0, else-mark-ne0}

pub loop-root-init : goal.loop-root-init
loop-root-init c = omega (arith, ap length (roots_none c.args.marks.now))

pub returns-then-left-eq0 : goal.returns-then-left-eq0
returns-then-left-eq0 c =
    let marks = c.args.marks.now in
    let v = c.loop-root.root in
    let read = front_read marks c.min.result v c.loop-root-test.true in
    root_here marks v _ _ _ (omega (arith, length-take c.min.result marks)) (rw read at c.if-mark-ne0.true)
    (omega (arith, c.if-left-eq0.true, c.loop-root.invariant))

pub loop-root-preserved : goal.loop-root-preserved
loop-root-preserved c =
    let marks = c.args.marks.now in
    let v = c.loop-root.root in
    let read = front_read marks c.min.result v c.loop-root-test.true in
    elim c.if-mark-ne0.branch [
      | then-mark-ne0+else-left-eq0 w ↦
          omega (arith, ap length (roots_marked marks v (rw read at w.if-mark-ne0.true)), length-append (roots marks v) (v ∷ []))
      | else-mark-ne0 w ↦ omega (arith, ap length (roots_bare marks v (rw read at w.if-mark-ne0.false)))
    ]

pub returns : goal.returns
returns c =
    let a = c.args in
    let seen = front_seen a.marks.now c.min.result a.gates c.loop-root.root c.min.ensures (omega arith) (omega arith) in
    root_past a.marks.now a.gates c.loop-root.root a.index seen (omega arith)
