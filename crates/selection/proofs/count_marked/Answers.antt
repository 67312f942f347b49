-- `selection::count_marked` meets its contract. The loop's invariant: the roots among the gates that have been looked at.
use mathlib.Core.Path.{sym, ap}
use mathlib.Core.List.{[], ◌∷◌}
use native.Mathlib.Omega.{arith}
use lib.ListN.{length, length-append}
use Rattle.selection.specs.Selection.{roots}
use Rattle.selection.proofs.Roots.{roots_none, roots_marked, roots_bare, front_read, front_seen}
use Rattle.selection.proofs.count_marked.Goals as goal
use Rattle.selection.proofs.count_marked.Goals.{then-mark-ne0, else-mark-ne0}

pub loop-mark-init : goal.loop-mark-init
loop-mark-init c = (omega arith, sym (ap length (roots_none c.args.marks.now)))

pub loop-mark-preserved : goal.loop-mark-preserved
loop-mark-preserved c =
    let marks = c.args.marks.now in
    let v = c.loop-mark.mark-index in
    let read = front_read marks c.min.result v c.loop-mark-test.true in
    elim c.if-mark-ne0.branch [
      | then-mark-ne0 w ↦ (
        omega arith,
        omega (arith, ap length (roots_marked marks v (rw read at w.if-mark-ne0.true)), length-append (roots marks v) (v ∷ [])),
      )
      | else-mark-ne0 w ↦ (omega arith, omega (arith, ap length (roots_bare marks v (rw read at w.if-mark-ne0.false))))
    ]

pub returns : goal.returns
returns c =
    let a = c.args in
    let seen = front_seen a.marks.now c.min.result a.gates c.loop-mark.mark-index c.min.ensures (omega arith) (omega arith) in
    omega (arith, ap length seen)
