-- `selection::largest_unmarked` meets its contract. The loop's invariant: the largest label of the gates without a
-- mark that have been looked at.
use Prim.Native.Nat.{ℕ, ◌<◌}
use mathlib.Core.Path.{◌≡◌, refl, sym, ◌∙◌, ap}
use native.Mathlib.Omega.{arith}
use lib.ListN.{length, get_or, take}
use lib.Seq.{get_or-take, length-take-le}
use Rattle.model.specs.Basics.{keep, upto, largest}
use Rattle.std.proofs.lemmas.List.{length_push}
use Rattle.std.proofs.lemmas.Slice.Zip.{zip_turn, zip_end}
use Rattle.rows.proofs.Holds.{few_gates}
use Rattle.selection.specs.steps.Marking.{unmarked, largest_label}
use Rattle.selection.proofs.Marks.{largest_next, largest_same}
use Rattle.selection.proofs.largest_unmarked.Goals as goal
use Rattle.selection.proofs.largest_unmarked.Goals.{In-Some}

pub loop-mark-init : goal.loop-mark-init
unfolding largest_label unmarked upto keep largest
loop-mark-init c = (omega arith, refl)

-- the pair of this turn
turn : (c : In-Some) → let v = length c.loop-mark.yielded in
    (get_or c.args.row.now v 0 ≡ c.in-Some.field-0-0.now) × (get_or c.args.labelled.now.labels.now v 0 ≡ c.in-Some.field-0-1.now)
turn c =
    let l = c.args.labelled.now in
    let gates = l.network.header.gates in
    let v = length c.loop-mark.yielded in
    let t = zip_turn c.args.row.now (take gates l.labels.now) c.loop-mark.yielded c.into_iter-mark-iterator.result
    c.loop-mark.mark-iterator c.next.new.self _ (cc) (cc) c.loop-mark.yielded_by _ c.in-Some.is c.next.ensures.steps in
    let below : v < gates = omega (arith, t, length-take-le gates l.labels.now l.enough) in
    (sym (t.2 0), sym (t.3 0 ∙ get_or-take gates l.labels.now v 0 below))

pub loop-mark-preserved-then-mark-eq0 : goal.loop-mark-preserved-then-mark-eq0
loop-mark-preserved-then-mark-eq0 c =
    let t = turn (goal.at.loop-mark-preserved-then-mark-eq0 c).In-Some in
    rw (length_push, largest_next c.args.labelled.now.labels.now c.args.row.now (length c.loop-mark.yielded) (t.0 ∙ c.if-mark-eq0.true))
    (omega arith)

pub loop-mark-preserved : goal.loop-mark-preserved
loop-mark-preserved c =
    let t = turn (goal.at.loop-mark-preserved c).In-Some in
    let marked : get_or c.args.row.now (length c.loop-mark.yielded) 0 ≡ 0 → ⊥ = λ e. c.if-mark-eq0.false (sym t.0 ∙ e) in
    rw (length_push, largest_same c.args.labelled.now.labels.now c.args.row.now (length c.loop-mark.yielded) marked)
    c.loop-mark.invariant

pub returns : goal.returns
returns c =
    let l = c.args.labelled.now in
    let gates = l.network.header.gates in
    let ended = zip_end c.args.row.now (take gates l.labels.now) c.loop-mark.yielded c.into_iter-mark-iterator.result
    c.loop-mark.mark-iterator c.next.new.self _ (cc) (cc) c.loop-mark.yielded_by c.in-None.is c.next.ensures.steps in
    let all : length c.loop-mark.yielded ≡ gates =
    omega (arith, ended, length-take-le gates l.labels.now l.enough, few_gates _ _ l.network.holds) in
    record {
      small = c.loop-mark.invariant.0;
      largest = c.loop-mark.invariant.1 ∙ ap (λ (k : ℕ). largest_label l.labels.now (unmarked c.args.row.now k)) all;
    }
