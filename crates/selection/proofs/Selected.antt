-- What the sweep marks is what the model selects.
use Prim.Native.Nat.{ℕ, suc, ◌≤◌, ◌<◌}
use mathlib.Core.Path.{◌≡◌, refl, sym, ◌∙◌, ap}
use mathlib.Core.Logic.{⊎_elim}
use mathlib.Core.Bool.{Bool, true, false, cond, not}
use mathlib.Core.List.{List}
use native.Mathlib.Omega.{arith}
use borrow.Author.Tests.{lt-ltb, le-ltb}
use lib.Dec.{eqb}
use lib.ListN.{length, get_or, replicate}
use lib.Seq.{ext_get_or}
use Rattle.model.specs.Basics.{◌∈◌, member, keep, gather, upto}
use Rattle.model.specs.Ceilings.{most_gates}
use Rattle.model.specs.Network.{Network, size, fanins, outputs, position, gate_at, WellFormed}
use Rattle.model.specs.Label.{cluster}
use Rattle.model.specs.Drawing.{inputs, mark, select, marks, members}
use Rattle.model.proofs.Drawn.{length_mark}
use Rattle.model.proofs.Lists.{true_or_false, member_true, true_member, member_false, false_member, in_keep, keep_in, in_gather, gather_in, in_upto, upto_in}
use Rattle.model.proofs.UpperBound.{member_position}
use Rattle.rows.specs.declared.Header.{Header}
use Rattle.rows.specs.Row.{network_in}
use Rattle.rows.specs.steps.Holds.{Holds}
use Rattle.rows.proofs.Holds.{network_size, few_gates}
use Rattle.labelling.specs.steps.Standing.{Below}
use Rattle.selection.specs.steps.Marking.{fanins_of, unread, outside}
use Rattle.selection.proofs.Marks.{mark_at, fresh_at, keep_agree}
use Rattle.selection.proofs.Unread.{fanins_are, outputs_are}

-- lists with the same members

same_members :
    (xs ys : List ℕ) → ((x : ℕ) → x ∈ xs → x ∈ ys) → ((x : ℕ) → x ∈ ys → x ∈ xs) → (y : ℕ) → member y xs ≡ member y ys
same_members xs ys to from y =
    ⊎_elim (λ (t : member y xs ≡ true). t ∙ sym (true_member (to y (member_true y xs t))))
    (λ (f : member y xs ≡ false). f ∙ sym (false_member y ys (λ m. member_false y xs f (from y m))))
    (true_or_false (member y xs))

-- A row is marked the same by lists with the same members.
mark_same : (row xs ys : List ℕ) → ((y : ℕ) → member y xs ≡ member y ys) → mark row xs ≡ mark row ys
mark_same row xs ys h =
    ext_get_or 0 (mark row xs) (mark row ys) (length_mark row xs ∙ sym (length_mark row ys))
    (λ i b.
    let known : i < length row = omega (arith, length_mark row xs) in
    mark_at row xs i known ∙ ap (λ (t : Bool). cond t 1 (get_or row i 0)) (h i) ∙ sym (mark_at row ys i known))

one_or_none : (b : Bool) → eqb (cond b 1 0) 0 ≡ not b
one_or_none true = refl
one_or_none false = refl

module _ (n : Network) (wf : WellFormed n) (l : List ℕ) (r : ℕ) (known : r < size n) where
  -- the gates of a cluster are gates of the network
  member_known : (x : ℕ) → x ∈ cluster n l r → x < size n
  unfolding position
  member_known x m = omega (arith, member_position n wf l r x m)

  to_cluster : (x : ℕ) → x ∈ members n l r → x ∈ cluster n l r
  unfolding members
  to_cluster x m = member_true x (cluster n l r) (keep_in (λ y. member y (cluster n l r)) x (upto (size n)) m).1

  to_members : (x : ℕ) → x ∈ cluster n l r → x ∈ members n l r
  unfolding members
  to_members x m = in_keep (λ y. member y (cluster n l r)) (in_upto (size n) (member_known x m)) (true_member m)

  -- the row of marks of the members
  abbrev inside : List ℕ
  inside = mark (replicate most_gates 0) (members n l r)

  module _ (few : size n ≤ most_gates) where
    outside_cluster : (x : ℕ) → x < size n → eqb (get_or inside x 0) 0 ≡ not (member x (cluster n l r))
    outside_cluster x h =
        ap (λ (m : ℕ). eqb m 0) (fresh_at most_gates (members n l r) x (omega arith))
        ∙ one_or_none (member x (members n l r))
        ∙ ap not (same_members (members n l r) (cluster n l r) to_cluster to_members x)

    -- Marking what lies outside, member by member, marks the inputs of the cluster. The members rise and the cluster is in the
    -- order in which it grew, but they are the same gates: what lies outside is the same, and so are the fan-ins. Lists with the
    -- same members leave the same marks.
    inputs_marked : (row : List ℕ) → mark row (outside inside (gather (fanins n) (members n l r))) ≡ mark row (inputs n l r)
    unfolding outside inputs
    inputs_marked row =
        let out : ℕ → Bool = λ x. not (member x (cluster n l r)) in
        let all = gather (fanins n) in
        ap (mark row)
        (keep_agree (λ x. eqb (get_or inside x 0) 0) out (all (members n l r))
        (λ x m.
        let g = gather_in (fanins n) x (members n l r) m in
        outside_cluster x (wf.known g.0 x g.2)))
        ∙ mark_same row (keep out (all (members n l r))) (keep out (all (cluster n l r)))
        (same_members _ _ (λ x m. moved to_cluster x m) (λ x m. moved to_members x m))
      where
        moved : {xs ys : List ℕ} → ((x : ℕ) → x ∈ xs → x ∈ ys) → (x : ℕ)
            → x ∈ keep (λ x. not (member x (cluster n l r))) (gather (fanins n) xs)
            → x ∈ keep (λ x. not (member x (cluster n l r))) (gather (fanins n) ys)
        moved {xs} {ys} to x m =
            let k = keep_in (λ x. not (member x (cluster n l r))) x (gather (fanins n) xs) m in
            let g = gather_in (fanins n) x xs k.0 in
            in_keep (λ x. not (member x (cluster n l r))) (in_gather (fanins n) (to g.0 g.1) g.2) k.1

-- the sweep, a gate at a time

module _ (n : Network) (l : List ℕ) where
  pub select_marked : (row : List ℕ) (p : ℕ) → (get_or row p 0 ≡ 0 → ⊥)
      → select n l p (mark row (inputs n l p)) ≡ select n l (suc p) row
  unfolding select gate_at
  select_marked row p h =
      ap (λ (t : Bool). select n l p (cond t (mark row (inputs n l p)) row)) (sym (lt-ltb 0 (get_or row p 0) (omega arith)))

  pub select_bare : (row : List ℕ) (p : ℕ) → get_or row p 0 ≡ 0 → select n l p row ≡ select n l (suc p) row
  unfolding select gate_at
  select_bare row p h =
      ap (λ (t : Bool). select n l p (cond t (mark row (inputs n l p)) row)) (sym (le-ltb 0 (get_or row p 0) (omega arith)))

  pub select_none : (row : List ℕ) → select n l 0 row ≡ row
  unfolding select
  select_none row = refl

-- of a network that stands in its row

pub members_below : (h : Header) (row l : List ℕ) (r : ℕ) → Below h.gates (members (network_in h row) l r)
unfolding members
members_below h row l r x m =
    let n = network_in h row in
    omega (arith, network_size h row, upto_in (size n) x (keep_in (λ y. member y (cluster n l r)) x (upto (size n)) m).0)

module _ (h : Header) (row : List ℕ) (s : Holds h row) (l : List ℕ) where
  abbrev n : Network
  n = network_in h row

  -- A sweep from the outputs' marks gives the marks of the drawn clusters.
  pub selected : select n l h.gates (mark (replicate h.gates 0) (unread row h.gates)) ≡ marks n l
  unfolding marks
  selected =
      rw (← outputs_are h row s)
      (ap (λ (k : ℕ). select n l k (mark (replicate k 0) (outputs n))) (sym (network_size h row)))

  -- What the code marks for a root, from the members that it found.
  pub inputs_drawn : (r : ℕ) → r < h.gates → (found marks : List ℕ) → found ≡ members n l r
      → mark marks (outside (mark (replicate most_gates 0) found) (fanins_of row found)) ≡ mark marks (inputs n l r)
  inputs_drawn r known found marks e =
      let size_is = network_size h row in
      rw (e, fanins_are h row (members n l r) (members_below h row l r))
      (inputs_marked n s.formed l r (omega arith) (omega (arith, few_gates h row s)) marks)
