-- The drawn set has the outputs, with a root the inputs of its cluster, and nothing that another such set lacks [S1] [S2] [S3].
use Prim.Native.Nat.{ℕ, zero, suc, ◌≤◌, ◌<◌}
use mathlib.Core.Path.{◌≡◌, refl, sym, ◌∙◌, ap}
use mathlib.Core.Logic.{◌⊎◌, inl, inr, ⊎_elim}
use mathlib.Core.Bool.{Bool, true, false, cond, not}
use mathlib.Core.List.Memᴰ
use mathlib.Core.List.{List, [], ◌∷◌}
use native.Mathlib.Decide.{dec_lt}
use native.Mathlib.Omega.{arith}
use borrow.Author.Tests.{ltb-true, lt-ltb, not-true}
use lib.Dec.{ltb}
use lib.ListN.{length, get_or, set, replicate, length-set, length-replicate, get_or-replicate, get_or-eq_default}
use lib.Seq.{get_or-set_same, get_or-set_other, set_out}
use Rattle.model.specs.Basics.{◌∈◌, Distinct, member, gather, upto}
use Rattle.model.specs.Network.{Network, size, fanins, outputs, position, gate_at, WellFormed}
use Rattle.model.specs.Label.{cluster}
use Rattle.model.specs.Drawing.{InputOf, inputs, Drawn, mark, select, marks, drawn}
use Rattle.model.proofs.Lists.{same_or_not, member_false, false_member, in_keep, keep_in, in_gather, gather_in, in_upto, upto_in, distinct_upto, distinct_keep}
use Rattle.model.proofs.Networks.{position_known, gate_at_position, position_gate_at}
use Rattle.model.proofs.Outputs.{outputs_in}

-- marks

abbrev Marked : List ℕ → ℕ → Type 0
Marked row x = 0 < get_or row x 0

set_keeps : (row : List ℕ) (x y : ℕ) → Marked row y → Marked (set row x 1) y
set_keeps row x y h =
    ⊎_elim
    (λ (e : y ≡ x).
    elim (dec_lt y (length row)) [
      | yes k ↦ rw (← e, get_or-set_same row y 1 0 k) (omega arith)
      | no k ↦ rw (set_out row x 1 (omega arith)) h
    ])
    (λ (d : y ≡ x → ⊥). rw (get_or-set_other row x y 1 0 d) h)
    (same_or_not y x)

set_only : (row : List ℕ) (x y : ℕ) → Marked (set row x 1) y → Marked row y ⊎ (y ≡ x)
set_only row x y h =
    ⊎_elim (λ (e : y ≡ x). inr e) (λ (d : y ≡ x → ⊥). inl (rw (get_or-set_other row x y 1 0 d) at h)) (same_or_not y x)

pub length_mark : (row xs : List ℕ) → length (mark row xs) ≡ length row
unfolding mark
length_mark row [] = refl
length_mark row (x ∷ xs) = length_mark (set row x 1) xs ∙ length-set row x 1

-- a mark is never taken away
mark_keeps : (row xs : List ℕ) (y : ℕ) → Marked row y → Marked (mark row xs) y
unfolding mark
mark_keeps row [] y h = h
mark_keeps row (x ∷ xs) y h = mark_keeps (set row x 1) xs y (set_keeps row x y h)

mark_sets : {y : ℕ} (row : List ℕ) {xs : List ℕ} → y ∈ xs → y < length row → Marked (mark row xs) y
unfolding mark
mark_sets {y = y} row (Memᴰ.head {x = x} {xs = xs} e) h =
    mark_keeps (set row x 1) xs y (rw (← e, get_or-set_same row y 1 0 h) (omega arith))
mark_sets row (Memᴰ.tail {x = x} m) h = mark_sets (set row x 1) m (omega (arith, length-set row x 1))

mark_only : (row xs : List ℕ) (y : ℕ) → Marked (mark row xs) y → Marked row y ⊎ (y ∈ xs)
unfolding mark
mark_only row [] y h = inl h
mark_only row (x ∷ xs) y h =
    ⊎_elim
    (λ (k : Marked (set row x 1) y). ⊎_elim (λ w. inl w) (λ (e : y ≡ x). inr (Memᴰ.head e)) (set_only row x y k))
    (λ (m : y ∈ xs). inr (Memᴰ.tail m))
    (mark_only (set row x 1) xs y h)

none_marked : (k x : ℕ) → Marked (replicate k 0) x → ⊥
none_marked k x h =
    elim (dec_lt x k) [
      | yes b ↦ omega (arith, get_or-replicate {A = ℕ} k x 0 0 b)
      | no b ↦ omega (arith, get_or-eq_default (replicate {A = ℕ} k 0) 0 {n = x} (omega (arith, length-replicate {A = ℕ} k 0)))
    ]

module _ (n : Network) (l : List ℕ) where
  -- a visit of the root r
  visit : List ℕ → ℕ → List ℕ
  visit row r = cond (ltb 0 (get_or row r 0)) (mark row (inputs n l r)) row

  visit_marked : (row : List ℕ) (r : ℕ) → Marked row r → visit row r ≡ mark row (inputs n l r)
  unfolding visit
  visit_marked row r h = rw (lt-ltb 0 (get_or row r 0) h)

  visit_keeps : (row : List ℕ) (r x : ℕ) → Marked row x → Marked (visit row r) x
  unfolding visit
  visit_keeps row r x h = go (ltb 0 (get_or row r 0))
    where
      go : (b : Bool) → Marked (cond b (mark row (inputs n l r)) row) x
      go true = mark_keeps row (inputs n l r) x h
      go false = h

  visit_only :
      (row : List ℕ) (r x : ℕ) → Marked (visit row r) x → Marked row x ⊎ (Marked row r × (x ∈ inputs n l r))
  unfolding visit
  visit_only row r x h = go (ltb 0 (get_or row r 0)) refl h
    where
      go :
          (b : Bool) → ltb 0 (get_or row r 0) ≡ b → Marked (cond b (mark row (inputs n l r)) row) x
          → Marked row x ⊎ (Marked row r × (x ∈ inputs n l r))
      go true e k =
          ⊎_elim (λ w. inl w) (λ (m : x ∈ inputs n l r). inr (ltb-true 0 (get_or row r 0) e, m))
          (mark_only row (inputs n l r) x k)
      go false e k = inl k

  length_visit : (row : List ℕ) (r : ℕ) → length (visit row r) ≡ length row
  unfolding visit
  length_visit row r = go (ltb 0 (get_or row r 0))
    where
      go : (b : Bool) → length (cond b (mark row (inputs n l r)) row) ≡ length row
      go true = length_mark row (inputs n l r)
      go false = refl

  pub length_select : (p : ℕ) (row : List ℕ) → length (select n l p row) ≡ length row
  unfolding select visit
  length_select zero row = refl
  length_select (suc p) row = length_select p (visit row (gate_at n p)) ∙ length_visit row (gate_at n p)

  select_keeps : (p : ℕ) (row : List ℕ) (x : ℕ) → Marked row x → Marked (select n l p row) x
  unfolding select visit
  select_keeps zero row x h = h
  select_keeps (suc p) row x h = select_keeps p (visit row (gate_at n p)) x (visit_keeps row (gate_at n p) x h)

  -- Whatever holds of the marked gates, and of the inputs of every root of which it holds, holds of the gates marked at
  -- the end.
  select_only :
      (others : ℕ → Type 0) → ((r x : ℕ) → others r → x ∈ inputs n l r → others x) → (p : ℕ) (row : List ℕ)
      → ((x : ℕ) → Marked row x → others x)
      → (x : ℕ) → Marked (select n l p row) x → others x
  unfolding select visit
  select_only others onto zero row all x h = all x h
  select_only others onto (suc p) row all x h =
      select_only others onto p (visit row (gate_at n p))
      (λ y k.
      ⊎_elim (λ (w : Marked row y). all y w)
      (λ (w : Marked row (gate_at n p) × (y ∈ inputs n l (gate_at n p))). onto (gate_at n p) y (all (gate_at n p) w.0) w.1)
      (visit_only row (gate_at n p) y k))
      x h

  -- Inputs stand below their root, so a visit marks only below its own position, and whether a gate is marked is settled
  -- when its position is visited. A marked root is visited, and its inputs are marked: the marks are closed.
  module _ (below : (r x : ℕ) → x ∈ inputs n l r → position n x < position n r) where
    select_settled :
        (p : ℕ) (row : List ℕ) (x : ℕ) → p ≤ suc (position n x) → Marked (select n l p row) x → Marked row x
    unfolding select visit
    select_settled zero row x b h = h
    select_settled (suc p) row x b h =
        ⊎_elim (λ (w : Marked row x). w)
        (λ (w : Marked row (gate_at n p) × (x ∈ inputs n l (gate_at n p))).
        absurd (let k = below (gate_at n p) x w.1 in omega (arith, position_gate_at n p)))
        (visit_only row (gate_at n p) x (select_settled p (visit row (gate_at n p)) x (omega arith) h))

    select_closed :
        (p : ℕ) (row : List ℕ) (r x : ℕ) → position n r < p → Marked (select n l p row) r → x ∈ inputs n l r
        → x < length row
        → Marked (select n l p row) x
    unfolding select visit
    select_closed zero row r x b h m k = absurd (omega arith)
    select_closed (suc p) row r x b h m k =
        ⊎_elim
        (λ (e : position n r ≡ p).
        let here : gate_at n p ≡ r = ap (gate_at n) (sym e) ∙ gate_at_position n r in
        let w : Marked row r = select_settled (suc p) row r (omega arith) h in
        select_keeps p (visit row (gate_at n p)) x
        (rw (here, visit_marked row r w) (mark_sets row m k)))
        (λ (d : position n r ≡ p → ⊥).
        select_closed p (visit row (gate_at n p)) r x (omega arith) h m (omega (arith, length_visit row (gate_at n p))))
        (same_or_not (position n r) p)

module _ (n : Network) (wf : WellFormed n) (l : List ℕ) where
  -- the inputs of a cluster

  pub inputs_in : (r x : ℕ) → x ∈ inputs n l r → InputOf n l r x
  unfolding inputs
  inputs_in r x m =
      let k = keep_in (λ x. not (member x (cluster n l r))) x (gather (fanins n) (cluster n l r)) m in
      let g = gather_in (fanins n) x (cluster n l r) k.0 in
      record {
        reader = g.0;
        inside = g.1;
        reads = g.2;
        outside = member_false x (cluster n l r) (not-true (member x (cluster n l r)) k.1);
      }

  pub in_inputs : (r x : ℕ) → InputOf n l r x → x ∈ inputs n l r
  unfolding inputs
  in_inputs r x i =
      in_keep (λ x. not (member x (cluster n l r))) (in_gather (fanins n) i.inside i.reads)
      (rw (false_member x (cluster n l r) i.outside))

  -- the drawn set as a row of marks

  in_drawn : (r : ℕ) → r < size n → Marked (marks n l) r → r ∈ drawn n l
  unfolding drawn
  in_drawn r h k = in_keep (λ r. ltb 0 (get_or (marks n l) r 0)) (in_upto (size n) h) (lt-ltb 0 (get_or (marks n l) r 0) k)

  drawn_in : (r : ℕ) → r ∈ drawn n l → (r < size n) × Marked (marks n l) r
  unfolding drawn
  drawn_in r m =
      let k = keep_in (λ r. ltb 0 (get_or (marks n l) r 0)) r (upto (size n)) m in
      (upto_in (size n) r k.0, ltb-true 0 (get_or (marks n l) r 0) k.1)

  pub drawn_known : (r : ℕ) → r ∈ drawn n l → r < size n
  drawn_known r m = (drawn_in r m).0

  pub drawn_distinct : Distinct (drawn n l)
  unfolding drawn
  drawn_distinct = distinct_keep (λ r. ltb 0 (get_or (marks n l) r 0)) (distinct_upto (size n))

  -- The gates of a cluster stand at or below its root.
  module _ (cluster_below : (r m : ℕ) → m ∈ cluster n l r → position n m ≤ position n r) where
    pub input_below : (r x : ℕ) → InputOf n l r x → position n x < position n r
    input_below r x i =
        let b = cluster_below r i.reader i.inside in
        let d = wf.below i.reader x i.reads in
        omega arith

    pub drawn_is : Drawn n l (drawn n l)
    unfolding marks
    drawn_is =
        record {
          draws =
              record {
                every_output =
                    λ v m.
                    let h = (outputs_in n v m).known in
                    in_drawn v h
                    (select_keeps n l (size n) outputs_marked v
                    (mark_sets blank m (omega (arith, length-replicate {A = ℕ} (size n) 0))));
                every_input =
                    λ r x m i.
                    let h = wf.known i.reader x i.reads in
                    let d = drawn_in r m in
                    in_drawn x h
                    (select_closed n l (λ r x m. input_below r x (inputs_in r x m)) (size n) outputs_marked r x
                    (position_known n r d.0)
                    d.1
                    (in_inputs r x i)
                    (omega (arith, length_mark blank (outputs n), length-replicate {A = ℕ} (size n) 0)));
              };
          least =
              λ others c r m.
              select_only n l others (λ r x o m. c.every_input r x o (inputs_in r x m)) (size n) outputs_marked
              (λ x k.
              ⊎_elim (λ (w : Marked blank x). absurd (none_marked (size n) x w)) (λ (w : x ∈ outputs n). c.every_output x w)
              (mark_only blank (outputs n) x k))
              r
              (drawn_in r m).1;
        }
      where
        blank : List ℕ
        blank = replicate (size n) 0

        outputs_marked : List ℕ
        outputs_marked = mark blank (outputs n)
