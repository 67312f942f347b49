-- No copy beats its label.
use Prim.Native.Nat.{ℕ, zero, suc, ◌+◌, ◌≤◌, ◌<◌}
use mathlib.Core.Path.{◌≡◌, refl, sym, ◌∙◌, ap}
use mathlib.Core.Logic.{◌⊎◌, inl, inr, ⊎_elim}
use mathlib.Core.Bool.{true, false}
use mathlib.Core.List.Memᴰ
use mathlib.Core.List.{List, [], ◌∷◌, map}
use mathlib.Core.Option.{some}
use native.Mathlib.Omega.{arith}
use borrow.Author.Tests.{eq-eqb, ne_eqb}
use lib.Dec.{eqb}
use Rattle.model.specs.Basics.{◌∈◌, Distinct, more, total}
use Rattle.model.specs.Network.{Network, size, weight, delay, fanins, input, position, WellFormed}
use Rattle.model.specs.Onward.{Path, start, onto, onward}
use Rattle.model.specs.Label.{pull, ordered, joined, stop, Counts, nothing, input_inside, stopped, labels, label}
use Rattle.model.specs.Clustering.{Clustering, Wired, Fits, in_cluster, cluster_weight, crossing, CopyPath}
use Rattle.model.specs.Clustering as Clusterings
use Rattle.model.proofs.Lists.{true_or_false, same_or_not, in_or_out, ∈-subst, in_map, in_keep, total_map, total_within}
use Rattle.model.proofs.Networks.{input_true, reads_something}
use Rattle.model.proofs.Paths.{path_known}
use Rattle.model.proofs.Onward.{in_cone_true, onward_path}
use Rattle.model.proofs.Growth.{joined_in, stop_in, stop_no_member, stop_overfills, member_pull, cluster_distinct, cluster_of_reader}
use Rattle.model.proofs.Order.{ordered_in}
use Rattle.model.proofs.Label.{label_input, label_largest}

-- A list of gates that weighs more than a cluster has a gate with no copy there: it is searched for.

missing_from : (xs ys : List ℕ) → ((x : ℕ) → x ∈ xs → x ∈ ys) ⊎ ((x : ℕ) × (x ∈ xs) × (x ∈ ys → ⊥))
missing_from [] ys = inl (λ x m. absurd (Memᴰ.not-nil m))
missing_from (x ∷ xs) ys =
    ⊎_elim
    (λ (h : x ∈ ys).
    ⊎_elim
    (λ (rest : (y : ℕ) → y ∈ xs → y ∈ ys).
    inl (λ y m. ⊎_elim (λ (e : y ≡ x). ∈-subst (sym e) h) (λ (m' : y ∈ xs). rest y m') (Memᴰ.cases_cons m)))
    (λ (w : (y : ℕ) × (y ∈ xs) × (y ∈ ys → ⊥)). inr (w.0, Memᴰ.tail w.1, w.2))
    (missing_from xs ys))
    (λ (h : x ∈ ys → ⊥). inr (x, Memᴰ.head refl, h))
    (in_or_out x ys)

module _ (n : Network) (k : Clustering) where
  no_copy_there :
      (j : ℕ) {gates : List ℕ} → Distinct gates → cluster_weight n k j < total (weight n) gates
      → (x : ℕ) × (x ∈ gates) × ((c : ℕ) → c ∈ k.copies → k.cluster_of c ≡ j → k.gate_of c ≡ x → ⊥)
  unfolding cluster_weight in_cluster
  no_copy_there j {gates} d h =
      ⊎_elim
      (λ (all : (x : ℕ) → x ∈ gates → x ∈ map k.gate_of (in_cluster k j)).
      absurd (omega (arith, total_within (weight n) (map k.gate_of (in_cluster k j)) d all, total_map (weight n) k.gate_of (in_cluster k j))))
      (λ (w : (x : ℕ) × (x ∈ gates) × (x ∈ map k.gate_of (in_cluster k j) → ⊥)). (
        w.0,
        w.1,
        λ c m e f. w.2 (∈-subst f (in_map k.gate_of (in_keep (λ c'. eqb (k.cluster_of c') j) m (eq-eqb _ _ e)))),
      ))
      (missing_from gates (map k.gate_of (in_cluster k j)))

  -- An edge inside a cluster is free, one between clusters costs a hop, and two edges pay at least what one pays.

  pub crossing_none : (b c : ℕ) → k.cluster_of b ≡ k.cluster_of c → crossing n k b c ≡ 0
  unfolding crossing
  crossing_none b c e = rw (eq-eqb (k.cluster_of b) (k.cluster_of c) e)

  pub crossing_hop : (b c : ℕ) → (k.cluster_of b ≡ k.cluster_of c → ⊥) → crossing n k b c ≡ n.hop
  unfolding crossing
  crossing_hop b c h = rw (ne_eqb (k.cluster_of b) (k.cluster_of c) h)

  pub crossing_at_most : (b c : ℕ) → crossing n k b c ≤ n.hop
  crossing_at_most b c =
      ⊎_elim (λ (e : k.cluster_of b ≡ k.cluster_of c). omega (arith, crossing_none b c e))
      (λ (h : k.cluster_of b ≡ k.cluster_of c → ⊥). omega (arith, crossing_hop b c h))
      (same_or_not (k.cluster_of b) (k.cluster_of c))

  crossing_triangle : (a b c : ℕ) → crossing n k a c ≤ crossing n k a b + crossing n k b c
  crossing_triangle a b c =
      ⊎_elim
      (λ (e : k.cluster_of a ≡ k.cluster_of b).
      ⊎_elim (λ (f : k.cluster_of b ≡ k.cluster_of c). omega (arith, crossing_none a c (e ∙ f)))
      (λ (h : k.cluster_of b ≡ k.cluster_of c → ⊥). omega (arith, crossing_hop b c h, crossing_at_most a c))
      (same_or_not (k.cluster_of b) (k.cluster_of c)))
      (λ (h : k.cluster_of a ≡ k.cluster_of b → ⊥). omega (arith, crossing_hop a b h, crossing_at_most a c))
      (same_or_not (k.cluster_of a) (k.cluster_of b))

  -- What following feeders back from a copy c finds: a copy of x from which every path goes on to c and grows by at
  -- least s on the way, and by a hop where the two lie in different clusters.
  pub record Back (c x s : ℕ) : Type 0 where
    pub copy : ℕ
    pub present : copy ∈ k.copies
    pub of_it : k.gate_of copy ≡ x
    pub goes_on : (d : ℕ) → CopyPath n k copy d → (e : ℕ) × CopyPath n k c e × (d + s + crossing n k copy c ≤ e)

  pub back : Wired n k → {x v s : ℕ} → Path n x v s → (c : ℕ) → c ∈ k.copies → k.gate_of c ≡ v → Back c x s
  back w (start h z) c m e =
      record {
        copy = c;
        present = m;
        of_it = e ∙ sym h;
        goes_on = λ d p. (d, p, omega (arith, crossing_none c c refl));
      }
  back w {v = v} {s = s} (onto {x = y} {d = s'} p edge h) c m e =
      let edge' : y ∈ fanins n (k.gate_of c) = rw e edge in
      let b : ℕ = k.feeder c y in
      let r : Back b _ s' = back w p b (w.fed c y m edge') (w.by_fanin c y m edge') in
      record {
        copy = r.copy;
        present = r.present;
        of_it = r.of_it;
        goes_on =
            λ d q.
            let f = r.goes_on d q in (
              f.0 + crossing n k b c + delay n (k.gate_of c),
              Clusterings.onto f.1 m edge' refl refl,
              omega (arith, crossing_triangle r.copy b c, f.2, ap (delay n) e),
            );
      }

-- No copy beats its label. By induction on the position of v every copy c of v has a path of at least label(v). Where v is
-- a primary input its delay is its label. Otherwise the label is 0, or the pull of an input x inside, or the stopping
-- gate's pull plus D. Feeders followed back from c along a longest path from x reach a copy of x: its path, of at least
-- label(x), goes on to c and gains the onward delay, which gives the pull. In the last case the cluster of v with the
-- stopping gate weighs more than M, and the cluster that c lies in does not: so some gate x of the former has no copy in
-- the latter. It is not v, it pulls at least as much as the stopping gate, and the copy of x that feeders lead back to
-- lies in another cluster, so that a hop is paid on the way.
module _ (n : Network) (wf : WellFormed n) (k : Clustering) (w : Wired n k) (f : Fits n k) where
  -- a path to c of at least so much
  abbrev Reaches : ℕ → ℕ → Type 0
  Reaches c d = (e : ℕ) × CopyPath n k c e × (d ≤ e)

  -- what is known of the gates at lower positions
  abbrev Known : ℕ → Type 0
  Known p = (x : ℕ) → x < size n → position n x < p → (b : ℕ) → b ∈ k.copies → k.gate_of b ≡ x → Reaches b (label n x)

  module _ (v : ℕ) (known : v < size n) (below : Known (position n v)) (c : ℕ) (m : c ∈ k.copies) (e : k.gate_of c ≡ v) where
    -- a cone gate's label, the onward delay, and a hop where its copy lies elsewhere
    from_cone :
        (x : ℕ) → Path n x v (onward n x v) → position n x < position n v
        → (b : Back n k c x (onward n x v)) × Reaches c (pull n (labels n) v x + crossing n k b.copy c)
    unfolding pull label
    from_cone x p h =
        let b = back n k w p c m e in
        let r = below x (path_known n wf p known) h b.copy b.present b.of_it in
        let g = b.goes_on r.0 r.1 in
        (b, (g.0, g.1, omega (arith, r.2, g.2)))

    cone_path : (x : ℕ) → x ∈ ordered n (labels n) v → Path n x v (onward n x v)
    cone_path x h = onward_path n wf x v known (in_cone_true n wf x v known (ordered_in n (labels n) v x h).0)

    -- a gate taken in, or the one that stopped growth, with no copy where c lies
    elsewhere :
        input n v ≡ false → (s : ℕ) → stop n (labels n) v ≡ some s
        → (x : ℕ) × (x ∈ ordered n (labels n) v) × (pull n (labels n) v s ≤ pull n (labels n) v x)
        × ((b : ℕ) → b ∈ k.copies → k.gate_of b ≡ x → k.cluster_of b ≡ k.cluster_of c → ⊥)
    unfolding total
    elsewhere reads s h =
        let l = labels n in
        let stop_below = (ordered_in n l v s (stop_in n l v s h)).1 in
        let apart : Distinct (s ∷ v ∷ joined n l v) =
        more
        (λ (z : s ∈ (v ∷ joined n l v)).
        ⊎_elim (λ (same : s ≡ v). let p = ap (position n) same in omega arith)
        (λ (z' : s ∈ joined n l v). stop_no_member n l v s h z')
        (Memᴰ.cases_cons z))
        (rw (cluster_of_reader n l v reads) at (cluster_distinct n l v))
        in
        let heavier : cluster_weight n k (k.cluster_of c) < total (weight n) (s ∷ v ∷ joined n l v) =
        omega (arith, f (k.cluster_of c), stop_overfills n l v s h)
        in
        let r = no_copy_there n k (k.cluster_of c) apart heavier in
        ⊎_elim
        (λ (same : r.0 ≡ s). (s, stop_in n l v s h, omega arith, λ b z g j. r.2 b z j (g ∙ sym same)))
        (λ (z : r.0 ∈ (v ∷ joined n l v)).
        ⊎_elim (λ (same : r.0 ≡ v). absurd (r.2 c m refl (e ∙ sym same)))
        (λ (z' : r.0 ∈ joined n l v).
        (r.0, joined_in n l v r.0 z', member_pull n l v s r.0 h z', λ b y g j. r.2 b y j g))
        (Memᴰ.cases_cons z))
        (Memᴰ.cases_cons r.1)

    -- a copy of a gate with fan-ins is reached at all
    some_path : input n v ≡ false → Reaches c 0
    some_path reads =
        let x = reads_something n v reads in
        let edge : x.0 ∈ fanins n (k.gate_of c) = rw e x.1 in
        let r =
        below x.0 (wf.known v x.0 x.1) (wf.below v x.0 x.1) (k.feeder c x.0) (w.fed c x.0 m edge)
        (w.by_fanin c x.0 m edge)
        in
        (r.0 + crossing n k (k.feeder c x.0) c + delay n (k.gate_of c), Clusterings.onto r.1 m edge refl refl, omega arith)

    by_rule : input n v ≡ false → {d : ℕ} → Counts n (labels n) v d → Reaches c d
    by_rule reads (nothing z) = let r = some_path reads in (r.0, r.1, omega arith)
    by_rule reads (input_inside {x = x} inside i z) =
        let h = joined_in n (labels n) v x inside in
        let r = (from_cone x (cone_path x h) (ordered_in n (labels n) v x h).1).1 in
        (r.0, r.1, omega arith)
    by_rule reads {d} (stopped {x = s} h z) =
        let q = elsewhere reads s h in
        let r = from_cone q.0 (cone_path q.0 q.1) (ordered_in n (labels n) v q.0 q.1).1 in
        let hop = crossing_hop n k r.0.copy c (q.3 r.0.copy r.0.present r.0.of_it) in
        (r.1.0, r.1.1, omega arith)

    at_gate : Reaches c (label n v)
    at_gate =
        ⊎_elim
        (λ (i : input n v ≡ true).
        (delay n v, Clusterings.start m (rw e (input_true n v i)) (ap (delay n) (sym e)), omega (arith, label_input n v known i)))
        (λ (reads : input n v ≡ false). by_rule reads (label_largest n v known reads).reached)
        (true_or_false (input n v))

  by_position : (p : ℕ) → Known p
  by_position zero x known h = absurd (omega arith)
  by_position (suc p) x known h = at_gate x known (λ y known' h'. by_position p y known' (omega arith))

  pub reaches_label : (c : ℕ) → c ∈ k.copies → (e : ℕ) × CopyPath n k c e × (label n (k.gate_of c) ≤ e)
  reaches_label c m =
      by_position (suc (position n (k.gate_of c))) (k.gate_of c) (w.known c m) (omega arith) c m refl
