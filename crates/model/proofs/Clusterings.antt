-- The clustering of a list of roots: its copies are named apart, it is wired, and it fits where each cluster does.
use Prim.Native.Nat.{ℕ, ◌/◌, ◌%◌, ◌≤◌, ◌<◌}
use mathlib.Core.Path.{◌≡◌, refl, sym, ◌∙◌, ap}
use mathlib.Core.Logic.{⊎_elim}
use mathlib.Core.Bool.{Bool, true, false, cond}
use mathlib.Core.List.Memᴰ
use mathlib.Core.List.{List, [], ◌∷◌, map, append-nil}
use native.Mathlib.Omega.{arith}
use borrow.Author.Tests.{eq-eqb, ne_eqb}
use lib.Dec.{eqb}
use lib.Arith.{digits_div, digits_mod}
use Rattle.model.specs.Basics.{◌∈◌, Distinct, none, more, keep, gather, total}
use Rattle.model.specs.Network.{Network, size, weight, fanins, input}
use Rattle.model.specs.Label.{labels, cluster, joined}
use Rattle.model.specs.Clustering.{Wired, in_cluster, cluster_weight, Fits}
use Rattle.model.specs.Drawing.{InputOf, name, feeds, clustering_of}
use Rattle.model.proofs.Lists.{same_or_not, in_or_out, true_member, false_member, ∈-subst, in_map, map_in, in_gather, gather_in, keep_all, keep_none, keep_append, total_map, total_same, distinct_map, distinct_gather}

-- keeping what one member gathers

module _ (test : ℕ → Bool) (f : ℕ → List ℕ) (j : ℕ) where
  abbrev Owned : List ℕ → Type 0
  Owned xs = (x z : ℕ) → x ∈ xs → z ∈ f x → test z ≡ eqb x j

  keep_of_none : (xs : List ℕ) → Owned xs → (j ∈ xs → ⊥) → keep test (gather f xs) ≡ []
  keep_of_none xs own out =
      keep_none test (gather f xs)
      (λ z m.
      let w = gather_in f z xs m in
      own w.0 z w.1 w.2 ∙ ne_eqb w.0 j (λ e. out (∈-subst e w.1)))

  keep_of_one : {xs : List ℕ} → Distinct xs → Owned xs → j ∈ xs → keep test (gather f xs) ≡ f j
  unfolding gather
  keep_of_one none own m = absurd (Memᴰ.not-nil m)
  keep_of_one (more {x = x} {xs = xs} h d) own m =
      let later : Owned xs = λ y z k. own y z (Memᴰ.tail k) in
      ⊎_elim
      (λ (e : x ≡ j).
      keep_append test (f x) (gather f xs)
      ∙ rw
      (keep_all test (f x) (λ z k. own x z (Memᴰ.head refl) k ∙ eq-eqb x j e), keep_of_none xs later (λ k. h (∈-subst (sym e) k)), append-nil (f x))
      (ap f e))
      (λ (e : x ≡ j → ⊥).
      keep_append test (f x) (gather f xs)
      ∙ rw (keep_none test (f x) (λ z k. own x z (Memᴰ.head refl) k ∙ ne_eqb x j e))
      (keep_of_one d later (⊎_elim (λ (s : j ≡ x). absurd (e (sym s))) (λ (k : j ∈ xs). k) (Memᴰ.cases_cons m))))
      (same_or_not x j)

-- the root is a member of its cluster
pub root_inside : (n : Network) (l : List ℕ) (r : ℕ) → r ∈ cluster n l r
unfolding cluster
root_inside n l r = go (input n r)
  where
    go : (b : Bool) → r ∈ cond b (r ∷ []) (r ∷ joined n l r)
    go true = Memᴰ.head refl
    go false = Memᴰ.head refl

-- names

module _ (n : Network) where
  pub name_root : (r m : ℕ) → m < size n → name n r m / size n ≡ r
  unfolding name
  name_root r m h = digits_div r h

  pub name_gate : (r m : ℕ) → m < size n → name n r m % size n ≡ m
  unfolding name
  name_gate r m h = digits_mod r h

  pub feeds_inside : (r x : ℕ) → x ∈ cluster n (labels n) r → feeds n r x ≡ name n r x
  unfolding feeds
  feeds_inside r x m = rw (true_member m)

  pub feeds_outside : (r x : ℕ) → (x ∈ cluster n (labels n) r → ⊥) → feeds n r x ≡ name n x x
  unfolding feeds
  feeds_outside r x h = rw (false_member x (cluster n (labels n) r) h)

  -- the copies in the cluster of r
  copies_in : ℕ → List ℕ
  copies_in r = map (name n r) (cluster n (labels n) r)

  module _ (roots : List ℕ) where
    copies_are : (clustering_of n roots).copies ≡ gather copies_in roots
    unfolding clustering_of copies_in
    copies_are = refl

    pub copy_gate : (r m : ℕ) → m < size n → (clustering_of n roots).gate_of (name n r m) ≡ m
    unfolding clustering_of
    copy_gate r m h = name_gate r m h

    pub copy_cluster : (r m : ℕ) → m < size n → (clustering_of n roots).cluster_of (name n r m) ≡ r
    unfolding clustering_of
    copy_cluster r m h = name_root r m h

    pub copy_feeder : (r m x : ℕ) → m < size n → (clustering_of n roots).feeder (name n r m) x ≡ feeds n r x
    unfolding clustering_of
    copy_feeder r m x h = ap (λ (q : ℕ). feeds n q x) (name_root r m h)

    pub copy_parts :
        (c : ℕ) → c ∈ (clustering_of n roots).copies
        → (r : ℕ) × (m : ℕ) × (r ∈ roots) × (m ∈ cluster n (labels n) r) × (c ≡ name n r m)
    unfolding copies_in
    copy_parts c h =
        let g = gather_in copies_in c roots (rw copies_are at h) in
        let w = map_in (name n g.0) c (cluster n (labels n) g.0) g.2 in
        (g.0, w.0, g.1, w.1, w.2)

    pub in_copies : {r m : ℕ} → r ∈ roots → m ∈ cluster n (labels n) r → name n r m ∈ (clustering_of n roots).copies
    unfolding copies_in
    in_copies {r} h k = rw copies_are (in_gather copies_in h (in_map (name n r) k))

    module _ (roots_known : (r : ℕ) → r ∈ roots → r < size n)
        (cluster_known : (r m : ℕ) → r < size n → m ∈ cluster n (labels n) r → m < size n) where
      member_known : (r m : ℕ) → r ∈ roots → m ∈ cluster n (labels n) r → m < size n
      member_known r m h k = cluster_known r m (roots_known r h) k

      -- the name of a copy tells its root
      root_of_copy : (r c : ℕ) → r ∈ roots → c ∈ copies_in r → c / size n ≡ r
      unfolding copies_in
      root_of_copy r c h k =
          let w = map_in (name n r) c (cluster n (labels n) r) k in
          rw w.2 (name_root r w.0 (member_known r w.0 h w.1))

      pub copies_distinct :
          Distinct roots → ((r : ℕ) → Distinct (cluster n (labels n) r)) → Distinct (clustering_of n roots).copies
      unfolding copies_in
      copies_distinct roots_distinct cluster_distinct =
          rw copies_are
          (distinct_gather copies_in roots_distinct
          (λ r h.
          distinct_map (name n r) (cluster_distinct r)
          (λ x y k k' e.
          let a = name_gate r x (member_known r x h k) in
          let b = name_gate r y (member_known r y h k') in
          sym a ∙ ap (λ (c : ℕ). c % size n) e ∙ b))
          (λ r s c h h' k k'. sym (root_of_copy r c h k) ∙ root_of_copy s c h' k'))

      module _ (closed : (r x : ℕ) → r ∈ roots → InputOf n (labels n) r x → x ∈ roots) where
        -- A fan-in of a member is a member, or an input of the cluster and so the root of a cluster of its own.
        fan_in_fed :
            (r m x : ℕ) → r ∈ roots → m ∈ cluster n (labels n) r → x ∈ fanins n m
            → (q : ℕ) × (q ∈ roots) × (x ∈ cluster n (labels n) q) × (feeds n r x ≡ name n q x)
        fan_in_fed r m x h k f =
            ⊎_elim (λ (i : x ∈ cluster n (labels n) r). (r, h, i, feeds_inside r x i))
            (λ (o : x ∈ cluster n (labels n) r → ⊥).
            (x, closed r x h (record { reader = m; inside = k; reads = f; outside = o }), root_inside n (labels n) x, feeds_outside r x o))
            (in_or_out x (cluster n (labels n) r))

        -- the feeder of a copy, by its name
        feeder_named :
            (c x : ℕ) → c ∈ (clustering_of n roots).copies → x ∈ fanins n ((clustering_of n roots).gate_of c)
            → (q : ℕ) × (q ∈ roots) × (x ∈ cluster n (labels n) q) × ((clustering_of n roots).feeder c x ≡ name n q x)
        feeder_named c x h k =
            let p = copy_parts c h in
            let known = member_known p.0 p.1 p.2 p.3 in
            let f = fan_in_fed p.0 p.1 x p.2 p.3 (rw (p.4, copy_gate p.0 p.1 known) at k) in
            (f.0, f.1, f.2, ap (λ (b : ℕ). (clustering_of n roots).feeder b x) p.4 ∙ copy_feeder p.0 p.1 x known ∙ f.3)

        pub wired : Wired n (clustering_of n roots)
        wired =
            record {
              known =
                  λ c h.
                  let p = copy_parts c h in
                  let known = member_known p.0 p.1 p.2 p.3 in
                  rw (p.4, copy_gate p.0 p.1 known) known;
              fed = λ c x h k. let f = feeder_named c x h k in rw f.3 (in_copies f.1 f.2);
              by_fanin =
                  λ c x h k.
                  let f = feeder_named c x h k in
                  rw f.3 (copy_gate f.0 x (member_known f.0 x f.1 f.2));
            }

      -- the copies in each cluster

      owned : (j : ℕ) → Owned (λ c. eqb (c / size n) j) copies_in j roots
      owned j r c h k = ap (λ (q : ℕ). eqb q j) (root_of_copy r c h k)

      pub in_cluster_root :
          Distinct roots → (j : ℕ) → j ∈ roots
          → in_cluster (clustering_of n roots) j ≡ map (name n j) (cluster n (labels n) j)
      unfolding in_cluster clustering_of copies_in
      in_cluster_root d j h = keep_of_one (λ c. eqb (c / size n) j) copies_in j d (owned j) h

      pub in_cluster_other : (j : ℕ) → (j ∈ roots → ⊥) → in_cluster (clustering_of n roots) j ≡ []
      unfolding in_cluster clustering_of copies_in
      in_cluster_other j h = keep_of_none (λ c. eqb (c / size n) j) copies_in j roots (owned j) h

      pub weight_of_root :
          Distinct roots → (j : ℕ) → j ∈ roots
          → cluster_weight n (clustering_of n roots) j ≡ total (weight n) (cluster n (labels n) j)
      unfolding cluster_weight
      weight_of_root d j h =
          rw (in_cluster_root d j h, total_map)
          (total_same _ (weight n) (cluster n (labels n) j)
          (λ m k. ap (weight n) (copy_gate j m (member_known j m h k))))

      pub fits :
          Distinct roots → ((r : ℕ) → r ∈ roots → total (weight n) (cluster n (labels n) r) ≤ n.capacity)
          → Fits n (clustering_of n roots)
      unfolding cluster_weight
      fits d light j =
          ⊎_elim (λ (h : j ∈ roots). rw (weight_of_root d j h) (light j h))
          (λ (h : j ∈ roots → ⊥). rw (in_cluster_other j h) (omega arith))
          (in_or_out j roots)
