-- Laws of growth [L4], specs/Label.antt.
-- What the later pages use of it: a gate of the cone is a member exactly when the root's weight and those of all gates of
-- the cone not after it sum to at most M. The stopping gate is the first in the order that is no member, and there is none
-- exactly when the whole cone fits.
use Prim.Native.Nat.{ℕ, ◌+◌, ◌≤◌, ◌<◌}
use mathlib.Core.Path.{◌≡◌, refl, sym, ◌∙◌, ap}
use mathlib.Core.Logic.{◌⊎◌, inl, inr, ⊎_elim, ◌↔◌}
use mathlib.Core.Bool.{Bool, true, false, not}
use mathlib.Core.List.Memᴰ
use mathlib.Core.List.{List, [], ◌∷◌, ◌++◌, map, head?, append-nil}
use mathlib.Core.Option.{Option, none, some}
use native.Mathlib.Decide.{dec_le}
use native.Mathlib.Omega.{arith}
use borrow.Author.Tests.{le-leb, lt-leb}
use Rattle.model.specs.Basics.{◌∈◌, Distinct, none as no_gate, more, keep, total, upto}
use Rattle.model.specs.Network.{Network, weight, input, position, gate_at}
use Rattle.model.specs.Onward.{in_cone}
use Rattle.model.specs.Label.{pull, Before, before, ordered, Growth, joins, grow, growth, joined, stop, cluster}
use Rattle.model.specs.Growth.{cone_gates, not_after, Grows}
use Rattle.model.proofs.Lists.{true_or_false, same_or_not, ∈-subst, keep_in, in_keep, keep_append, keep_all, keep_none, in_map, map_in, in_upto, upto_in, total_append, total_in, total_keep, total_members, distinct_keep, distinct_upto, distinct_front, distinct_map}
use Rattle.model.proofs.Networks.{gate_at_position, position_gate_at}
use Rattle.model.proofs.Order.{Sorted, before_asymmetric, before_irreflexive, before_pull, true_before, before_false, before_total, ordered_in, in_ordered, ordered_sorted, ordered_distinct, sorted_split, sorted_back, sorted_first}

-- growth over any row: the members are its front, the stopping gate is what comes next

record Grown (n : Network) (sum : ℕ) (row : List ℕ) (g : Growth) : Type 0 where
  rest : List ℕ
  splits : row ≡ g.joined ++ rest
  next : g.stop ≡ head? rest
  light : (u : ℕ) → u ∈ g.joined → sum ≤ n.capacity
  fits : sum ≤ n.capacity → sum + total (weight n) g.joined ≤ n.capacity
  overfills : (s : ℕ) → g.stop ≡ some s → n.capacity < sum + total (weight n) g.joined + weight n s

grown : (n : Network) (sum : ℕ) (row : List ℕ) → Grown n sum row (grow n sum row)
unfolding grow joins total
grown n sum [] =
    record {
      rest = [];
      splits = refl;
      next = refl;
      light = λ u m. absurd (Memᴰ.not-nil m);
      fits = λ h. omega arith;
      overfills = λ s e. absurd (let z : ◌≡◌ {A = ℕ} 0 1 = cc in omega arith);
    }
grown n sum (u ∷ us) =
    elim (dec_le (sum + weight n u) n.capacity) [
      | yes h ↦
          rw (le-leb (sum + weight n u) n.capacity h)
          (let r = grown n (sum + weight n u) us in
          record {
            rest = r.rest;
            splits = ap (λ (t : List ℕ). u ∷ t) r.splits;
            next = r.next;
            light = λ x m. omega arith;
            fits = λ k. let q = r.fits h in omega arith;
            overfills = λ s e. let k = r.overfills s e in omega arith;
          })
      | no h ↦
          rw (lt-leb (sum + weight n u) n.capacity (omega arith))
          (record {
            rest = u ∷ us;
            splits = refl;
            next = refl;
            light = λ x m. absurd (Memᴰ.not-nil m);
            fits = λ k. omega arith;
            overfills = λ s e. let q : u ≡ s = cc in omega (arith, ap (weight n) q);
          })
    ]

head_some : (row : List ℕ) (s : ℕ) → head? row ≡ some s → (back : List ℕ) × (row ≡ s ∷ back)
head_some [] s e = absurd (let z : ◌≡◌ {A = ℕ} 0 1 = cc in omega arith)
head_some (x ∷ xs) s e = (xs, let q : x ≡ s = cc in rw q)

head_none : (row : List ℕ) → head? row ≡ none → row ≡ []
head_none [] e = refl
head_none (x ∷ xs) e = absurd (let z : ◌≡◌ {A = ℕ} 0 1 = cc in omega arith)

module _ (n : Network) (v : ℕ) where
  pub in_cone_gates : (u : ℕ) → in_cone n u v ≡ true → position n u < position n v → u ∈ cone_gates n v
  unfolding cone_gates
  in_cone_gates u c b =
      in_keep (λ x. in_cone n x v) (∈-subst (gate_at_position n u) (in_map (gate_at n) (in_upto (position n v) b))) c

  pub cone_gates_in : (u : ℕ) → u ∈ cone_gates n v → (in_cone n u v ≡ true) × (position n u < position n v)
  unfolding cone_gates
  cone_gates_in u m =
      let (k, c) = keep_in (λ x. in_cone n x v) u (map (gate_at n) (upto (position n v))) m in
      let (p, h, e) = map_in (gate_at n) u (upto (position n v)) k in
      let b = upto_in (position n v) p h in
      (c, omega (arith, ap (position n) e, position_gate_at n p))

  pub cone_gates_distinct : Distinct (cone_gates n v)
  unfolding cone_gates
  cone_gates_distinct =
      distinct_keep (λ x. in_cone n x v) (distinct_map (gate_at n) (distinct_upto (position n v)) (λ x y m m'. apart x y))
    where
      apart : (p q : ℕ) → gate_at n p ≡ gate_at n q → p ≡ q
      apart p q e = sym (position_gate_at n p) ∙ ap (position n) e ∙ position_gate_at n q

module _ (n : Network) (l : List ℕ) (v : ℕ) where
  -- the cone's gates and the row hold the same gates

  ordered_cone_gates : (u : ℕ) → u ∈ ordered n l v → u ∈ cone_gates n v
  ordered_cone_gates u m = let (c, b) = ordered_in n l v u m in in_cone_gates n v u c b

  cone_gates_ordered : (u : ℕ) → u ∈ cone_gates n v → u ∈ ordered n l v
  cone_gates_ordered u m = let (c, b) = cone_gates_in n v u m in in_ordered n l v u c b

  of_root : Grown n (weight n v) (ordered n l v) (growth n l v)
  unfolding growth
  of_root = grown n (weight n v) (ordered n l v)

  -- the gates of the order that are no members
  outside : List ℕ
  outside = of_root.rest

  splits : ordered n l v ≡ joined n l v ++ outside
  unfolding joined outside
  splits = of_root.splits

  next : stop n l v ≡ head? outside
  unfolding stop outside
  next = of_root.next

  pub joined_in : (u : ℕ) → u ∈ joined n l v → u ∈ ordered n l v
  joined_in u m = rw splits (Memᴰ.append_left outside m)

  outside_in : (u : ℕ) → u ∈ outside → u ∈ ordered n l v
  outside_in u m = rw splits (Memᴰ.append_right (joined n l v) m)

  member_or_outside : (u : ℕ) → u ∈ ordered n l v → (u ∈ joined n l v) ⊎ (u ∈ outside)
  member_or_outside u m = Memᴰ.append_cases (joined n l v) (rw splits at m)

  -- every member is before every gate outside
  members_before : (u w : ℕ) → u ∈ joined n l v → w ∈ outside → Before n l v u w
  members_before = sorted_split n l v (joined n l v) (rw splits at (ordered_sorted n l v))

  -- before a member: a member
  pub joined_closed : (u w : ℕ) → w ∈ joined n l v → u ∈ ordered n l v → Before n l v u w → u ∈ joined n l v
  joined_closed u w k m b =
      ⊎_elim (λ (m' : u ∈ joined n l v). m') (λ (o : u ∈ outside). absurd (before_asymmetric n l v b (members_before w u k o)))
      (member_or_outside u m)

  -- the stopping gate: the first outside

  stop_outside : (s : ℕ) → stop n l v ≡ some s → s ∈ outside
  stop_outside s e = let (back, q) = head_some outside s (sym next ∙ e) in rw q (Memᴰ.head refl)

  -- a gate outside is the stopping gate or after it
  stop_or_after : (s u : ℕ) → stop n l v ≡ some s → u ∈ outside → (u ≡ s) ⊎ Before n l v s u
  stop_or_after s u e o =
      let (back, q) = head_some outside s (sym next ∙ e) in
      let sorted : Sorted n l v outside = sorted_back n l v (joined n l v) (rw splits at (ordered_sorted n l v)) in
      ⊎_elim (λ (h : u ≡ s). inl h) (λ (m : u ∈ back). inr (sorted_first n l v (rw q at sorted) u m))
      (Memᴰ.cases_cons (rw q at o))

  pub stop_in : (s : ℕ) → stop n l v ≡ some s → s ∈ ordered n l v
  stop_in s e = outside_in s (stop_outside s e)

  pub stop_no_member : (s : ℕ) → stop n l v ≡ some s → s ∈ joined n l v → ⊥
  stop_no_member s e m = before_irreflexive n l v s (members_before s s m (stop_outside s e))

  pub stop_first : (s u : ℕ) → stop n l v ≡ some s → u ∈ ordered n l v → Before n l v u s → u ∈ joined n l v
  stop_first s u e m b =
      ⊎_elim (λ (m' : u ∈ joined n l v). m')
      (λ (o : u ∈ outside).
      absurd
      (⊎_elim (λ (h : u ≡ s). before_irreflexive n l v s (rw h at b)) (λ (k : Before n l v s u). before_asymmetric n l v b k)
      (stop_or_after s u e o)))
      (member_or_outside u m)

  pub member_before_stop : (s u : ℕ) → stop n l v ≡ some s → u ∈ joined n l v → Before n l v u s
  member_before_stop s u e m = members_before u s m (stop_outside s e)

  pub member_pull : (s u : ℕ) → stop n l v ≡ some s → u ∈ joined n l v → pull n l v s ≤ pull n l v u
  member_pull s u e m = before_pull n l v (member_before_stop s u e m)

  pub outside_after : (s u : ℕ) → stop n l v ≡ some s → u ∈ ordered n l v → (u ∈ joined n l v → ⊥) → pull n l v u ≤ pull n l v s
  outside_after s u e m h =
      ⊎_elim (λ (m' : u ∈ joined n l v). absurd (h m'))
      (λ (o : u ∈ outside).
      ⊎_elim (λ (q : u ≡ s). omega (arith, ap (pull n l v) q)) (λ (b : Before n l v s u). before_pull n l v b)
      (stop_or_after s u e o))
      (member_or_outside u m)

  -- a gate outside means that some gate stopped growth
  pub stop_some : (u : ℕ) → u ∈ ordered n l v → (u ∈ joined n l v → ⊥) → (s : ℕ) × (stop n l v ≡ some s)
  stop_some u m h =
      ⊎_elim (λ (m' : u ∈ joined n l v). absurd (h m')) (λ (o : u ∈ outside). go outside next o) (member_or_outside u m)
    where
      go : (rest : List ℕ) → stop n l v ≡ head? rest → u ∈ rest → (s : ℕ) × (stop n l v ≡ some s)
      go [] e o = absurd (Memᴰ.not-nil o)
      go (x ∷ xs) e o = (x, e)

  -- the weights

  pub joined_fits : weight n v ≤ n.capacity → weight n v + total (weight n) (joined n l v) ≤ n.capacity
  unfolding joined
  joined_fits h = of_root.fits h

  pub member_fits : (u : ℕ) → u ∈ joined n l v → weight n v + total (weight n) (joined n l v) ≤ n.capacity
  unfolding joined
  member_fits u m = of_root.fits (of_root.light u m)

  pub stop_overfills :
      (s : ℕ) → stop n l v ≡ some s → n.capacity < weight n v + total (weight n) (joined n l v) + weight n s
  unfolding joined stop
  stop_overfills s e = of_root.overfills s e

  -- Nothing stops growth exactly when the whole cone joins. That is when it fits, but for a root heavier than M that is alone
  -- in its cone: nothing stops growth there either.

  pub none_joined : stop n l v ≡ none → ordered n l v ≡ joined n l v
  none_joined e = splits ∙ rw (head_none outside (sym next ∙ e)) (append-nil (joined n l v))

  pub fits_none : weight n v + total (weight n) (ordered n l v) ≤ n.capacity → stop n l v ≡ none
  fits_none h = go (stop n l v) refl
    where
      go : (o : Option ℕ) → stop n l v ≡ o → o ≡ none
      go none e = refl
      go (some s) e =
          absurd
          (omega (
            arith,
            stop_overfills s e,
            total_in (weight n) (stop_outside s e),
            ap (total (weight n)) splits,
            total_append (weight n) (joined n l v) outside,
          ))

  pub stop_none_iff : weight n v ≤ n.capacity → (stop n l v ≡ none) ↔ (weight n v + total (weight n) (ordered n l v) ≤ n.capacity)
  stop_none_iff h = (λ e. rw (none_joined e) (joined_fits h), fits_none)

  -- A gate is a member exactly when the root and the gates not after it fit. The row is the members, then the gates outside,
  -- the stopping gate first, and every member is before every gate outside. So those not after a member are members, and the
  -- members fit. Those not after a gate outside hold all members and the stopping gate, and these overfill.

  no_later : ℕ → ℕ → Bool
  no_later u x = not (before n l v u x)

  not_after_row : ℕ → List ℕ
  not_after_row u = keep (no_later u) (ordered n l v)

  not_after_split :
      (u : ℕ)
      → total (weight n) (not_after_row u)
      ≡ total (weight n) (keep (no_later u) (joined n l v)) + total (weight n) (keep (no_later u) outside)
  unfolding not_after_row
  not_after_split u = rw (splits, keep_append (no_later u) (joined n l v) outside) (total_append (weight n) _ _)

  no_later_when : (u x : ℕ) → (Before n l v u x → ⊥) → no_later u x ≡ true
  unfolding no_later
  no_later_when u x h = rw (before_false n l v h)

  later_when : (u x : ℕ) → Before n l v u x → no_later u x ≡ false
  unfolding no_later
  later_when u x b = rw (true_before n l v b)

  row_when : (u : ℕ) → u ∈ ordered n l v → weight n v + total (weight n) (not_after_row u) ≤ n.capacity → u ∈ joined n l v
  row_when u m h =
      ⊎_elim (λ (m' : u ∈ joined n l v). m') (λ (o : u ∈ outside). absurd (too_much o)) (member_or_outside u m)
    where
      not_both_sides : u ∈ outside → u ∈ joined n l v → ⊥
      not_both_sides o k = before_irreflexive n l v u (members_before u u k o)

      too_much : u ∈ outside → ⊥
      too_much o =
          let (s, e) = stop_some u m (not_both_sides o) in
          let members =
          keep_all (no_later u) (joined n l v)
          (λ x k. no_later_when u x (λ b. before_asymmetric n l v b (members_before x u k o))) in
          let stopping : s ∈ keep (no_later u) outside =
          in_keep (no_later u) (stop_outside s e) (no_later_when u s (λ b. not_both_sides o (stop_first s u e m b))) in
          omega
          (arith, stop_overfills s e, total_in (weight n) stopping, ap (total (weight n)) members, not_after_split u)

  row_only_when : (u : ℕ) → u ∈ joined n l v → weight n v + total (weight n) (not_after_row u) ≤ n.capacity
  unfolding total
  row_only_when u m =
      let others = keep_none (no_later u) outside (λ x o. later_when u x (members_before u x m o)) in
      omega
      (arith, member_fits u m, total_keep (weight n) (no_later u) (joined n l v), not_after_split u, ap (total (weight n)) others)

  not_after_total : (u : ℕ) → total (weight n) (not_after n l v u) ≡ total (weight n) (not_after_row u)
  unfolding not_after not_after_row no_later
  not_after_total u =
      total_members (weight n) (distinct_keep (no_later u) (cone_gates_distinct n v))
      (distinct_keep (no_later u) (ordered_distinct n l v))
      (λ x m. let (k, t) = keep_in (no_later u) x (cone_gates n v) m in in_keep (no_later u) (cone_gates_ordered x k) t)
      (λ x m. let (k, t) = keep_in (no_later u) x (ordered n l v) m in in_keep (no_later u) (ordered_cone_gates x k) t)

  -- a cone gate joins exactly when v and all cone gates not after it weigh at most M together

  pub joined_when :
      (u : ℕ) → u ∈ ordered n l v → weight n v + total (weight n) (not_after n l v u) ≤ n.capacity → u ∈ joined n l v
  joined_when u m h = row_when u m (omega (arith, not_after_total u))

  pub joined_only_when :
      (u : ℕ) → u ∈ joined n l v → (u ∈ ordered n l v) × (weight n v + total (weight n) (not_after n l v u) ≤ n.capacity)
  joined_only_when u m = (joined_in u m, omega (arith, row_only_when u m, not_after_total u))

  pub joined_cone : (u : ℕ) → u ∈ joined n l v → (in_cone n u v ≡ true) × (position n u < position n v)
  joined_cone u m = ordered_in n l v u (joined_in u m)

  pub stop_when :
      (s : ℕ) → s ∈ ordered n l v → (s ∈ joined n l v → ⊥) → ((u : ℕ) → u ∈ ordered n l v → Before n l v u s → u ∈ joined n l v)
      → stop n l v ≡ some s
  stop_when s m out h =
      let (x, e) = stop_some s m out in
      ⊎_elim (λ (q : s ≡ x). e ∙ ap (λ (y : ℕ). some y) (sym q))
      (λ (d : s ≡ x → ⊥).
      absurd
      (⊎_elim (λ (b : Before n l v s x). out (stop_first x s e m b))
      (λ (b : Before n l v x s). stop_no_member x e (h x (stop_in x e) b))
      (before_total n l v s x d)))
      (same_or_not s x)

  pub grows : Grows n l v
  grows =
      record {
        member = λ u m. (λ k. (joined_only_when u k).1, joined_when u (cone_gates_ordered u m));
        within = λ u m. ordered_cone_gates u (joined_in u m);
        stops =
            λ s. (
              λ e.
                  (ordered_cone_gates s (stop_in s e), stop_no_member s e, λ u m b. stop_first s u e (cone_gates_ordered u m) b),
              λ h. stop_when s (cone_gates_ordered s h.0) h.1 (λ u m b. h.2 u (ordered_cone_gates u m) b),
            );
        whole = λ h. rw (← whole_total) (stop_none_iff h);
      }
    where
      whole_total : total (weight n) (ordered n l v) ≡ total (weight n) (cone_gates n v)
      whole_total = total_members (weight n) (ordered_distinct n l v) (cone_gates_distinct n v) ordered_cone_gates cone_gates_ordered

  -- no gate twice

  pub joined_distinct : Distinct (joined n l v)
  joined_distinct = distinct_front (joined n l v) outside (rw splits at (ordered_distinct n l v))

  pub root_not_joined : v ∈ joined n l v → ⊥
  root_not_joined m = let (c, b) = ordered_in n l v v (joined_in v m) in omega arith

  -- the cluster

  pub cluster_of_input : input n v ≡ true → cluster n l v ≡ v ∷ []
  unfolding cluster
  cluster_of_input t = rw t

  pub cluster_of_reader : input n v ≡ false → cluster n l v ≡ v ∷ joined n l v
  unfolding cluster
  cluster_of_reader f = rw f

  pub root_in_cluster : v ∈ cluster n l v
  root_in_cluster =
      ⊎_elim (λ (t : input n v ≡ true). rw (cluster_of_input t) (Memᴰ.head refl))
      (λ (f : input n v ≡ false). rw (cluster_of_reader f) (Memᴰ.head refl))
      (true_or_false (input n v))

  pub cluster_in : (u : ℕ) → u ∈ cluster n l v → (u ≡ v) ⊎ (u ∈ joined n l v)
  cluster_in u m =
      ⊎_elim (λ (t : input n v ≡ true). inl (Memᴰ.eq_of_singleton (rw (cluster_of_input t) at m)))
      (λ (f : input n v ≡ false). Memᴰ.cases_cons (rw (cluster_of_reader f) at m))
      (true_or_false (input n v))

  pub cluster_fits : weight n v ≤ n.capacity → total (weight n) (cluster n l v) ≤ n.capacity
  unfolding total
  cluster_fits h =
      ⊎_elim (λ (t : input n v ≡ true). rw (cluster_of_input t) (omega arith))
      (λ (f : input n v ≡ false). rw (cluster_of_reader f) (joined_fits h))
      (true_or_false (input n v))

  pub cluster_distinct : Distinct (cluster n l v)
  cluster_distinct =
      ⊎_elim (λ (t : input n v ≡ true). rw (cluster_of_input t) (more Memᴰ.not-nil no_gate))
      (λ (f : input n v ≡ false). rw (cluster_of_reader f) (more root_not_joined joined_distinct))
      (true_or_false (input n v))
