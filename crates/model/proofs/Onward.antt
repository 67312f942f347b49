-- Laws of specs/Onward.antt: the sweep finds the cone and the largest sum over paths.
-- An entry of the row is raised only to what a path sums to, so every entry tells a path. A visit changes only entries of
-- fan-ins, which stand before the gate: when the sweep comes down to a gate its entry is final, and the visit then makes
-- each fan-in's entry at least the gate's delay more. So no path, followed back from v, sums to more than the entry tells.
use Prim.Native.Nat.{ℕ, zero, suc, pred, ◌+◌, ◌≤◌, ◌<◌, max}
use mathlib.Core.Path.{◌≡◌, refl, sym, ◌∙◌, ap}
use mathlib.Core.Logic.{◌⊎◌, inl, inr, ⊎_elim}
use mathlib.Core.Bool.{true, false}
use mathlib.Core.List.Memᴰ
use mathlib.Core.List.{List, [], ◌∷◌}
use native.Mathlib.Decide.{dec_le, dec_lt}
use native.Mathlib.Omega.{arith}
use borrow.Author.Tests.{ltb-true, lt-ltb}
use lib.Dec.{ltb}
use lib.ListN.{length, get_or, set, replicate, length-set, length-replicate, get_or-replicate, get_or-eq_default}
use lib.Seq.{get_or-set_same, get_or-set_other, set_out}
use Rattle.model.specs.Basics.{◌∈◌}
use Rattle.model.specs.Network.{Network, size, delay, fanins, position, gate_at, WellFormed}
use Rattle.model.specs.Onward.{Path, start, onto, InCone, Onward, raise, visit_at, visit, sweep, reach, in_cone, onward}
use Rattle.model.proofs.Lists.{same_or_not, not_both}
use Rattle.model.proofs.Networks.{gate_at_position, position_gate_at}
use Rattle.model.proofs.Paths.{path_here, path_sum, path_edge, path_join, first_step, path_rises}

-- the sweep a gate at a time

sweep_none : (n : Network) (row : List ℕ) → sweep n 0 row ≡ row
unfolding sweep
sweep_none n row = refl

sweep_next : (n : Network) (p : ℕ) (row : List ℕ) → sweep n (suc p) row ≡ sweep n p (visit n row (gate_at n p))
unfolding sweep
sweep_next n p row = refl

-- one entry raised

abbrev raised : List ℕ → ℕ → ℕ → List ℕ
raised row x e = set row x (max (get_or row x 0) e)

-- an entry after it is the old one, or stands at x and is e, which is no less
raised_from :
    (row : List ℕ) (x e u : ℕ)
    → (get_or (raised row x e) u 0 ≡ get_or row u 0)
    ⊎ ((u ≡ x) × (get_or (raised row x e) u 0 ≡ e) × (get_or row u 0 ≤ e))
raised_from row x e u =
    ⊎_elim
    (λ (h : u ≡ x).
    rw h
    (elim (dec_lt x (length row)) [
      | yes k ↦
          let g = get_or-set_same row x (max (get_or row x 0) e) 0 k in
          elim (dec_le (get_or row x 0) e) [
            | yes l ↦ inr (refl, omega arith, l)
            | no l ↦ inl (omega arith)
          ]
      | no k ↦ inl (ap (λ (r : List ℕ). get_or r x 0) (set_out row x (max (get_or row x 0) e) (omega arith)))
    ]))
    (λ (h : u ≡ x → ⊥). inl (get_or-set_other row x u (max (get_or row x 0) e) 0 h))
    (same_or_not u x)

raised_keeps : (row : List ℕ) (x e u : ℕ) → get_or row u 0 ≤ get_or (raised row x e) u 0
raised_keeps row x e u = ⊎_elim (λ s. omega arith) (λ s. omega arith) (raised_from row x e u)

raised_at : (row : List ℕ) (x e : ℕ) → x < length row → e ≤ get_or (raised row x e) x 0
raised_at row x e k = omega (arith, get_or-set_same row x (max (get_or row x 0) e) 0 k)

-- What the raise of one entry keeps, the raise of a list, a visit and the sweep keep.

module _ (I : List ℕ → Type 0) where
  raise_invariant :
      (e : ℕ) (xs : List ℕ) → ((r : List ℕ) (x : ℕ) → x ∈ xs → I r → I (raised r x e))
      → (row : List ℕ) → I row → I (raise row e xs)
  unfolding raise
  raise_invariant e [] step row i = i
  raise_invariant e (x ∷ xs) step row i =
      raise_invariant e xs (λ r y m j. step r y (Memᴰ.tail m) j) (raised row x e) (step row x (Memᴰ.head refl) i)

  module _ (n : Network) where
    visit_invariant :
        (row : List ℕ) (y : ℕ)
        → ((r : List ℕ) (x d : ℕ) → get_or row y 0 ≡ suc d → x ∈ fanins n y → I r → I (raised r x (suc (d + delay n y))))
        → I row → I (visit n row y)
    unfolding visit visit_at
    visit_invariant row y step i = go (get_or row y 0) refl
      where
        go : (k : ℕ) → get_or row y 0 ≡ k → I (visit_at n row y k)
        go zero h = i
        go (suc d) h = raise_invariant (suc (d + delay n y)) (fanins n y) (λ r x m j. step r x d h m j) row i

    sweep_invariant :
        (p : ℕ) → ((r : List ℕ) (q : ℕ) → q < p → I r → I (visit n r (gate_at n q))) → (row : List ℕ) → I row
        → I (sweep n p row)
    sweep_invariant zero step row i = rw (sweep_none n row) i
    sweep_invariant (suc p) step row i =
        rw (sweep_next n p row)
        (sweep_invariant p (λ r q l j. step r q (omega arith) j) (visit n row (gate_at n p)) (step row p (omega arith) i))

raise_keeps : (row : List ℕ) (e : ℕ) (xs : List ℕ) (u : ℕ) → get_or row u 0 ≤ get_or (raise row e xs) u 0
raise_keeps row e xs u =
    raise_invariant (λ r. get_or row u 0 ≤ get_or r u 0) e xs (λ r x m i. omega (arith, raised_keeps r x e u)) row (omega arith)

raise_lifts :
    {u : ℕ} (row : List ℕ) (e : ℕ) {xs : List ℕ} → u ∈ xs → u < length row → e ≤ get_or (raise row e xs) u 0
unfolding raise
raise_lifts {u} row e (Memᴰ.head {x = x} {xs = xs} h) k =
    rw h (omega (arith, raised_at row x e (rw h at k), raise_keeps (raised row x e) e xs x))
raise_lifts {u} row e (Memᴰ.tail {x = x} {xs = xs} m) k =
    raise_lifts (raised row x e) e m (simp length-set k)

-- the empty row
all_zero : (u k : ℕ) → get_or {A = ℕ} (replicate k 0) u 0 ≡ 0
all_zero u k =
    elim (dec_lt u k) [
      | yes h ↦ get_or-replicate k u 0 0 h
      | no h ↦ get_or-eq_default (replicate k 0) 0 {n = u} (rw length-replicate (omega arith))
    ]

module _ (n : Network) where
  -- rows keep their length

  length_visit : (row : List ℕ) (y : ℕ) → length (visit n row y) ≡ length row
  length_visit row y =
      visit_invariant (λ r. length r ≡ length row) n row y
      (λ r x d h m i. length-set r x (max (get_or r x 0) (suc (d + delay n y))) ∙ i)
      refl

  -- entries never fall

  visit_keeps : (row : List ℕ) (y u : ℕ) → get_or row u 0 ≤ get_or (visit n row y) u 0
  visit_keeps row y u =
      visit_invariant (λ r. get_or row u 0 ≤ get_or r u 0) n row y
      (λ r x d h m i. omega (arith, raised_keeps r x (suc (d + delay n y)) u))
      (omega arith)

  sweep_keeps : (p : ℕ) (row : List ℕ) (u : ℕ) → get_or row u 0 ≤ get_or (sweep n p row) u 0
  sweep_keeps p row u =
      sweep_invariant (λ r. get_or row u 0 ≤ get_or r u 0) n p
      (λ r q l i. omega (arith, visit_keeps r (gate_at n q) u))
      row
      (omega arith)

  -- a visit passes the gate's own entry on to its fan-ins
  visit_lifts :
      (row : List ℕ) (x y d : ℕ) → x ∈ fanins n y → x < length row → suc d ≤ get_or row y 0
      → suc (d + delay n y) ≤ get_or (visit n row y) x 0
  unfolding visit visit_at
  visit_lifts row x y d m k l = go (get_or row y 0) l
    where
      go : (e : ℕ) → suc d ≤ e → suc (d + delay n y) ≤ get_or (visit_at n row y e) x 0
      go zero h = absurd (omega arith)
      go (suc e) h = omega (arith, raise_lifts row (suc (e + delay n y)) m k)

  -- Every entry tells a path to v.
  abbrev Told : ℕ → List ℕ → Type 0
  Told v row = (u d : ℕ) → get_or row u 0 ≡ suc d → Path n u v d

  raised_told : (v x c : ℕ) (row : List ℕ) → Path n x v c → Told v row → Told v (raised row x (suc c))
  raised_told v x c row p t u d h =
      ⊎_elim
      (λ (s : get_or (raised row x (suc c)) u 0 ≡ get_or row u 0). t u d (omega arith))
      (λ (s : (u ≡ x) × (get_or (raised row x (suc c)) u 0 ≡ suc c) × (get_or row u 0 ≤ suc c)). rw s.0 (path_sum n (omega arith) p))
      (raised_from row x (suc c) u)

  visit_told : (v : ℕ) (row : List ℕ) (y : ℕ) → Told v row → Told v (visit n row y)
  visit_told v row y t =
      visit_invariant (Told v) n row y
      (λ r x d h m i. raised_told v x (d + delay n y) r (path_sum n (omega arith) (path_join n (path_edge n m) (t y d h))) i)
      t

  sweep_told : (v p : ℕ) (row : List ℕ) → Told v row → Told v (sweep n p row)
  sweep_told v p = sweep_invariant (Told v) n p (λ r q l i. visit_told v r (gate_at n q) i)

  -- the row that the sweep to v starts from
  abbrev first_row : ℕ → List ℕ
  first_row v = set (replicate (size n) 0) v 1

  reach_is : (v : ℕ) → reach n v ≡ sweep n (suc (position n v)) (first_row v)
  unfolding reach
  reach_is v = refl

  onward_is : (u v : ℕ) → onward n u v ≡ pred (get_or (reach n v) u 0)
  unfolding onward
  onward_is u v = refl

  in_cone_is : (u v : ℕ) → in_cone n u v ≡ ltb 0 (get_or (reach n v) u 0)
  unfolding in_cone
  in_cone_is u v = refl

  length_first : (v : ℕ) → length (first_row v) ≡ size n
  length_first v = length-set (replicate (size n) 0) v 1 ∙ length-replicate (size n) 0

  first_at : (v : ℕ) → v < size n → get_or (first_row v) v 0 ≡ 1
  first_at v k = get_or-set_same (replicate (size n) 0) v 1 0 (rw length-replicate k)

  first_told : (v : ℕ) → v < size n → Told v (first_row v)
  first_told v k u d h =
      ⊎_elim (λ (e : u ≡ v). start e (omega (arith, first_at v k, rw e at h)))
      (λ (e : u ≡ v → ⊥). absurd (omega (arith, get_or-set_other {A = ℕ} (replicate (size n) 0) v u 1 0 e, all_zero u (size n))))
      (same_or_not u v)

module _ (n : Network) (wf : WellFormed n) where
  -- A visit changes only entries that stand before the gate, so an entry is final once the sweep has come down to it.

  visit_final : (row : List ℕ) (y u : ℕ) → position n y ≤ position n u → get_or (visit n row y) u 0 ≡ get_or row u 0
  visit_final row y u l =
      visit_invariant (λ r. get_or r u 0 ≡ get_or row u 0) n row y
      (λ r x d h m i.
      get_or-set_other r x u (max (get_or r x 0) (suc (d + delay n y))) 0
      (λ (e : u ≡ x). omega (arith, rw (← e) at (wf.below y x m)))
      ∙ i)
      refl

  sweep_final : (p : ℕ) (row : List ℕ) (u : ℕ) → p ≤ position n u → get_or (sweep n p row) u 0 ≡ get_or row u 0
  sweep_final p row u l =
      sweep_invariant (λ r. get_or r u 0 ≡ get_or row u 0) n p
      (λ r q k i. visit_final r (gate_at n q) u (omega (arith, position_gate_at n q)) ∙ i)
      row
      refl

  -- The swept row is closed: a fan-in's entry exceeds the gate's own entry by the gate's delay at least.

  own_closed :
      (p : ℕ) (row : List ℕ) (x y d : ℕ) → length row ≡ size n → p ≤ position n y → x ∈ fanins n y
      → suc d ≤ get_or (sweep n p (visit n row y)) y 0
      → suc (d + delay n y) ≤ get_or (sweep n p (visit n row y)) x 0
  own_closed p row x y d k l m h =
      let own : suc d ≤ get_or row y 0 = omega (arith, sweep_final p (visit n row y) y l, visit_final row y y (omega arith)) in
      let lifts = visit_lifts n row x y d m (omega (arith, wf.known y x m)) own in
      omega (arith, sweep_keeps n p (visit n row y) x)

  sweep_closed :
      (p : ℕ) (row : List ℕ) (x y d : ℕ) → length row ≡ size n → position n y < p → x ∈ fanins n y
      → suc d ≤ get_or (sweep n p row) y 0
      → suc (d + delay n y) ≤ get_or (sweep n p row) x 0
  sweep_closed zero row x y d k l m h = absurd (omega arith)
  sweep_closed (suc p) row x y d k l m h =
      rw (sweep_next n p row)
      (⊎_elim
      (λ (e : position n y ≡ p).
      let g = ap (gate_at n) (sym e) ∙ gate_at_position n y in
      rw g (own_closed p row x y d k (omega arith) m (rw (sweep_next n p row, g) at h)))
      (λ (e : position n y ≡ p → ⊥).
      sweep_closed p (visit n row (gate_at n p)) x y d (length_visit n row (gate_at n p) ∙ k) (omega arith) m
      (rw (sweep_next n p row) at h))
      (same_or_not (position n y) p))

  -- Going back along a path every gate adds its delay.
  path_adds :
      {u w d : ℕ} (v e : ℕ) → Path n u w d → position n w ≤ position n v → suc e ≤ get_or (reach n v) w 0
      → suc (e + d) ≤ get_or (reach n v) u 0
  path_adds v e (start {v = w} h z) l k = rw h (omega arith)
  path_adds {u} {w} {d} v e (onto {x = x} {d = c} p m h) l k =
      let step : suc (e + delay n w) ≤ get_or (reach n v) x 0 =
      rw reach_is (sweep_closed (suc (position n v)) (first_row n v) x w e (length_first n v) (omega arith) m (rw reach_is at k)) in
      omega (arith, path_adds v (e + delay n w) p (omega (arith, wf.below w x m)) step)

  -- every entry of the row tells a path
  pub reach_path : (u v d : ℕ) → v < size n → get_or (reach n v) u 0 ≡ suc d → Path n u v d
  reach_path u v d k h =
      sweep_told n v (suc (position n v)) (first_row n v) (first_told n v k) u d (rw reach_is at h)

  -- no path is longer than the entry
  pub path_reach : {u v d : ℕ} → v < size n → Path n u v d → suc d ≤ get_or (reach n v) u 0
  path_reach {u} {v} {d} k p =
      let own : 1 ≤ get_or (reach n v) v 0 =
      rw reach_is (omega (arith, first_at n v k, sweep_keeps n (suc (position n v)) (first_row n v) v)) in
      omega (arith, path_adds v 0 p (omega arith) own)

  -- The onward delay is the largest sum over paths.

  pub onward_path : (u v : ℕ) → v < size n → InCone n u v → Path n u v (onward n u v)
  onward_path u v k c = reach_path u v (onward n u v) k (omega (arith, onward_is n u v, path_reach k c.1))

  pub onward_bounds : {u v d : ℕ} → v < size n → Path n u v d → d ≤ onward n u v
  onward_bounds {u} {v} k p = omega (arith, onward_is n u v, path_reach k p)

  pub onward_largest : (u v : ℕ) → v < size n → InCone n u v → Onward n u v (onward n u v)
  onward_largest u v k c = record { reached = onward_path u v k c; bounds = λ e p. onward_bounds k p }

  -- The test in-cone decides the cone.

  pub in_cone_true : (u v : ℕ) → v < size n → in_cone n u v ≡ true → InCone n u v
  in_cone_true u v k t =
      let known = ltb-true 0 (get_or (reach n v) u 0) (rw in_cone_is at t) in
      (onward n u v, reach_path u v (onward n u v) k (omega (arith, onward_is n u v)))

  pub true_in_cone : {u v d : ℕ} → v < size n → Path n u v d → in_cone n u v ≡ true
  true_in_cone {u} {v} k p = rw in_cone_is (lt-ltb 0 (get_or (reach n v) u 0) (omega (arith, path_reach k p)))

  pub outside_no_path : (u v : ℕ) → v < size n → in_cone n u v ≡ false → (d : ℕ) → Path n u v d → ⊥
  outside_no_path u v k f d p = not_both (true_in_cone k p) f

  -- the gate itself
  pub onward_self : (v : ℕ) → v < size n → onward n v v ≡ 0
  onward_self v k =
      ⊎_elim (λ (s : (v ≡ v) × (onward n v v ≡ 0)). s.1)
      (λ (s : (y : ℕ) × (e : ℕ) × (v ∈ fanins n y) × Path n y v e × (onward n v v ≡ delay n y + e)).
      let falls = wf.below s.0 v s.2 in
      ⊎_elim (λ (h : s.0 ≡ v). absurd (omega (arith, ap (position n) h))) (λ h. absurd (omega arith))
      (path_rises n wf s.3))
      (first_step n (onward_path v v k (0, path_here n v)))

  -- an edge: going on from a fan-in x of y costs at least y's delay more
  pub onward_edge : (x y v : ℕ) → v < size n → x ∈ fanins n y → InCone n y v → delay n y + onward n y v ≤ onward n x v
  onward_edge x y v k m c = onward_bounds k (path_join n (path_edge n m) (onward_path y v k c))

  -- a longest path that is not empty has a first step that is longest too
  pub onward_step :
      (u v : ℕ) → v < size n → InCone n u v → (u ≡ v → ⊥)
      → (y : ℕ) × (u ∈ fanins n y) × InCone n y v × (onward n u v ≡ delay n y + onward n y v)
  onward_step u v k c apart =
      ⊎_elim (λ (s : (u ≡ v) × (onward n u v ≡ 0)). absurd (apart s.0))
      (λ (s : (y : ℕ) × (e : ℕ) × (u ∈ fanins n y) × Path n y v e × (onward n u v ≡ delay n y + e)).
      (s.0, s.2, (s.1, s.3), omega (arith, onward_bounds k s.3, onward_edge u s.0 v k s.2 (s.1, s.3))))
      (first_step n (onward_path u v k c))
