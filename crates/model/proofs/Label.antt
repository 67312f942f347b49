-- Laws of labels [L5], specs/Label.antt, and of the row `labels`, in which each gate is labelled
-- from the labels of its cone.
use Prim.Native.Nat.{ℕ, zero, suc, ◌+◌, ◌≤◌, ◌<◌, max}
use mathlib.Core.Path.{◌≡◌, refl, sym, ◌∙◌, ap}
use mathlib.Core.Logic.{⊎_elim}
use mathlib.Core.Bool.{true, false, cond}
use mathlib.Core.List.Memᴰ
use mathlib.Core.List.{List, [], ◌∷◌, map}
use mathlib.Core.Option.{Option, none, some}
use native.Mathlib.Nat.{le_refl, max-eq_left, max-eq_right}
use native.Mathlib.Decide.{dec_le}
use native.Mathlib.Omega.{arith}
use lib.ListN.{length, get_or, set, length-set, length-replicate}
use lib.Seq.{get_or-set_same, get_or-set_other}
use Rattle.model.specs.Basics.{◌∈◌, Largest, largest, keep}
use Rattle.model.specs.Network.{Network, size, weight, delay, Input, input, position, gate_at}
use Rattle.model.specs.Onward.{in_cone}
use Rattle.model.specs.Label.{pull, place, arrange, ordered, Growth, grow, growth, joined, stop, cluster, Counts, nothing, input_inside, stopped, from_inputs, from_stop, label_from, labels_below, labels, label}
use Rattle.model.proofs.Lists.{true_or_false, keep_in, in_keep, in_map, map_in, at_most_largest, largest_stands}
use Rattle.model.proofs.Networks.{input_true, true_input, position_known, gate_at_position, position_gate_at}
use Rattle.model.proofs.Order.{place_in, ordered_in}
use Rattle.model.proofs.Growth.{joined_cone, stop_in}

the_larger : (P : ℕ → Type 0) (a b : ℕ) → P a → P b → P (max a b)
the_larger P a b p q =
    elim (dec_le a b) [
      | yes h ↦ rw (max-eq_right h) q
      | no h ↦ let k : b ≤ a = omega arith in rw (max-eq_left k) p
    ]

module _ (n : Network) (l : List ℕ) (v : ℕ) where
  pub label_from_input : input n v ≡ true → label_from n l v ≡ delay n v
  unfolding label_from
  label_from_input t = rw t

  label_from_reader : input n v ≡ false → label_from n l v ≡ max (from_inputs n l v) (from_stop n l v (stop n l v))
  unfolding label_from
  label_from_reader f = rw f

  from_inputs_counts : Counts n l v (from_inputs n l v)
  unfolding from_inputs
  from_inputs_counts =
      ⊎_elim (λ e. nothing e)
      (λ m.
      let (x, k, e) = map_in (pull n l v) (from_inputs n l v) (keep (input n) (joined n l v)) m in
      let (i, t) = keep_in (input n) x (joined n l v) k in
      input_inside i (input_true n x t) e)
      (largest_stands (map (pull n l v) (keep (input n) (joined n l v))))

  from_stop_counts : (o : Option ℕ) → stop n l v ≡ o → Counts n l v (from_stop n l v o)
  unfolding from_stop
  from_stop_counts none e = nothing refl
  from_stop_counts (some x) e = stopped e refl

  -- a primary input inside counts, and so does the gate that stopped growth
  input_counts : (x : ℕ) → x ∈ joined n l v → Input n x → pull n l v x ≤ from_inputs n l v
  unfolding from_inputs
  input_counts x m i = at_most_largest (in_map (pull n l v) (in_keep (input n) m (true_input n x i)))

  stop_counts : (x : ℕ) → stop n l v ≡ some x → from_stop n l v (stop n l v) ≡ pull n l v x + n.hop
  unfolding from_stop
  stop_counts x e = rw e

  counts_most : {d : ℕ} → Counts n l v d → d ≤ max (from_inputs n l v) (from_stop n l v (stop n l v))
  counts_most (nothing z) = omega arith
  counts_most (input_inside {x = x} m i q) = omega (arith, input_counts x m i)
  counts_most (stopped {x = x} e q) = omega (arith, stop_counts x e)

  -- [L5] the largest of what counts
  pub label_from_largest : input n v ≡ false → Largest (Counts n l v) (label_from n l v)
  label_from_largest f =
      rw (label_from_reader f)
      (record {
        reached =
            the_larger (Counts n l v) (from_inputs n l v) (from_stop n l v (stop n l v)) from_inputs_counts
            (from_stop_counts (stop n l v) refl);
        bounds = λ d c. counts_most c;
      })

-- Two rows that agree on the cone's gates below the root give the root the same order, growth, cluster and label.

place_agree :
    (f g : ℕ → ℕ) (u : ℕ) (row : List ℕ) → f u ≡ g u → ((x : ℕ) → x ∈ row → f x ≡ g x) → place f u row ≡ place g u row
unfolding place
place_agree f g u [] e h = refl
place_agree f g u (w ∷ ws) e h =
    rw (e, h w (Memᴰ.head refl), place_agree f g u ws e (λ x m. h x (Memᴰ.tail m)))

map_agree : (f g : ℕ → ℕ) (row : List ℕ) → ((x : ℕ) → x ∈ row → f x ≡ g x) → map f row ≡ map g row
map_agree f g [] h = refl
map_agree f g (x ∷ xs) h = rw (h x (Memᴰ.head refl), map_agree f g xs (λ y m. h y (Memᴰ.tail m)))

-- the rows agree on the cone's gates below the root
abbrev pub Agree : Network → ℕ → List ℕ → List ℕ → Type 0
Agree n v l l' = (u : ℕ) → in_cone n u v ≡ true → position n u < position n v → get_or l u 0 ≡ get_or l' u 0

module _ (n : Network) (v : ℕ) (l l' : List ℕ) (same : Agree n v l l') where
  pub pull_agree : (u : ℕ) → in_cone n u v ≡ true → position n u < position n v → pull n l v u ≡ pull n l' v u
  unfolding pull
  pull_agree u c b = omega (arith, same u c b)

  arrange_agree :
      (p : ℕ) (row : List ℕ) → p ≤ position n v → ((x : ℕ) → x ∈ row → pull n l v x ≡ pull n l' v x)
      → arrange n l v p row ≡ arrange n l' v p row
  unfolding arrange
  arrange_agree zero row h a = refl
  arrange_agree (suc p) row h a =
      let g = gate_at n p in
      ⊎_elim
      (λ (t : in_cone n g v ≡ true).
      let e : pull n l v g ≡ pull n l' v g = pull_agree g t (omega (arith, position_gate_at n p)) in
      rw (t, place_agree (pull n l v) (pull n l' v) g row e a)
      (arrange_agree p (place (pull n l' v) g row) (omega arith)
      (λ x m.
      ⊎_elim (λ (q : x ≡ g). ap (pull n l v) q ∙ e ∙ ap (pull n l' v) (sym q)) (λ (k : x ∈ row). a x k)
      (place_in (pull n l' v) g x row m))))
      (λ (f : in_cone n g v ≡ false). rw f (arrange_agree p row (omega arith) a))
      (true_or_false (in_cone n g v))

  pub ordered_agree : ordered n l v ≡ ordered n l' v
  unfolding ordered
  ordered_agree = arrange_agree (position n v) [] (le_refl (position n v)) (λ x m. absurd (Memᴰ.not-nil m))

  growth_agree : growth n l v ≡ growth n l' v
  unfolding growth
  growth_agree = ap (grow n (weight n v)) ordered_agree

  pub joined_agree : joined n l v ≡ joined n l' v
  unfolding joined
  joined_agree = ap (λ (g : Growth). g.joined) growth_agree

  pub stop_agree : stop n l v ≡ stop n l' v
  unfolding stop
  stop_agree = ap (λ (g : Growth). g.stop) growth_agree

  pub cluster_agree : cluster n l v ≡ cluster n l' v
  unfolding cluster
  cluster_agree = ap (λ (us : List ℕ). cond (input n v) (v ∷ []) (v ∷ us)) joined_agree

  from_inputs_agree : from_inputs n l v ≡ from_inputs n l' v
  unfolding from_inputs
  from_inputs_agree =
      ap largest
      (map_agree (pull n l v) (pull n l' v) (keep (input n) (joined n l v))
      (λ x m.
      let (c, b) = joined_cone n l v x (keep_in (input n) x (joined n l v) m).0 in
      pull_agree x c b)
      ∙ ap (λ (us : List ℕ). map (pull n l' v) (keep (input n) us)) joined_agree)

  at_stop : (o : Option ℕ) → stop n l v ≡ o → from_stop n l v o ≡ from_stop n l' v o
  unfolding from_stop
  at_stop none e = refl
  at_stop (some x) e =
      let (c, b) = ordered_in n l v x (stop_in n l v x e) in
      ap (λ (d : ℕ). d + n.hop) (pull_agree x c b)

  from_stop_agree : from_stop n l v (stop n l v) ≡ from_stop n l' v (stop n l' v)
  from_stop_agree = at_stop (stop n l v) refl ∙ ap (from_stop n l' v) stop_agree

  pub label_from_agree : label_from n l v ≡ label_from n l' v
  unfolding label_from
  label_from_agree = rw (from_inputs_agree, from_stop_agree)

-- the row `labels`

module _ (n : Network) where
  pub labels_step :
      (p : ℕ) → labels_below n (suc p) ≡ set (labels_below n p) (gate_at n p) (label_from n (labels_below n p) (gate_at n p))
  unfolding labels_below
  labels_step p = refl

  pub labels_below_length : (p : ℕ) → length (labels_below n p) ≡ size n
  labels_below_length zero = unfold labels_below in length-replicate (size n) 0
  labels_below_length (suc p) =
      rw (labels_step p)
      (length-set (labels_below n p) (gate_at n p) (label_from n (labels_below n p) (gate_at n p)) ∙ labels_below_length p)

  pub labels_length : length (labels n) ≡ size n
  unfolding labels
  labels_length = labels_below_length (size n)

  -- a gate at another position keeps its label
  labels_other : (p u : ℕ) → position n u < p → get_or (labels_below n (suc p)) u 0 ≡ get_or (labels_below n p) u 0
  labels_other p u h =
      rw (labels_step p)
      (get_or-set_other (labels_below n p) (gate_at n p) u (label_from n (labels_below n p) (gate_at n p)) 0
      (λ (e : u ≡ gate_at n p). omega (arith, ap (position n) e, position_gate_at n p)))

  -- what stands below p is final
  pub labels_final :
      (p q u : ℕ) → p ≤ q → position n u < p → get_or (labels_below n q) u 0 ≡ get_or (labels_below n p) u 0
  labels_final p zero u h b = absurd (omega arith)
  labels_final p (suc q) u h b =
      elim (dec_le p q) [
        | yes k ↦ labels_other q u (omega arith) ∙ labels_final p q u k b
        | no k ↦ let e : suc q ≡ p = omega arith in rw e
      ]

  pub label_at : (v : ℕ) → label n v ≡ get_or (labels n) v 0
  unfolding label
  label_at v = refl

  -- the label of v when the labels below it stand
  label_made : (v : ℕ) → v < size n → get_or (labels_below n (suc (position n v))) v 0 ≡ label_from n (labels_below n (position n v)) v
  label_made v h =
      rw (labels_step (position n v), gate_at_position n v)
      (get_or-set_same (labels_below n (position n v)) v (label_from n (labels_below n (position n v)) v) 0
      (omega (arith, labels_below_length (position n v))))

  labels_whole : labels n ≡ labels_below n (size n)
  unfolding labels
  labels_whole = refl

  -- when v is labelled, the labels of its cone are final
  pub labels_stand : (v : ℕ) → v < size n → Agree n v (labels_below n (position n v)) (labels n)
  labels_stand v h u c b =
      let k : position n v ≤ size n = omega (arith, position_known n v h) in
      rw labels_whole (sym (labels_final (position n v) (size n) u k b))

  -- Each gate is labelled from the labels of its cone, which stand before it.
  pub label_equation : (v : ℕ) → v < size n → label n v ≡ label_from n (labels n) v
  label_equation v h =
      label_at v
      ∙ (rw labels_whole (labels_final (suc (position n v)) (size n) v (position_known n v h) (omega arith)))
      ∙ label_made v h
      ∙ label_from_agree n v (labels_below n (position n v)) (labels n) (labels_stand v h)

  pub label_input : (v : ℕ) → v < size n → input n v ≡ true → label n v ≡ delay n v
  label_input v h t = label_equation v h ∙ label_from_input n (labels n) v t

  pub label_largest : (v : ℕ) → v < size n → input n v ≡ false → Largest (Counts n (labels n) v) (label n v)
  label_largest v h f = rw (label_equation v h) (label_from_largest n (labels n) v f)
