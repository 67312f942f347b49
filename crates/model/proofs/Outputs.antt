-- Laws of the primary outputs: the list holds exactly the unread gates, and every gate reaches one of them.
use Prim.Native.Nat.{ℕ, zero, suc, ◌+◌, ◌≤◌, ◌<◌}
use mathlib.Core.Path.{◌≡◌, refl}
use mathlib.Core.Logic.{◌⊎◌, inl, inr, ⊎_elim}
use mathlib.Core.Bool.{true, false}
use mathlib.Core.List.Memᴰ
use mathlib.Core.List.{List, [], ◌∷◌}
use native.Mathlib.Omega.{arith}
use Rattle.model.specs.Basics.{◌∈◌, member, upto}
use Rattle.model.specs.Network.{Network, size, delay, fanins, empty, Output, read_by, outputs, position, WellFormed}
use Rattle.model.specs.Onward.{InCone}
use Rattle.model.proofs.Lists.{not_both, member_true, true_member, in_keep, keep_in, in_upto, upto_in}
use Rattle.model.proofs.Networks.{reader_known, position_known}
use Rattle.model.proofs.Paths.{path_here, path_edge, path_join}

-- an empty list holds nothing, and a list that holds nothing is empty
empty_true : (x : ℕ) (xs : List ℕ) → empty xs ≡ true → x ∈ xs → ⊥
unfolding empty
empty_true x [] t m = Memᴰ.not-nil m
empty_true x (y ∷ ys) t m = not_both {b = false} t refl

true_empty : (xs : List ℕ) → ((x : ℕ) → x ∈ xs → ⊥) → empty xs ≡ true
unfolding empty
true_empty [] h = refl
true_empty (x ∷ xs) h = absurd (h x (Memᴰ.head refl))

module _ (n : Network) where
  pub in_read_by : (v w : ℕ) → v ∈ fanins n w → w ∈ read_by n v
  unfolding read_by
  in_read_by v w m = in_keep (λ w. member v (fanins n w)) (in_upto (size n) (reader_known n w v m)) (true_member m)

  pub read_by_in : (v w : ℕ) → w ∈ read_by n v → v ∈ fanins n w
  unfolding read_by
  read_by_in v w m =
      member_true v (fanins n w) (keep_in (λ w. member v (fanins n w)) w (upto (size n)) m).1

  pub outputs_in : (v : ℕ) → v ∈ outputs n → Output n v
  unfolding outputs
  outputs_in v m =
      let k = keep_in (λ v. empty (read_by n v)) v (upto (size n)) m in
      record {
        known = upto_in (size n) v k.0;
        unread = λ w r. empty_true w (read_by n v) k.1 (in_read_by v w r);
      }

  pub in_outputs : (v : ℕ) → Output n v → v ∈ outputs n
  unfolding outputs
  in_outputs v o =
      in_keep (λ v. empty (read_by n v)) (in_upto (size n) o.known)
      (true_empty (read_by n v) (λ w m. o.unread w (read_by_in v w m)))

  -- a gate is an output or somebody reads it
  pub output_or_read : (u : ℕ) → u < size n → (u ∈ outputs n) ⊎ ((w : ℕ) × (u ∈ fanins n w))
  output_or_read u h = go (read_by n u) refl
    where
      go : (ws : List ℕ) → read_by n u ≡ ws → (u ∈ outputs n) ⊎ ((w : ℕ) × (u ∈ fanins n w))
      go [] e =
          inl (in_outputs u (record { known = h; unread = λ w r. Memᴰ.not-nil (rw e at (in_read_by u w r)) }))
      go (w ∷ ws) e = inr (w, read_by_in u w (rw e (Memᴰ.head refl)))

  module _ (wf : WellFormed n) where
    -- Readers stand at ever larger positions, of which there are `size n`: whoever goes from reader to reader comes to
    -- a gate that nobody reads.
    onward_to_output :
        (fuel u : ℕ) → u < size n → size n ≤ position n u + fuel → (v : ℕ) × (v ∈ outputs n) × InCone n u v
    onward_to_output zero u h f = absurd (let p = position_known n u h in omega arith)
    onward_to_output (suc fuel) u h f =
        ⊎_elim (λ (m : u ∈ outputs n). (u, m, (0, path_here n u)))
        (λ (r : (w : ℕ) × (u ∈ fanins n w)).
        let b = wf.below r.0 u r.1 in
        let o = onward_to_output fuel r.0 (reader_known n r.0 u r.1) (omega arith) in
        (o.0, o.1, (delay n r.0 + o.2.0, path_join n (path_edge n r.1) o.2.1)))
        (output_or_read u h)

    -- every gate reaches an output
    pub reaches_output : (u : ℕ) → u < size n → (v : ℕ) × (v ∈ outputs n) × InCone n u v
    reaches_output u h = onward_to_output (size n) u h (omega arith)

    pub some_output : (v : ℕ) × (v ∈ outputs n)
    some_output = let o = reaches_output 0 wf.some_gate in (o.0, o.1)
