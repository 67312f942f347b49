-- Laws of specs/Network.antt. Of positions and of the gate at a position the other pages use only what stands here.
use Prim.Native.Nat.{ℕ, ◌≤◌, ◌<◌}
use mathlib.Core.Path.{◌≡◌, refl, sym, ◌∙◌, ap}
use mathlib.Core.Logic.{⊎_elim}
use mathlib.Core.Bool.{true, false}
use mathlib.Core.List.Memᴰ
use mathlib.Core.List.{List, [], ◌∷◌}
use native.Mathlib.Decide.{dec_lt}
use native.Mathlib.Omega.{arith}
use lib.ListN.{get_or-eq_default}
use Rattle.model.specs.Basics.{◌∈◌}
use Rattle.model.specs.Network.{Gate, Network, size, gate, fanins, Input, empty, input, position, gate_at}
use Rattle.model.proofs.Lists.{not_both, true_or_false}

-- a number past the last gate reads nothing
past_the_last : (n : Network) (v : ℕ) → size n ≤ v → fanins n v ≡ []
unfolding fanins gate size
past_the_last n v h =
    ap (λ (g : Gate). g.fanins)
    (get_or-eq_default n.gates (record { weight = 0; delay = 0; fanins = [] }) {n = v} h)

pub reader_known : (n : Network) (v x : ℕ) → x ∈ fanins n v → v < size n
reader_known n v x m =
    elim (dec_lt v (size n)) [
      | yes h ↦ h
      | no h ↦ absurd (Memᴰ.not-nil (rw (past_the_last n v (omega arith)) at m))
    ]

-- primary inputs

pub input_true : (n : Network) (v : ℕ) → input n v ≡ true → Input n v
unfolding input empty
input_true n v h = go (fanins n v) h
  where
    go : (xs : List ℕ) → empty xs ≡ true → xs ≡ []
    go [] t = refl
    go (x ∷ xs) t = absurd (not_both {b = false} t refl)

pub true_input : (n : Network) (v : ℕ) → Input n v → input n v ≡ true
unfolding input empty
true_input n v h = rw h

pub reads_something : (n : Network) (v : ℕ) → input n v ≡ false → (x : ℕ) × (x ∈ fanins n v)
unfolding input empty
reads_something n v h = go (fanins n v) h
  where
    go : (xs : List ℕ) → empty xs ≡ false → (x : ℕ) × (x ∈ xs)
    go [] t = absurd (not_both {b = true} refl t)
    go (x ∷ xs) t = (x, Memᴰ.head refl)

pub reader_no_input : (n : Network) (v x : ℕ) → x ∈ fanins n v → input n v ≡ false
reader_no_input n v x m =
    ⊎_elim (λ t. absurd (Memᴰ.not-nil (rw (input_true n v t) at m))) (λ f. f) (true_or_false (input n v))

-- positions

module _ (n : Network) where
  pub position_known : (v : ℕ) → v < size n → position n v < size n
  unfolding position
  position_known v h = h

  pub gate_at_position : (v : ℕ) → gate_at n (position n v) ≡ v
  unfolding gate_at position
  gate_at_position v = refl

  pub position_gate_at : (p : ℕ) → position n (gate_at n p) ≡ p
  unfolding gate_at position
  position_gate_at p = refl

  -- two gates never share a position
  pub position_tells : (u v : ℕ) → position n u ≡ position n v → u ≡ v
  position_tells u v e = sym (gate_at_position u) ∙ ap (gate_at n) e ∙ gate_at_position v
