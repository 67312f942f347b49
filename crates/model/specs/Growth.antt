-- Rule L4 with no walk in it.
use Rattle.std.specs.Prelude.{ℕ, ◌+◌, ◌≤◌, ◌≡◌, ◌↔◌, not, List, map}
use Rattle.std.proofs.Math.Option.{none, some}
use Rattle.model.specs.Basics.{◌∈◌, keep, upto, total}
use Rattle.model.specs.Network.{Network, weight, position, gate_at}
use Rattle.model.specs.Onward.{in_cone}
use Rattle.model.specs.Label.{Before, before, joined, stop}

-- the gates of the cone without v: they stand below it
unfoldable pub cone_gates : Network → ℕ → List ℕ
cone_gates n v = keep (λ u. in_cone n u v) (map (gate_at n) (upto (position n v)))

-- the gates of the cone not after u in the order, u itself among them
unfoldable pub not_after : Network → List ℕ → ℕ → ℕ → List ℕ
not_after n l v u = keep (λ x. not (before n l v u x)) (cone_gates n v)

-- [L4] What growth comes to, with no walk in it.
pub record Grows (n : Network) (l : List ℕ) (v : ℕ) : Type 0 where
  -- a gate of the cone is a member exactly when the root's weight and those of all gates of the cone not after it sum to
  -- at most M
  pub member :
      (u : ℕ) → u ∈ cone_gates n v
      → (u ∈ joined n l v) ↔ (weight n v + total (weight n) (not_after n l v u) ≤ n.capacity)
  -- nothing but gates of the cone are members
  pub within : (u : ℕ) → u ∈ joined n l v → u ∈ cone_gates n v
  -- the stopping gate is the first in the order that is no member
  pub stops :
      (s : ℕ)
      → (stop n l v ≡ some s)
      ↔ ((s ∈ cone_gates n v) × (s ∈ joined n l v → ⊥) × ((u : ℕ) → u ∈ cone_gates n v → Before n l v u s → u ∈ joined n l v))
  -- there is none exactly when the whole cone fits
  pub whole : weight n v ≤ n.capacity → (stop n l v ≡ none) ↔ (weight n v + total (weight n) (cone_gates n v) ≤ n.capacity)
