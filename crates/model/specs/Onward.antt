-- Paths, the cone, the onward delay.
use Rattle.std.specs.Prelude.{ℕ, zero, suc, pred, ◌+◌, max, ◌≡◌, Bool, List, [], ◌∷◌, get_or, set, replicate, ltb}
use Rattle.model.specs.Basics.{◌∈◌, Largest}
use Rattle.model.specs.Network.{Network, size, delay, fanins, position, gate_at}

-- [W6] A path from u to v, with the delays of its gates summed, that of v counted and that of u not.
pub data Path (n : Network) (u : ℕ) : ℕ → ℕ → Type 0 where
  start : {v d : ℕ} → u ≡ v → d ≡ 0 → Path n u v d
  onto : {x v d e : ℕ} → Path n u x d → x ∈ fanins n v → e ≡ d + delay n v → Path n u v e

-- [W5] a path leads from u to v; from v to itself one without an edge does
abbrev pub InCone : Network → ℕ → ℕ → Type 0
InCone n u v = (d : ℕ) × Path n u v d

-- [W6] the largest such sum
abbrev pub Onward : Network → ℕ → ℕ → ℕ → Type 0
Onward n u v = Largest (Path n u v)

-- The onward delays to v in one sweep over a row with an entry for each gate: 0 where no path is known, otherwise
-- 1 more than the largest sum so far. Each gate, from v downward, raises the entries of its fan-ins.
unfoldable pub raise : List ℕ → ℕ → List ℕ → List ℕ
raise row e [] = row
raise row e (x ∷ xs) = raise (set row x (max (get_or row x 0) e)) e xs

unfoldable pub visit_at : Network → List ℕ → ℕ → ℕ → List ℕ
unfolding raise fanins delay
visit_at n row y zero = row
visit_at n row y (suc d) = raise row (suc (d + delay n y)) (fanins n y)

unfoldable pub visit : Network → List ℕ → ℕ → List ℕ
unfolding visit_at
visit n row y = visit_at n row y (get_or row y 0)

-- the gates at the positions below p, from the last to the first
unfoldable pub sweep : Network → ℕ → List ℕ → List ℕ
unfolding visit gate_at
sweep n zero row = row
sweep n (suc p) row = sweep n p (visit n row (gate_at n p))

unfoldable pub reach : Network → ℕ → List ℕ
unfolding sweep size position
reach n v = sweep n (suc (position n v)) (set (replicate (size n) 0) v 1)

unfoldable pub in_cone : Network → ℕ → ℕ → Bool
unfolding reach
in_cone n u v = ltb 0 (get_or (reach n v) u 0)

unfoldable pub onward : Network → ℕ → ℕ → ℕ
unfolding reach
onward n u v = pred (get_or (reach n v) u 0)
