-- Laws of `first_heavy`: it tells the line of the lowest-numbered gate heavier than M, and nothing exactly when there is none.
use Prim.Native.Nat.{ℕ, zero, suc, ◌+◌, ◌≤◌, ◌<◌}
use mathlib.Core.Path.{◌≡◌, refl, ◌∙◌, ap}
use mathlib.Core.Logic.{◌↔◌}
use mathlib.Core.List.{List, [], ◌∷◌}
use mathlib.Core.Option.{Option, none, some}
use native.Mathlib.Decide.{dec_lt}
use native.Mathlib.Omega.{arith}
use borrow.Author.Tests.{lt-ltb, le-ltb}
use Rattle.model.specs.Network.{Gate, Network, size, weight, Heavy}
use Rattle.texts.specs.Reading.{first_heavy}
use Rattle.texts.specs.Says.{LowestHeavy}

module _ (capacity hop : ℕ) where
  -- a network of these gates
  abbrev of : List Gate → Network
  of gs = record { capacity = capacity; hop = hop; gates = gs }

  heavy_first : (g : Gate) (gs : List Gate) → capacity < g.weight → Heavy (of (g ∷ gs)) 0
  unfolding weight size
  heavy_first g gs h = record { known = omega arith; above = h }

  light_first : (g : Gate) (gs : List Gate) → g.weight ≤ capacity → Heavy (of (g ∷ gs)) 0 → ⊥
  unfolding weight
  light_first g gs le h = omega (arith, h.above)

  no_gate : (v : ℕ) → Heavy (of []) v → ⊥
  unfolding size
  no_gate v h = omega (arith, h.known)

  -- a gate in front moves the others on by one
  heavy_later : (g : Gate) (gs : List Gate) (v : ℕ) → Heavy (of gs) v → Heavy (of (g ∷ gs)) (suc v)
  unfolding weight size
  heavy_later g gs v h = record { known = omega (arith, h.known); above = h.above }

  heavy_earlier : (g : Gate) (gs : List Gate) (v : ℕ) → Heavy (of (g ∷ gs)) (suc v) → Heavy (of gs) v
  unfolding weight size
  heavy_earlier g gs v h = record { known = omega (arith, h.known); above = h.above }

  heavy_yes : (at : ℕ) (g : Gate) (gs : List Gate) → capacity < g.weight → first_heavy capacity at (g ∷ gs) ≡ some at
  unfolding first_heavy
  heavy_yes at g gs h = rw (lt-ltb capacity g.weight h)

  heavy_no :
      (at : ℕ) (g : Gate) (gs : List Gate) →
      g.weight ≤ capacity → first_heavy capacity at (g ∷ gs) ≡ first_heavy capacity (suc at) gs
  unfolding first_heavy
  heavy_no at g gs h = rw (le-ltb capacity g.weight h)

  lowest_later : (g : Gate) (gs : List Gate) (v : ℕ) → g.weight ≤ capacity → LowestHeavy (of gs) v → LowestHeavy (of (g ∷ gs)) (suc v)
  lowest_later g gs v light h = record { heavy = heavy_later g gs v h.heavy; lowest = go }
    where
      go : (u : ℕ) → u < suc v → Heavy (of (g ∷ gs)) u → ⊥
      go zero less heavy = light_first g gs light heavy
      go (suc u) less heavy = h.lowest u (omega arith) (heavy_earlier g gs u heavy)

  none_later :
      (g : Gate) (gs : List Gate) →
      g.weight ≤ capacity → ((v : ℕ) → Heavy (of gs) v → ⊥) → (v : ℕ) → Heavy (of (g ∷ gs)) v → ⊥
  none_later g gs light h zero heavy = light_first g gs light heavy
  none_later g gs light h (suc v) heavy = h v (heavy_earlier g gs v heavy)

-- what weighing finds: the lowest-numbered heavy gate with its line, or none
data Weighed (n : Network) (at : ℕ) (o : Option ℕ) : Type 0 where
  found : {v : ℕ} → LowestHeavy n v → o ≡ some (v + at) → Weighed n at o
  light : ((v : ℕ) → Heavy n v → ⊥) → o ≡ none → Weighed n at o

weighed : (capacity hop : ℕ) (gs : List Gate) (at : ℕ) → Weighed (of capacity hop gs) at (first_heavy capacity at gs)
unfolding first_heavy
weighed capacity hop [] at = light (no_gate capacity hop) refl
weighed capacity hop (g ∷ gs) at = go (dec_lt capacity g.weight) (weighed capacity hop gs (suc at))
  where
    go :
        Dec (capacity < g.weight) →
        Weighed (of capacity hop gs) (suc at) (first_heavy capacity (suc at) gs) →
        Weighed (of capacity hop (g ∷ gs)) at (first_heavy capacity at (g ∷ gs))
    go (yes h) rest =
        found {v = 0} (record { heavy = heavy_first capacity hop g gs h; lowest = λ u less. absurd (omega arith) })
        (heavy_yes capacity hop at g gs h ∙ ap {B = Option ℕ} some (omega arith))
    go (no h) (found {v = v} low e) =
        let h' : g.weight ≤ capacity = omega arith in
        found {v = suc v} (lowest_later capacity hop g gs v h' low)
        (heavy_no capacity hop at g gs h' ∙ e ∙ ap {B = Option ℕ} some (omega arith))
    go (no h) (light none_heavy e) =
        let h' : g.weight ≤ capacity = omega arith in
        light (none_later capacity hop g gs h' none_heavy) (heavy_no capacity hop at g gs h' ∙ e)

-- only one gate is the lowest-numbered
same_lowest : (n : Network) (u v : ℕ) → LowestHeavy n u → LowestHeavy n v → u ≡ v
same_lowest n u v a b =
    elim (dec_lt u v) [
      | yes h ↦ absurd (b.lowest u h a.heavy)
      | no h ↦ elim (dec_lt v u) [ yes h' ↦ absurd (a.lowest v h' b.heavy) | no h' ↦ omega arith ]
    ]

-- Weighing tells line at exactly when the lowest-numbered heavy gate is gate at - 2.
pub heavy_told : (n : Network) (at : ℕ) → (first_heavy n.capacity 2 n.gates ≡ some at) ↔ ((v : ℕ) × LowestHeavy n v × (at ≡ v + 2))
heavy_told n at = (λ h. to (weighed n.capacity n.hop n.gates 2) h, λ r. from r (weighed n.capacity n.hop n.gates 2))
  where
    told : Option ℕ
    told = first_heavy n.capacity 2 n.gates

    to : Weighed n 2 told → told ≡ some at → (v : ℕ) × LowestHeavy n v × (at ≡ v + 2)
    to (found {v = v} low e) h = (v, low, cc)
    to (light none_heavy e) h = absurd (let z : ◌≡◌ {A = ℕ} 0 1 = cc in omega arith)

    from : (v : ℕ) × LowestHeavy n v × (at ≡ v + 2) → Weighed n 2 told → told ≡ some at
    from r (found {v = v} low e) =
        let same = same_lowest n v r.0 low r.1 in
        e ∙ ap {B = Option ℕ} some (omega (arith, r.2))
    from r (light none_heavy e) = absurd (none_heavy r.0 r.1.heavy)

-- It tells nothing exactly when no gate is heavier than M.
pub heavy_none : (n : Network) → (first_heavy n.capacity 2 n.gates ≡ none) ↔ ((v : ℕ) → Heavy n v → ⊥)
heavy_none n = (λ h. to (weighed n.capacity n.hop n.gates 2) h, λ r. from r (weighed n.capacity n.hop n.gates 2))
  where
    told : Option ℕ
    told = first_heavy n.capacity 2 n.gates

    to : Weighed n 2 told → told ≡ none → (v : ℕ) → Heavy n v → ⊥
    to (found low e) h = absurd (let z : ◌≡◌ {A = ℕ} 0 1 = cc in omega arith)
    to (light none_heavy e) h = none_heavy

    from : ((v : ℕ) → Heavy n v → ⊥) → Weighed n 2 told → told ≡ none
    from none_heavy (found {v = v} low e) = absurd (none_heavy v low.heavy)
    from none_heavy (light none_heavy' e) = e
