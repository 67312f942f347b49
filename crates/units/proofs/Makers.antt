-- What a maker's answer tells its caller: a value made is the number that was asked for, within its ceiling; a refusal
-- means that the number lies above it.
use Prim.Native.Nat.{ℕ, ◌≤◌, ◌<◌}
use mathlib.Core.Path.{◌≡◌, refl}
use mathlib.Core.Bool.{Bool, true, false, cond}
use mathlib.Core.Logic.{◌⊎◌, inl, inr, ⊎_elim}
use native.Mathlib.Omega.{arith}
use Rattle.std.specs.Prelude.{Some, None}
use lib.Dec.{leb, ltb}
use borrow.Author.Tests.{leb-true, leb-false, ltb-true, ltb-false}
use Rattle.model.specs.Ceilings.{most_gates, most_fanins, most_weight, most_delay}
use Rattle.units.specs.declared.Cells.{Cells}
use Rattle.units.specs.declared.Ticks.{Ticks}
use Rattle.units.specs.declared.GateNumber.{GateNumber}
use Rattle.units.specs.declared.FanInCount.{FanInCount}
use Rattle.units.specs.Units.{weighed, delayed, numbered, counted}

-- An answer that a test picks tells how the test went.
picked : {E : Type 0} (test : Bool) (made above : E) {r : E} → cond test made above ≡ r → ((test ≡ true) × (made ≡ r)) ⊎ ((test ≡ false) × (above ≡ r))
picked true made above e = inl (refl, e)
picked false made above e = inr (refl, e)

never : {P : Type 0} → ◌≡◌ {A = ℕ} 0 1 → P
never e = absurd (omega arith)

pub weighed_made : (x : ℕ) (w : Cells) → weighed x ≡ Some w → (x ≤ most_weight) × (w.0 ≡ x)
weighed_made x w e = ⊎_elim (λ h. (leb-true _ _ h.0, cc)) (λ h. never cc) (picked (leb x most_weight) _ _ e)

pub weighed_above : (x : ℕ) → weighed x ≡ None → most_weight < x
weighed_above x e = ⊎_elim (λ h. never cc) (λ h. leb-false _ _ h.0) (picked (leb x most_weight) _ _ e)

pub delayed_made : (x : ℕ) (d : Ticks) → delayed x ≡ Some d → (x ≤ most_delay) × (d.0 ≡ x)
delayed_made x d e = ⊎_elim (λ h. (leb-true _ _ h.0, cc)) (λ h. never cc) (picked (leb x most_delay) _ _ e)

pub delayed_above : (x : ℕ) → delayed x ≡ None → most_delay < x
delayed_above x e = ⊎_elim (λ h. never cc) (λ h. leb-false _ _ h.0) (picked (leb x most_delay) _ _ e)

pub numbered_made : (x : ℕ) (g : GateNumber) → numbered x ≡ Some g → (x < most_gates) × (g.0 ≡ x)
numbered_made x g e = ⊎_elim (λ h. (ltb-true _ _ h.0, cc)) (λ h. never cc) (picked (ltb x most_gates) _ _ e)

pub numbered_above : (x : ℕ) → numbered x ≡ None → most_gates ≤ x
numbered_above x e = ⊎_elim (λ h. never cc) (λ h. ltb-false _ _ h.0) (picked (ltb x most_gates) _ _ e)

pub counted_made : (x : ℕ) (k : FanInCount) → counted x ≡ Some k → (x ≤ most_fanins) × (k.0 ≡ x)
counted_made x k e = ⊎_elim (λ h. (leb-true _ _ h.0, cc)) (λ h. never cc) (picked (leb x most_fanins) _ _ e)

pub counted_above : (x : ℕ) → counted x ≡ None → most_fanins < x
counted_above x e = ⊎_elim (λ h. never cc) (λ h. leb-false _ _ h.0) (picked (leb x most_fanins) _ _ e)
