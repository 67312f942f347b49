-- Truth and falsehood of tests that are put together.
use Prim.Native.Nat.{ℕ}
use mathlib.Core.Path.{◌≡◌, refl}
use mathlib.Core.Logic.{◌⊎◌, inl, inr}
use mathlib.Core.Bool.{Bool, true, false, cond, ◌&&◌, ◌||◌}
use mathlib.Core.Option.{Option, none, some}
use native.Mathlib.Omega.{arith}

-- from the equation of two values that differ, anything
pub never : {P : Type 0} → ◌≡◌ {A = ℕ} 0 1 → P
never e = absurd (omega arith)

pub both_true : (a b : Bool) → (a && b) ≡ true → (a ≡ true) × (b ≡ true)
both_true true b h = (refl, h)
both_true false b h = never cc

pub neither_true : (a b : Bool) → (a || b) ≡ false → (a ≡ false) × (b ≡ false)
neither_true true b h = never cc
neither_true false b h = (refl, h)

-- an answer that a test picks tells how the test went
pub picked : {E : Type 0} (test : Bool) (a b : E) {r : E} → cond test a b ≡ r → ((test ≡ true) × (a ≡ r)) ⊎ ((test ≡ false) × (b ≡ r))
picked true a b e = inl (refl, e)
picked false a b e = inr (refl, e)

-- a test that would have told a number, and told none
pub passed : (t : Bool) (k : ℕ) (o : Option ℕ) → cond t (some k) o ≡ none → (t ≡ false) × (o ≡ none)
passed true k o e = never cc
passed false k o e = (refl, e)
