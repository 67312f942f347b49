-- What is made by number: f 0, f 1, .. and so on, k of them.
use Prim.Native.Nat.{ℕ, zero, suc, ◌<◌}
use mathlib.Core.Path.{◌≡◌, refl, ◌∙◌}
use mathlib.Core.List.{[], ◌∷◌, ◌++◌, map, map-append}
use native.Mathlib.Decide.{ℕ_discrete}
use native.Mathlib.Omega.{arith}
use lib.ListN.{length, get_or, length-append, length-map, get_or-append}
use lib.Seq.{get_or_at}
use Rattle.model.specs.Basics.{upto}

length_upto : (k : ℕ) → length (upto k) ≡ k
unfolding upto
length_upto zero = refl
length_upto (suc k) = length-append (upto k) (k ∷ []) ∙ omega (arith, length_upto k)

module _ {A : Type 0} (f : ℕ → A) where
  pub length_made : (k : ℕ) → length (map f (upto k)) ≡ k
  length_made k = length-map (upto k) f ∙ length_upto k

  made_suc : (k : ℕ) → map f (upto (suc k)) ≡ map f (upto k) ++ (f k ∷ [])
  unfolding upto
  made_suc k = map-append f (upto k) (k ∷ [])

  pub get_or_made : (d : A) (k v : ℕ) → v < k → get_or (map f (upto k)) v d ≡ f v
  get_or_made d zero v h = absurd (omega arith)
  get_or_made d (suc k) v h =
      rw (made_suc k)
      (elim (ℕ_discrete v k) [
        | yes e ↦ rw e (get_or_at (map f (upto k)) (f k) [] d k (length_made k))
        | no ne ↦ get_or-append (map f (upto k)) (f k ∷ []) d v (omega (arith, length_made k)) ∙ get_or_made d k v (omega arith)
      ])
