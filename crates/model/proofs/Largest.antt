-- Laws of `Largest`.
use Prim.Native.Nat.{ℕ}
use mathlib.Core.Path.{◌≡◌}
use mathlib.Core.Logic.{⊎_elim}
use mathlib.Core.List.{List, map}
use native.Mathlib.Omega.{arith}
use Rattle.model.specs.Basics.{◌∈◌, Largest, largest}
use Rattle.model.proofs.Lists.{∈-subst, in_map, map_in, at_most_largest, largest_stands}

pub largest_unique : {P : ℕ → Type 0} {d e : ℕ} → Largest P d → Largest P e → d ≡ e
largest_unique {d = d} {e = e} p q = omega (arith, p.bounds e q.reached, q.bounds d p.reached)

-- a list that holds anything holds its largest number
pub largest_in : {x : ℕ} {xs : List ℕ} → x ∈ xs → largest xs ∈ xs
largest_in {x} {xs} m =
    ⊎_elim (λ (z : largest xs ≡ 0). let h = at_most_largest m in ∈-subst (omega arith) m) (λ (s : largest xs ∈ xs). s)
    (largest_stands xs)

-- the largest value of f over a list
pub largest_map :
    (f : ℕ → ℕ) (xs : List ℕ) (x : ℕ) → x ∈ xs
    → Largest (λ d. (v : ℕ) × (v ∈ xs) × (d ≡ f v)) (largest (map f xs))
largest_map f xs x m =
    record {
      reached = map_in f (largest (map f xs)) xs (largest_in (in_map f m));
      bounds = λ e w. omega (arith, at_most_largest (in_map f w.1), w.2);
    }
