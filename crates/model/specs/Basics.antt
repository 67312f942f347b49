-- The few words about numbers and lists that the other pages use.
use Rattle.std.specs.Prelude.{ℕ, zero, suc, ◌+◌, ◌≤◌, max, Bool, false, cond, ◌||◌, eqb}
use mathlib.Core.List.{List, [], ◌∷◌, ◌++◌, Memᴰ}

infix 40 ◌∈◌
-- x stands in the list
abbrev pub ◌∈◌ : ℕ → List ℕ → Type 0
x ∈ xs = Memᴰ x xs

-- The largest number of which P holds: reached, and not exceeded.
pub record Largest (P : ℕ → Type 0) (d : ℕ) : Type 0 where
  pub reached : P d
  pub bounds : (e : ℕ) → P e → e ≤ d

-- no number twice
pub data Distinct : List ℕ → Type 0 where
  none : Distinct []
  more : {x : ℕ} {xs : List ℕ} → (x ∈ xs → ⊥) → Distinct xs → Distinct (x ∷ xs)

-- 0, 1, .. up to k, k left out
unfoldable pub upto : ℕ → List ℕ
upto zero = []
upto (suc k) = upto k ++ (k ∷ [])

-- the largest number of a list, 0 if it is empty
unfoldable pub largest : List ℕ → ℕ
largest [] = 0
largest (x ∷ xs) = max x (largest xs)

-- does x stand in the list
unfoldable pub member : ℕ → List ℕ → Bool
member x [] = false
member x (y ∷ ys) = eqb x y || member x ys

-- the elements that pass a test
unfoldable pub keep : (ℕ → Bool) → List ℕ → List ℕ
keep test [] = []
keep test (x ∷ xs) = cond (test x) (x ∷ keep test xs) (keep test xs)

-- the lists f x, x in the given list, one after the other
unfoldable pub gather : (ℕ → List ℕ) → List ℕ → List ℕ
gather f [] = []
gather f (x ∷ xs) = f x ++ gather f xs

-- f x summed over a list
unfoldable pub total : (ℕ → ℕ) → List ℕ → ℕ
total f [] = 0
total f (x ∷ xs) = f x + total f xs
