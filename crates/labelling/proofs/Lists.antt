-- Laws of lists.
use Prim.Native.Nat.{ℕ, zero, suc, ◌<◌}
use mathlib.Core.Path.{◌≡◌, refl}
use mathlib.Core.List.Memᴰ
use mathlib.Core.List.{List, [], ◌∷◌, head?}
use mathlib.Core.Option.{some}
use native.Mathlib.Omega.{arith}
use lib.ListN.{length, get_or, take, drop, take-append-drop}
use Rattle.model.specs.Basics.{◌∈◌}

pub get_or_in : (xs : List ℕ) (i : ℕ) → i < length xs → get_or xs i 0 ∈ xs
get_or_in [] i h = absurd (omega arith)
get_or_in (x ∷ xs) zero h = Memᴰ.head refl
get_or_in (x ∷ xs) (suc i) h = Memᴰ.tail (get_or_in xs i (omega arith))

pub take_in : (i : ℕ) (xs : List ℕ) (x : ℕ) → x ∈ take i xs → x ∈ xs
take_in i xs x m = rw (take-append-drop i xs) at (Memᴰ.append_left (drop i xs) m)

pub drop_in : (i : ℕ) (xs : List ℕ) (x : ℕ) → x ∈ drop i xs → x ∈ xs
drop_in i xs x m = rw (take-append-drop i xs) at (Memᴰ.append_right (take i xs) m)

pub head_in : (xs : List ℕ) (x : ℕ) → head? xs ≡ some x → x ∈ xs
head_in [] x e = absurd (let z : ◌≡◌ {A = ℕ} 0 1 = cc in omega arith)
head_in (y ∷ ys) x e = let q : x ≡ y = cc in Memᴰ.head q
