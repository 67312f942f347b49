-- Laws of the words of specs/Basics.antt.
use Prim.Native.Nat.{ℕ, zero, suc, ◌+◌, ◌≤◌, ◌<◌}
use mathlib.Core.Path.{◌≡◌, refl, sym, ap}
use mathlib.Core.Logic.{◌⊎◌, inl, inr, ⊎_elim}
use mathlib.Core.Bool.{Bool, true, false}
use mathlib.Core.List.Memᴰ
use mathlib.Core.List.{List, [], ◌∷◌, ◌++◌, map}
use native.Mathlib.Nat.{le-max_left, le-max_right}
use native.Mathlib.Decide.{ℕ_discrete, dec_le}
use native.Mathlib.Omega.{arith}
use borrow.Author.Tests.{eq-eqb, ne_eqb}
use Rattle.model.specs.Basics.{◌∈◌, Distinct, none, more, upto, largest, member, keep, gather, total}

-- truth and falsehood of tests

pub true_or_false : (b : Bool) → (b ≡ true) ⊎ (b ≡ false)
true_or_false true = inl refl
true_or_false false = inr refl

pub not_both : {b : Bool} → b ≡ true → b ≡ false → ⊥
not_both p q = let z : ◌≡◌ {A = ℕ} 0 1 = cc in omega arith

-- equal or not
pub same_or_not : (x y : ℕ) → (x ≡ y) ⊎ (x ≡ y → ⊥)
same_or_not x y = elim (ℕ_discrete x y) [ yes e ↦ inl e | no h ↦ inr h ]

-- member

pub member_true : (x : ℕ) (xs : List ℕ) → member x xs ≡ true → x ∈ xs
unfolding member
member_true x [] h = absurd (not_both {b = false} h refl)
member_true x (y ∷ ys) h =
    ⊎_elim (λ (e : x ≡ y). Memᴰ.head e)
    (λ (d : x ≡ y → ⊥). Memᴰ.tail (member_true x ys (rw (ne_eqb x y d) at h)))
    (same_or_not x y)

pub true_member : {x : ℕ} {xs : List ℕ} → x ∈ xs → member x xs ≡ true
unfolding member
true_member {x} (Memᴰ.head {x = y} e) = rw (eq-eqb x y e)
true_member {x} (Memᴰ.tail {x = y} {xs = ys} m) =
    ⊎_elim (λ (e : x ≡ y). rw (eq-eqb x y e)) (λ (d : x ≡ y → ⊥). rw (ne_eqb x y d) (true_member m)) (same_or_not x y)

pub member_false : (x : ℕ) (xs : List ℕ) → member x xs ≡ false → x ∈ xs → ⊥
member_false x xs h m = not_both (true_member m) h

pub false_member : (x : ℕ) (xs : List ℕ) → (x ∈ xs → ⊥) → member x xs ≡ false
false_member x xs h = ⊎_elim (λ t. absurd (h (member_true x xs t))) (λ f. f) (true_or_false (member x xs))

pub in_or_out : (x : ℕ) (xs : List ℕ) → (x ∈ xs) ⊎ (x ∈ xs → ⊥)
in_or_out x xs = ⊎_elim (λ t. inl (member_true x xs t)) (λ f. inr (member_false x xs f)) (true_or_false (member x xs))

pub ∈-subst : {x y : ℕ} {xs : List ℕ} → x ≡ y → x ∈ xs → y ∈ xs
∈-subst e m = Memᴰ.cast (sym e) m

-- keep

module _ (test : ℕ → Bool) where
  pub keep_yes : (x : ℕ) (xs : List ℕ) → test x ≡ true → keep test (x ∷ xs) ≡ x ∷ keep test xs
  unfolding keep
  keep_yes x xs h = rw h

  pub keep_no : (x : ℕ) (xs : List ℕ) → test x ≡ false → keep test (x ∷ xs) ≡ keep test xs
  unfolding keep
  keep_no x xs h = rw h

  pub in_keep : {x : ℕ} {xs : List ℕ} → x ∈ xs → test x ≡ true → x ∈ keep test xs
  unfolding keep
  in_keep {x} (Memᴰ.head {x = y} {xs = ys} e) t = rw (keep_yes y ys (rw e at t)) (Memᴰ.head e)
  in_keep {x} (Memᴰ.tail {x = y} {xs = ys} m) t =
      ⊎_elim (λ (h : test y ≡ true). rw (keep_yes y ys h) (Memᴰ.tail (in_keep m t)))
      (λ (h : test y ≡ false). rw (keep_no y ys h) (in_keep m t))
      (true_or_false (test y))

  pub keep_in : (x : ℕ) (xs : List ℕ) → x ∈ keep test xs → (x ∈ xs) × (test x ≡ true)
  unfolding keep
  keep_in x [] m = absurd (Memᴰ.not-nil m)
  keep_in x (y ∷ ys) m =
      ⊎_elim
      (λ (h : test y ≡ true).
      ⊎_elim (λ (e : x ≡ y). (Memᴰ.head e, rw e h))
      (λ (m' : x ∈ keep test ys). (Memᴰ.tail (keep_in x ys m').0, (keep_in x ys m').1))
      (Memᴰ.cases_cons (rw (keep_yes y ys h) at m)))
      (λ (h : test y ≡ false). (Memᴰ.tail (keep_in x ys (rw (keep_no y ys h) at m)).0, (keep_in x ys (rw (keep_no y ys h) at m)).1))
      (true_or_false (test y))

  pub keep_append : (xs ys : List ℕ) → keep test (xs ++ ys) ≡ keep test xs ++ keep test ys
  unfolding keep
  keep_append [] ys = refl
  keep_append (x ∷ xs) ys =
      ⊎_elim
      (λ (t : test x ≡ true). rw (keep_yes x (xs ++ ys) t, keep_yes x xs t) (ap (λ (r : List ℕ). x ∷ r) (keep_append xs ys)))
      (λ (t : test x ≡ false). rw (keep_no x (xs ++ ys) t, keep_no x xs t) (keep_append xs ys))
      (true_or_false (test x))

  pub keep_all : (xs : List ℕ) → ((x : ℕ) → x ∈ xs → test x ≡ true) → keep test xs ≡ xs
  unfolding keep
  keep_all [] h = refl
  keep_all (x ∷ xs) h =
      rw (keep_yes x xs (h x (Memᴰ.head refl)))
      (ap (λ (r : List ℕ). x ∷ r) (keep_all xs (λ y m. h y (Memᴰ.tail m))))

  pub keep_none : (xs : List ℕ) → ((x : ℕ) → x ∈ xs → test x ≡ false) → keep test xs ≡ []
  unfolding keep
  keep_none [] h = refl
  keep_none (x ∷ xs) h = rw (keep_no x xs (h x (Memᴰ.head refl))) (keep_none xs (λ y m. h y (Memᴰ.tail m)))

-- map and gather

pub in_map : (f : ℕ → ℕ) {x : ℕ} {xs : List ℕ} → x ∈ xs → f x ∈ map f xs
in_map f (Memᴰ.head e) = Memᴰ.head (ap f e)
in_map f (Memᴰ.tail m) = Memᴰ.tail (in_map f m)

pub map_in : (f : ℕ → ℕ) (y : ℕ) (xs : List ℕ) → y ∈ map f xs → (x : ℕ) × (x ∈ xs) × (y ≡ f x)
map_in f y [] m = absurd (Memᴰ.not-nil m)
map_in f y (x ∷ xs) m =
    ⊎_elim (λ (e : y ≡ f x). (x, Memᴰ.head refl, e))
    (λ (m' : y ∈ map f xs). let r = map_in f y xs m' in (r.0, Memᴰ.tail r.1, r.2))
    (Memᴰ.cases_cons m)

pub in_gather : (f : ℕ → List ℕ) {x y : ℕ} {xs : List ℕ} → x ∈ xs → y ∈ f x → y ∈ gather f xs
unfolding gather
in_gather f {x} {y} (Memᴰ.head {x = z} {xs = zs} e) m = Memᴰ.append_left (gather f zs) (rw e at m)
in_gather f (Memᴰ.tail {x = z} m') m = Memᴰ.append_right (f z) (in_gather f m' m)

pub gather_in : (f : ℕ → List ℕ) (y : ℕ) (xs : List ℕ) → y ∈ gather f xs → (x : ℕ) × (x ∈ xs) × (y ∈ f x)
unfolding gather
gather_in f y [] m = absurd (Memᴰ.not-nil m)
gather_in f y (x ∷ xs) m =
    ⊎_elim (λ (m' : y ∈ f x). (x, Memᴰ.head refl, m'))
    (λ (m' : y ∈ gather f xs). let r = gather_in f y xs m' in (r.0, Memᴰ.tail r.1, r.2))
    (Memᴰ.append_cases (f x) m)

-- upto

pub in_upto : (k : ℕ) {x : ℕ} → x < k → x ∈ upto k
unfolding upto
in_upto zero h = absurd (omega arith)
in_upto (suc k) {x} h =
    ⊎_elim (λ (e : x ≡ k). Memᴰ.append_right (upto k) (Memᴰ.head e))
    (λ (d : x ≡ k → ⊥). Memᴰ.append_left (k ∷ []) (in_upto k (omega arith)))
    (same_or_not x k)

pub upto_in : (k x : ℕ) → x ∈ upto k → x < k
unfolding upto
upto_in zero x m = absurd (Memᴰ.not-nil m)
upto_in (suc k) x m =
    ⊎_elim (λ (m' : x ∈ upto k). let h = upto_in k x m' in omega arith)
    (λ (m' : x ∈ (k ∷ [])). let e = Memᴰ.eq_of_singleton m' in omega arith)
    (Memᴰ.append_cases (upto k) m)

-- largest

pub at_most_largest : {x : ℕ} {xs : List ℕ} → x ∈ xs → x ≤ largest xs
unfolding largest
at_most_largest {x} (Memᴰ.head {x = y} {xs = ys} e) = omega (arith, le-max_left y (largest ys))
at_most_largest {x} (Memᴰ.tail {x = y} {xs = ys} m) = let h = at_most_largest m in omega (arith, le-max_right y (largest ys))

pub largest_stands : (xs : List ℕ) → (largest xs ≡ 0) ⊎ (largest xs ∈ xs)
unfolding largest
largest_stands [] = inl refl
largest_stands (x ∷ xs) =
    ⊎_elim (λ (e : largest xs ≡ 0). inr (Memᴰ.head (omega arith)))
    (λ (m : largest xs ∈ xs).
    elim (dec_le x (largest xs)) [
      | yes h ↦ inr (Memᴰ.tail (∈-subst (omega arith) m))
      | no h ↦ inr (Memᴰ.head (omega arith))
    ])
    (largest_stands xs)

-- total

pub total_append : (f : ℕ → ℕ) (xs ys : List ℕ) → total f (xs ++ ys) ≡ total f xs + total f ys
unfolding total
total_append f [] ys = omega arith
total_append f (x ∷ xs) ys = let e = total_append f xs ys in omega arith

pub total_in : (f : ℕ → ℕ) {x : ℕ} {xs : List ℕ} → x ∈ xs → f x ≤ total f xs
unfolding total
total_in f {x} (Memᴰ.head {x = y} {xs = ys} e) = omega (arith, ap f e)
total_in f (Memᴰ.tail m) = let h = total_in f m in omega arith

pub total_keep : (f : ℕ → ℕ) (test : ℕ → Bool) (xs : List ℕ) → total f (keep test xs) ≤ total f xs
unfolding total keep
total_keep f test [] = omega arith
total_keep f test (x ∷ xs) =
    let h = total_keep f test xs in
    ⊎_elim (λ (t : test x ≡ true). rw t (omega arith)) (λ (t : test x ≡ false). rw t (omega arith))
    (true_or_false (test x))

-- distinct

pub distinct_append : {xs ys : List ℕ} → Distinct xs → Distinct ys → ((x : ℕ) → x ∈ xs → x ∈ ys → ⊥) → Distinct (xs ++ ys)
distinct_append none d apart = d
distinct_append {ys = ys} (more {x = x} {xs = xs} h d') d apart =
    more
    (λ (m : x ∈ (xs ++ ys)).
    ⊎_elim (λ (m' : x ∈ xs). h m') (λ (m' : x ∈ ys). apart x (Memᴰ.head refl) m')
    (Memᴰ.append_cases xs m))
    (distinct_append d' d (λ y m m'. apart y (Memᴰ.tail m) m'))

pub distinct_upto : (k : ℕ) → Distinct (upto k)
unfolding upto
distinct_upto zero = none
distinct_upto (suc k) =
    distinct_append (distinct_upto k) (more Memᴰ.not-nil none)
    (λ x m m'. let h = upto_in k x m in let e = Memᴰ.eq_of_singleton m' in omega arith)

pub distinct_keep : (test : ℕ → Bool) {xs : List ℕ} → Distinct xs → Distinct (keep test xs)
unfolding keep
distinct_keep test none = none
distinct_keep test (more {x = x} {xs = xs} h d) =
    ⊎_elim
    (λ (t : test x ≡ true). rw (keep_yes test x xs t) (more (λ m. h (keep_in test x xs m).0) (distinct_keep test d)))
    (λ (t : test x ≡ false). rw (keep_no test x xs t) (distinct_keep test d))
    (true_or_false (test x))

pub distinct_front : (xs ys : List ℕ) → Distinct (xs ++ ys) → Distinct xs
distinct_front [] ys d = none
distinct_front (x ∷ xs) ys (more h d) = more (λ m. h (Memᴰ.append_left ys m)) (distinct_front xs ys d)

-- A member split out of its list.
record Around (x : ℕ) (xs : List ℕ) : Type 0 where
  front : List ℕ
  back : List ℕ
  split : xs ≡ front ++ x ∷ back

around : {x : ℕ} {xs : List ℕ} → x ∈ xs → Around x xs
around (Memᴰ.head {xs = ys} e) = record { front = []; back = ys; split = rw e }
around (Memᴰ.tail {x = y} m) =
    let a = around m in
    record { front = y ∷ a.front; back = a.back; split = ap (λ (r : List ℕ). y ∷ r) a.split }

-- A list with no number twice whose members all stand in another sums to at most what the other does.
pub total_within :
    (f : ℕ → ℕ) {xs : List ℕ} (ys : List ℕ) → Distinct xs → ((x : ℕ) → x ∈ xs → x ∈ ys) → total f xs ≤ total f ys
unfolding total
total_within f ys none h = omega arith
total_within f ys (more {x = x} {xs = xs} out d) h =
    let a = around (h x (Memᴰ.head refl)) in
    let within = total_within f (a.front ++ a.back) d (λ y m. elsewhere a y m) in
    omega (arith, total_append f a.front a.back, total_append f a.front (x ∷ a.back), ap (total f) a.split)
  where
    elsewhere : (a : Around x ys) (y : ℕ) → y ∈ xs → y ∈ (a.front ++ a.back)
    elsewhere a y m =
        ⊎_elim (λ (k : y ∈ a.front). Memᴰ.append_left a.back k)
        (λ (k : y ∈ (x ∷ a.back)).
        ⊎_elim (λ (e : y ≡ x). absurd (out (∈-subst e m))) (λ (k' : y ∈ a.back). Memᴰ.append_right a.front k')
        (Memᴰ.cases_cons k))
        (Memᴰ.append_cases a.front (rw a.split at (h y (Memᴰ.tail m))))

pub total_members :
    (f : ℕ → ℕ) {xs ys : List ℕ} → Distinct xs → Distinct ys → ((x : ℕ) → x ∈ xs → x ∈ ys) → ((x : ℕ) → x ∈ ys → x ∈ xs)
    → total f xs ≡ total f ys
total_members f {xs} {ys} d e h k = omega (arith, total_within f ys d h, total_within f xs e k)

-- sums over a map, and of equal values

pub total_map : (g f : ℕ → ℕ) (xs : List ℕ) → total g (map f xs) ≡ total (λ x. g (f x)) xs
unfolding total
total_map g f [] = refl
total_map g f (x ∷ xs) = rw (total_map g f xs)

pub total_same : (g h : ℕ → ℕ) (xs : List ℕ) → ((x : ℕ) → x ∈ xs → g x ≡ h x) → total g xs ≡ total h xs
unfolding total
total_same g h [] e = refl
total_same g h (x ∷ xs) e =
    omega (arith, e x (Memᴰ.head refl), total_same g h xs (λ y m. e y (Memᴰ.tail m)))

-- distinct images

pub distinct_map :
    (f : ℕ → ℕ) {xs : List ℕ} → Distinct xs → ((x y : ℕ) → x ∈ xs → y ∈ xs → f x ≡ f y → x ≡ y) → Distinct (map f xs)
distinct_map f none tells = none
distinct_map f (more {x = x} {xs = xs} h d) tells =
    more
    (λ (m : f x ∈ map f xs).
    let w = map_in f (f x) xs m in
    h (∈-subst (sym (tells x w.0 (Memᴰ.head refl) (Memᴰ.tail w.1) w.2)) w.1))
    (distinct_map f d (λ y z m m'. tells y z (Memᴰ.tail m) (Memᴰ.tail m')))

pub distinct_gather :
    (f : ℕ → List ℕ) {xs : List ℕ} → Distinct xs → ((x : ℕ) → x ∈ xs → Distinct (f x))
    → ((x y z : ℕ) → x ∈ xs → y ∈ xs → z ∈ f x → z ∈ f y → x ≡ y)
    → Distinct (gather f xs)
unfolding gather
distinct_gather f none each tells = none
distinct_gather f (more {x = x} {xs = xs} h d) each tells =
    distinct_append (each x (Memᴰ.head refl))
    (distinct_gather f d (λ y m. each y (Memᴰ.tail m)) (λ y z u m m'. tells y z u (Memᴰ.tail m) (Memᴰ.tail m')))
    (λ u m m'.
    let w = gather_in f u xs m' in
    h (∈-subst (sym (tells x w.0 u (Memᴰ.head refl) (Memᴰ.tail w.1) m w.2)) w.1))
