-- The numbers of a line's form, each given exactly when its words hold, and the column told with them.
use Prim.Native.Nat.{ℕ, ◌%◌, ◌≤◌, ◌<◌}
use mathlib.Core.Path.{◌≡◌, refl, sym, ◌∙◌}
use mathlib.Core.Bool.{Bool, true, false, cond, not}
use mathlib.Core.List.{List, [], ◌∷◌, ◌++◌, Memᴰ}
use mathlib.Core.Option.{Option, none, some}
use native.Mathlib.Decide.{ℕ_discrete}
use native.Mathlib.Omega.{arith}
use borrow.Author.Tests.{ltb-true, lt-ltb, eqb-true, eqb-false, eq-eqb, ne_eqb, not-true, not-false}
use lib.ListN.{length}
use lib.Dec.{ltb}
use Rattle.frames.specs.declared.Place.{Place}
use Rattle.frames.specs.Text.{Line, digit, all_digits, even}
use Rattle.frames.specs.Table.{none_there, column}
use Rattle.frames.specs.Fault.{Given, FirstBad, DigitsOnly, FormExactly, Column, of_21, of_another, ColumnExactly}
use Rattle.frames.proofs.Tests.{never, both_true}
use Rattle.frames.proofs.Bytes.{even_length}
use Rattle.frames.proofs.Column.{first_found, first_only, first_wrong}
use Rattle.frames.proofs.Fault.{form_given}
use Rattle.frames.proofs.Formed.{tests}

-- the four tests, one choice after the other
abbrev choice : Bool → Bool → Bool → Bool → Option ℕ
choice a b c d = cond a (some 23) (cond b (some 21) (cond c (some 22) (cond d (some 24) none)))

data Chosen (a b c d : Bool) : ℕ → Type 0 where
  is_23 : a ≡ true → Chosen a b c d 23
  is_21 : a ≡ false → b ≡ true → Chosen a b c d 21
  is_22 : a ≡ false → b ≡ false → c ≡ true → Chosen a b c d 22
  is_24 : a ≡ false → b ≡ false → c ≡ false → d ≡ true → Chosen a b c d 24

chosen : (a b c d : Bool) (k : ℕ) → choice a b c d ≡ some k → Chosen a b c d k
chosen true b c d k e = let is : 23 ≡ k = cc in rw (← is) (is_23 refl)
chosen false true c d k e = let is : 21 ≡ k = cc in rw (← is) (is_21 refl refl)
chosen false false true d k e = let is : 22 ≡ k = cc in rw (← is) (is_22 refl refl refl)
chosen false false false true k e = let is : 24 ≡ k = cc in rw (← is) (is_24 refl refl refl refl)
chosen false false false false k e = never cc

-- what each test says in words

nothing_there : (ds : List ℕ) → none_there ds ≡ true → ds ≡ []
unfolding none_there
nothing_there [] t = refl
nothing_there (d ∷ ds) t = never cc

none_of : (ds : List ℕ) → ds ≡ [] → none_there ds ≡ true
unfolding none_there
none_of ds e = rw e

some_there : (ds : List ℕ) → (ds ≡ [] → ⊥) → none_there ds ≡ false
unfolding none_there
some_there [] h = absurd (h refl)
some_there (d ∷ ds) h = refl

each_digit : {b : ℕ} (ds : List ℕ) → all_digits ds ≡ true → Memᴰ b ds → digit b < 16
unfolding all_digits
each_digit _ t (Memᴰ.head {x = d} {xs = ds} e) = rw e (ltb-true (digit d) 16 (both_true (ltb (digit d) 16) (all_digits ds) t).0)
each_digit _ t (Memᴰ.tail {x = d} {xs = ds} m) = each_digit ds (both_true (ltb (digit d) 16) (all_digits ds) t).1 m

all_of_them : (ds : List ℕ) → ((b : ℕ) → Memᴰ b ds → digit b < 16) → all_digits ds ≡ true
unfolding all_digits
all_of_them [] h = refl
all_of_them (d ∷ ds) h =
    rw (lt-ltb (digit d) 16 (h d (Memᴰ.head refl))) (all_of_them ds (λ b m. h b (Memᴰ.tail m)))

odd_length : (ds : List ℕ) → even ds ≡ false → length ds % 2 ≡ 1
odd_length ds e = let other = eqb-false (length ds % 2) 0 (sym (even_length ds) ∙ e) in omega arith

length_odd : (ds : List ℕ) → length ds % 2 ≡ 1 → even ds ≡ false
length_odd ds e = even_length ds ∙ ne_eqb (length ds % 2) 0 (omega arith)

even_whole : (ds : List ℕ) → even ds ≡ true → length ds % 2 ≡ 0
even_whole ds e = eqb-true (length ds % 2) 0 (sym (even_length ds) ∙ e)

whole_even : (ds : List ℕ) → length ds % 2 ≡ 0 → even ds ≡ true
whole_even ds e = even_length ds ∙ eq-eqb (length ds % 2) 0 e

not_none : (ds : List ℕ) → none_there ds ≡ false → ds ≡ [] → ⊥
not_none ds t e = never (cc (t, none_of ds e))

longer : (xs : List ℕ) (y : ℕ) (ys : List ℕ) → xs ++ (y ∷ ys) ≡ [] → ⊥
longer [] y ys e = never cc
longer (x ∷ xs) y ys e = never cc

bad_some : (ds : List ℕ) {place : ℕ} → FirstBad ds place → none_there ds ≡ false
bad_some ds f = some_there ds (λ e. longer f.before f.bad f.after (sym f.listed ∙ e))

odd_some : (ds : List ℕ) → length ds % 2 ≡ 1 → none_there ds ≡ false
unfolding none_there
odd_some [] e = absurd (omega arith)
odd_some (d ∷ ds) e = refl

module _ (p : Place) (l : Line) where
  -- what the tests of the line choose
  abbrev Told : ℕ → Type 0
  Told k = Chosen (none_there l.digits) (not (all_digits l.digits)) (not (even l.digits)) (not l.ended) k

  -- a number of the form is given exactly when the choice is it
  given_choice : (k : ℕ) → 21 ≤ k → Given k p l → Told k
  given_choice k more g = chosen _ _ _ _ k (sym (tests l) ∙ (form_given k p l more).0 g)

  choice_given : (k : ℕ) → 21 ≤ k → choice (none_there l.digits) (not (all_digits l.digits)) (not (even l.digits)) (not l.ended) ≡ some k
      → Given k p l
  choice_given k more e = (form_given k p l more).1 (tests l ∙ e)

  bad_given : Given 21 p l → all_digits l.digits ≡ false
  bad_given g = by (given_choice 21 (omega arith) g)
    where
      by : Told 21 → all_digits l.digits ≡ false
      by (is_21 a b) = not-true _ b

  pub form_exactly : FormExactly p l
  form_exactly =
      record {
        empty = ((λ g. by_23 (given_choice 23 (omega arith) g)), λ e. choice_given 23 (omega arith) (rw e (unfold none_there in refl)));
        bad_digit = (
          (λ g. (_, first_found l.digits (bad_given g))),
          λ (place, f). choice_given 21 (omega arith) (rw (bad_some l.digits f, first_wrong l.digits place f)),
        );
        odd = (
          (λ g. by_22 (given_choice 22 (omega arith) g)),
          λ (only, e). choice_given 22 (omega arith) (rw (odd_some l.digits e, all_of_them l.digits only, length_odd l.digits e)),
        );
        unended = (
          (λ g. by_24 (given_choice 24 (omega arith) g)),
          λ (some_digit, only, e, not_ended). choice_given 24 (omega arith) (rw (some_there l.digits some_digit, all_of_them l.digits only, whole_even l.digits e, not_ended)),
        );
      }
    where
      by_23 : Told 23 → l.digits ≡ []
      by_23 (is_23 a) = nothing_there l.digits a

      by_22 : Told 22
          → DigitsOnly l × (length l.digits % 2 ≡ 1)
      by_22 (is_22 a b c) = ((λ b'. each_digit {b = b'} l.digits (not-false _ b)), odd_length l.digits (not-true _ c))

      by_24 : Told 24
          → (l.digits ≡ [] → ⊥) × DigitsOnly l × (length l.digits % 2 ≡ 0) × (l.ended ≡ false)
      by_24 (is_24 a b c d) =
          (not_none l.digits a, (λ b'. each_digit {b = b'} l.digits (not-false _ b)), even_whole l.digits (not-false _ c), not-true _ d)

-- [N21] The computed column is exactly the one that the relation says.
pub column_exactly : ColumnExactly
unfolding column
column_exactly k p l g c = (to, from k c)
  where
    to : column k l ≡ c → Column l k c
    to e =
        elim (ℕ_discrete k 21) [
          | yes is ↦ rw (← e, is) (of_21 (first_found l.digits (bad_given p l (rw is at g))))
          | no other ↦ rw (← e, ne_eqb k 21 other) (of_another other)
        ]

    from : (k c : ℕ) → Column l k c → column k l ≡ c
    from _ c (of_21 f) = first_only l.digits c f
    from k _ (of_another other) = rw (ne_eqb k 21 other)
