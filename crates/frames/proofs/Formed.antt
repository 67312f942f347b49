-- The form of a line: what its four rows say of it, and what is known of a line that none of them is given.
use Prim.Native.Nat.{ℕ, ◌%◌, ◌<◌}
use mathlib.Core.Path.{◌≡◌, refl, sym, ◌∙◌}
use mathlib.Core.Bool.{true, false, cond, not}
use mathlib.Core.List.{List, [], ◌∷◌}
use mathlib.Core.Option.{none, some}
use native.Mathlib.Omega.{arith}
use lib.ListN.{length}
use borrow.Author.Tests.{eqb-true, eq-eqb, ne_eqb, not-false}
use Rattle.frames.specs.Text.{Line, all_digits, even}
use Rattle.frames.specs.Table.{none_there}
use Rattle.frames.specs.steps.Cut.{form_fault}
use Rattle.frames.proofs.Tests.{never, passed}
use Rattle.frames.proofs.Bytes.{even_length}

-- the four tests, one choice after the other
pub tests : (l : Line) → form_fault l
    ≡ cond (none_there l.digits) (some 23)
    (cond (not (all_digits l.digits)) (some 21) (cond (not (even l.digits)) (some 22) (cond (not l.ended) (some 24) none)))
unfolding form_fault
tests l = refl

-- A line whose form is right.
pub record WellFormed (l : Line) : Type 0 where
  pub begun : none_there l.digits ≡ false
  pub spelled : all_digits l.digits ≡ true
  pub evenly : even l.digits ≡ true
  pub ended : l.ended ≡ true

pub well_formed : (l : Line) → form_fault l ≡ none → WellFormed l
well_formed l e =
    let a = passed _ _ _ (sym (tests l) ∙ e) in
    let b = passed _ _ _ a.1 in
    let c = passed _ _ _ b.1 in
    record {
      begun = a.0;
      spelled = not-false _ b.0;
      evenly = not-false _ c.0;
      ended = not-false _ (passed _ _ _ c.1).0;
    }

pub right_form : (l : Line) → WellFormed l → form_fault l ≡ none
right_form l w = rw (tests l, w.begun, w.spelled, w.evenly, w.ended)

some_there : (ds : List ℕ) → 0 < length ds → none_there ds ≡ false
unfolding none_there
some_there [] h = absurd (omega arith)
some_there (d ∷ ds) h = refl

there : (ds : List ℕ) → none_there ds ≡ false → 0 < length ds
unfolding none_there
there [] e = never cc
there (d ∷ ds) e = omega arith

none_left : (ds : List ℕ) → length ds ≡ 0 → none_there ds ≡ true
unfolding none_there
none_left [] e = refl
none_left (d ∷ ds) e = absurd (omega arith)

-- The same in numbers.
pub record Formed (l : Line) : Type 0 where
  pub begun : 0 < length l.digits
  pub whole : length l.digits % 2 ≡ 0
  pub spelled : all_digits l.digits ≡ true
  pub ended : l.ended ≡ true

pub formed : (l : Line) → form_fault l ≡ none → Formed l
formed l e =
    let w = well_formed l e in
    record {
      begun = there l.digits w.begun;
      whole = eqb-true _ _ (rw (even_length l.digits) at w.evenly);
      spelled = w.spelled;
      ended = w.ended;
    }

-- What the form of a line gives, choice by choice.
module _ (l : Line) where
  pub form_23 : length l.digits ≡ 0 → form_fault l ≡ some 23
  form_23 h = rw (tests l, none_left l.digits h)

  module _ (begun : 0 < length l.digits) where
    pub form_21 : all_digits l.digits ≡ false → form_fault l ≡ some 21
    form_21 h = rw (tests l, some_there l.digits begun, h)

    module _ (spelled : all_digits l.digits ≡ true) where
      pub form_22 : (length l.digits % 2 ≡ 0 → ⊥) → form_fault l ≡ some 22
      form_22 h = rw (tests l, some_there l.digits begun, spelled, even_length l.digits, ne_eqb (length l.digits % 2) 0 h)

      module _ (whole : length l.digits % 2 ≡ 0) where
        pub form_24 : l.ended ≡ false → form_fault l ≡ some 24
        form_24 h = rw (tests l, some_there l.digits begun, spelled, even_length l.digits, eq-eqb (length l.digits % 2) 0 whole, h)

        pub form_right : l.ended ≡ true → form_fault l ≡ none
        form_right h =
            let evenly : even l.digits ≡ true = even_length l.digits ∙ eq-eqb (length l.digits % 2) 0 whole in
            right_form l (record { begun = some_there l.digits begun; spelled = spelled; evenly = evenly; ended = h })
