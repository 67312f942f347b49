-- The rule of the table, row by row: a line answers with the first row that is given, and is a frame where none is.
use Prim.Native.Nat.{ℕ}
use mathlib.Core.Path.{◌≡◌, refl, sym, ◌∙◌}
use mathlib.Core.Bool.{true, false, cond}
use mathlib.Core.Option.{Option, none, some}
use Rattle.frames.specs.declared.Place.{Place}
use Rattle.std.specs.Prelude.{Ok, Err}
use Rattle.frames.specs.Refusal.{at_column, at_line}
use Rattle.frames.specs.Text.{Line}
use Rattle.frames.specs.Table.{misplaced, wrong_length, one_too_many, unordered, miscounted, no_gates, frame_rows, first_given, fault, column}
use Rattle.frames.specs.Frames.{frame, told}
use Rattle.frames.specs.steps.Cut.{form_fault, answer}
use Rattle.frames.proofs.Tests.{never, passed}
use Rattle.frames.proofs.Fault.{or_else, form_first}

-- The rows of a frame read as one choice after the other.
rows : Place → Line → Option ℕ
rows p l =
    cond (misplaced p l) (some 3)
    (cond (wrong_length p l) (some 4)
    (cond (one_too_many p l) (some 5)
    (cond (unordered p l) (some 6)
    (cond (miscounted p l) (some 7)
    (cond (no_gates p l) (some 8) none)))))

rows_then : (p : Place) (l : Line) → fault p l ≡ or_else (form_fault l) (rows p l)
unfolding rows first_given frame_rows
rows_then = form_first

rows_are : (p : Place) (l : Line) → form_fault l ≡ none → fault p l ≡ rows p l
unfolding or_else
rows_are p l two = rows_then p l ∙ rw two

answer_is : (next : ℕ) (p : Place) (line : ℕ) (l : Line) → form_fault l ≡ none → answer next p line l ≡ told (rows p l) line l (frame l next)
unfolding answer
answer_is next p line l two = rw (rows_are p l two)

module _ (next : ℕ) (p : Place) (line : ℕ) (l : Line) where
  pub answer_form : {k : ℕ} → form_fault l ≡ some k → answer next p line l ≡ Err (at_column k line (column k l))
  unfolding answer told or_else
  answer_form e = rw (rows_then p l, e)

  module _ (two : form_fault l ≡ none) where
    pub answer_3 : misplaced p l ≡ true → answer next p line l ≡ Err (at_line 3 line)
    unfolding rows told
    answer_3 three = rw (answer_is next p line l two) (simp three)

    module _ (three : misplaced p l ≡ false) where
      pub answer_4 : wrong_length p l ≡ true → answer next p line l ≡ Err (at_line 4 line)
      unfolding rows told
      answer_4 four = rw (answer_is next p line l two) (simp (three, four))

      module _ (four : wrong_length p l ≡ false) where
        pub answer_5 : one_too_many p l ≡ true → answer next p line l ≡ Err (at_line 5 line)
        unfolding rows told
        answer_5 five = rw (answer_is next p line l two) (simp (three, four, five))

        module _ (five : one_too_many p l ≡ false) where
          pub answer_6 : unordered p l ≡ true → answer next p line l ≡ Err (at_line 6 line)
          unfolding rows told
          answer_6 six = rw (answer_is next p line l two) (simp (three, four, five, six))

          module _ (six : unordered p l ≡ false) where
            pub answer_7 : miscounted p l ≡ true → answer next p line l ≡ Err (at_line 7 line)
            unfolding rows told
            answer_7 seven = rw (answer_is next p line l two) (simp (three, four, five, six, seven))

            module _ (seven : miscounted p l ≡ false) where
              pub answer_8 : no_gates p l ≡ true → answer next p line l ≡ Err (at_line 8 line)
              unfolding rows told
              answer_8 eight = rw (answer_is next p line l two) (simp (three, four, five, six, seven, eight))

              pub answer_frame : no_gates p l ≡ false → answer next p line l ≡ Ok (frame l next)
              unfolding rows told
              answer_frame eight = rw (answer_is next p line l two) (simp (three, four, five, six, seven, eight))

-- A line without fault is given by no row.
pub record Faultless (p : Place) (l : Line) : Type 0 where
  pub formed : form_fault l ≡ none
  pub placed : misplaced p l ≡ false
  pub right_length : wrong_length p l ≡ false
  pub within : one_too_many p l ≡ false
  pub ordered : unordered p l ≡ false
  pub counted : miscounted p l ≡ false
  pub some_gates : no_gates p l ≡ false

-- what two rules together give none of, neither gives
neither : (o q : Option ℕ) → or_else o q ≡ none → (o ≡ none) × (q ≡ none)
unfolding or_else
neither none q e = (refl, e)
neither (some k) q e = never cc

pub faultless : (p : Place) (l : Line) → fault p l ≡ none → Faultless p l
unfolding rows
faultless p l e =
    let two = neither (form_fault l) (rows p l) (sym (rows_then p l) ∙ e) in
    let three = passed _ _ _ two.1 in
    let four = passed _ _ _ three.1 in
    let five = passed _ _ _ four.1 in
    let six = passed _ _ _ five.1 in
    let seven = passed _ _ _ six.1 in
    record {
      formed = two.0;
      placed = three.0;
      right_length = four.0;
      within = five.0;
      ordered = six.0;
      counted = seven.0;
      some_gates = (passed _ _ _ seven.1).0;
    }
