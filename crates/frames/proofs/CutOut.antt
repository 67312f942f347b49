-- The first line of what is left of a text: what its form gives, in the words of the code, and what is read of it.
use Prim.Native.Nat.{ℕ, ◌+◌, ◌%◌, ◌≤◌, ◌<◌}
use mathlib.Core.Path.{◌≡◌, refl, sym, ap, ap₂, ◌∙◌}
use mathlib.Core.Bool.{true, not}
use mathlib.Core.List.{List}
use mathlib.Core.Option.{none, some}
use native.Mathlib.Omega.{arith}
use lib.ListN.{length, take, length-take}
use lib.Dec.{eqb, ltb}
use borrow.Author.Tests.{lt-ltb, le-ltb}
use Rattle.std.specs.Prelude.{Err, Some, None}
use Rattle.std.specs.List.{take_while, position}
use Rattle.frames.specs.declared.Place.{Place}
use Rattle.frames.specs.declared.Refusal.{Refusal}
use Rattle.frames.specs.Refusal.{at_column, at_line}
use Rattle.frames.specs.Text.{line_feed, digit, all_digits, lines}
use Rattle.frames.specs.Table.{column}
use Rattle.frames.specs.Frames.{judged, first_read}
use Rattle.frames.specs.steps.Cut.{line_length, ended_line, form_fault, answer}
use Rattle.frames.proofs.Column.{before_all, before_some}
use Rattle.frames.proofs.Walks.{line_count, bad_found, none_bad}
use Rattle.frames.proofs.Formed.{form_21, form_22, form_23, form_24, form_right}
use Rattle.frames.proofs.Rows.{answer_form}
use Rattle.frames.proofs.Lines.{cut, length_most, lines_some}

module _ (rest : List ℕ) (at line : ℕ) (some_left : 0 < length rest) {n : ℕ}
    (counted : n ≡ length (take_while (λ b. not (eqb b line_feed)) rest)) where
  ends : n ≡ line_length rest
  ends = counted ∙ line_count rest

  pub inside : n ≤ length rest
  inside = omega (arith, ends, length_most rest)

  as_long : length (take n rest) ≡ n
  as_long = length-take n rest ∙ omega (arith, inside)

  read : (p : Place) → first_read at p line (lines rest) ≡ judged at p line (cut rest n)
  unfolding first_read
  read p = ap (first_read at p line) (lines_some rest some_left) ∙ ap (λ k. judged at p line (cut rest k)) (sym ends)

  refused : {k : ℕ} {f : Refusal} → form_fault (cut rest n) ≡ some k → f ≡ at_column k line (column k (cut rest n))
      → (p : Place) → Err f ≡ first_read at p line (lines rest)
  unfolding judged answer
  refused e told p = ap (λ r. Err r) told ∙ sym (answer_form (at + length (take n rest) + 1) p line (cut rest n) e) ∙ sym (read p)

  pub cut_23 : {f : Refusal} → f ≡ at_line 23 line → n ≡ 0 → (p : Place) → Err f ≡ first_read at p line (lines rest)
  unfolding column
  cut_23 told h = refused (form_23 (cut rest n) (as_long ∙ h)) told

  module _ (begun : 0 < n) where
    begun_there : 0 < length (take n rest)
    begun_there = omega (arith, as_long)

    pub cut_21 : {bad : ℕ} {f : Refusal} → f ≡ at_column 21 line (bad + 1) → position (λ b. eqb (digit b) 16) (take n rest) ≡ Some bad
        → (p : Place) → Err f ≡ first_read at p line (lines rest)
    unfolding column
    cut_21 told e =
        let found = bad_found (take n rest) e in
        refused (form_21 (cut rest n) begun_there (before_some (take n rest) (omega (arith, found))))
        (told ∙ ap (at_column 21 line) (omega (arith, found)))

    module _ (none_bad_there : position (λ b. eqb (digit b) 16) (take n rest) ≡ None) where
      spelled : all_digits (take n rest) ≡ true
      spelled = before_all (take n rest) (none_bad (take n rest) none_bad_there)

      pub cut_22 : {f : Refusal} → f ≡ at_line 22 line → (n % 2 ≡ 0 → ⊥)
          → (p : Place) → Err f ≡ first_read at p line (lines rest)
      unfolding column
      cut_22 told h = refused (form_22 (cut rest n) begun_there spelled (λ e. h (omega (arith, as_long, e)))) told

      module _ (whole : n % 2 ≡ 0) where
        whole_there : length (take n rest) % 2 ≡ 0
        whole_there = omega (arith, as_long)

        pub cut_24 : {f : Refusal} → f ≡ at_line 24 line → length rest ≤ n → (p : Place) → Err f ≡ first_read at p line (lines rest)
        unfolding column
        cut_24 told h = refused (form_24 (cut rest n) begun_there spelled whole_there (le-ltb n (length rest) h)) told

        pub cut_right : form_fault (ended_line (take n rest)) ≡ none
        cut_right = form_right (ended_line (take n rest)) begun_there spelled whole_there refl

        pub cut_read : n < length rest → (p : Place) → answer (at + n + 1) p line (ended_line (take n rest)) ≡ first_read at p line (lines rest)
        unfolding judged answer
        cut_read h p =
            let there : ltb n (length rest) ≡ true = lt-ltb n (length rest) h in
            let next : at + length (take n rest) + 1 ≡ at + n + 1 = omega (arith, as_long) in
            sym (read p ∙ ap₂ (λ k t. answer k p line (record { digits = take n rest; ended = t })) next there)
