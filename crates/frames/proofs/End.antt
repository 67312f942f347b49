-- What a well-formed line of type 0F answers after the header and so many gates, in the words of the code: the numbers that its digits
-- spell.
use Prim.Native.Nat.{ℕ}
use mathlib.Core.Path.{◌≡◌, sym, ap, ◌∙◌}
use mathlib.Core.Bool.{false, not}
use mathlib.Core.Option.{none}
use native.Mathlib.Omega.{arith}
use lib.ListN.{length}
use lib.Dec.{eqb}
use borrow.Author.Tests.{eq-eqb, ne_eqb}
use Rattle.frames.specs.declared.Place.TheVariants.{AfterGates}
use Rattle.std.specs.Prelude.{Ok, Err}
use Rattle.frames.specs.declared.LineRead.TheVariants.{End}
use Rattle.frames.specs.declared.Refusal.{Refusal}
use Rattle.frames.specs.Refusal.{at_line}
use Rattle.frames.specs.Text.{Line}
use Rattle.frames.specs.Table.{misplaced, wrong_length, one_too_many, unordered, miscounted, no_gates, kind, frame_length, end_count}
use Rattle.frames.specs.Frames.{frame, byte_from, word_from}
use Rattle.frames.specs.steps.Cut.{form_fault, answer}
use Rattle.frames.proofs.Formed.{Formed, formed}
use Rattle.frames.proofs.Rows.{answer_4, answer_7, answer_8, answer_frame}
use Rattle.frames.proofs.OfLine.{kind_is, length_is, end_count_is}
use Rattle.frames.proofs.Misplaced.{gates_type}

-- The rows where the type is 0F.
module _ (g : ℕ) (l : Line) (is : kind l ≡ 0x0F) where
  end_placed : misplaced (AfterGates g) l ≡ false
  end_placed = rw (gates_type g l, is)

  end_length : wrong_length (AfterGates g) l ≡ not (eqb (frame_length l) 3)
  unfolding wrong_length
  end_length = rw is

  end_no_gate : one_too_many (AfterGates g) l ≡ false
  unfolding one_too_many
  end_no_gate = rw is

  end_no_fanins : unordered (AfterGates g) l ≡ false
  unfolding unordered
  end_no_fanins = rw is

  end_counts : miscounted (AfterGates g) l ≡ not (eqb (end_count l) g)
  unfolding miscounted
  end_counts = rw is

  end_some : no_gates (AfterGates g) l ≡ eqb g 0
  unfolding no_gates
  end_some = rw is

  end_frame : (next : ℕ) → frame l next ≡ End next
  unfolding frame
  end_frame next = rw is

module _ (next gates line : ℕ) (l : Line) (two : form_fault l ≡ none) (is : byte_from l.digits 0 ≡ 0x0F) where
  form : Formed l
  form = formed l two

  typed : kind l ≡ 0x0F
  typed = kind_is form ∙ is

  pub end_4 : {f : Refusal} → f ≡ at_line 4 line → (length l.digits ≡ 6 → ⊥) → Err f ≡ answer next (AfterGates gates) line l
  end_4 told h =
      ap (λ r. Err r) told
      ∙ sym
      (answer_4 next (AfterGates gates) line l two (end_placed gates l typed)
      (end_length gates l typed ∙ ap not (ne_eqb (frame_length l) 3 (λ e. h (omega (arith, length_is form, form))))))

  module _ (six_digits : length l.digits ≡ 6) where
    four : wrong_length (AfterGates gates) l ≡ false
    four = end_length gates l typed ∙ ap not (eq-eqb (frame_length l) 3 (omega (arith, length_is form)))

    pub end_7 : {f : Refusal} → f ≡ at_line 7 line → (word_from l.digits 2 ≡ gates → ⊥) → Err f ≡ answer next (AfterGates gates) line l
    end_7 told h =
        ap (λ r. Err r) told
        ∙ sym
        (answer_7 next (AfterGates gates) line l two (end_placed gates l typed) four (end_no_gate gates l typed) (end_no_fanins gates l typed)
        (end_counts gates l typed ∙ ap not (ne_eqb (end_count l) gates (λ e. h (sym (end_count_is form six_digits) ∙ e)))))

    module _ (counted : word_from l.digits 2 ≡ gates) where
      seven : miscounted (AfterGates gates) l ≡ false
      seven = end_counts gates l typed ∙ ap not (eq-eqb (end_count l) gates (end_count_is form six_digits ∙ counted))

      pub end_8 : {f : Refusal} → f ≡ at_line 8 line → gates ≡ 0 → Err f ≡ answer next (AfterGates gates) line l
      end_8 told h =
          ap (λ r. Err r) told
          ∙ sym
          (answer_8 next (AfterGates gates) line l two (end_placed gates l typed) four (end_no_gate gates l typed) (end_no_fanins gates l typed) seven
          (end_some gates l typed ∙ eq-eqb gates 0 h))

      pub end_read : (gates ≡ 0 → ⊥) → Ok (End next) ≡ answer next (AfterGates gates) line l
      end_read h =
          sym
          (answer_frame next (AfterGates gates) line l two (end_placed gates l typed) four (end_no_gate gates l typed) (end_no_fanins gates l typed) seven
          (end_some gates l typed ∙ ne_eqb gates 0 h)
          ∙ ap (λ r. Ok r) (end_frame gates l typed next))
