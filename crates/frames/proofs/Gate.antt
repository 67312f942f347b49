-- What a well-formed line of type 02 answers after the header and so many gates, in the words of the code: the numbers that its digits
-- spell.
use Prim.Native.Nat.{ℕ, ◌+◌, ◌*◌, ◌≤◌, ◌<◌}
use mathlib.Core.Path.{◌≡◌, sym, ap, ap₂, ◌∙◌}
use mathlib.Core.Bool.{true, false, not, ◌||◌, or-true}
use mathlib.Core.Option.{none}
use native.Mathlib.Omega.{arith}
use native.Mathlib.Decide.{dec_lt}
use lib.ListN.{length, drop}
use lib.Dec.{ltb, leb, eqb}
use borrow.Author.Tests.{lt-ltb, le-ltb, le-leb, lt-leb, eq-eqb, ne_eqb}
use Rattle.model.specs.Ceilings.{most_gates, most_fanins}
use Rattle.units.specs.Units.{cells, ticks}
use Rattle.frames.specs.declared.Place.{Place}
use Rattle.frames.specs.declared.Place.TheVariants.{AfterGates}
use Rattle.std.specs.Prelude.{Result, Ok, Err}
use Rattle.frames.specs.declared.LineRead.{LineRead}
use Rattle.frames.specs.declared.Refusal.{Refusal}
use Rattle.frames.specs.declared.LineRead.TheVariants.{Gate}
use Rattle.frames.specs.Refusal.{at_line}
use Rattle.frames.specs.Text.{Line, bytes, words}
use Rattle.frames.specs.Table.{misplaced, wrong_length, one_too_many, unordered, miscounted, no_gates, rising_from, kind, frame_length, gate_count, gate_fanins, gate_of}
use Rattle.frames.specs.Frames.{frame, byte_from, word_from}
use Rattle.frames.specs.steps.Cut.{form_fault, answer}
use Rattle.frames.proofs.Formed.{Formed, formed}
use Rattle.frames.proofs.Rows.{answer_4, answer_5, answer_6, answer_frame}
use Rattle.frames.proofs.OfLine.{kind_is, length_is, count_is, weight_is, delay_is, fanins_are}
use Rattle.frames.proofs.Misplaced.{gates_type}

-- Gates of the same numbers are the same.
same_gate : {w w' d d' k k' : ℕ} (next : ℕ) → w ≡ w' → d ≡ d' → k ≡ k'
    → ◌≡◌ {A = Result LineRead Refusal} (Ok (Gate (cells w) (ticks d) (record { 0 = k }) next)) (Ok (Gate (cells w') (ticks d') (record { 0 = k' }) next))
same_gate next p q r = λ i. Ok (Gate (cells (p i)) (ticks (q i)) (record { 0 = r i }) next)

-- The rows where the type is 02.
pub gate_length : (p : Place) (l : Line) → kind l ≡ 0x02
    → wrong_length p l ≡ (ltb most_fanins (gate_count l) || not (eqb (frame_length l) (6 + 2 * gate_count l)))
unfolding wrong_length
gate_length p l is = rw is

module _ (g : ℕ) (l : Line) (is : kind l ≡ 0x02) where
  gate_placed : misplaced (AfterGates g) l ≡ false
  gate_placed = rw (gates_type g l, is)

  gate_number : one_too_many (AfterGates g) l ≡ leb most_gates g
  unfolding one_too_many
  gate_number = rw is

  gate_order : unordered (AfterGates g) l ≡ not (rising_from 0 g (gate_fanins l))
  unfolding unordered
  gate_order = rw is

  gate_no_count : miscounted (AfterGates g) l ≡ false
  unfolding miscounted
  gate_no_count = rw is

  gate_no_end : no_gates (AfterGates g) l ≡ false
  unfolding no_gates
  gate_no_end = rw is

  gate_frame : (next : ℕ)
      → frame l next ≡ Gate (cells (gate_of l).weight) (ticks (gate_of l).delay) (record { 0 = gate_count l }) next
  unfolding frame
  gate_frame next = rw is

module _ (next gates line : ℕ) (l : Line) (two : form_fault l ≡ none) (is : byte_from l.digits 0 ≡ 0x02) where
  form : Formed l
  form = formed l two

  typed : kind l ≡ 0x02
  typed = kind_is form ∙ is

  -- A line too short for a count has a wrong length, whatever stands where the count would.
  short : length l.digits < 12 → wrong_length (AfterGates gates) l ≡ true
  short h =
      gate_length (AfterGates gates) l typed
      ∙ ap (λ t. ltb most_fanins (gate_count l) || not t) (ne_eqb (frame_length l) (6 + 2 * gate_count l) (λ e. omega (arith, length_is form, form)))
      ∙ or-true (ltb most_fanins (gate_count l))

  told_4 : {f : Refusal} → f ≡ at_line 4 line → (12 ≤ length l.digits → wrong_length (AfterGates gates) l ≡ true)
      → Err f ≡ answer next (AfterGates gates) line l
  told_4 told h =
      let four : wrong_length (AfterGates gates) l ≡ true = elim (dec_lt (length l.digits) 12) [ yes s ↦ short s | no s ↦ h (omega arith) ] in
      ap (λ r. Err r) told ∙ sym (answer_4 next (AfterGates gates) line l two (gate_placed gates l typed) four)

  pub gate_4_count : {f : Refusal} → f ≡ at_line 4 line → most_fanins < byte_from l.digits 10 → Err f ≡ answer next (AfterGates gates) line l
  gate_4_count told h =
      told_4 told
      (λ long. gate_length (AfterGates gates) l typed
      ∙ ap (λ t. t || not (eqb (frame_length l) (6 + 2 * gate_count l))) (lt-ltb most_fanins (gate_count l) (omega (arith, count_is form long))))

  pub gate_4_length : {f : Refusal} → f ≡ at_line 4 line → (length l.digits ≡ 12 + 4 * byte_from l.digits 10 → ⊥)
      → Err f ≡ answer next (AfterGates gates) line l
  gate_4_length told h =
      told_4 told
      (λ long. gate_length (AfterGates gates) l typed
      ∙ ap (λ t. ltb most_fanins (gate_count l) || not t)
      (ne_eqb (frame_length l) (6 + 2 * gate_count l) (λ e. h (omega (arith, length_is form, count_is form long, form))))
      ∙ or-true (ltb most_fanins (gate_count l)))

  module _ (few : byte_from l.digits 10 ≤ most_fanins) (long : length l.digits ≡ 12 + 4 * byte_from l.digits 10) where
    counted : gate_count l ≡ byte_from l.digits 10
    counted = count_is form (omega arith)

    four : wrong_length (AfterGates gates) l ≡ false
    four =
        gate_length (AfterGates gates) l typed
        ∙ ap₂ (λ x y. x || not y) (le-ltb most_fanins (gate_count l) (omega (arith, counted)))
        (eq-eqb (frame_length l) (6 + 2 * gate_count l) (omega (arith, length_is form, counted)))

    pub gate_5 : {f : Refusal} → f ≡ at_line 5 line → most_gates ≤ gates → Err f ≡ answer next (AfterGates gates) line l
    gate_5 told h =
        ap (λ r. Err r) told
        ∙ sym (answer_5 next (AfterGates gates) line l two (gate_placed gates l typed) four (gate_number gates l typed ∙ le-leb most_gates gates h))

    module _ (room : gates < most_gates) where
      five : one_too_many (AfterGates gates) l ≡ false
      five = gate_number gates l typed ∙ lt-leb most_gates gates room

      ordered : unordered (AfterGates gates) l ≡ not (rising_from 0 gates (words (bytes (drop 12 l.digits))))
      ordered = gate_order gates l typed ∙ ap (λ xs. not (rising_from 0 gates xs)) (fanins_are l)

      pub gate_6 : {f : Refusal} → f ≡ at_line 6 line → rising_from 0 gates (words (bytes (drop 12 l.digits))) ≡ false
          → Err f ≡ answer next (AfterGates gates) line l
      gate_6 told h =
          ap (λ r. Err r) told ∙ sym (answer_6 next (AfterGates gates) line l two (gate_placed gates l typed) four five (ordered ∙ ap not h))

      pub gate_read : {weight delay count : ℕ} → weight ≡ word_from l.digits 2 → delay ≡ word_from l.digits 6 → count ≡ byte_from l.digits 10
          → rising_from 0 gates (words (bytes (drop 12 l.digits))) ≡ true
          → Ok (Gate (cells weight) (ticks delay) (record { 0 = count }) next) ≡ answer next (AfterGates gates) line l
      gate_read w d k h =
          let read : answer next (AfterGates gates) line l ≡ Ok (frame l next) =
          answer_frame next (AfterGates gates) line l two (gate_placed gates l typed) four five (ordered ∙ ap not h)
          (gate_no_count gates l typed)
          (gate_no_end gates l typed) in
          same_gate next (w ∙ sym (weight_is form (omega arith))) (d ∙ sym (delay_is form (omega arith))) (k ∙ sym counted)
          ∙ sym (read ∙ ap (λ r. Ok r) (gate_frame gates l typed next))
