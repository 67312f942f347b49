-- What a well-formed line of type 01 answers that opens the text, in the words of the code: the numbers that its digits spell.
use Prim.Native.Nat.{ℕ}
use mathlib.Core.Path.{◌≡◌, refl, sym, ap, ◌∙◌}
use mathlib.Core.Bool.{false, not}
use mathlib.Core.Option.{none}
use native.Mathlib.Omega.{arith}
use lib.ListN.{length}
use lib.Dec.{eqb}
use borrow.Author.Tests.{eq-eqb, ne_eqb}
use Rattle.units.specs.Units.{cells, ticks}
use Rattle.std.specs.Prelude.{Result, Ok, Err}
use Rattle.frames.specs.declared.Place.TheVariants.{Opening}
use Rattle.frames.specs.declared.LineRead.{LineRead}
use Rattle.frames.specs.declared.LineRead.TheVariants.{Header}
use Rattle.frames.specs.declared.Refusal.{Refusal}
use Rattle.frames.specs.Refusal.{at_line}
use Rattle.frames.specs.Text.{Line}
use Rattle.frames.specs.Table.{misplaced, wrong_length, one_too_many, unordered, miscounted, no_gates, kind, frame_length, header_capacity, header_hop}
use Rattle.frames.specs.Frames.{frame, byte_from, word_from}
use Rattle.frames.specs.steps.Cut.{long_from, form_fault, answer}
use Rattle.frames.proofs.Formed.{Formed, formed}
use Rattle.frames.proofs.Rows.{answer_4, answer_frame}
use Rattle.frames.proofs.OfLine.{kind_is, length_is, capacity_is, hop_is}
use Rattle.frames.proofs.Misplaced.{opening_type}

-- The rows of the table where a line's type is known.
header_length : (l : Line) → kind l ≡ 0x01 → wrong_length Opening l ≡ not (eqb (frame_length l) 7)
unfolding wrong_length
header_length l k = rw k

-- An opening line has nothing to fear from the later rows.
opening_frame : (next line : ℕ) (l : Line) → form_fault l ≡ none → misplaced Opening l ≡ false → wrong_length Opening l ≡ false
    → answer next Opening line l ≡ Ok (frame l next)
unfolding one_too_many unordered miscounted no_gates
opening_frame next line l two three four = answer_frame next Opening line l two three four refl refl refl refl

header_frame : (l : Line) (next : ℕ) → kind l ≡ 0x01 → frame l next ≡ Header (cells (header_capacity l)) (ticks (header_hop l)) next
unfolding frame
header_frame l next k = rw k

-- Headers of the same numbers are the same.
same_header : {c c' h h' : ℕ} (next : ℕ) → c ≡ c' → h ≡ h'
    → ◌≡◌ {A = Result LineRead Refusal} (Ok (Header (cells c) (ticks h) next)) (Ok (Header (cells c') (ticks h') next))
same_header next p q = λ i. Ok (Header (cells (p i)) (ticks (q i)) next)

module _ (next line : ℕ) (l : Line) (two : form_fault l ≡ none) (is : byte_from l.digits 0 ≡ 0x01) where
  form : Formed l
  form = formed l two

  typed : kind l ≡ 0x01
  typed = kind_is form ∙ is

  three : misplaced Opening l ≡ false
  three = opening_type l ∙ ap not (eq-eqb (kind l) 0x01 typed)

  pub header_4 : {f : Refusal} → f ≡ at_line 4 line → (length l.digits ≡ 14 → ⊥) → Err f ≡ answer next Opening line l
  header_4 told h =
      ap (λ r. Err r) told
      ∙ sym
      (answer_4 next Opening line l two three
      (header_length l typed ∙ ap not (ne_eqb (frame_length l) 7 (λ e. h (omega (arith, length_is form, form))))))

  pub header_read : {capacity hop : ℕ} → capacity ≡ long_from l.digits 2 → hop ≡ word_from l.digits 10 → length l.digits ≡ 14
      → Ok (Header (cells capacity) (ticks hop) next) ≡ answer next Opening line l
  header_read c h long =
      let four : wrong_length Opening l ≡ false = header_length l typed ∙ ap not (eq-eqb (frame_length l) 7 (omega (arith, length_is form))) in
      same_header next (c ∙ sym (capacity_is form long)) (h ∙ sym (hop_is form long))
      ∙ sym (opening_frame next line l two three four ∙ ap (λ r. Ok r) (header_frame l next typed))
