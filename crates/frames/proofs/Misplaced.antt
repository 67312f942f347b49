-- A line whose type is unknown, or misplaced by what stood before it, answers 3.
use Prim.Native.Nat.{ℕ}
use mathlib.Core.Path.{◌≡◌, refl, sym, ap, ap₂, ◌∙◌}
use mathlib.Core.Bool.{true, false, not, ◌||◌}
use mathlib.Core.Option.{none}
use lib.Dec.{eqb}
use borrow.Author.Tests.{ne_eqb}
use Rattle.std.specs.Prelude.{Err}
use Rattle.frames.specs.declared.Place.{Place}
use Rattle.frames.specs.declared.Place.TheVariants.{Opening, AfterGates, Closed}
use Rattle.frames.specs.declared.Refusal.{Refusal}
use Rattle.frames.specs.Refusal.{at_line}
use Rattle.frames.specs.Text.{Line}
use Rattle.frames.specs.Table.{misplaced, kind}
use Rattle.frames.specs.Frames.{byte_from}
use Rattle.frames.specs.steps.Cut.{form_fault, answer}
use Rattle.frames.proofs.Formed.{formed}
use Rattle.frames.proofs.Rows.{answer_3}
use Rattle.frames.proofs.OfLine.{kind_is}

pub opening_type : (l : Line) → misplaced Opening l ≡ not (eqb (kind l) 0x01)
unfolding misplaced
opening_type l = refl

pub gates_type : (g : ℕ) (l : Line) → misplaced (AfterGates g) l ≡ not (eqb (kind l) 0x02 || eqb (kind l) 0x0F)
unfolding misplaced
gates_type g l = refl

module _ (next line : ℕ) (l : Line) (two : form_fault l ≡ none) {f : Refusal} (is : f ≡ at_line 3 line) where
  told_3 : (p : Place) → misplaced p l ≡ true → Err f ≡ answer next p line l
  told_3 p three = ap (λ r. Err r) is ∙ sym (answer_3 next p line l two three)

  other : (k : ℕ) → (byte_from l.digits 0 ≡ k → ⊥) → eqb (kind l) k ≡ false
  other k h = ne_eqb (kind l) k (λ e. h (sym (kind_is (formed l two)) ∙ e))

  pub opening_3 : (byte_from l.digits 0 ≡ 0x01 → ⊥) → Err f ≡ answer next Opening line l
  opening_3 h = told_3 Opening (opening_type l ∙ ap not (other 0x01 h))

  pub gates_3 : (gates : ℕ) → (byte_from l.digits 0 ≡ 0x02 → ⊥) → (byte_from l.digits 0 ≡ 0x0F → ⊥) → Err f ≡ answer next (AfterGates gates) line l
  gates_3 gates h k = told_3 (AfterGates gates) (gates_type gates l ∙ ap₂ (λ x y. not (x || y)) (other 0x02 h) (other 0x0F k))

  pub closed_3 : Err f ≡ answer next Closed line l
  unfolding misplaced
  closed_3 = told_3 Closed refl
