-- `drawing::too_short` meets its contract: a test a row.
use mathlib.Core.Path.{◌≡◌, sym, ◌∙◌}
use mathlib.Core.Logic.{inl, inr}
use mathlib.Core.Bool.{Bool, true, false, ◌||◌}
use borrow.Author.Tests.{lt-ltb, le-ltb}
use lib.Dec.{ltb}
use lib.ListN.{length}
use Rattle.drawing.specs.Prepared.{any_short, lent_of}
use Rattle.drawing.proofs.too_short.Goals as goal

module _ (a b c : Bool) where
  first_short : a ≡ true → (a || (b || c)) ≡ true
  first_short h = rw h

  second_short : a ≡ false → b ≡ true → (a || (b || c)) ≡ true
  second_short h k = rw (h, k)

  third_left : a ≡ false → b ≡ false → (a || (b || c)) ≡ c
  third_left h k = rw (h, k)

pub returns-then-labels-gates : goal.returns-then-labels-gates
unfolding any_short
returns-then-labels-gates c =
    let short : any_short c.args.gates (lent_of c.args.row.now c.args.labels.now c.args.marks.now) ≡ true =
    elim c.if-labels-gates.either [
      | inl h ↦ first_short _ (ltb (length c.args.labels.now) c.args.gates) (ltb (length c.args.marks.now) c.args.gates) (sym c.too_short.ensures ∙ h)
      | inr h ↦ second_short _ _ (ltb (length c.args.marks.now) c.args.gates) (sym c.too_short.ensures ∙ h.0) (lt-ltb _ _ h.1)
    ] in
    cc

pub returns-else-labels-gates : goal.returns-else-labels-gates
unfolding any_short
returns-else-labels-gates c =
    let long = c.if-labels-gates.false in
    sym (third_left _ _ _ (sym c.too_short.ensures ∙ long.0) (le-ltb _ _ long.1))
