-- `rows::heavy_fault` meets its contract: what is not within the capacity is above it.
use mathlib.Core.Path.{sym, ◌∙◌}
use borrow.Author.Tests.{leb-true, leb-false, lt-ltb, le-ltb}
use Rattle.rows.specs.steps.RowCheck.{heavy_fault}
use Rattle.rows.proofs.heavy_fault.Goals as goal

pub returns-then-not-within : goal.returns-then-not-within
unfolding heavy_fault
returns-then-not-within c = rw (c.at_gate.ensures, lt-ltb _ _ (leb-false _ _ (sym c.within.ensures ∙ c.if-not-within.true)))

pub returns : goal.returns
unfolding heavy_fault
returns c = rw (le-ltb _ _ (leb-true _ _ (sym c.within.ensures ∙ c.if-not-within.false)))
