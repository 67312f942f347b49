-- `frames::cut::Cut::first` meets its contract: each refusal is a row of the form, in their order, and what has passed them all
-- is the first line.
use mathlib.Core.Path.{sym, ◌∙◌}
use native.Mathlib.Omega.{arith}
use Rattle.frames.proofs.CutOut.{cut_21, cut_22, cut_23, cut_24, cut_right, cut_read}
use Rattle.frames.proofs.cut.Cut.first.Goals as goal

pub returns-then-length-eq0 : goal.returns-then-length-eq0
returns-then-length-eq0 c =
    cut_23 _ _ _ c.requires.0 c.line_length-length.ensures c.at.ensures c.if-length-eq0.true

pub returns-in-Some : goal.returns-in-Some
returns-in-Some c =
    cut_21 _ _ _ c.requires.0 c.line_length-length.ensures (omega arith) c.at_column.ensures (sym c.first_bad.ensures ∙ c.in-Some.is)

pub returns-then-length-ne0 : goal.returns-then-length-ne0
returns-then-length-ne0 c =
    cut_22 _ _ _ c.requires.0 c.line_length-length.ensures (omega arith) (sym c.first_bad.ensures ∙ c.in_default.is) c.at-then-length-ne0.ensures c.if-length-ne0.true

pub returns-then-rest-length : goal.returns-then-rest-length
returns-then-rest-length c =
    cut_24 _ _ _ c.requires.0 c.line_length-length.ensures (omega arith) (sym c.first_bad.ensures ∙ c.in_default.is) (omega arith) c.at-then-rest-length.ensures c.if-rest-length.true

pub invariant_of-result : goal.invariant_of-result
invariant_of-result c =
    record {
      formed = cut_right _ c.args.at c.args.line c.requires.0 c.line_length-length.ensures (omega arith) (sym c.first_bad.ensures ∙ c.in_default.is) (omega arith);
    }

pub returns : goal.returns
returns c =
    cut_read _ _ _ c.requires.0 c.line_length-length.ensures (omega arith) (sym c.first_bad.ensures ∙ c.in_default.is) (omega arith) c.if-rest-length.false
