-- `frames::cut::Cut::end` meets its contract: each answer is a row of the table, or the end frame.
use native.Mathlib.Omega.{arith}
use Rattle.frames.proofs.End.{end_4, end_7, end_8, end_read}
use Rattle.frames.proofs.cut.Cut.end.Goals as goal

pub returns-then-self-ne-END_DIGITS : goal.returns-then-self-ne-END_DIGITS
returns-then-self-ne-END_DIGITS c =
    end_4 _ _ _ _ c.args.self.now.formed c.requires c.at.ensures c.if-self-ne-END_DIGITS.true

pub returns-then-word_at-gates : goal.returns-then-word_at-gates
returns-then-word_at-gates c =
    end_7 _ _ _ _ c.args.self.now.formed c.requires (omega arith) c.at-then-word_at-gates.ensures (omega arith)

pub returns-then-gates-eq0 : goal.returns-then-gates-eq0
returns-then-gates-eq0 c =
    end_8 _ _ _ _ c.args.self.now.formed c.requires (omega arith) (omega arith) c.at-then-gates-eq0.ensures (omega arith)

pub returns : goal.returns
returns c =
    end_read _ _ _ _ c.args.self.now.formed c.requires (omega arith) (omega arith) (omega arith)
