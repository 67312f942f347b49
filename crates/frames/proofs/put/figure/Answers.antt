-- `frames::put::figure` meets its contract: the code's test is the one by which the digit is picked.
use native.Mathlib.Omega.{arith}
use borrow.Author.Tests.{lt-ltb, le-ltb}
use Rattle.frames.specs.Digits.{figure}
use Rattle.frames.proofs.put.figure.Goals as goal

pub returns-then-d-lt10 : goal.returns-then-d-lt10
unfolding figure
returns-then-d-lt10 c =
    simp (lt-ltb _ _ c.if-d-lt10.true)

pub returns-else-d-lt10 : goal.returns-else-d-lt10
unfolding figure
returns-else-d-lt10 c =
    simp (le-ltb _ _ c.if-d-lt10.false) (omega arith)
