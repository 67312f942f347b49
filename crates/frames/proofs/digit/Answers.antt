-- `frames::digit` meets its contract: the ranges of the `match` are the tests of the definition.
use native.Mathlib.Omega.{arith}
use borrow.Author.Tests.{le-leb, lt-leb}
use Rattle.frames.specs.Text.{digit}
use Rattle.frames.proofs.digit.Goals as goal

pub returns-in-48-to-57 : goal.returns-in-48-to-57
unfolding digit
returns-in-48-to-57 c =
    let b = c.args.b in
    simp (le-leb 48 b (omega arith), le-leb b 57 (omega arith))

pub returns-in-65-to-70 : goal.returns-in-65-to-70
unfolding digit
returns-in-65-to-70 c =
    let b = c.args.b in
    simp (lt-leb b 57 (omega arith), le-leb 48 b (omega arith), le-leb 65 b (omega arith), le-leb b 70 (omega arith)) (omega arith)

pub returns-in_default : goal.returns-in_default
unfolding digit
returns-in_default c =
    let b = c.args.b in
    simp (lt-leb 48 b (omega arith), lt-leb 65 b (omega arith))

pub returns-in_default-2 : goal.returns-in_default-2
unfolding digit
returns-in_default-2 c =
    let b = c.args.b in
    simp (lt-leb b 57 (omega arith), le-leb 48 b (omega arith), lt-leb 65 b (omega arith))

pub returns-in_default-3 : goal.returns-in_default-3
unfolding digit
returns-in_default-3 c =
    let b = c.args.b in
    simp (lt-leb b 57 (omega arith), le-leb 48 b (omega arith), le-leb 65 b (omega arith), lt-leb b 70 (omega arith))
