-- `frames::fan_in` meets its contract: where no four digits are left in the text behind `at`, the word there is missing whole.
use Prim.Native.Nat.{◌+◌, ◌*◌, ◌≤◌}
use mathlib.Core.Path.{sym}
use native.Mathlib.Omega.{arith}
use lib.ListN.{length}
use Rattle.frames.specs.Frames.{fan_in_from}
use Rattle.frames.proofs.Numbers.{word_most, word_past}
use Rattle.frames.proofs.fan_in.Goals as goal
use Rattle.frames.proofs.fan_in.Goals.{else-at-len-via-then-at-len+else-i-len, else-at-len-via-else-at-len}

pub overflow_cast-result : goal.overflow_cast-result
overflow_cast-result c =
    let a = c.args in
    omega (arith, word_most a.text.now (a.at + 12 + 4 * a.i))

pub returns-then-i-len : goal.returns-then-i-len
unfolding fan_in_from
returns-then-i-len c =
    c.word_at.ensures

pub returns : goal.returns
unfolding fan_in_from
returns c =
    let a = c.args in
    let past : length a.text.now ≤ a.at + 12 + 4 * a.i =
    elim c.else-at-len.branch [ else-at-len-via-then-at-len+else-i-len w ↦ omega arith | else-at-len-via-else-at-len w ↦ omega arith ] in
    sym (word_past a.text.now (a.at + 12 + 4 * a.i) past)
