-- `frames::long_at` meets its contract: a long is two words, each at most 69,904.
use Prim.Native.Nat.{◌+◌}
use native.Mathlib.Omega.{arith}
use Rattle.frames.specs.steps.Cut.{long_from}
use Rattle.frames.proofs.Numbers.{word_most}
use Rattle.frames.proofs.long_at.Goals as goal

pub overflow_mul-result : goal.overflow_mul-result
overflow_mul-result c =
    let a = c.args in
    omega (arith, word_most a.text.now a.k)

pub overflow_add-result : goal.overflow_add-result
overflow_add-result c =
    let a = c.args in
    omega (arith, word_most a.text.now a.k, word_most a.text.now (a.k + 4))

pub returns : goal.returns
unfolding long_from
returns c =
    cc
