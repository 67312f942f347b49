-- `frames::word_at` meets its contract: a word is two bytes, each at most 272.
use Prim.Native.Nat.{◌+◌}
use native.Mathlib.Omega.{arith}
use Rattle.frames.specs.Frames.{word_from}
use Rattle.frames.proofs.Numbers.{byte_most}
use Rattle.frames.proofs.word_at.Goals as goal

pub overflow_mul-result : goal.overflow_mul-result
overflow_mul-result c =
    let a = c.args in
    omega (arith, byte_most a.text.now a.k)

pub overflow_add-result : goal.overflow_add-result
overflow_add-result c =
    let a = c.args in
    omega (arith, byte_most a.text.now a.k, byte_most a.text.now (a.k + 2))

pub returns : goal.returns
unfolding word_from
returns c =
    cc
