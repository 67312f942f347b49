-- `frames::byte_at` meets its contract: a byte is two digits, each at most 16.
use Prim.Native.Nat.{◌+◌}
use native.Mathlib.Omega.{arith}
use Rattle.frames.specs.Frames.{byte_from}
use Rattle.frames.proofs.Numbers.{digit_at_most}
use Rattle.frames.proofs.byte_at.Goals as goal

pub overflow_mul-result : goal.overflow_mul-result
overflow_mul-result c =
    let a = c.args in
    omega (arith, digit_at_most a.text.now a.k)

pub overflow_add-result : goal.overflow_add-result
overflow_add-result c =
    let a = c.args in
    omega (arith, digit_at_most a.text.now a.k, digit_at_most a.text.now (a.k + 1))

pub returns : goal.returns
unfolding byte_from
returns c =
    cc
