-- `cluster::print` meets its contract: each block begins behind the one before it, and the loop ends behind the last line.
use mathlib.Core.Path.{refl, ap}
use mathlib.Core.Logic.{inl}
use native.Mathlib.Omega.{arith}
use Rattle.std.specs.Prelude.{Ok}
use Rattle.cluster.specs.Printing.{first}
use Rattle.cluster.proofs.Blocks.{begins_few, goes_on, at_last}
use Rattle.cluster.proofs.print.Goals as goal

pub loop-count-init : goal.loop-count-init
loop-count-init c = (refl, λ t. first)

pub returns-then-count-eq0 : goal.returns-then-count-eq0
returns-then-count-eq0 c t =
    let loop = c.loop-count in
    let printed = rw c.in_ok-count.was at c.print_block.ensures in
    inl (ap (λ k. Ok k) (at_last t (loop.invariant.1 t) loop.invariant.0 printed (omega arith) (omega arith)))

pub loop-count-preserved : goal.loop-count-preserved
loop-count-preserved c =
    let loop = c.loop-count in
    let printed = rw c.in_ok-count.was at c.print_block.ensures in
    (omega arith, λ t. goes_on t (loop.invariant.1 t) loop.invariant.0 printed)

pub overflow_add-index : goal.overflow_add-index
overflow_add-index c =
    let loop = c.loop-count in
    let printed = rw c.in_ok-count.was at c.print_block.ensures in
    omega (arith, begins_few (goes_on c.requires (loop.invariant.1 c.requires) loop.invariant.0 printed))

pub loop-count-smaller : goal.loop-count-smaller
loop-count-smaller c =
    let loop = c.loop-count in
    let printed = rw c.in_ok-count.was at c.print_block.ensures in
    omega (arith, begins_few (goes_on c.requires (loop.invariant.1 c.requires) loop.invariant.0 printed))
