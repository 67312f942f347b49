-- `rows::gate_fault` meets its contract: the makers tell of 4 and 5, and of 6 the walk of the gate's fan-ins.
use Prim.Native.Nat.{◌≤◌, ◌<◌}
use mathlib.Core.Path.{◌≡◌, sym, ◌∙◌}
use Rattle.std.proofs.lemmas.Result.{err_from_is_err_and}
use Rattle.model.specs.Ceilings.{most_gates, most_fanins}
use Rattle.units.specs.Units.{counted}
use Rattle.units.proofs.Makers.{counted_made, counted_above, numbered_made, numbered_above}
use Rattle.rows.specs.Row.{count_in}
use Rattle.rows.proofs.Faults.{none_made, some_made, fault_four, fault_five, fault_six, no_fault}
use Rattle.rows.proofs.gate_fault.Goals as goal

pub returns-in_err-ok_or : goal.returns-in_err-ok_or
returns-in_err-ok_or c =
    let p = err_from_is_err_and c.from_residual.result c.from_residual.ensures.1 in
    let asked : c.new.result ≡ counted (count_in c.args.row.now c.args.gate) = rw c.count.ensures at c.new.ensures in
    let (none, same) = none_made c.ok_or.ensures.value c.ok_or.ensures.ok_part c.in_err-ok_or.was in
    rw (p.1, p.2, ← same, c.at_gate.ensures) (fault_four _ _ (counted_above _ (sym asked ∙ none)))

pub returns-in_err-ok_or-2 : goal.returns-in_err-ok_or-2
returns-in_err-ok_or-2 c =
    let p = err_from_is_err_and c.from_residual-in_err-ok_or-2.result c.from_residual-in_err-ok_or-2.ensures.1 in
    let asked : c.new.result ≡ counted (count_in c.args.row.now c.args.gate) = rw c.count.ensures at c.new.ensures in
    let few : count_in c.args.row.now c.args.gate ≤ most_fanins = (counted_made _ _ (sym asked ∙ some_made c.ok_or.ensures.ok_part c.in_ok-ok_or.was)).0 in
    let (none, same) = none_made c.ok_or-2.ensures.value c.ok_or-2.ensures.ok_part c.in_err-ok_or-2.was in
    rw (p.1, p.2, ← same, c.at_gate-2.ensures) (fault_five _ _ few (numbered_above _ (sym c.new-2.ensures ∙ none)))

pub returns-then-not-rising : goal.returns-then-not-rising
returns-then-not-rising c =
    let asked : c.new.result ≡ counted (count_in c.args.row.now c.args.gate) = rw c.count.ensures at c.new.ensures in
    let few : count_in c.args.row.now c.args.gate ≤ most_fanins = (counted_made _ _ (sym asked ∙ some_made c.ok_or.ensures.ok_part c.in_ok-ok_or.was)).0 in
    let known : c.args.gate < most_gates = (numbered_made _ _ (sym c.new-2.ensures ∙ some_made c.ok_or-2.ensures.ok_part c.in_ok-ok_or-2.was)).0 in
    rw c.at_gate-then-not-rising.ensures
    (fault_six _ _ few known (sym (rw c.fan_ins.ensures at c.rising.ensures) ∙ c.if-not-rising.true))

pub returns : goal.returns
returns c =
    let asked : c.new.result ≡ counted (count_in c.args.row.now c.args.gate) = rw c.count.ensures at c.new.ensures in
    let few : count_in c.args.row.now c.args.gate ≤ most_fanins = (counted_made _ _ (sym asked ∙ some_made c.ok_or.ensures.ok_part c.in_ok-ok_or.was)).0 in
    let known : c.args.gate < most_gates = (numbered_made _ _ (sym c.new-2.ensures ∙ some_made c.ok_or-2.ensures.ok_part c.in_ok-ok_or-2.was)).0 in
    no_fault _ _ few known (sym (rw c.fan_ins.ensures at c.rising.ensures) ∙ c.if-not-rising.false)
