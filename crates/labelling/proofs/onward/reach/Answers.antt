-- `labelling::onward::reach` meets its contract. The loop's invariant: visiting the gates that are left gives the whole sweep, and
-- no sum comes near 64 bits.
use Rattle.std.proofs.Common.{◌≡◌, suc, ◌+◌, ◌-◌, ◌<◌, ◌∙◌, ap, ℕ, length, take, replicate, length-take, arith}
use Rattle.rows.proofs.Holds.{network_size, delay_stands, fanins_stand, few_gates, fanins_below, delay_most}
use Rattle.labelling.proofs.OnwardLaws.{cleared_front, sweep_starts, sweep_next, sweep_ends}
use Rattle.labelling.proofs.onward.reach.Goals as goal
use Rattle.labelling.proofs.onward.reach.Goals.{After-fill}

pub slice_bounds-fill-end : goal.slice_bounds-fill-end
slice_bounds-fill-end c = omega (arith, few_gates _ _ c.args.network.now.holds)

cleared : (c : After-fill) → c.fill.new.self ≡ replicate (suc c.args.v) 0
cleared c =
    let long : length (take (c.args.v + 1) c.args.onward.now) ≡ suc c.args.v =
    omega (arith, length-take (c.args.v + 1) c.args.onward.now, few_gates _ _ c.args.network.now.holds) in
    let zeros : c.fill.new.self ≡ replicate (length (take (c.args.v + 1) c.args.onward.now)) 0 = c.fill.ensures.after (λ y e. e) in
    zeros ∙ ap (λ (k : ℕ). replicate k 0) long

pub loop-y-init : goal.loop-y-init
loop-y-init c = sweep_starts _ c.args.v _ _ (cleared_front c.args.v _ _ (cleared (goal.at.loop-y-init c).After-fill)) (omega arith)

pub loop-y-preserved : goal.loop-y-preserved
loop-y-preserved c =
    let n = c.args.network.now in
    let y = c.loop-y.y - 1 in
    let known : y < n.header.gates = omega arith in
    sweep_next _ c.args.v c.loop-y.y y _ c.loop-y.onward _ (omega arith) (omega arith)
    (rw (delay_stands n.header n.row.now y known) (delay_most _ _ n.holds y known))
    (rw (fanins_stand n.header n.row.now y known) (fanins_below _ _ n.holds y known))
    c.loop-y.invariant
    c.visit.ensures

pub returns : goal.returns
returns c =
    let n = c.args.network.now in
    sweep_ends _ c.args.v c.loop-y.y _ c.loop-y.onward (omega (arith, network_size n.header n.row.now))
    (cleared_front c.args.v _ _ (cleared (goal.at.returns c).After-fill)) (omega arith) c.loop-y.invariant
