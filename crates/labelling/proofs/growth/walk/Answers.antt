-- `labelling::growth::walk` meets its contract. The invariant of both loops: growing on gives what growing from the root gives, and the
-- time is the largest pull of a primary input that has joined.
use Rattle.std.proofs.Common.{◌≡◌, ◌<◌, refl, sym, ◌∙◌, ap, add-one, List, get_or, arith}
use lib.Dec.{leb}
use Rattle.std.specs.Prelude.{ℕ}
use Rattle.model.specs.Network.{weight}
use Rattle.units.specs.declared.Cells.{Cells}
use Rattle.units.specs.Units.{area_sum}
use Rattle.rows.specs.declared.network.Network.{Network as Standing}
use Rattle.rows.specs.Found.{network_of}
use Rattle.rows.specs.Row.{weight_in}
use Rattle.rows.proofs.Holds.{weight_stands, capacity_stands, weight_most}
use Rattle.labelling.proofs.Lists.{get_or_in}
use Rattle.labelling.proofs.GrowthLaws.{Weighing, growing_starts, growing_joins, growing_stops, growing_ends, inputs_start, inputs_join}
use Rattle.labelling.proofs.growth.walk.Goals as goal
use Rattle.labelling.proofs.growth.walk.Goals.{In-loop-u}

-- a gate's weight is the network's
weighs : (n : Standing) (u : ℕ) → u < n.header.gates → weight_in n.row.now u ≡ weight (network_of n) u
weighs n u h = sym (weight_stands n.header n.row.now u h)

pub grow-init : goal.grow-init
grow-init c =
    let n = c.args.network.now in
    let here = weighs n c.args.v c.requires.known in record {
      none_yet = refl;
      growing = growing_starts _ c.args.v _ _ (c.weight-sum.ensures ∙ here)
          (rw here at (weight_most _ _ n.holds c.args.v c.requires.known));
      inputs = inputs_start _ _;
    }

pub loop-u-init : goal.loop-u-init
loop-u-init c =
    let g = c.grow.invariant in record {
      so_far = g.none_yet;
      growing = g.growing;
      inputs = g.inputs;
    }

-- The next gate of the ordered row.
module _ (c : In-loop-u) where
  abbrev n : Standing
  n = c.args.network.now

  abbrev row : List ℕ
  row = c.args.ordered.now

  abbrev next : ℕ
  next = get_or row c.loop-u.u-index 0

  next_known : next < n.header.gates
  next_known =
      let below = c.requires.gates.1 _ (get_or_in row c.loop-u.u-index (omega arith)) in
      omega arith

  -- the next gate makes the sum this one
  weighing : (heavy both : Cells) → heavy.0 ≡ weight_in n.row.now next → both.0 ≡ area_sum c.loop-u.sum heavy
      → Weighing (network_of n) c.args.v row c.loop-u.sum.0 c.loop-u.joined next both.0
  weighing heavy both is adds =
      let here = weighs n next next_known in
      record {
        so_far = c.loop-u.invariant.growing;
        few = omega arith;
        here = omega arith;
        is = ap (λ (i : ℕ). get_or row i 0) (sym c.loop-u.invariant.so_far);
        light = rw here at (weight_most _ _ n.holds next next_known);
        adds = omega (arith, adds, is, here);
      }

pub or_input-inputs-requires : goal.or_input-inputs-requires
or_input-inputs-requires c = next_known (goal.at.or_input-inputs-requires c).In-loop-u

pub loop-u-preserved : goal.loop-u-preserved
loop-u-preserved c =
    let x = weighing (goal.at.loop-u-preserved c).In-loop-u c.weight.result c.plus-sum.result c.weight.ensures c.plus-sum.ensures in
    let fits : c.within.result ≡ leb c.plus-sum.result.0 (network_of c.args.network.now).capacity =
    rw (capacity_stands _ _ c.args.network.now.holds) c.within.ensures in record {
      so_far = omega arith;
      growing = rw add-one (growing_joins _ _ _ _ _ _ _ x (sym fits ∙ c.if-not-within.false));
      inputs = rw add-one (inputs_join _ _ _ _ _ _ _ x.here x.is c.loop-u.invariant.inputs c.or_input-inputs.ensures);
    }

pub returns-then-not-within-clause-grown : goal.returns-then-not-within-clause-grown
returns-then-not-within-clause-grown c =
    let x = weighing (goal.at.returns-then-not-within-clause-grown c).In-loop-u c.weight.result c.plus-sum.result c.weight.ensures c.plus-sum.ensures in
    let fits : c.within.result ≡ leb c.plus-sum.result.0 (network_of c.args.network.now).capacity =
    rw (capacity_stands _ _ c.args.network.now.holds) c.within.ensures in
    growing_stops _ _ _ _ _ _ _ x (sym fits ∙ c.if-not-within.true)

pub returns-after-loop-u-clause-grown : goal.returns-after-loop-u-clause-grown
returns-after-loop-u-clause-grown c = growing_ends _ _ _ _ _ c.loop-u.invariant.growing (omega arith)
