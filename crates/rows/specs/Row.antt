-- A network as a header and one row of 16-bit places: a block of eleven for each gate. Nothing above this page knows where in
-- a block a number stands.
use Rattle.std.specs.Prelude.{ℕ, suc, ◌+◌, ◌*◌, ◌-◌, min, Bool, cond, ◌&&◌, List, [], ◌∷◌, ◌++◌, map, length, get_or, set, take, drop, replicate, leb, ltb}
use Rattle.std.proofs.lemmas.List.Edits.{sets}
use Rattle.model.specs.Basics.{upto}
use Rattle.model.specs.Ceilings.{most_fanins}
use Rattle.model.specs.Network.{Gate, Network, size}
use Rattle.units.specs.declared.Cells.{Cells}
use Rattle.units.specs.declared.Ticks.{Ticks}
use Rattle.units.specs.declared.FanInCount.{FanInCount}
use Rattle.units.specs.Units.{cells, ticks, weight_place, capacity_place, delay_place, count_place}
use Rattle.rows.specs.declared.Header.{Header}

-- [R1] the places of a block: weight, delay, fan-in count, eight fan-ins
abbrev pub places : ℕ
places = 11

-- [R3] the formula of the row's room: eleven places a gate
unfoldable pub too_short : ℕ → List ℕ → Bool
too_short gates row = ltb (length row) (places * gates)

-- Has the row all places of gate v?
unfoldable pub has_block : List ℕ → ℕ → Bool
has_block row v = leb (places * suc v) (length row)

-- [R1] The block of gate v. A row that does not have all of its places has no block for it.
unfoldable pub block : List ℕ → ℕ → List ℕ
unfolding has_block
block row v = cond (has_block row v) (take places (drop (places * v) row)) []

-- What a block says of its gate; where there is no block, 0 and no fan-ins. A count above eight has eight fan-ins, for which
-- there are places.
unfoldable pub weight_in : List ℕ → ℕ → ℕ
unfolding block
weight_in row v = get_or (block row v) 0 0

unfoldable pub delay_in : List ℕ → ℕ → ℕ
unfolding block
delay_in row v = get_or (block row v) 1 0

unfoldable pub count_in : List ℕ → ℕ → ℕ
unfolding block
count_in row v = get_or (block row v) 2 0

unfoldable pub fanins_in : List ℕ → ℕ → List ℕ
unfolding block count_in
fanins_in row v = take (min (count_in row v) most_fanins) (drop 3 (block row v))

-- the gate that stands in the row at v
unfoldable pub gate_in : List ℕ → ℕ → Gate
unfolding weight_in delay_in fanins_in
gate_in row v = record { weight = weight_in row v; delay = delay_in row v; fanins = fanins_in row v }

-- [R1] The network that stands in the row. A capacity or a hop delay above its ceiling counts as the ceiling.
unfoldable pub network_in : Header → List ℕ → Network
unfolding upto gate_in
network_in h row =
    record {
      capacity = capacity_place h.capacity;
      hop = delay_place h.hop;
      gates = map (gate_in row) (upto h.gates);
    }

-- the header of a network
abbrev pub header_of : Network → Header
header_of n = record { capacity = cells n.capacity; hop = ticks n.hop; gates = size n }

-- [R1] The block of a gate: unused fan-in places are 0.
unfoldable pub block_of : Gate → List ℕ
block_of g = g.weight ∷ g.delay ∷ length g.fanins ∷ g.fanins ++ replicate (most_fanins - length g.fanins) 0

unfoldable pub blocks : List Gate → List ℕ
unfolding block_of
blocks [] = []
blocks (g ∷ gs) = block_of g ++ blocks gs

-- [R1] [R3] The filled row: the blocks of the gates in front, the rest as it was.
unfoldable pub fill : List Gate → List ℕ → List ℕ
unfolding blocks
fill gs row = blocks gs ++ drop (places * length gs) row

-- The row with the weight, the delay and the count of gate v put into its block, and with no fan-in yet; a row without the
-- block stays as it is.
unfoldable pub gate_put : ℕ → Cells → Ticks → FanInCount → List ℕ → List ℕ
unfolding has_block
gate_put v weight delay count row =
    cond (has_block row v)
    (sets row (places * v) (weight_place weight ∷ delay_place delay ∷ count_place count ∷ replicate most_fanins 0))
    row

-- The row with the i-th fan-in of gate v put into its block; a row without the block, and one without a place for an i-th
-- fan-in, stays as it is.
unfoldable pub fanin_put : ℕ → ℕ → ℕ → List ℕ → List ℕ
unfolding has_block
fanin_put v i x row = cond (has_block row v && ltb i most_fanins) (set row (places * v + (3 + i)) x) row
