-- Gates, networks, primary inputs and outputs, positions.
use Rattle.std.specs.Prelude.{ℕ, ◌≤◌, ◌<◌, ◌≡◌, Bool, true, false, List, [], ◌∷◌, length, get_or}
use Rattle.model.specs.Basics.{◌∈◌, member, keep, upto}
use Rattle.model.specs.Ceilings.{most_gates, most_fanins, most_weight, most_delay, most_hop, most_capacity}

-- [W1] one gate; its fan-ins are gate numbers
pub record Gate : Type 0 where
  pub weight : ℕ
  pub delay : ℕ
  pub fanins : List ℕ

-- [W4] M, which counts cells as weights do; D, which counts ticks as delays do; the gates.
pub record Network : Type 0 where
  pub capacity : ℕ
  pub hop : ℕ
  pub gates : List Gate

unfoldable pub size : Network → ℕ
size n = length n.gates

-- [W1] The gate of a number, counted from 0. A number past the last has no fan-ins, no weight and no delay.
unfoldable pub gate : Network → ℕ → Gate
gate n v = get_or n.gates v (record { weight = 0; delay = 0; fanins = [] })

unfoldable pub weight : Network → ℕ → ℕ
unfolding gate
weight n v = (gate n v).weight

unfoldable pub delay : Network → ℕ → ℕ
unfolding gate
delay n v = (gate n v).delay

unfoldable pub fanins : Network → ℕ → List ℕ
unfolding gate
fanins n v = (gate n v).fanins

-- [W2] nothing is read
abbrev pub Input : Network → ℕ → Type 0
Input n v = fanins n v ≡ []

unfoldable pub empty : List ℕ → Bool
empty [] = true
empty (x ∷ xs) = false

unfoldable pub input : Network → ℕ → Bool
unfolding empty fanins
input n v = empty (fanins n v)

-- [W3] a gate that no gate reads
pub record Output (n : Network) (v : ℕ) : Type 0 where
  pub known : v < size n
  pub unread : (w : ℕ) → v ∈ fanins n w → ⊥

unfoldable pub read_by : Network → ℕ → List ℕ
unfolding keep upto size fanins member
read_by n v = keep (λ w. member v (fanins n w)) (upto (size n))

-- The outputs, rising.
unfoldable pub outputs : Network → List ℕ
unfolding keep upto size empty read_by
outputs n = keep (λ v. empty (read_by n v)) (upto (size n))

-- [W7] A gate's place in an order in which every fan-in stands before its readers: its number.
unfoldable pub position : Network → ℕ → ℕ
position n v = v

-- The gate at a position.
unfoldable pub gate_at : Network → ℕ → ℕ
gate_at n p = p

-- [B1] [W7] There is a gate, and every fan-in is a gate that stands before its reader.
pub record WellFormed (n : Network) : Type 0 where
  pub some_gate : 0 < size n
  pub known : (v x : ℕ) → x ∈ fanins n v → x < size n
  pub below : (v x : ℕ) → x ∈ fanins n v → position n x < position n v

-- [B1] [B2] [B3] [B4] nothing is above its ceiling
pub record WithinCeilings (n : Network) : Type 0 where
  pub gates : size n ≤ most_gates
  pub fan_ins : (v : ℕ) → length (fanins n v) ≤ most_fanins
  pub weights : (v : ℕ) → weight n v ≤ most_weight
  pub delays : (v : ℕ) → delay n v ≤ most_delay
  pub hop : n.hop ≤ most_hop
  pub capacity : n.capacity ≤ most_capacity

-- [N9] a gate that no chip holds
pub record Heavy (n : Network) (v : ℕ) : Type 0 where
  pub known : v < size n
  pub above : n.capacity < weight n v
