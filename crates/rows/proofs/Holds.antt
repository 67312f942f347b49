-- What is known of a network that stands in its row.
use Prim.Native.Nat.{ℕ, ◌≤◌, ◌<◌}
use mathlib.Core.Path.{◌≡◌, ap}
use mathlib.Core.List.{List}
use native.Mathlib.Omega.{arith}
use lib.ListN.{length, get_or}
use Rattle.model.specs.Basics.{◌∈◌}
use Rattle.model.specs.Ceilings.{most_gates, most_weight, most_delay}
use Rattle.model.specs.Network.{Gate, size, gate, weight, delay, fanins, empty, input, position}
use Rattle.frames.proofs.Made.{length_made, get_or_made}
use Rattle.rows.specs.declared.Header.{Header}
use Rattle.rows.specs.Row.{weight_in, delay_in, count_in, fanins_in, gate_in, network_in}
use Rattle.rows.specs.steps.Holds.{Holds}
use Rattle.rows.proofs.Blocks.{length_fanins}

-- every place of the row holds 16 bits
abbrev pub InRange : List ℕ → Type 0
InRange row = (i : ℕ) → get_or row i 0 < 65_536

-- whatever stands in the row

module _ (h : Header) (row : List ℕ) where
  pub network_size : size (network_in h row) ≡ h.gates
  unfolding size network_in
  network_size = length_made (gate_in row) h.gates

  pub gate_stands : (v : ℕ) → v < h.gates → gate (network_in h row) v ≡ gate_in row v
  unfolding gate network_in
  gate_stands v k = get_or_made (gate_in row) _ h.gates v k

  pub weight_stands : (v : ℕ) → v < h.gates → weight (network_in h row) v ≡ weight_in row v
  unfolding weight gate_in
  weight_stands v k = ap (λ (g : Gate). g.weight) (gate_stands v k)

  pub delay_stands : (v : ℕ) → v < h.gates → delay (network_in h row) v ≡ delay_in row v
  unfolding delay gate_in
  delay_stands v k = ap (λ (g : Gate). g.delay) (gate_stands v k)

  pub fanins_stand : (v : ℕ) → v < h.gates → fanins (network_in h row) v ≡ fanins_in row v
  unfolding fanins gate_in
  fanins_stand v k = ap (λ (g : Gate). g.fanins) (gate_stands v k)

  pub input_stands : (v : ℕ) → v < h.gates → input (network_in h row) v ≡ empty (fanins_in row v)
  unfolding input
  input_stands v k = ap empty (fanins_stand v k)

-- of a network that `check` found

module _ (h : Header) (row : List ℕ) (s : Holds h row) where
  pub capacity_stands : (network_in h row).capacity ≡ h.capacity.0
  unfolding network_in
  capacity_stands = omega (arith, s.capacity)

  pub hop_stands : (network_in h row).hop ≡ h.hop.0
  unfolding network_in
  hop_stands = omega (arith, s.hop)

  pub few_gates : h.gates ≤ most_gates
  few_gates = omega (arith, network_size h row, s.within.gates)

  pub fanins_below : (v : ℕ) → v < h.gates → (x : ℕ) → x ∈ fanins_in row v → x < v
  unfolding position
  fanins_below v k x m = s.formed.below v x (rw (fanins_stand h row v k) m)

  pub weight_most : (v : ℕ) → v < h.gates → weight_in row v ≤ most_weight
  weight_most v k = omega (arith, weight_stands h row v k, s.within.weights v)

  pub delay_most : (v : ℕ) → v < h.gates → delay_in row v ≤ most_delay
  delay_most v k = omega (arith, delay_stands h row v k, s.within.delays v)

  pub fanins_counted : (v : ℕ) → v < h.gates → length (fanins_in row v) ≡ count_in row v
  fanins_counted v k = omega (arith, s.long, s.few v k, length_fanins row v (omega (arith, s.long)))
