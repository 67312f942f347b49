-- A network that is known to stand in its row: `check` found it, and its header is within the ceilings.
use Rattle.std.specs.Prelude.{ℕ, ◌*◌, ◌≤◌, ◌<◌, ◌≡◌, List, length}
use Rattle.model.specs.Ceilings.{most_fanins, most_capacity, most_hop}
use Rattle.model.specs.Network.{WellFormed, WithinCeilings, Heavy}
use Rattle.texts.specs.Reading.{network}
use Rattle.rows.specs.declared.Header.{Header}
use Rattle.rows.specs.Row.{places, count_in, network_in}
use Rattle.rows.specs.Spelling.{row_answer}

pub record Holds (h : Header) (row : List ℕ) : Type 0 where
  pub capacity : h.capacity.0 ≤ most_capacity
  pub hop : h.hop.0 ≤ most_hop
  pub long : places * h.gates ≤ length row
  pub few : (v : ℕ) → v < h.gates → count_in row v ≤ most_fanins
  pub answered : row_answer h row ≡ network (network_in h row)
  pub formed : WellFormed (network_in h row)
  pub within : WithinCeilings (network_in h row)
  pub light : (v : ℕ) → Heavy (network_in h row) v → ⊥
