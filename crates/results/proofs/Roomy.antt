-- What is known of a network that `Marked::find` found.
use Prim.Native.Nat.{ℕ, ◌<◌}
use mathlib.Core.Path.{◌≡◌}
use mathlib.Core.Bool.{true, false}
use mathlib.Core.Logic.{◌⊎◌, inl, inr}
use mathlib.Core.List.{List}
use lib.ListN.{length}
use Rattle.model.specs.Network.{size}
use Rattle.rows.specs.declared.network.Network.{Network as Standing}
use Rattle.rows.specs.Found.{network_of}
use Rattle.rows.proofs.Holds.{network_size}
use Rattle.labelling.specs.Promises.{either_short}
use Rattle.labelling.proofs.Room.{short, room}
use Rattle.results.specs.declared.marked.Marked.{Marked}

pub gates_of : (m : Marked) → size (network_of m.labelled.network) ≡ m.labelled.network.header.gates
gates_of m = network_size m.labelled.network.header m.labelled.network.row.now

pub roomy : (m : Marked) → either_short (size (network_of m.labelled.network)) m.labelled.labels.now m.marks.now ≡ false
roomy m = rw (gates_of m) (room m.labelled.network.header.gates m.labelled.labels.now m.marks.now m.labelled.enough m.enough)

-- too few labels, and too few marks
module _ (n : Standing) (labels marks : List ℕ) where
  too_few : (length labels < n.header.gates) ⊎ (length marks < n.header.gates) → either_short (size (network_of n)) labels marks ≡ true
  too_few h = rw (network_size n.header n.row.now) (short n.header.gates labels marks h)

  pub no_labels : length labels < n.header.gates → either_short (size (network_of n)) labels marks ≡ true
  no_labels h = too_few (inl h)

  pub no_marks : length marks < n.header.gates → either_short (size (network_of n)) labels marks ≡ true
  no_marks h = too_few (inr h)
