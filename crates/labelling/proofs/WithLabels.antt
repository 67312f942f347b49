-- What is known where a row of labels is refused.
use Rattle.std.specs.Prelude.{◌≡◌, ◌<◌, List, ℕ, true, false, length, ltb, Err}
use mathlib.Core.Logic.{⊎_elim}
use borrow.Author.Tests.{ltb-true}
use Rattle.model.proofs.Lists.{true_or_false}
use Rattle.frames.specs.declared.Refusal.{Refusal}
use Rattle.frames.specs.Refusal.{no_room}
use Rattle.rows.specs.declared.network.Network.{Network as Standing}
use Rattle.labelling.specs.WithLabels.{WithLabels}

-- it is too short, and the refusal is 10
pub unlabelled : {n : Standing} {given : List ℕ} {f : Refusal} → WithLabels n given (Err f)
    → (length given < n.header.gates) × (f ≡ no_room)
unlabelled {n} {given} w =
    ⊎_elim (λ (t : ltb (length given) n.header.gates ≡ true). let e = rw t at w.answer in (ltb-true (length given) n.header.gates t, cc))
    (λ (t : ltb (length given) n.header.gates ≡ false). let e = rw t at w.answer in absurd cc)
    (true_or_false (ltb (length given) n.header.gates))
