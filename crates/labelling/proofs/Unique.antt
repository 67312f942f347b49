-- [T4] No second outcome meets a contract of `labelling`.
use Rattle.std.specs.Prelude.{◌≡◌, ℕ, List, cond, true, false, length, ltb, Result, Ok, Err}
use mathlib.Core.Path.{sym, ◌∙◌}
use mathlib.Core.Logic.{⊎_elim}
use borrow.Author.Tests.{lt-ltb}
use Rattle.model.proofs.Lists.{true_or_false}
use Rattle.frames.specs.declared.Refusal.{Refusal}
use Rattle.frames.specs.Refusal.{no_room}
use Rattle.rows.specs.declared.network.Network.{Network as Standing}
use Rattle.units.specs.Outcome.{OneOutcome, OneContent}
use Rattle.units.proofs.Unique.{same}
use Rattle.labelling.specs.declared.labelled.Labelled.{Labelled}
use Rattle.labelling.specs.WithLabels.{content, WithLabels}
use Rattle.labelling.proofs.WithLabels.{unlabelled}
use Rattle.labelling.proofs.label.Reads as label
use Rattle.labelling.proofs.cluster.Reads as cluster
use Rattle.labelling.proofs.labelled.Labelled.new.Reads as labelled_new
use Rattle.labelling.proofs.labelled.Labelled.members_of.Reads as labelled_members_of

-- The row of labels is the last of three parameters; the row of the network is lent to be read.
pub label_unique : OneOutcome label.Learnt (λ κs exit. exit.1.1.0.now)
label_unique κs args r s exit exit' p q = (same p.answer q.answer, same p.kept q.kept)

-- The row of members is the last of five.
pub cluster_unique : OneOutcome cluster.Learnt (λ κs exit. exit.1.1.1.1.0.now)
cluster_unique κs args r s exit exit' p q = (same p.answer q.answer, same p.kept q.kept)

-- The row of members is the last of three.
pub labelled_labelled_members_of_unique : OneOutcome labelled_members_of.Learnt (λ κs exit. exit.1.1.0.now)
labelled_labelled_members_of_unique κs args r s exit exit' p q = (same p.many q.many, same p.row_is q.row_is)

-- A network with labels is its header, its row and the row of labels.

content_is : {n : Standing} {given : List ℕ} (r : Result Labelled Refusal) → WithLabels n given r
    → content r ≡ cond (ltb (length given) n.header.gates) (Err no_room) (Ok (n.header, n.row.now, given))
content_is {n} {given} (Ok l) p =
    ⊎_elim (λ (t : ltb (length given) n.header.gates ≡ true). let e = rw t at p.answer in absurd cc)
    (λ (t : ltb (length given) n.header.gates ≡ false). rw (t, p.header, p.row, p.labels))
    (true_or_false (ltb (length given) n.header.gates))
content_is {n} {given} (Err f) p =
    let (less, is_no_room) = unlabelled p in rw (is_no_room, lt-ltb (length given) n.header.gates less)

pub labelled_labelled_new_unique : OneContent labelled_new.Learnt (λ κs r. content r)
labelled_labelled_new_unique κs args r s exit exit' p q = content_is r p ∙ sym (content_is s q)
