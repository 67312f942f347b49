-- What the public functions promise, case by case: of a refused row, and of a network that `check` found in it.
use Prim.Native.Nat.{ℕ, ◌≤◌, ◌<◌}
use mathlib.Core.Path.{◌≡◌, refl, ◌∙◌, ap}
use mathlib.Core.Logic.{⊎_elim, inl, inr}
use mathlib.Core.Bool.{true, false}
use mathlib.Core.List.Memᴰ
use mathlib.Core.List.{List, [], ◌++◌}
use native.Mathlib.Omega.{arith}
use borrow.Author.Tests.{lt-ltb, le-ltb}
use lib.ListN.{length, drop}
use Rattle.std.specs.Prelude.{Ok, Err}
use Rattle.model.specs.Basics.{upto, member}
use Rattle.model.specs.Network.{Network, size, input}
use Rattle.model.specs.Label.{labels as labels_of, cluster}
use Rattle.model.specs.Drawing.{members as members_of}
use Rattle.model.proofs.Lists.{true_or_false, false_member, keep_none, upto_in}
use Rattle.model.proofs.Networks.{reader_known, reads_something}
use Rattle.model.proofs.Growth.{cluster_of_input}
use Rattle.model.proofs.Label.{labels_length}
use Rattle.frames.specs.declared.Refusal.{Refusal}
use Rattle.frames.specs.Refusal.{no_room}
use Rattle.texts.specs.Reading.{refused, network}
use Rattle.rows.specs.declared.Header.{Header}
use Rattle.rows.specs.Spelling.{row_answer}
use Rattle.rows.specs.declared.network.Network.{Network as Standing}
use Rattle.rows.specs.Found.{network_of, NetworkFound}
use Rattle.rows.proofs.Holds.{network_size, InRange}
use Rattle.rows.proofs.Found.{found_network, found_row}
use Rattle.labelling.specs.declared.labelled.Labelled.{Labelled}
use Rattle.labelling.specs.WithLabels.{WithLabels}
use Rattle.labelling.proofs.Room.{short, room}
use Rattle.labelling.proofs.WithLabels.{unlabelled}
use Rattle.labelling.specs.Promises.{label_answer, label_row, LabelledInto, either_short, cluster_answer, cluster_row, ClusteredInto, Found}

-- a root that is no gate has no members
no_members : (n : Network) (labels : List ℕ) (r : ℕ) → size n ≤ r → members_of n labels r ≡ []
unfolding members_of
no_members n labels r h =
    keep_none (λ x. member x (cluster n labels r)) (upto (size n))
    (λ x m.
    let known = upto_in (size n) x m in
    false_member x (cluster n labels r)
    (λ i.
    ⊎_elim
    (λ (t : input n r ≡ true).
    let same : x ≡ r = Memᴰ.eq_of_singleton (rw (cluster_of_input n labels r t) at i) in
    omega arith)
    (λ (t : input n r ≡ false).
    let (y, reads) = reads_something n r t in
    omega (arith, reader_known n r y reads))
    (true_or_false (input n r))))

-- what the row answers, of a network that was found in it
pub found_answer : (h : Header) (row : List ℕ) {n : Standing} → InRange row → NetworkFound h row (Ok n) → row_answer h row ≡ network (network_of n)
found_answer h row fit f = rw (found_row h row f refl) ((found_network h row fit f refl).answered)

-- labels

pub label_refused :
    {h : Header} {row labels : List ℕ} {f : Refusal} → row_answer h row ≡ refused f → LabelledInto h row labels (Err f) labels
unfolding label_answer label_row
label_refused e = record { answer = rw e; kept = rw e }

module _ {h : Header} {row labels : List ℕ} (n : Standing) (is : row_answer h row ≡ network (network_of n)) where
  pub label_short : length labels < n.header.gates → LabelledInto h row labels (Err no_room) labels
  unfolding label_answer label_row
  label_short l =
      let t = lt-ltb (length labels) n.header.gates l in
      record { answer = rw (is, network_size n.header n.row.now, t); kept = rw (is, network_size n.header n.row.now, t) }

  pub label_done :
      {after : List ℕ} → n.header.gates ≤ length labels → after ≡ labels_of (network_of n) ++ drop n.header.gates labels
      → LabelledInto h row labels (Ok tt) after
  unfolding label_answer label_row
  label_done l p =
      let t = le-ltb (length labels) n.header.gates l in
      let many = labels_length (network_of n) ∙ network_size n.header n.row.now in
      record { answer = rw (is, network_size n.header n.row.now, t); kept = rw (is, many, network_size n.header n.row.now, t) p }

-- clusters

pub cluster_refused :
    {h : Header} {row labels : List ℕ} {root : ℕ} {members : List ℕ} {f : Refusal} → row_answer h row ≡ refused f
    → ClusteredInto h row labels root members (Err f) members
unfolding cluster_answer cluster_row
cluster_refused e = record { answer = rw e; kept = rw e }

module _ {h : Header} {row labels : List ℕ} {root : ℕ} {members : List ℕ} (n : Standing)
    (is : row_answer h row ≡ network (network_of n)) where
  cluster_short :
      either_short n.header.gates labels members ≡ true → ClusteredInto h row labels root members (Err no_room) members
  unfolding cluster_answer cluster_row
  cluster_short t = record { answer = rw (is, network_size n.header n.row.now, t); kept = rw (is, network_size n.header n.row.now, t) }

  pub cluster_unlabelled : {f : Refusal} → WithLabels n labels (Err f) → ClusteredInto h row labels root members (Err f) members
  cluster_unlabelled w = let (less, is_no_room) = unlabelled w in rw is_no_room (cluster_short (short n.header.gates labels members (inl less)))

  module _ {l : Labelled} (w : WithLabels n labels (Ok l)) where
    pub cluster_no_room : length members < n.header.gates → ClusteredInto h row labels root members (Err no_room) members
    cluster_no_room s = cluster_short (short n.header.gates labels members (inr s))

    module _ (enough : n.header.gates ≤ length members) where
      cluster_done :
          {count : ℕ} {after : List ℕ} → Found (members_of (network_of n) labels root) members count after
          → ClusteredInto h row labels root members (Ok count) after
      unfolding cluster_answer cluster_row
      cluster_done f =
          let roomy = room n.header.gates labels members (rw (w.header, w.labels) at l.enough) enough in
          record {
            answer = rw (is, network_size n.header n.row.now, roomy) (ap Ok f.many);
            kept = rw (is, network_size n.header n.row.now, roomy) f.row_is;
          }

      pub cluster_of_labelled :
          {count : ℕ} {after : List ℕ} → Found (members_of (network_of l.network) l.labels.now root) members count after
          → ClusteredInto h row labels root members (Ok count) after
      cluster_of_labelled f = cluster_done (rw (w.header, w.row, w.labels) at f)

      pub cluster_of_no_gate : n.header.gates ≤ root → ClusteredInto h row labels root members (Ok 0) members
      cluster_of_no_gate l =
          let none = no_members (network_of n) labels root (omega (arith, network_size n.header n.row.now)) in
          cluster_done (rw none (record { many = refl; row_is = refl }))
