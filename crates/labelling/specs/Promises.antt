-- What the public functions promise.
use Rattle.std.specs.Prelude.{ℕ, ◌≡◌, Bool, cond, ◌||◌, List, ◌++◌, length, drop, ltb, Result, Ok, Err}
use Rattle.model.specs.Network.{size}
use Rattle.model.specs.Label.{labels as labels_of}
use Rattle.model.specs.Drawing.{members as members_of}
use Rattle.frames.specs.declared.Refusal.{Refusal}
use Rattle.frames.specs.Refusal.{no_room}
use Rattle.texts.specs.Reading.{Reading, refused, network}
use Rattle.rows.specs.declared.Header.{Header}
use Rattle.rows.specs.Spelling.{row_answer}

-- the row with the list at its front, the rest kept
abbrev pub written : List ℕ → List ℕ → List ℕ
written xs row = xs ++ drop (length xs) row

-- [R2] [O5] Labels need one place a gate: a refusal of the text that the row spells is handed on, and a lent row too short for the
-- network answers 10 behind it.
unfoldable pub label_answer : Reading → List ℕ → Result (Unit {0}) Refusal
label_answer (refused f) labels = Err f
label_answer (network n) labels = cond (ltb (length labels) (size n)) (Err no_room) (Ok tt)

-- [R3] [R4] The labels of the network at the front of the lent row, the rest kept; on a refusal all of it.
unfoldable pub label_row : Reading → List ℕ → List ℕ
label_row (refused f) labels = labels
label_row (network n) labels = cond (ltb (length labels) (size n)) labels (written (labels_of n) labels)

pub record LabelledInto (h : Header) (row labels : List ℕ) (r : Result (Unit {0}) Refusal) (after : List ℕ) : Type 0 where
  pub answer : r ≡ label_answer (row_answer h row) labels
  pub kept : after ≡ label_row (row_answer h row) labels

-- does one of two lent rows have fewer places than there are gates
abbrev pub either_short : ℕ → List ℕ → List ℕ → Bool
either_short gates labels members = ltb (length labels) gates || ltb (length members) gates

-- [R2] The members of the cluster of a root, rising, for any row of labels, one place a gate in each row: how many, and they stand
-- at the front of the lent row, the rest kept. A root that is no gate has none.
unfoldable pub cluster_answer : Reading → List ℕ → ℕ → List ℕ → Result ℕ Refusal
cluster_answer (refused f) labels root members = Err f
cluster_answer (network n) labels root members =
    cond (either_short (size n) labels members) (Err no_room) (Ok (length (members_of n labels root)))

unfoldable pub cluster_row : Reading → List ℕ → ℕ → List ℕ → List ℕ
cluster_row (refused f) labels root members = members
cluster_row (network n) labels root members =
    cond (either_short (size n) labels members) members (written (members_of n labels root) members)

pub record ClusteredInto (h : Header) (row labels : List ℕ) (root : ℕ) (members : List ℕ) (r : Result ℕ Refusal) (after : List ℕ) : Type 0 where
  pub answer : r ≡ cluster_answer (row_answer h row) labels root members
  pub kept : after ≡ cluster_row (row_answer h row) labels root members

-- Some gates found, in front of a row, the rest of the row as it was.
pub record Found (gates before : List ℕ) (count : ℕ) (after : List ℕ) : Type 0 where
  pub many : count ≡ length gates
  pub row_is : after ≡ written gates before
