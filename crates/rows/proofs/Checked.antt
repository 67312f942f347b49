-- What `check` answers, by the fault that is found, and what is known afterwards.
use Prim.Native.Nat.{ℕ}
use Rattle.std.specs.Prelude.{Result, Ok, Err}
use Rattle.std.proofs.Common.{Fits, w16, get_or}
use mathlib.Core.Path.{◌≡◌, refl, sym, ◌∙◌, ap}
use mathlib.Core.Bool.{cond}
use mathlib.Core.List.{List}
use native.Mathlib.Omega.{arith}
use Rattle.model.specs.Network.{Network}
use Rattle.units.specs.Units.{cells, ticks, capacity_place, delay_place}
use Rattle.frames.specs.declared.Refusal.{Refusal}
use Rattle.frames.specs.Refusal.{no_room}
use Rattle.frames.proofs.Tests.{never}
use Rattle.texts.specs.Reading.{Reading, refused, network, reading}
use Rattle.texts.specs.Spelling.{join}
use Rattle.texts.proofs.AcceptedNetwork.{accepted_well_formed, accepted_within_ceilings, accepted_not_heavy}
use Rattle.rows.specs.declared.Header.{Header}
use Rattle.rows.specs.Row.{too_short, network_in, header_of}
use Rattle.rows.specs.Spelling.{row_lines, spell, row_answer}
use Rattle.rows.specs.Read.{shown, checked}
use Rattle.rows.specs.steps.RowCheck.{settled, row_fault, unless_fault, row_check}
use Rattle.rows.specs.steps.Holds.{Holds}
use Rattle.rows.proofs.Holds.{InRange, network_size}
use Rattle.rows.proofs.RowCheck.{row_answer_check, Answered, row_answered}

-- the header of the network that stands in a row
header_in : (h : Header) (row : List ℕ) → header_of (network_in h row) ≡ settled h
header_in h row = rw (network_size h row) (unfold network_in in refl)

-- the answer by the fault

module _ (h : Header) (row : List ℕ) (fit : InRange row) {f : Result (Unit {0}) Refusal} (is : f ≡ row_fault (settled h) row) where
  shown_check : shown (unless_fault f (network (network_in h row))) ≡ checked h row
  unfolding checked row_check
  shown_check = rw is (ap shown (sym (row_answer_check h row fit)))

  pub checked_network : f ≡ Ok (tt {0}) → Ok (settled h) ≡ checked h row
  unfolding shown unless_fault
  checked_network e = sym (ap {B = Result Header Refusal} Ok (header_in h row)) ∙ (rw e at shown_check)

  pub checked_refused : {r : Refusal} → f ≡ Err r → Err r ≡ checked h row
  unfolding shown unless_fault
  checked_refused e = rw e at shown_check

-- the same of a fault that was found, whatever form tells it
module _ (h : Header) (row : List ℕ) {k : Header} {f : Result (Unit {0}) Refusal} where
  pub network_told : k ≡ settled h → f ≡ row_fault k row → ((i : ℕ) → Fits w16 (get_or row i 0)) → f ≡ Ok (tt {0}) → Ok k ≡ checked h row
  network_told known found fits is = rw known (checked_network h row (λ i. (fits i).fits) (rw known at found) is)

  pub fault_told : {r : Refusal} → k ≡ settled h → f ≡ row_fault k row → ((i : ℕ) → Fits w16 (get_or row i 0)) → f ≡ Err r → Err r ≡ checked h row
  fault_told known found fits is = checked_refused h row (λ i. (fits i).fits) (rw known at found) is

-- M and D are held at their ceilings: doing so once more changes nothing

module _ (h : Header) (row : List ℕ) where
  capacity_twice : capacity_place (cells (capacity_place h.capacity)) ≡ capacity_place h.capacity
  capacity_twice = omega arith

  hop_twice : delay_place (ticks (delay_place h.hop)) ≡ delay_place h.hop
  hop_twice = omega arith

  network_settled : network_in (settled h) row ≡ network_in h row
  unfolding network_in
  network_settled = rw (capacity_twice, hop_twice)

  lines_settled : row_lines (settled h) row ≡ row_lines h row
  unfolding row_lines
  lines_settled = rw (capacity_twice, hop_twice)

  answer_settled : row_answer (settled h) row ≡ row_answer h row
  unfolding row_answer spell
  answer_settled =
      ap (λ (ls : List (List ℕ)). cond (too_short h.gates row) (refused no_room) (reading (join ls))) lines_settled

-- what is known after `check`

-- A header and a row that were handed over, and the header k that `check` answered: the network of k stands in the row, and it
-- is the one that was handed over.
pub record Known (h k : Header) (row : List ℕ) : Type 0 where
  pub holds : Holds k row
  pub same : network_in k row ≡ network_in h row
  pub gates : k.gates ≡ h.gates
  pub answered : row_answer h row ≡ network (network_in k row)
  pub lines : row_lines k row ≡ row_lines h row

settled_holds : (h : Header) (row : List ℕ) → (n : Network) → row_answer h row ≡ network n → Answered h row n → Holds (settled h) row
settled_holds h row n e a =
    let same : n ≡ network_in (settled h) row = a.same ∙ sym (network_settled h row) in
    record {
      capacity = omega arith;
      hop = omega arith;
      long = a.long;
      few = a.few;
      answered = answer_settled h row ∙ e ∙ ap network same;
      formed = rw same at (accepted_well_formed (spell h row) n a.read);
      within = rw same at (accepted_within_ceilings (spell h row) n a.read);
      light = rw same at (accepted_not_heavy (spell h row) n a.read);
    }

settled_known : (h : Header) (row : List ℕ) → InRange row → (n : Network) → row_answer h row ≡ network n → Known h (settled h) row
settled_known h row fit n e =
    let a = row_answered h row fit n e in
    record {
      holds = settled_holds h row n e a;
      same = network_settled h row;
      gates = refl;
      answered = e ∙ ap network (a.same ∙ sym (network_settled h row));
      lines = lines_settled h row;
    }

shown_network : (r : Reading) {k : Header} → Ok k ≡ shown r → (n : Network) × (r ≡ network n) × (k ≡ header_of n)
unfolding shown
shown_network (refused f) e = never cc
shown_network (network n) e = (n, refl, cc)

pub check_network : (h : Header) (row : List ℕ) → InRange row → {r : Result Header Refusal} {k : Header}
    → r ≡ checked h row → r ≡ Ok k → Known h k row
unfolding checked
check_network h row fit p q =
    let (n, e, is) = shown_network (row_answer h row) (sym q ∙ p) in
    let settles = is ∙ ap header_of (row_answered h row fit n e).same ∙ header_in h row in
    rw settles (settled_known h row fit n e)

shown_refused : (r : Reading) {f : Refusal} → Err f ≡ shown r → r ≡ refused f
unfolding shown
shown_refused (refused f) e = cc
shown_refused (network n) e = never cc

-- a refusal answered is the row's
pub check_refused : (h : Header) (row : List ℕ) {r : Result Header Refusal} {f : Refusal} → r ≡ checked h row → r ≡ Err f
    → row_answer h row ≡ refused f
unfolding checked
check_refused h row p q = shown_refused (row_answer h row) (sym q ∙ p)
