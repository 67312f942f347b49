-- The gates that no gate reads, as the row tells them, are the primary outputs.
use Prim.Native.Nat.{ℕ, ◌<◌}
use mathlib.Core.Path.{◌≡◌, refl, sym, ◌∙◌, ap}
use mathlib.Core.Logic.{⊎_elim}
use mathlib.Core.Bool.{true, false, cond}
use mathlib.Core.List.Memᴰ
use mathlib.Core.List.{List, [], ◌∷◌}
use native.Mathlib.Omega.{arith}
use lib.Dec.{eqb}
use lib.ListN.{get_or, replicate}
use Rattle.model.specs.Basics.{◌∈◌, member, keep, gather, upto}
use Rattle.model.specs.Ceilings.{most_gates}
use Rattle.model.specs.Network.{Network, size, fanins, empty, read_by, outputs}
use Rattle.model.specs.Drawing.{mark}
use Rattle.model.proofs.Lists.{true_or_false, member_true, member_false, in_keep, keep_in, in_gather, gather_in, in_upto, upto_in}
use Rattle.model.proofs.Networks.{reader_known}
use Rattle.model.proofs.Outputs.{outputs_in, in_outputs}
use Rattle.rows.specs.declared.Header.{Header}
use Rattle.rows.specs.Row.{fanins_in, network_in}
use Rattle.rows.specs.steps.Holds.{Holds}
use Rattle.rows.proofs.Holds.{network_size, fanins_stand, few_gates}
use Rattle.selection.specs.Selection.{delay_from}
use Rattle.selection.specs.steps.Marking.{fanins_of, unmarked, unread, largest_label}
use Rattle.selection.proofs.Marks.{fresh_at, keep_agree}

gather_agree : (f g : ℕ → List ℕ) (xs : List ℕ) → ((x : ℕ) → x ∈ xs → f x ≡ g x) → gather f xs ≡ gather g xs
unfolding gather
gather_agree f g [] h = refl
gather_agree f g (x ∷ xs) h =
    rw (h x (Memᴰ.head refl), gather_agree f g xs (λ y m. h y (Memᴰ.tail m)))

module _ (h : Header) (row : List ℕ) where
  abbrev n : Network
  n = network_in h row

  -- the fan-ins of known gates are those that stand in the row
  pub fanins_are : (xs : List ℕ) → ((x : ℕ) → x ∈ xs → x < h.gates) → fanins_of row xs ≡ gather (fanins n) xs
  unfolding fanins_of
  fanins_are xs known = gather_agree (fanins_in row) (fanins n) xs (λ x m. sym (fanins_stand h row x (known x m)))

  abbrev all_fanins : List ℕ
  all_fanins = gather (fanins n) (upto h.gates)

  -- a gate is read exactly where it is a fan-in of one of the gates
  read_or_not : (v : ℕ) → v < h.gates → empty (read_by n v) ≡ eqb (cond (member v all_fanins) 1 0) 0
  unfolding outputs
  read_or_not v known =
      let s = network_size h row in
      ⊎_elim
      (λ (e : member v all_fanins ≡ true).
      let w = gather_in (fanins n) v (upto h.gates) (member_true v all_fanins e) in
      rw e
      (⊎_elim
      (λ (b : empty (read_by n v) ≡ true).
      absurd ((outputs_in n v (in_keep (λ v. empty (read_by n v)) (in_upto (size n) (omega arith)) b)).unread w.0 w.2))
      (λ (b : empty (read_by n v) ≡ false). b)
      (true_or_false (empty (read_by n v)))))
      (λ (e : member v all_fanins ≡ false).
      rw e
      (keep_in (λ v. empty (read_by n v)) v (upto (size n))
      (in_outputs n v
      (record {
        known = omega arith;
        unread =
            λ w m.
            member_false v all_fanins e
            (in_gather (fanins n) (in_upto h.gates (omega (arith, reader_known n w v m))) m);
      }))).1)
      (true_or_false (member v all_fanins))

  unread_below : outputs n ≡ keep (λ v. empty (read_by n v)) (upto h.gates)
  unfolding outputs
  unread_below = ap (λ (k : ℕ). keep (λ v. empty (read_by n v)) (upto k)) (network_size h row)

  module _ (s : Holds h row) where
    pub outputs_are : outputs n ≡ unread row h.gates
    unfolding unread unmarked
    outputs_are =
        let few = few_gates h row s in
        rw (unread_below, fanins_are (upto h.gates) (λ x m. upto_in h.gates x m))
        (keep_agree (λ v. empty (read_by n v)) (λ v. eqb (get_or (mark (replicate most_gates 0) all_fanins) v 0) 0) (upto h.gates)
        (λ v m.
        let known = upto_in h.gates v m in
        read_or_not v known
        ∙ ap (λ (b : ℕ). eqb b 0) (sym (fresh_at most_gates all_fanins v (omega arith)))))

    pub delay_is : (labels : List ℕ) → delay_from n labels ≡ largest_label labels (unread row h.gates)
    unfolding delay_from largest_label
    delay_is labels = rw outputs_are
