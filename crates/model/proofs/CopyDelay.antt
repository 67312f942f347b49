-- The delays of copies and of clusterings, computed: each is the largest total over paths.
use Prim.Native.Nat.{ℕ, zero, suc, ◌+◌, ◌≤◌, ◌<◌}
use mathlib.Core.Path.{◌≡◌, refl, sym, ap, subst}
use mathlib.Core.Logic.{⊎_elim}
use mathlib.Core.Bool.{true, false}
use mathlib.Core.List.{map}
use native.Mathlib.Omega.{arith}
use Rattle.model.specs.Basics.{◌∈◌, largest, member}
use Rattle.model.specs.Network.{Network, delay, fanins, input, outputs, position, WellFormed}
use Rattle.model.specs.Clustering.{Clustering, Wired, OneCopy, crossing, CopyPath, start, onto, Delay, delay_within, copy_delay, OutputCopy, ClusteringDelay, output_copies, clustering_delay}
use Rattle.model.specs.Label.{label}
use Rattle.model.specs.Drawing.{OutputDelay, output_delay}
use Rattle.model.proofs.Lists.{true_or_false, member_true, true_member, in_keep, keep_in, in_map, at_most_largest, ∈-subst}
use Rattle.model.proofs.Networks.{input_true, reads_something}
use Rattle.model.proofs.Outputs.{some_output}
use Rattle.model.proofs.Largest.{largest_unique, largest_map}

-- what arrives at the copy c from its feeder for x
arrival : Network → Clustering → ℕ → ℕ → ℕ → ℕ
arrival n k fuel c x = delay_within n k fuel (k.feeder c x) + crossing n k (k.feeder c x) c

delay_step :
    (n : Network) (k : Clustering) (fuel c : ℕ)
    → delay_within n k (suc fuel) c
    ≡ largest (map (arrival n k fuel c) (fanins n (k.gate_of c))) + delay n (k.gate_of c)
unfolding delay_within arrival
delay_step n k fuel c = refl

module _ (n : Network) (wf : WellFormed n) (k : Clustering) (w : Wired n k) where
  feeder_below :
      (c x : ℕ) → c ∈ k.copies → x ∈ fanins n (k.gate_of c)
      → position n (k.gate_of (k.feeder c x)) < position n (k.gate_of c)
  feeder_below c x m r = rw (w.by_fanin c x m r) (wf.below (k.gate_of c) x r)

  -- One step: from the delays of its feeders to the delay of a copy.
  module _ (fuel : ℕ) where
    abbrev Fed : ℕ → Type 0
    Fed c = (x : ℕ) → x ∈ fanins n (k.gate_of c) → Delay n k (k.feeder c x) (delay_within n k fuel (k.feeder c x))

    step_reached : (c : ℕ) → c ∈ k.copies → Fed c → CopyPath n k c (delay_within n k (suc fuel) c)
    unfolding largest arrival
    step_reached c m fed =
        ⊎_elim
        (λ (t : input n (k.gate_of c) ≡ true).
        let i = input_true n (k.gate_of c) t in
        start m i (rw (delay_step n k fuel c, i) (omega arith)))
        (λ (f : input n (k.gate_of c) ≡ false).
        let s = reads_something n (k.gate_of c) f in
        let b = (largest_map (arrival n k fuel c) (fanins n (k.gate_of c)) s.0 s.1).reached in
        onto (fed b.0 b.1).reached m b.1 refl (omega (arith, delay_step n k fuel c, b.2)))
        (true_or_false (input n (k.gate_of c)))

    step_bounds : {c e : ℕ} → Fed c → CopyPath n k c e → e ≤ delay_within n k (suc fuel) c
    unfolding arrival
    step_bounds {c} fed (start m i h) = omega (arith, delay_step n k fuel c)
    step_bounds {c} fed (onto {b = b} {x = x} {d = d} p m r f h) =
        let known = (fed x r).bounds d (subst (λ (b : ℕ). CopyPath n k b d) f p) in
        let same = ap (λ (b : ℕ). crossing n k b c) f in
        let most = at_most_largest (in_map (arrival n k fuel c) r) in
        omega (arith, delay_step n k fuel c)

  -- A feeder's gate stands below, so fuel above the position is enough.
  within : (fuel c : ℕ) → c ∈ k.copies → position n (k.gate_of c) < fuel → Delay n k c (delay_within n k fuel c)
  within zero c m h = absurd (omega arith)
  within (suc fuel) c m h =
      let fed : Fed fuel c = λ x r. within fuel (k.feeder c x) (w.fed c x m r) (omega (arith, feeder_below c x m r)) in
      record { reached = step_reached fuel c m fed; bounds = λ e p. step_bounds fuel fed p }

  pub copy_delay_is : (c : ℕ) → c ∈ k.copies → Delay n k c (copy_delay n k c)
  unfolding copy_delay
  copy_delay_is c m = within (suc (position n (k.gate_of c))) c m (omega arith)

  -- the delay of the clustering

  in_output_copies : (c : ℕ) → OutputCopy n k c → c ∈ output_copies n k
  unfolding output_copies
  in_output_copies c o = in_keep (λ c. member (k.gate_of c) (outputs n)) o.present (true_member o.of_output)

  output_copies_in : (c : ℕ) → c ∈ output_copies n k → OutputCopy n k c
  unfolding output_copies
  output_copies_in c m =
      let s = keep_in (λ c. member (k.gate_of c) (outputs n)) c k.copies m in
      record { present = s.0; of_output = member_true (k.gate_of c) (outputs n) s.1 }

  pub clustering_delay_is :
      (one_copy : (v : ℕ) → v ∈ outputs n → OneCopy k v) → ClusteringDelay n k (clustering_delay n k)
  unfolding clustering_delay
  clustering_delay_is one_copy =
      let o = some_output n wf in
      let c = one_copy o.0 o.1 in
      let first : OutputCopy n k c.copy = record { present = c.present; of_output = ∈-subst (sym c.of_it) o.1 } in
      let most = largest_map (copy_delay n k) (output_copies n k) c.copy (in_output_copies c.copy first) in
      record {
        reached =
            let r = most.reached in
            let s = output_copies_in r.0 r.1 in
            (r.0, s, rw r.2 (copy_delay_is r.0 s.present));
        bounds =
            λ e d.
            most.bounds e
            (d.0, in_output_copies d.0 d.1, largest_unique d.2 (copy_delay_is d.0 d.1.present));
      }

-- [S5] the largest label of a primary output
pub output_delay_is : (n : Network) → WellFormed n → OutputDelay n (output_delay n)
unfolding output_delay
output_delay_is n wf = let o = some_output n wf in largest_map (label n) (outputs n) o.0 o.1
