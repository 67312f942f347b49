-- The drawn roots reach their labels.
use Prim.Native.Nat.{ℕ, ◌+◌, ◌≤◌, ◌<◌}
use mathlib.Core.Path.{◌≡◌, refl, sym, ◌∙◌, ap}
use mathlib.Core.Logic.{⊎_elim}
use mathlib.Core.Bool.{true, false}
use mathlib.Core.List.Memᴰ
use mathlib.Core.List.{List}
use native.Mathlib.Omega.{arith}
use Rattle.model.specs.Basics.{◌∈◌}
use Rattle.model.specs.Network.{Network, size, delay, fanins, Input, input, position, WellFormed}
use Rattle.model.specs.Onward.{InCone, onward}
use Rattle.model.specs.Label.{pull, joined, cluster, input_inside, stopped, labels, label}
use Rattle.model.specs.Clustering.{CopyPath, start, onto}
use Rattle.model.specs.Drawing.{name, clustering_of}
use Rattle.model.proofs.Lists.{true_or_false, in_or_out, ∈-subst}
use Rattle.model.proofs.Networks.{true_input, reader_no_input}
use Rattle.model.proofs.Paths.{path_here, path_edge, path_join, path_known}
use Rattle.model.proofs.Onward.{in_cone_true, true_in_cone, onward_self, onward_edge}
use Rattle.model.proofs.Growth.{joined_cone, outside_after, stop_some, cluster_in, cluster_of_input, cluster_of_reader, root_in_cluster, root_not_joined}
use Rattle.model.proofs.Order.{in_ordered}
use Rattle.model.proofs.Clusterings.{copy_gate, copy_cluster, copy_feeder, feeds_inside, feeds_outside}
use Rattle.model.proofs.Label.{label_input, label_largest}
use Rattle.model.proofs.LowerBound.{crossing_none, crossing_at_most}

module _ (n : Network) (wf : WellFormed n) where
  -- a member lies in the root's cone, at a position not above the root's
  pub member_cone : (r m : ℕ) → r < size n → m ∈ cluster n (labels n) r → InCone n m r
  member_cone r m known inside =
      ⊎_elim (λ (e : m ≡ r). (0, rw e (path_here n r)))
      (λ (j : m ∈ joined n (labels n) r). in_cone_true n wf m r known (joined_cone n (labels n) r m j).0)
      (cluster_in n (labels n) r m inside)

  pub member_known : (r m : ℕ) → r < size n → m ∈ cluster n (labels n) r → m < size n
  member_known r m known inside = path_known n wf (member_cone r m known inside).1 known

  pub member_position : (l : List ℕ) (r m : ℕ) → m ∈ cluster n l r → position n m ≤ position n r
  member_position l r m inside =
      ⊎_elim (λ (e : m ≡ r). omega (arith, ap (position n) e))
      (λ (j : m ∈ joined n l r). omega (arith, (joined_cone n l r m j).1))
      (cluster_in n l r m inside)

  -- a member that reads something: so does the root
  root_reads : (r m x : ℕ) → m ∈ cluster n (labels n) r → x ∈ fanins n m → input n r ≡ false
  root_reads r m x inside edge =
      ⊎_elim
      (λ (i : input n r ≡ true).
      let e = Memᴰ.eq_of_singleton (rw (cluster_of_input n (labels n) r i) at inside) in
      reader_no_input n r x (rw e at edge))
      (λ (reads : input n r ≡ false). reads)
      (true_or_false (input n r))

  -- A path that enters the cluster of r comes from a gate that growth did not take, so the label of r counts a hop.
  entering :
      (r m x : ℕ) → r < size n → m ∈ cluster n (labels n) r → x ∈ fanins n m → (x ∈ cluster n (labels n) r → ⊥)
      → label n x + onward n x r + n.hop ≤ label n r
  unfolding pull label
  entering r m x known inside edge outside =
      let l = labels n in
      let reads = root_reads r m x inside edge in
      let path = path_join n (path_edge n edge) (member_cone r m known inside).1 in
      let lower = wf.below m x edge in
      let cone = in_ordered n l r x (true_in_cone n wf known path) (omega (arith, member_position l r m inside)) in
      let out : x ∈ joined n l r → ⊥ = λ j. outside (rw (cluster_of_reader n l r reads) (Memᴰ.tail j)) in
      let s = stop_some n l r x cone out in
      let pulled = outside_after n l r s.0 x s.1 cone out in
      let counted = (label_largest n r known reads).bounds (pull n l r s.0 + n.hop) (stopped s.1 refl) in
      omega arith

  -- A path that starts inside starts at an input inside.
  starting : (r m : ℕ) → r < size n → m ∈ cluster n (labels n) r → Input n m → delay n m + onward n m r ≤ label n r
  unfolding pull label
  starting r m known inside i =
      ⊎_elim
      (λ (e : m ≡ r).
      let at_root = label_input n r known (rw e at (true_input n m i)) in
      omega (arith, ap (delay n) e, ap (λ (x : ℕ). onward n x r) e, onward_self n wf r known))
      (λ (j : m ∈ joined n (labels n) r).
      let own = label_input n m (member_known r m known inside) (true_input n m i) in
      let reads : input n r ≡ false =
      ⊎_elim
      (λ (t : input n r ≡ true).
      absurd
      (root_not_joined n (labels n) r
      (∈-subst (Memᴰ.eq_of_singleton (rw (cluster_of_input n (labels n) r t) at inside)) j)))
      (λ (t : input n r ≡ false). t)
      (true_or_false (input n r))
      in
      omega (arith, (label_largest n r known reads).bounds (pull n (labels n) r m) (input_inside j i refl)))
      (cluster_in n (labels n) r m inside)

  -- For a member m of the cluster of r every path to its copy, plus the onward delay from m to r, is at most label(r). By
  -- induction on the path: it starts at an input inside; or its last edge lies inside the cluster; or it enters from the
  -- root of an outside gate x, whose delay is at most label(x), and pays a hop.
  pub within_label :
      (roots : List ℕ) {c d : ℕ} → CopyPath n (clustering_of n roots) c d
      → (r m : ℕ) → r < size n → m ∈ cluster n (labels n) r → c ≡ name n r m
      → d + onward n m r ≤ label n r
  within_label roots {c} {d} (start here i z) r m known inside e =
      let gate = ap (clustering_of n roots).gate_of e ∙ copy_gate n roots r m (member_known r m known inside) in
      omega (arith, ap (delay n) gate, starting r m known inside (rw gate at i))
  within_label roots {c} {d} (onto {b = b} {x = x} {d = d'} p here edge feeder z) r m known inside e =
      let member = member_known r m known inside in
      let gate = ap (clustering_of n roots).gate_of e ∙ copy_gate n roots r m member in
      let edge' : x ∈ fanins n m = rw gate at edge in
      let fed = feeder ∙ ap (λ (c' : ℕ). (clustering_of n roots).feeder c' x) e ∙ copy_feeder n roots r m x member in
      let there = ap (clustering_of n roots).cluster_of e ∙ copy_cluster n roots r m member in
      let delays = ap (delay n) gate in
      let step = onward_edge n wf x m r known edge' (member_cone r m known inside) in
      ⊎_elim
      (λ (stays : x ∈ cluster n (labels n) r).
      let own = fed ∙ feeds_inside n r x stays in
      let same =
      ap (clustering_of n roots).cluster_of own ∙ copy_cluster n roots r x (member_known r x known stays) ∙ sym there
      in
      omega (arith, crossing_none n (clustering_of n roots) b c same, within_label roots p r x known stays own))
      (λ (outside : x ∈ cluster n (labels n) r → ⊥).
      let known' = wf.known m x edge' in
      omega (
        arith,
        crossing_at_most n (clustering_of n roots) b c,
        onward_self n wf x known',
        within_label roots p x x known' (root_in_cluster n (labels n) x) (fed ∙ feeds_outside n r x outside),
        entering r m x known inside edge' outside,
      ))
      (in_or_out x (cluster n (labels n) r))
