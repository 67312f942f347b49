-- The clustering of all roots, of the drawn roots, and what the two bounds give together.
use Prim.Native.Nat.{ℕ, zero, suc, ◌+◌, ◌≤◌, ◌<◌}
use mathlib.Core.Path.{◌≡◌, refl, sym, ◌∙◌, ap, subst}
use mathlib.Core.Logic.{⊎_elim}
use mathlib.Core.Bool.{true, false}
use mathlib.Core.List.Memᴰ
use mathlib.Core.List.{List}
use native.Mathlib.Omega.{arith}
use native.Mathlib.Decide.{dec_lt}
use Rattle.model.specs.Basics.{◌∈◌, Distinct, upto}
use Rattle.model.specs.Network.{Network, size, weight, delay, fanins, input, outputs, position, WellFormed}
use Rattle.model.specs.Label.{pull, joined, cluster, labels, label, Before, larger_pull, equal_pull, ReachesInside, there, through}
use Rattle.model.specs.Clustering.{Wired, Fits, OneCopy, Legal, CopyPath, onto, crossing, Delay}
use Rattle.model.specs.Drawing.{InputOf, Drawn, drawn, name, clustering_of, drawing}
use Rattle.model.specs.Best.{SomeHeavy}
use Rattle.model.proofs.Lists.{true_or_false, same_or_not, ∈-subst, in_upto, upto_in, distinct_upto}
use Rattle.model.proofs.Networks.{reader_known}
use Rattle.model.proofs.Paths.{path_rises, first_step}
use Rattle.model.proofs.Onward.{in_cone_true, true_in_cone, onward_self, onward_step}
use Rattle.model.proofs.Order.{in_ordered}
use Rattle.model.proofs.Growth.{joined_cone, joined_closed, cluster_in, cluster_of_input, cluster_of_reader, cluster_distinct, cluster_fits, root_in_cluster}
use Rattle.model.proofs.Outputs.{outputs_in}
use Rattle.model.proofs.Drawn.{drawn_is, drawn_known, drawn_distinct}
use Rattle.model.proofs.Clusterings.{copy_gate, copy_parts, in_copies, copies_distinct, wired, fits}
use Rattle.model.proofs.LowerBound.{reaches_label}
use Rattle.model.proofs.UpperBound.{member_cone, member_known, member_position, within_label}

module _ (n : Network) (wf : WellFormed n) (light : SomeHeavy n → ⊥) where
  not_heavy : (v : ℕ) → v < size n → weight n v ≤ n.capacity
  not_heavy v known =
      elim (dec_lt n.capacity (weight n v)) [
        | yes h ↦ absurd (light (v, record { known = known; above = h }))
        | no h ↦ omega arith
      ]

  -- A list of roots closed under inputs: its clustering is wired and fits, and every root has exactly its label as delay.
  module _ (roots : List ℕ) (known : (r : ℕ) → r ∈ roots → r < size n) (distinct : Distinct roots) (closed : (r x : ℕ) → r ∈ roots → InputOf n (labels n) r x → x ∈ roots) where
    roots_wired : Wired n (clustering_of n roots)
    roots_wired = wired n roots known (member_known n wf) closed

    roots_fit : Fits n (clustering_of n roots)
    roots_fit =
        fits n roots known (member_known n wf) distinct (λ r m. cluster_fits n (labels n) r (not_heavy r (known r m)))

    roots_exact : (r : ℕ) → r ∈ roots → Delay n (clustering_of n roots) (name n r r) (label n r)
    roots_exact r m =
        let k = clustering_of n roots in
        let c = name n r r in
        let inside = root_in_cluster n (labels n) r in
        let gate = copy_gate n roots r r (known r m) in
        let bound : (e : ℕ) → CopyPath n k c e → e ≤ label n r =
        λ e p. omega (arith, within_label n wf roots p r r (known r m) inside refl, onward_self n wf r (known r m))
        in
        let q = reaches_label n wf k roots_wired roots_fit c (in_copies n roots m inside) in
        let e : q.0 ≡ label n r = omega (arith, ap (label n) gate, q.2, bound q.0 q.1) in
        record { reached = subst (λ (d : ℕ). CopyPath n k c d) e q.1; bounds = bound }

  -- Along a fan-in the label rises by at least the gate's delay. In the clustering of all roots the root of v is fed by a
  -- copy of its fan-in x, which has a path of at least label(x); that path goes on to the root of v, where no path is
  -- longer than label(v).
  pub label_rises : (v x : ℕ) → x ∈ fanins n v → label n x + delay n v ≤ label n v
  label_rises v x edge =
      let known = reader_known n v x edge in
      let roots = upto (size n) in
      let everyone : (r : ℕ) → r ∈ roots → r < size n = upto_in (size n) in
      let closed : (r y : ℕ) → r ∈ roots → InputOf n (labels n) r y → y ∈ roots =
      λ r y m i. in_upto (size n) (wf.known i.reader y i.reads)
      in
      let k = clustering_of n roots in
      let c = name n v v in
      let w = roots_wired roots everyone (distinct_upto (size n)) closed in
      let m = in_upto (size n) known in
      let here = in_copies n roots m (root_in_cluster n (labels n) v) in
      let gate = copy_gate n roots v v known in
      let edge' : x ∈ fanins n (k.gate_of c) = rw gate edge in
      let b = k.feeder c x in
      let q = reaches_label n wf k w (roots_fit roots everyone (distinct_upto (size n)) closed) b (w.fed c x here edge') in
      let longer =
      (roots_exact roots everyone (distinct_upto (size n)) closed v m).bounds
      (q.0 + crossing n k b c + delay n (k.gate_of c)) (onto q.1 here edge' refl refl)
      in
      omega (arith, ap (label n) (w.by_fanin c x here edge'), ap (delay n) gate, q.2)

  -- The tie rule makes every member reach v inside the cluster. Take a longest path from a member u toward v and its first
  -- gate y: by the rise of labels y pulls at least as much as u, and its position is larger, so y comes before u in the
  -- order and is a member too.
  next_inside :
      (v u : ℕ) → v < size n → input n v ≡ false → u ∈ joined n (labels n) v
      → (y : ℕ) × (u ∈ fanins n y) × (y ∈ cluster n (labels n) v) × (position n u < position n y)
  unfolding pull label
  next_inside v u known reads j =
      let l = labels n in
      let cone = joined_cone n l v u j in
      let path = in_cone_true n wf u v known cone.0 in
      let different : u ≡ v → ⊥ = λ e. omega (arith, ap (position n) e, cone.1) in
      let s = onward_step n wf u v known path different in
      let y = s.0 in
      let higher = wf.below y u s.1 in
      let rise = label_rises y u s.1 in
      ⊎_elim (λ (e : y ≡ v). (y, s.1, rw e (root_in_cluster n l v), higher))
      (λ (differs : y ≡ v → ⊥).
      let lower = ⊎_elim (λ (e : y ≡ v). absurd (differs e)) (λ (h : position n y < position n v). h) (path_rises n wf s.2.1) in
      let row = in_ordered n l v y (true_in_cone n wf known s.2.1) lower in
      let first : Before n l v y u =
      ⊎_elim (λ (e : pull n l v y ≡ pull n l v u). equal_pull e higher)
      (λ (d : pull n l v y ≡ pull n l v u → ⊥). larger_pull (omega arith))
      (same_or_not (pull n l v y) (pull n l v u))
      in
      let taken = joined_closed n l v y u j row first in
      (y, s.1, rw (cluster_of_reader n l v reads) (Memᴰ.tail taken), higher))
      (same_or_not y v)

  reaches_within :
      (fuel v u : ℕ) → v < size n → position n v < fuel + position n u → u ∈ cluster n (labels n) v
      → ReachesInside n (cluster n (labels n) v) v u
  reaches_within zero v u known h m = absurd (omega (arith, member_position n wf (labels n) v u m))
  reaches_within (suc fuel) v u known h m =
      ⊎_elim
      (λ (i : input n v ≡ true). there (Memᴰ.eq_of_singleton (rw (cluster_of_input n (labels n) v i) at m)) m)
      (λ (reads : input n v ≡ false).
      ⊎_elim (λ (e : u ≡ v). there e m)
      (λ (j : u ∈ joined n (labels n) v).
      let s = next_inside v u known reads j in
      through m s.1 (reaches_within fuel v s.0 known (omega (arith, s.3)) s.2))
      (cluster_in n (labels n) v u m))
      (true_or_false (input n v))

  pub reaches_inside : (v u : ℕ) → v < size n → u ∈ cluster n (labels n) v → ReachesInside n (cluster n (labels n) v) v u
  reaches_inside v u known m = reaches_within (suc (position n v)) v u known (omega arith) m

  -- The drawn clustering.

  pub drawn_set : Drawn n (labels n) (drawn n (labels n))
  drawn_set = drawn_is n wf (labels n) (member_position n wf (labels n))

  roots_known : (r : ℕ) → r ∈ drawn n (labels n) → r < size n
  roots_known = drawn_known n wf (labels n)

  -- An unread gate lies in no cluster but its own.
  only_its_own : (v r : ℕ) → v ∈ outputs n → r < size n → v ∈ cluster n (labels n) r → v ≡ r
  only_its_own v r out known m =
      ⊎_elim (λ (w : (v ≡ r) × _). w.0)
      (λ (w : (y : ℕ) × (e : ℕ) × (v ∈ fanins n y) × _ × _). absurd ((outputs_in n v out).unread w.0 w.2))
      (first_step n (member_cone n wf r v known m).1)

  -- So its one drawn copy is the root of that cluster.
  pub output_root : (v c : ℕ) → v ∈ outputs n → c ∈ (drawing n).copies → (drawing n).gate_of c ≡ v → c ≡ name n v v
  unfolding drawing
  output_root v c out m e =
      let roots = drawn n (labels n) in
      let w = copy_parts n roots c m in
      let known = roots_known w.0 w.2 in
      let gate : v ≡ w.1 =
      sym e ∙ ap (clustering_of n roots).gate_of w.4
      ∙ copy_gate n roots w.0 w.1 (member_known n wf w.0 w.1 known w.3)
      in
      let own = only_its_own v w.0 out known (∈-subst (sym gate) w.3) in
      w.4 ∙ ap (λ (x : ℕ). name n x w.1) (sym own) ∙ ap (name n v) (sym gate)

  pub root_drawn : (r : ℕ) → r ∈ drawn n (labels n) → name n r r ∈ (drawing n).copies
  unfolding drawing
  root_drawn r m = in_copies n (drawn n (labels n)) m (root_in_cluster n (labels n) r)

  pub root_gate : (r : ℕ) → r ∈ drawn n (labels n) → (drawing n).gate_of (name n r r) ≡ r
  unfolding drawing
  root_gate r m = copy_gate n (drawn n (labels n)) r r (roots_known r m)

  one_copy : (v : ℕ) → v ∈ outputs n → OneCopy (drawing n) v
  one_copy v out =
      let root = drawn_set.draws.every_output v out in
      record {
        copy = name n v v;
        present = root_drawn v root;
        of_it = root_gate v root;
        only = λ c. output_root v c out;
      }

  pub drawing_legal : Legal n (drawing n)
  unfolding drawing
  drawing_legal =
      let roots = drawn n (labels n) in
      let distinct = drawn_distinct n wf (labels n) in
      let closed = drawn_set.draws.every_input in
      record {
        distinct = copies_distinct n roots roots_known (member_known n wf) distinct (cluster_distinct n (labels n));
        wired = roots_wired roots roots_known distinct closed;
        fits = roots_fit roots roots_known distinct closed;
        one_copy = one_copy;
      }

  pub drawing_exact : (r : ℕ) → r ∈ drawn n (labels n) → Delay n (drawing n) (name n r r) (label n r)
  unfolding drawing
  drawing_exact =
      roots_exact (drawn n (labels n)) roots_known (drawn_distinct n wf (labels n)) drawn_set.draws.every_input
