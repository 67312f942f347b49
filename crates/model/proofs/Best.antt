-- [T3] The drawn clustering is legal and best, and there is none exactly when some gate is heavier than M.
use Prim.Native.Nat.{ℕ, zero, suc, ◌≤◌, ◌<◌}
use mathlib.Core.Path.{◌≡◌, refl, sym, ap, subst}
use mathlib.Core.Logic.{◌⊎◌, inl, inr, ⊎_elim}
use native.Mathlib.Omega.{arith}
use native.Mathlib.Decide.{dec_lt}
use borrow.Author.Tests.{eq-eqb}
use lib.Dec.{eqb}
use Rattle.model.specs.Basics.{◌∈◌}
use Rattle.model.specs.Network.{Network, size, weight, WellFormed}
use Rattle.model.specs.Label.{label}
use Rattle.model.specs.Clustering.{Clustering, Fits, Legal, in_cluster, cluster_weight, Delay, copy_delay}
use Rattle.model.specs.Drawing.{name, drawing}
use Rattle.model.specs.Best.{SomeHeavy, Best, LeastDelay}
use Rattle.model.proofs.Lists.{same_or_not, in_keep, total_in}
use Rattle.model.proofs.Largest.{largest_unique}
use Rattle.model.proofs.Outputs.{reaches_output}
use Rattle.model.proofs.CopyDelay.{copy_delay_is, output_delay_is}
use Rattle.model.proofs.LowerBound.{back, reaches_label}
use Rattle.model.proofs.Drawing.{drawing_legal, drawing_exact, drawn_set, output_root, root_drawn, root_gate}

module _ (n : Network) (wf : WellFormed n) where
  -- A heavy gate is searched for.
  heavy_or_light : (p : ℕ) → p ≤ size n → SomeHeavy n ⊎ ((v : ℕ) → v < p → weight n v ≤ n.capacity)
  heavy_or_light zero h = inr (λ v b. absurd (omega arith))
  heavy_or_light (suc p) h =
      elim (dec_lt n.capacity (weight n p)) [
        | yes above ↦ inl (p, record { known = h; above = above })
        | no fits ↦
            ⊎_elim (λ (w : SomeHeavy n). inl w)
            (λ (below : (v : ℕ) → v < p → weight n v ≤ n.capacity).
            inr
            (λ v b.
            ⊎_elim (λ (e : v ≡ p). omega (arith, ap (weight n) e)) (λ (d : v ≡ p → ⊥). below v (omega arith))
            (same_or_not v p)))
            (heavy_or_light p (omega arith))
      ]

  -- A copy lies in a cluster that weighs at least as much as its gate.
  copy_weighs : (k : Clustering) → Fits n k → (c : ℕ) → c ∈ k.copies → weight n (k.gate_of c) ≤ n.capacity
  unfolding cluster_weight in_cluster
  copy_weighs k f c m =
      omega (
        arith,
        f (k.cluster_of c),
        total_in (λ c'. weight n (k.gate_of c')) (in_keep (λ c'. eqb (k.cluster_of c') (k.cluster_of c)) m (eq-eqb (k.cluster_of c) (k.cluster_of c) refl)),
      )

  -- Every gate reaches an output, every output has a copy, and feeders lead from it back to a copy of the gate: so a legal
  -- clustering holds a copy of every gate, and none of them is heavier than M.
  heavy_forbids : SomeHeavy n → (k : Clustering) → Legal n k → ⊥
  heavy_forbids (v, h) k legal =
      let r = reaches_output n wf v h.known in
      let c = legal.one_copy r.0 r.1 in
      let b = back n k legal.wired r.2.1 c.copy c.present c.of_it in
      omega (arith, h.above, copy_weighs k legal.fits b.copy b.present, ap (weight n) b.of_it)

  -- The argument in full: no copy beats its label (LowerBound), every path to a member of a drawn cluster, with the onward
  -- delay to its root, stays within the root's label (UpperBound), so the drawn roots have exactly their labels; with no
  -- gate heavier than M the drawn clustering is legal, and with one no clustering is.
  pub best : Best n
  best =
      record {
        legal = drawing_legal n wf;
        exact = drawing_exact n wf;
        unbeaten =
            λ k legal c d m h.
            let q = reaches_label n wf k legal.wired legal.fits c m in
            omega (arith, q.2, h.bounds q.0 q.1);
        heavy = (
          heavy_forbids,
          λ none.
              ⊎_elim (λ (w : SomeHeavy n). w)
              (λ (light : (v : ℕ) → v < size n → weight n v ≤ n.capacity).
              absurd (none (drawing n) (drawing_legal n wf (λ w. omega (arith, light w.0 w.1.known, w.1.above)))))
              (heavy_or_light (size n) (omega arith)),
        );
      }

  pub least_delay : LeastDelay n
  least_delay =
      let most = output_delay_is n wf in
      let v = most.reached.0 in
      let out = most.reached.1 in
      record {
        reached =
            λ light.
            let root = (drawn_set n wf light).draws.every_output v out in
            record {
              reached = (
                name n v v,
                record { present = root_drawn n wf light v root; of_output = rw (root_gate n wf light v root) out },
                subst (λ (d : ℕ). Delay n (drawing n) (name n v v) d) (sym most.reached.2) (drawing_exact n wf light v root),
              );
              bounds =
                  λ e (c, o, h).
                  let u = (drawing n).gate_of c in
                  let named = output_root n wf light u c o.of_output o.present refl in
                  let exact = drawing_exact n wf light u ((drawn_set n wf light).draws.every_output u o.of_output) in
                  omega (
                    arith,
                    largest_unique h (subst (λ (c' : ℕ). Delay n (drawing n) c' (label n u)) (sym named) exact),
                    most.bounds (label n u) (u, o.of_output, refl),
                  );
            };
        unbeaten =
            λ k legal d h.
            let c = legal.one_copy v out in
            let own = copy_delay_is n wf k legal.wired c.copy c.present in
            omega (
              arith,
              most.reached.2,
              best.unbeaten k legal c.copy (copy_delay n k c.copy) c.present own,
              ap (label n) c.of_it,
              h.bounds (copy_delay n k c.copy)
                  (c.copy, record { present = c.present; of_output = rw c.of_it out }, own),
            );
      }
