-- No label exceeds 67,042,305.
use Prim.Native.Nat.{ℕ, zero, suc, ◌+◌, ◌*◌, ◌≤◌, ◌<◌}
use mathlib.Core.Path.{◌≡◌, ap}
use mathlib.Core.Logic.{⊎_elim}
use mathlib.Core.Bool.{true, false}
use native.Mathlib.Omega.{arith}
use Rattle.model.specs.Basics.{◌∈◌}
use Rattle.model.specs.Ceilings.{most_label}
use Rattle.model.specs.Network.{Network, size, input, position, WellFormed, WithinCeilings}
use Rattle.model.specs.Onward.{Path, start, onto}
use Rattle.model.specs.Label.{pull, ordered, Counts, nothing, input_inside, stopped, labels, label}
use Rattle.model.proofs.Lists.{true_or_false}
use Rattle.model.proofs.Networks.{position_known}
use Rattle.model.proofs.Paths.{path_known}
use Rattle.model.proofs.Onward.{in_cone_true, onward_path}
use Rattle.model.proofs.Order.{ordered_in}
use Rattle.model.proofs.Growth.{joined_in, stop_in}
use Rattle.model.proofs.Label.{label_input, label_largest}

-- A path rises by a position at least with each gate, and each gate adds at most the largest delay: so the gate at position
-- p has a label of at most p + 1 delays and p hops, and p is at most 511.
module _ (n : Network) (wf : WellFormed n) (within : WithinCeilings n) where
  pub path_ceiling : {u v d : ℕ} → Path n u v d → d + 65_535 * position n u ≤ 65_535 * position n v
  path_ceiling (start h z) = omega (arith, ap (position n) h)
  path_ceiling {u} (onto {x = x} {v = v} p m h) =
      omega (arith, path_ceiling p, wf.below v x m, within.delays v)

  module _ (v : ℕ) (known : v < size n) (below : (u : ℕ) → u < size n → position n u < position n v → label n u ≤ 65_535 * (2 * position n u + 1)) where
    pull_ceiling : (u : ℕ) → u ∈ ordered n (labels n) v → pull n (labels n) v u + 65_535 ≤ 65_535 * (2 * position n v + 1)
    unfolding pull label
    pull_ceiling u m =
        let o = ordered_in n (labels n) v u m in
        let p = onward_path n wf u v known (in_cone_true n wf u v known o.0) in
        omega (arith, below u (path_known n wf p known) o.1, path_ceiling p, o.1)

    counts_ceiling : {d : ℕ} → Counts n (labels n) v d → d ≤ 65_535 * (2 * position n v + 1)
    counts_ceiling (nothing z) = omega arith
    counts_ceiling (input_inside {x = x} j i e) = omega (arith, pull_ceiling x (joined_in n (labels n) v x j))
    counts_ceiling (stopped {x = s} h e) = omega (arith, pull_ceiling s (stop_in n (labels n) v s h), within.hop)

    at_gate : label n v ≤ 65_535 * (2 * position n v + 1)
    at_gate =
        ⊎_elim (λ (i : input n v ≡ true). omega (arith, label_input n v known i, within.delays v))
        (λ (reads : input n v ≡ false). counts_ceiling (label_largest n v known reads).reached)
        (true_or_false (input n v))

  by_position : (p v : ℕ) → v < size n → position n v < p → label n v ≤ 65_535 * (2 * position n v + 1)
  by_position zero v known h = absurd (omega arith)
  by_position (suc p) v known h = at_gate v known (λ u known' h'. by_position p u known' (omega arith))

  pub label_ceiling : (v : ℕ) → v < size n → label n v ≤ most_label
  label_ceiling v known =
      omega (arith, by_position (suc (position n v)) v known (omega arith), position_known n v known, within.gates)
