-- What is easily drawn wrong: each slip as a definition of its own, and the place in a worked network where it departs from the
-- rule.
use Prim.Native.Nat.{ℕ, zero, suc, ◌+◌, max}
use mathlib.Core.Path.{◌≡◌, refl}
use mathlib.Core.Bool.{false, cond}
use mathlib.Core.List.Memᴰ
use mathlib.Core.List.{List, [], ◌∷◌, ◌++◌, map}
use mathlib.Core.Option.{Option, none, some}
use native.Mathlib.Omega.{arith}
use lib.Dec.{leb}
use Rattle.model.specs.Basics.{◌∈◌, member, largest, keep, total, upto}
use Rattle.model.specs.Network.{Network, size, weight, delay, fanins, gate, input, position, gate_at}
use Rattle.model.specs.Onward.{in_cone, onward}
use Rattle.model.specs.Label.{pull, ordered, grow, from_stop, stop, cluster, labels, label, ReachesInside, there, through}
use Rattle.model.specs.Clustering.{Clustering, crossing, copy_delay}
use Rattle.model.specs.Drawing.{name, clustering_of, drawing}
use Rattle.model.proofs.Lists.{member_false}
use Rattle.model.proofs.Examples.{A, chain}

-- The cluster of v made of its fan-ins' clusters, each taken whole where it fits.
take_clusters : Network → List ℕ → List ℕ → List ℕ
unfolding total weight cluster labels
take_clusters n taken [] = taken
take_clusters n taken (x ∷ xs) =
    take_clusters n
    (cond (leb (total (weight n) (taken ++ cluster n (labels n) x)) n.capacity) (taken ++ cluster n (labels n) x) taken)
    xs

-- In network A gate 4 then takes the cluster of 3 and leaves out gate 2, which pulls most.
from_fanin_clusters :
    (take_clusters (A 3 4) (4 ∷ []) (fanins (A 3 4) 4) ≡ 4 ∷ 3 ∷ 1 ∷ [])
    × (cluster (A 3 4) (labels (A 3 4)) 4 ≡ 4 ∷ 2 ∷ 1 ∷ [])
unfolding take_clusters A fanins cluster labels
from_fanin_clusters = (refl, refl)

-- One hop a path, however many crossings it has: the label from pulls that are longest paths without hops.
longest : Network → ℕ → ℕ
unfolding largest onward delay keep input in_cone upto size
longest n v =
    largest
    (map (λ x. delay n x + onward n x v) (keep (λ x. cond (input n x) (in_cone n x v) false) (upto (size n))))

hop_once : Network → ℕ → ℕ
unfolding longest from_stop stop size upto
hop_once n v =
    let plain = map (longest n) (upto (size n)) in
    max (longest n v) (from_stop n plain v (stop n plain v))

-- In network A with M 1 the path through gates 1, 2 and 4 pays two hops, and the slip one.
hop_added_once : (hop_once (A 1 4) 4 ≡ 11) × (label (A 1 4) 4 ≡ 15)
unfolding hop_once A label
hop_added_once = (refl, refl)

-- Later gates tried behind the one that did not fit.
grow_on : Network → ℕ → List ℕ → Option ℕ → Option ℕ
unfolding weight
grow_on n sum [] last = last
grow_on n sum (u ∷ us) last =
    cond (leb (sum + weight n u) n.capacity) (grow_on n (sum + weight n u) us last) (grow_on n sum us (some u))

carried_on : Network → ℕ → ℕ
unfolding from_stop labels grow_on weight ordered
carried_on n v = from_stop n (labels n) v (grow_on n (weight n v) (ordered n (labels n) v) none)

-- In network A gate 3 is then the last that gate 4 turns away, and its pull is too small.
growth_carried_on : (carried_on (A 3 4) 4 ≡ 9) × (label (A 3 4) 4 ≡ 10)
unfolding carried_on A label
growth_carried_on = (refl, refl)

-- Of equal pulls the smaller number first: in P9 the cluster of root 2 then has gate 0 and not gate 1, so that its copy feeds nobody.
place_first : (ℕ → ℕ) → ℕ → List ℕ → List ℕ
place_first pulls u [] = u ∷ []
place_first pulls u (w ∷ ws) = cond (leb (pulls w) (pulls u)) (u ∷ w ∷ ws) (w ∷ place_first pulls u ws)

arrange_first : Network → ℕ → ℕ → List ℕ → List ℕ
unfolding place_first pull labels in_cone gate_at
arrange_first n v zero row = row
arrange_first n v (suc p) row =
    arrange_first n v p
    (cond (in_cone n (gate_at n p) v) (place_first (pull n (labels n) v) (gate_at n p) row) row)

smaller_first : Network → ℕ → List ℕ
unfolding grow weight arrange_first position
smaller_first n v = v ∷ (grow n (weight n v) (arrange_first n v (position n v) [])).joined

only_one_reader : (y : ℕ) → 0 ∈ fanins chain y → y ≡ 1
unfolding fanins gate chain
only_one_reader zero m = absurd (Memᴰ.not-nil m)
only_one_reader (suc zero) m = refl
only_one_reader (suc (suc zero)) m = let e = Memᴰ.eq_of_singleton m in absurd (omega arith)
only_one_reader (suc (suc (suc y))) m = absurd (Memᴰ.not-nil m)

begins_inside : {n : Network} {inside : List ℕ} {v u : ℕ} → ReachesInside n inside v u → u ∈ inside
begins_inside (there e m) = m
begins_inside (through m edge p) = m

-- the copy of 0 beside root 2 reaches nothing inside
dead_copy : ReachesInside chain (2 ∷ 0 ∷ []) 2 0 → ⊥
unfolding member
dead_copy (there e m) = omega arith
dead_copy (through {y = y} m edge p) =
    member_false 1 (2 ∷ 0 ∷ []) refl (rw (only_one_reader y edge) at (begins_inside p))

ties_by_smaller_number : (smaller_first chain 2 ≡ 2 ∷ 0 ∷ []) × (ReachesInside chain (2 ∷ 0 ∷ []) 2 0 → ⊥)
unfolding smaller_first chain
ties_by_smaller_number = (refl, dead_copy)

-- No hop where the gate outside is an input: with the same clusters A would come to 9, through gate 3.
free_crossing : Network → Clustering → ℕ → ℕ → ℕ
unfolding input crossing
free_crossing n k b c = cond (input n (k.gate_of b)) 0 (crossing n k b c)

free_delay : Network → Clustering → ℕ → ℕ → ℕ
unfolding largest free_crossing fanins delay
free_delay n k zero c = 0
free_delay n k (suc fuel) c =
    largest (map (λ x. free_delay n k fuel (k.feeder c x) + free_crossing n k (k.feeder c x) c) (fanins n (k.gate_of c)))
    + delay n (k.gate_of c)

free_hop_for_inputs :
    (free_delay (A 3 4) (drawing (A 3 4)) 5 (name (A 3 4) 4 4) ≡ 9)
    × (copy_delay (A 3 4) (drawing (A 3 4)) (name (A 3 4) 4 4) ≡ 10)
unfolding free_delay A drawing name copy_delay
free_hop_for_inputs = (refl, refl)

-- A member fed by another cluster's root although its own cluster has the copy, here with every cluster drawn.
always_from_roots : Network → Clustering
unfolding clustering_of upto size name
always_from_roots n =
    let k = clustering_of n (upto (size n)) in
    record { copies = k.copies; gate_of = k.gate_of; cluster_of = k.cluster_of; feeder = λ c x. name n x x }

fed_from_another_root :
    (copy_delay (A 3 4) (always_from_roots (A 3 4)) (name (A 3 4) 4 4) ≡ 15)
    × (copy_delay (A 3 4) (clustering_of (A 3 4) (upto 5)) (name (A 3 4) 4 4) ≡ 10)
unfolding always_from_roots A name copy_delay clustering_of upto
fed_from_another_root = (refl, refl)
