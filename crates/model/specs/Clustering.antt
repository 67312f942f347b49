-- Legal clusterings, which anyone may draw, and their delay: definitions 1 and 2 of Rajaraman and Wong.
use Rattle.std.specs.Prelude.{ℕ, zero, suc, ◌+◌, ◌≤◌, ◌<◌, ◌≡◌, cond, List, map, eqb}
use Rattle.model.specs.Basics.{◌∈◌, Largest, Distinct, largest, keep, total, member}
use Rattle.model.specs.Network.{Network, size, weight, delay, fanins, Input, outputs, position}

-- [C1] Copies of gates, each in a cluster; copies and clusters are named by numbers. [C2] `feeder c x` is the copy that feeds the
-- copy c where its gate reads the gate x.
pub record Clustering : Type 0 where
  pub copies : List ℕ
  pub gate_of : ℕ → ℕ
  pub cluster_of : ℕ → ℕ
  pub feeder : ℕ → ℕ → ℕ

-- [C1] [C2] Every copy is of a gate of the network, and is fed by a copy of each of its fan-ins.
pub record Wired (n : Network) (k : Clustering) : Type 0 where
  pub known : (c : ℕ) → c ∈ k.copies → k.gate_of c < size n
  pub fed : (c x : ℕ) → c ∈ k.copies → x ∈ fanins n (k.gate_of c) → k.feeder c x ∈ k.copies
  pub by_fanin : (c x : ℕ) → c ∈ k.copies → x ∈ fanins n (k.gate_of c) → k.gate_of (k.feeder c x) ≡ x

-- The copies that lie in a cluster, and what they weigh: a gate that is there twice counts twice.
unfoldable pub in_cluster : Clustering → ℕ → List ℕ
unfolding keep
in_cluster k j = keep (λ c. eqb (k.cluster_of c) j) k.copies

unfoldable pub cluster_weight : Network → Clustering → ℕ → ℕ
unfolding total weight in_cluster
cluster_weight n k j = total (λ c. weight n (k.gate_of c)) (in_cluster k j)

-- [C4] No cluster weighs more than M.
abbrev pub Fits : Network → Clustering → Type 0
Fits n k = (j : ℕ) → cluster_weight n k j ≤ n.capacity

-- [C3] One copy of the gate, and no other.
pub record OneCopy (k : Clustering) (v : ℕ) : Type 0 where
  pub copy : ℕ
  pub present : copy ∈ k.copies
  pub of_it : k.gate_of copy ≡ v
  pub only : (c : ℕ) → c ∈ k.copies → k.gate_of c ≡ v → c ≡ copy

-- [C1] [C2] [C3] [C4] What a board may be. No copy is named twice.
pub record Legal (n : Network) (k : Clustering) : Type 0 where
  pub distinct : Distinct k.copies
  pub wired : Wired n k
  pub fits : Fits n k
  pub one_copy : (v : ℕ) → v ∈ outputs n → OneCopy k v

-- [C5] what an edge costs: D from one cluster to another, nothing inside one
unfoldable pub crossing : Network → Clustering → ℕ → ℕ → ℕ
crossing n k b c = cond (eqb (k.cluster_of b) (k.cluster_of c)) 0 n.hop

-- [C5] A path that begins at a copy of a primary input and ends at the copy c, with what it sums to: the delay of each gate on
-- it, and each crossing.
pub data CopyPath (n : Network) (k : Clustering) : ℕ → ℕ → Type 0 where
  start : {c d : ℕ} → c ∈ k.copies → Input n (k.gate_of c) → d ≡ delay n (k.gate_of c) → CopyPath n k c d
  onto :
      {b c x d e : ℕ} → CopyPath n k b d → c ∈ k.copies → x ∈ fanins n (k.gate_of c) → b ≡ k.feeder c x
      → e ≡ d + crossing n k b c + delay n (k.gate_of c)
      → CopyPath n k c e

-- [C5] the largest such sum
abbrev pub Delay : Network → Clustering → ℕ → ℕ → Type 0
Delay n k c = Largest (CopyPath n k c)

unfoldable pub delay_within : Network → Clustering → ℕ → ℕ → ℕ
unfolding delay largest crossing fanins
delay_within n k zero c = 0
delay_within n k (suc fuel) c =
    largest
    (map (λ x. delay_within n k fuel (k.feeder c x) + crossing n k (k.feeder c x) c)
    (fanins n (k.gate_of c)))
    + delay n (k.gate_of c)

unfoldable pub copy_delay : Network → Clustering → ℕ → ℕ
unfolding delay_within position
copy_delay n k c = delay_within n k (suc (position n (k.gate_of c))) c

-- [C6] the copies whose delay counts
pub record OutputCopy (n : Network) (k : Clustering) (c : ℕ) : Type 0 where
  pub present : c ∈ k.copies
  pub of_output : k.gate_of c ∈ outputs n

-- [C6] the largest of their delays
abbrev pub ClusteringDelay : Network → Clustering → ℕ → Type 0
ClusteringDelay n k = Largest (λ d. (c : ℕ) × OutputCopy n k c × Delay n k c d)

unfoldable pub output_copies : Network → Clustering → List ℕ
unfolding keep member outputs
output_copies n k = keep (λ c. member (k.gate_of c) (outputs n)) k.copies

unfoldable pub clustering_delay : Network → Clustering → ℕ
unfolding largest copy_delay output_copies
clustering_delay n k = largest (map (copy_delay n k) (output_copies n k))
