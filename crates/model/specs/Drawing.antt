-- Selection and wiring: inputs of a cluster, the drawn set, the drawn clustering, the output delay.
use Rattle.std.specs.Prelude.{ℕ, zero, suc, ◌+◌, ◌*◌, ◌/◌, ◌%◌, ◌≡◌, cond, not, List, [], ◌∷◌, map, get_or, set, replicate, ltb}
use Rattle.model.specs.Basics.{◌∈◌, Largest, largest, member, keep, gather, upto}
use Rattle.model.specs.Network.{Network, size, fanins, outputs, gate_at}
use Rattle.model.specs.Label.{labels, label, cluster}
use Rattle.model.specs.Clustering.{Clustering}

-- [S2] x is an input of the cluster of r: a member reads it, and it is no member itself.
pub record InputOf (n : Network) (labels : List ℕ) (r x : ℕ) : Type 0 where
  pub reader : ℕ
  pub inside : reader ∈ cluster n labels r
  pub reads : x ∈ fanins n reader
  pub outside : x ∈ cluster n labels r → ⊥

unfoldable pub inputs : Network → List ℕ → ℕ → List ℕ
unfolding keep member gather fanins cluster
inputs n labels r = keep (λ x. not (member x (cluster n labels r))) (gather (fanins n) (cluster n labels r))

-- [S1] [S2] What a set of roots has to hold: every output, and with a root every input of its cluster.
pub record Draws (n : Network) (labels : List ℕ) (roots : ℕ → Type 0) : Type 0 where
  pub every_output : (v : ℕ) → v ∈ outputs n → roots v
  pub every_input : (r x : ℕ) → roots r → InputOf n labels r x → roots x

-- [S3] The least such set: whatever else is one has all of its roots.
pub record Drawn (n : Network) (labels : List ℕ) (roots : List ℕ) : Type 1 where
  pub draws : Draws n labels (λ r. r ∈ roots)
  pub least : (others : ℕ → Type 0) → Draws n labels others → (r : ℕ) → r ∈ roots → others r

-- The drawn set in one sweep over a row of marks, 1 for drawn: the outputs, then from the last position to the first
-- the inputs of each marked root.
unfoldable pub mark : List ℕ → List ℕ → List ℕ
mark row [] = row
mark row (x ∷ xs) = mark (set row x 1) xs

unfoldable pub select : Network → List ℕ → ℕ → List ℕ → List ℕ
unfolding mark inputs gate_at
select n labels zero row = row
select n labels (suc p) row =
    select n labels p
    (cond (ltb 0 (get_or row (gate_at n p) 0)) (mark row (inputs n labels (gate_at n p))) row)

unfoldable pub marks : Network → List ℕ → List ℕ
unfolding select size mark outputs
marks n labels = select n labels (size n) (mark (replicate (size n) 0) (outputs n))

-- the roots of the drawn clusters, rising
unfoldable pub drawn : Network → List ℕ → List ℕ
unfolding keep upto size marks
drawn n labels = keep (λ r. ltb 0 (get_or (marks n labels) r 0)) (upto (size n))

-- the members of the cluster of r, rising
unfoldable pub members : Network → List ℕ → ℕ → List ℕ
unfolding keep member cluster upto size
members n labels r = keep (λ x. member x (cluster n labels r)) (upto (size n))

-- The clustering of a list of roots: the copy of m in the cluster of r has a name that tells both.
unfoldable pub name : Network → ℕ → ℕ → ℕ
unfolding size
name n r m = r * size n + m

-- [S4] Where a member of the cluster of r reads x: its own cluster's copy of x, and without one the root of the cluster of x.
unfoldable pub feeds : Network → ℕ → ℕ → ℕ
unfolding name cluster labels member
feeds n r x = cond (member x (cluster n (labels n) r)) (name n r x) (name n x x)

unfoldable pub clustering_of : Network → List ℕ → Clustering
unfolding gather name cluster labels size feeds
clustering_of n roots =
    record {
      copies = gather (λ r. map (name n r) (cluster n (labels n) r)) roots;
      gate_of = λ c. c % size n;
      cluster_of = λ c. c / size n;
      feeder = λ c x. feeds n (c / size n) x;
    }

-- the drawn clustering
unfoldable pub drawing : Network → Clustering
unfolding clustering_of drawn labels
drawing n = clustering_of n (drawn n (labels n))

-- [S5] the largest label of a primary output
abbrev pub OutputDelay : Network → ℕ → Type 0
OutputDelay n = Largest (λ d. (v : ℕ) × (v ∈ outputs n) × (d ≡ label n v))

unfoldable pub output_delay : Network → ℕ
unfolding largest label outputs
output_delay n = largest (map (label n) (outputs n))
