-- [T3] That the drawn clustering is best, and what follows for the output delay: of any network, with a field for each sentence.
-- With a gate heavier than M nothing drawn is legal, so what is said of the drawn clustering has the condition that there is none.
use Rattle.std.specs.Prelude.{ℕ, ◌≤◌, ◌↔◌}
use Rattle.model.specs.Basics.{◌∈◌}
use Rattle.model.specs.Network.{Network, Heavy}
use Rattle.model.specs.Label.{labels, label}
use Rattle.model.specs.Clustering.{Clustering, Legal, Delay, ClusteringDelay}
use Rattle.model.specs.Drawing.{drawn, name, drawing, output_delay}

-- some gate is heavier than M
abbrev pub SomeHeavy : Network → Type 0
SomeHeavy n = (v : ℕ) × Heavy n v

pub record Best (n : Network) : Type 0 where
  -- [T3] The drawn clustering is legal.
  pub legal : (SomeHeavy n → ⊥) → Legal n (drawing n)
  -- [T3] It is exact: the root of each drawn cluster has its label as delay.
  pub exact : (SomeHeavy n → ⊥) → (r : ℕ) → r ∈ drawn n (labels n) → Delay n (drawing n) (name n r r) (label n r)
  -- [T3] It is unbeaten: in no legal clustering, however many copies it has, has a copy a smaller delay than its gate's label.
  pub unbeaten : (k : Clustering) → Legal n k → (c d : ℕ) → c ∈ k.copies → Delay n k c d → label n (k.gate_of c) ≤ d
  -- [T3] A gate is heavier than M exactly when no legal clustering exists.
  pub heavy : SomeHeavy n ↔ ((k : Clustering) → Legal n k → ⊥)

-- What the customer is told: the output delay is the least delay of any legal clustering.
pub record LeastDelay (n : Network) : Type 0 where
  -- [C6] It is the delay of the drawn clustering.
  pub reached : (SomeHeavy n → ⊥) → ClusteringDelay n (drawing n) (output_delay n)
  -- No legal clustering has a smaller one.
  pub unbeaten : (k : Clustering) → Legal n k → (d : ℕ) → ClusteringDelay n k d → output_delay n ≤ d
