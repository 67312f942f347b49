-- What labelling's own rows hold, and what they keep to.
use Rattle.std.specs.Prelude.{ℕ, suc, ◌+◌, ◌*◌, ◌≤◌, ◌<◌, ◌^◌, ◌≡◌, List, [], ◌∷◌, ltb, get_or, take}
use Rattle.model.specs.Basics.{◌∈◌}
use Rattle.model.specs.Ceilings.{most_delay}
use Rattle.model.specs.Onward.{reach, in_cone}
use Rattle.model.specs.Label.{pull, ordered}
use Rattle.model.specs.Network.{Network}

-- every number of the list is below k
abbrev pub Below : ℕ → List ℕ → Type 0
Below k xs = (x : ℕ) → x ∈ xs → x < k

-- [L3] no gate of the list pulls more than one before it
pub data Falls (pulls : ℕ → ℕ) : List ℕ → Type 0 where
  end : Falls pulls []
  first : {x : ℕ} {xs : List ℕ} → ((y : ℕ) → y ∈ xs → pulls y ≤ pulls x) → Falls pulls xs → Falls pulls (x ∷ xs)

-- the pull of a gate, as the row has it
abbrev pub pull_in : List ℕ → ℕ → ℕ
pull_in row u = get_or row u 0

-- The rows tell, of the gates below v, which of them lie in the cone of v and how much they pull.
pub record Pulled (n : Network) (labels : List ℕ) (v : ℕ) (onward pulls : List ℕ) : Type 0 where
  pub cone : (u : ℕ) → u < v → in_cone n u v ≡ ltb 0 (get_or onward u 0)
  pub pull_of : (u : ℕ) → u < v → pull n labels v u ≡ pull_in pulls u

-- The first `count` gates of the row are those of the cone of v, v excepted, by pull.
pub record Arranged (v : ℕ) (onward pulls row : List ℕ) (count : ℕ) : Type 0 where
  pub few : count ≤ v
  pub gates : Below v (take count row)
  pub order : (n : Network) (labels : List ℕ) → Pulled n labels v onward pulls → take count row ≡ ordered n labels v

-- The row tells the onward delays to v of the gates up to v, coded as the model's row. No entry comes near 64 bits.
pub record Reached (n : Network) (v : ℕ) (row : List ℕ) : Type 0 where
  pub entries : take (suc v) row ≡ take (suc v) (reach n v)
  pub small : (u : ℕ) → u < suc v → get_or row u 0 ≤ most_delay * suc v + 1

-- The cone of v, v excepted, in the two rows: how much each gate pulls, and the gates by pull.
pub record InOrder (n : Network) (labels : List ℕ) (v : ℕ) (pulls row : List ℕ) (count : ℕ) : Type 0 where
  pub pull_of : (u : ℕ) → u < v → pull n labels v u ≡ pull_in pulls u
  pub small : (u : ℕ) → u < v → pull_in pulls u < 2 ^ 33
  pub order : take count row ≡ ordered n labels v
