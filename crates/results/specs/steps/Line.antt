-- The steps of a line.
use Rattle.std.specs.Prelude.{ℕ, List, [], ◌∷◌, ◌++◌, map}
use Rattle.model.specs.Network.{Network, size}
use Rattle.model.specs.Drawing.{members}
use Rattle.frames.specs.Digits.{spell_line}
use Rattle.results.specs.Result.{cluster_bytes, result_end_bytes}

-- the lines behind the labels: a 13 for each root, and 1F
unfoldable pub later_lines : Network → List ℕ → List ℕ → List (List ℕ)
later_lines n labels rs =
    map (λ r. spell_line (cluster_bytes r (members n labels r))) rs ++ (spell_line (result_end_bytes (size n)) ∷ [])
