-- The members of a cluster, from a row of marks.
use Rattle.std.specs.Prelude.{ℕ, Bool, List, ltb, get_or}
use Rattle.model.specs.Basics.{upto, keep}

-- does the gate have a mark
abbrev pub marked : List ℕ → ℕ → Bool
marked inside x = ltb 0 (get_or inside x 0)

-- the gates below k that have a mark, rising
unfoldable pub marked_below : List ℕ → ℕ → List ℕ
marked_below inside k = keep (marked inside) (upto k)
