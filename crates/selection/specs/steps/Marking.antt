-- What selection finds in the rows, step by step.
use Rattle.std.specs.Prelude.{ℕ, List, map, eqb, get_or, replicate}
use Rattle.model.specs.Basics.{keep, gather, upto, largest}
use Rattle.model.specs.Ceilings.{most_gates}
use Rattle.model.specs.Drawing.{mark}
use Rattle.rows.specs.Row.{fanins_in}

-- the fan-ins of some gates, one gate after the other
unfoldable pub fanins_of : List ℕ → List ℕ → List ℕ
fanins_of row gates = gather (fanins_in row) gates

-- the gates below k without a mark, rising
unfoldable pub unmarked : List ℕ → ℕ → List ℕ
unmarked row k = keep (λ v. eqb (get_or row v 0) 0) (upto k)

-- the gates that no gate reads, rising
unfoldable pub unread : List ℕ → ℕ → List ℕ
unfolding unmarked fanins_of mark
unread row gates = unmarked (mark (replicate most_gates 0) (fanins_of row (upto gates))) gates

-- the largest label of some gates, 0 if there are none
unfoldable pub largest_label : List ℕ → List ℕ → ℕ
largest_label labels gates = largest (map (λ v. get_or labels v 0) gates)

-- the gates of a list without a mark among those inside
unfoldable pub outside : List ℕ → List ℕ → List ℕ
outside inside gates = keep (λ x. eqb (get_or inside x 0) 0) gates
