-- Room for the gates in two lent rows, or too little.
use Prim.Native.Nat.{ℕ, ◌≤◌, ◌<◌}
use mathlib.Core.Path.{◌≡◌}
use mathlib.Core.Logic.{◌⊎◌, ⊎_elim}
use mathlib.Core.Bool.{true, false, or-true}
use mathlib.Core.List.{List}
use borrow.Author.Tests.{lt-ltb, le-ltb}
use lib.Dec.{ltb}
use lib.ListN.{length}
use Rattle.labelling.specs.Promises.{either_short}

pub short : (gates : ℕ) (labels row : List ℕ) → (length labels < gates) ⊎ (length row < gates) → either_short gates labels row ≡ true
short gates labels row h =
    ⊎_elim (λ (l : length labels < gates). rw (lt-ltb (length labels) gates l))
    (λ (l : length row < gates). rw (lt-ltb (length row) gates l) (or-true (ltb (length labels) gates)))
    h

pub room : (gates : ℕ) (labels row : List ℕ) → gates ≤ length labels → gates ≤ length row → either_short gates labels row ≡ false
room gates labels row h l = rw (le-ltb (length labels) gates h, le-ltb (length row) gates l)
