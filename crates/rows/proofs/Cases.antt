-- Network A read with a row lent. 9 comes before 10.
use Prim.Native.Nat.{ℕ}
use mathlib.Core.Path.{◌≡◌, refl}
use mathlib.Core.List.{List, [], ◌∷◌, map}
use lib.ListN.{replicate}
use Rattle.frames.specs.Refusal.{at_line, no_room}
use Rattle.texts.specs.Reading.{refused, network}
use Rattle.texts.proofs.Cases.{A, a_gates, under}
use Rattle.rows.specs.Read.{answer, filled}

-- a row of so many places
lent : ℕ → List ℕ
lent k = replicate k 7

room_holds :
    map (λ k. answer (A "00000003") (lent k)) (56 ∷ 55 ∷ 54 ∷ 0 ∷ [])
    ≡ (network (under 3 a_gates) ∷ network (under 3 a_gates) ∷ refused no_room ∷ refused no_room ∷ [])
unfolding lent A a_gates under answer
room_holds = refl

heavy_before_room : answer (A "00000000") (lent 0) ≡ refused (at_line 9 2)
unfolding lent A answer
heavy_before_room = refl

-- what A leaves in a row of one place too many: a block a gate, and the last place as it was
a_filled : filled (network (under 3 a_gates)) (lent 56)
    ≡ 1 ∷ 1 ∷ 0 ∷ 0 ∷ 0 ∷ 0 ∷ 0 ∷ 0 ∷ 0 ∷ 0 ∷ 0
    ∷ 1 ∷ 2 ∷ 0 ∷ 0 ∷ 0 ∷ 0 ∷ 0 ∷ 0 ∷ 0 ∷ 0 ∷ 0
    ∷ 1 ∷ 3 ∷ 2 ∷ 0 ∷ 1 ∷ 0 ∷ 0 ∷ 0 ∷ 0 ∷ 0 ∷ 0
    ∷ 1 ∷ 1 ∷ 1 ∷ 1 ∷ 0 ∷ 0 ∷ 0 ∷ 0 ∷ 0 ∷ 0 ∷ 0
    ∷ 1 ∷ 2 ∷ 2 ∷ 2 ∷ 3 ∷ 0 ∷ 0 ∷ 0 ∷ 0 ∷ 0 ∷ 0
    ∷ 7 ∷ []
unfolding lent a_gates under filled
a_filled = refl
