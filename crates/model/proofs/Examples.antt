-- The worked rows P1 to P9 that speak of a network, as one table: antt computes every row.
use Prim.Native.Nat.{ℕ}
use mathlib.Core.Path.{◌≡◌, refl}
use mathlib.Core.List.{List, [], ◌∷◌, map}
use Rattle.model.specs.Network.{Gate, Network}
use Rattle.model.specs.Label.{labels, label, ordered, pull}
use Rattle.model.specs.Drawing.{drawn, members, output_delay}

unfoldable pub gate_with : ℕ → ℕ → List ℕ → Gate
gate_with w d fs = record { weight = w; delay = d; fanins = fs }

-- network A with its capacity and hop delay left open
unfoldable pub A : ℕ → ℕ → Network
unfolding gate_with
A capacity hop =
    record {
      capacity = capacity;
      hop = hop;
      gates =
          gate_with 1 1 []
          ∷ gate_with 1 2 []
          ∷ gate_with 1 3 (0 ∷ 1 ∷ [])
          ∷ gate_with 1 1 (1 ∷ [])
          ∷ gate_with 1 2 (2 ∷ 3 ∷ [])
          ∷ [];
    }

-- [P8] a gate alone, and 0 for whatever a number stands for
unfoldable pub lone : Network
unfolding gate_with
lone = record { capacity = 0; hop = 0; gates = gate_with 0 0 [] ∷ [] }

-- [P9] each gate reads the one before it
unfoldable pub chain : Network
unfolding gate_with
chain =
    record { capacity = 2; hop = 1; gates = gate_with 1 0 [] ∷ gate_with 1 0 (0 ∷ []) ∷ gate_with 1 0 (1 ∷ []) ∷ [] }

-- what a network answers: the output delay, the labels, the drawn roots and the members of each
pub record Outcome : Type 0 where
  pub delay : ℕ
  pub each_label : List ℕ
  pub roots : List ℕ
  pub inside : List (List ℕ)

unfoldable pub outcome : Network → Outcome
unfolding output_delay labels drawn members
outcome n =
    record {
      delay = output_delay n;
      each_label = labels n;
      roots = drawn n (labels n);
      inside = map (members n (labels n)) (drawn n (labels n));
    }

pub record Row : Type 0 where
  pub network : Network
  pub answers : Outcome

unfoldable pub row : Network → ℕ → List ℕ → List ℕ → List (List ℕ) → Row
row n d ls rs ms = record { network = n; answers = record { delay = d; each_label = ls; roots = rs; inside = ms } }

unfoldable pub alone : List (List ℕ)
alone = (0 ∷ []) ∷ (1 ∷ []) ∷ (2 ∷ []) ∷ (3 ∷ []) ∷ (4 ∷ []) ∷ []

-- P1 to P6, P8, P9
unfoldable pub rows : List Row
unfolding row alone A lone chain
rows =
    row (A 3 4) 10 (1 ∷ 2 ∷ 5 ∷ 3 ∷ 10 ∷ []) (0 ∷ 3 ∷ 4 ∷ []) ((0 ∷ []) ∷ (1 ∷ 3 ∷ []) ∷ (1 ∷ 2 ∷ 4 ∷ []) ∷ [])
    ∷ row (A 1 4) 15 (1 ∷ 2 ∷ 9 ∷ 7 ∷ 15 ∷ []) (0 ∷ 1 ∷ 2 ∷ 3 ∷ 4 ∷ []) alone
    ∷ row (A 2 4) 11 (1 ∷ 2 ∷ 8 ∷ 3 ∷ 11 ∷ []) (0 ∷ 1 ∷ 3 ∷ 4 ∷ []) ((0 ∷ []) ∷ (1 ∷ []) ∷ (1 ∷ 3 ∷ []) ∷ (2 ∷ 4 ∷ []) ∷ [])
    ∷ row (A 4 4) 9 (1 ∷ 2 ∷ 5 ∷ 3 ∷ 9 ∷ []) (3 ∷ 4 ∷ []) ((1 ∷ 3 ∷ []) ∷ (0 ∷ 1 ∷ 2 ∷ 4 ∷ []) ∷ [])
    ∷ row (A 5 4) 7 (1 ∷ 2 ∷ 5 ∷ 3 ∷ 7 ∷ []) (4 ∷ []) ((0 ∷ 1 ∷ 2 ∷ 3 ∷ 4 ∷ []) ∷ [])
    ∷ row (A 1 0) 7 (1 ∷ 2 ∷ 5 ∷ 3 ∷ 7 ∷ []) (0 ∷ 1 ∷ 2 ∷ 3 ∷ 4 ∷ []) alone
    ∷ row lone 0 (0 ∷ []) (0 ∷ []) ((0 ∷ []) ∷ [])
    ∷ row chain 1 (0 ∷ 0 ∷ 1 ∷ []) (0 ∷ 2 ∷ []) ((0 ∷ []) ∷ (1 ∷ 2 ∷ []) ∷ [])
    ∷ []

-- [P1] Gate 4 at M 3: gates 2 and 1 pull 7 and join, gate 0 pulls 6 and does not fit, gate 3 pulls 5. The label is 6 and D, 10.
pub record GateFour (n : Network) : Type 0 where
  pub order : ordered n (labels n) 4 ≡ 2 ∷ 1 ∷ 0 ∷ 3 ∷ []
  pub pulls : map (pull n (labels n) 4) (ordered n (labels n) 4) ≡ 7 ∷ 7 ∷ 6 ∷ 5 ∷ []
  pub tells : label n 4 ≡ 10

-- every row of the table answers what it says
pub table : (map (λ r. outcome r.network) rows ≡ map (λ r. r.answers) rows) × GateFour (A 3 4)
unfolding outcome rows A ordered labels pull label
table = (refl, record { order = refl; pulls = refl; tells = refl })
