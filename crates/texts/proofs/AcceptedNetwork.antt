-- What an accepted network is: within its ceilings, its fan-ins rising and below their gate, and no gate heavier than M.
use Prim.Native.Nat.{ℕ, zero, suc, ◌+◌, ◌≤◌, ◌<◌, pred}
use mathlib.Core.Path.{◌≡◌, refl}
use mathlib.Core.Logic.{⊎_elim}
use mathlib.Core.Bool.{true, ◌&&◌}
use mathlib.Core.List.Memᴰ
use mathlib.Core.List.{List, [], ◌∷◌}
use mathlib.Core.Option.{none}
use native.Mathlib.Decide.{dec_lt}
use native.Mathlib.Omega.{arith}
use borrow.Author.Tests.{leb-true, ltb-true, ltb-false}
use lib.ListN.{length, get_or, get_or-eq_default}
use lib.Dec.{leb, ltb}
use Rattle.model.specs.Basics.{◌∈◌}
use Rattle.model.specs.Ceilings.{most_gates, most_fanins, most_weight, most_delay, most_hop, most_capacity}
use Rattle.model.specs.Network.{Gate, Network, size, weight, delay, fanins, position, WellFormed, WithinCeilings, Heavy}
use Rattle.model.proofs.Networks.{reader_known}
use Rattle.frames.specs.Table.{rising_from}
use Rattle.texts.specs.Reading.{network, first_heavy, reading}
use Rattle.frames.proofs.Tests.{both_true, passed}
use Rattle.texts.proofs.Faultless.{Fit}
use Rattle.texts.proofs.Accepted.{AllFit, accepted_text}

-- fan-ins that rise

first_rising : (least bound x : ℕ) (xs : List ℕ) → rising_from least bound (x ∷ xs) ≡ true
    → (least ≤ x) × (x < bound) × (rising_from (suc x) bound xs ≡ true)
unfolding rising_from
first_rising least bound x xs e =
    let a = both_true (leb least x && ltb x bound) (rising_from (suc x) bound xs) e in
    let b = both_true (leb least x) (ltb x bound) a.0 in
    (leb-true least x b.0, ltb-true x bound b.1, a.1)

pub rising_below : (least bound : ℕ) (xs : List ℕ) → rising_from least bound xs ≡ true → (x : ℕ) → x ∈ xs → x < bound
rising_below least bound [] e x m = absurd (Memᴰ.not-nil m)
rising_below least bound (y ∷ ys) e x m =
    let f = first_rising least bound y ys e in
    ⊎_elim (λ (d : x ≡ y). omega arith) (λ (m' : x ∈ ys). rising_below (suc y) bound ys f.2 x m') (Memᴰ.cases_cons m)

pub rising_steps : (least bound : ℕ) (xs : List ℕ) → rising_from least bound xs ≡ true
    → (i : ℕ) → suc i < length xs → get_or xs i 0 < get_or xs (suc i) 0
rising_steps least bound [] e i h = absurd (omega arith)
rising_steps least bound (x ∷ []) e i h = absurd (omega arith)
rising_steps least bound (x ∷ y ∷ ys) e zero h =
    (first_rising (suc x) bound y ys (first_rising least bound x (y ∷ ys) e).2).0
rising_steps least bound (x ∷ y ∷ ys) e (suc i) h =
    rising_steps (suc x) bound (y ∷ ys) (first_rising least bound x (y ∷ ys) e).2 i (omega arith)

-- gates that fit, and are light

pub fit_at : (v : ℕ) (gs : List Gate) → AllFit v gs → (i : ℕ) (d : Gate) → i < length gs → Fit (v + i) (get_or gs i d)
fit_at v [] f i d h = absurd (omega arith)
fit_at v (g ∷ gs) f zero d h = let c : v + zero ≡ v = omega arith in rw c f.0
fit_at v (g ∷ gs) f (suc i) d h = let c : v + suc i ≡ suc v + i = omega arith in rw c (fit_at (suc v) gs f.1 i d (omega arith))

pub light_at : (capacity at : ℕ) (gs : List Gate) → first_heavy capacity at gs ≡ none
    → (i : ℕ) (d : Gate) → i < length gs → (get_or gs i d).weight ≤ capacity
unfolding first_heavy
light_at capacity at [] e i d h = absurd (omega arith)
light_at capacity at (g ∷ gs) e zero d h = ltb-false capacity g.weight (passed (ltb capacity g.weight) at _ e).0
light_at capacity at (g ∷ gs) e (suc i) d h =
    light_at capacity (suc at) gs (passed (ltb capacity g.weight) at _ e).1 i d (omega arith)

-- Of an accepted network nothing is above its ceiling, fan-ins rise and stand before their gate, and no gate is heavier than M.
pub record AcceptedNetwork (n : Network) : Type 0 where
  pub some_gate : 0 < size n
  pub gates : size n ≤ most_gates
  pub fan_ins : (v : ℕ) → length (fanins n v) ≤ most_fanins
  pub rising : (v i : ℕ) → suc i < length (fanins n v) → get_or (fanins n v) i 0 < get_or (fanins n v) (suc i) 0
  pub below : (v x : ℕ) → x ∈ fanins n v → x < v
  pub known : (v x : ℕ) → x ∈ fanins n v → x < size n
  pub weights : (v : ℕ) → weight n v ≤ most_weight
  pub delays : (v : ℕ) → delay n v ≤ most_delay
  pub hop : n.hop ≤ most_hop
  pub capacity : n.capacity ≤ most_capacity
  pub light : (v : ℕ) → weight n v ≤ n.capacity

-- the gate past the last, which has nothing
abbrev no_gate : Gate
no_gate = record { weight = 0; delay = 0; fanins = [] }

-- what holds of the gates and of none holds of every number
everywhere : (P : ℕ → Gate → Type 0) (gs : List Gate) → ((v : ℕ) → P v no_gate) → ((v : ℕ) → v < length gs → P v (get_or gs v no_gate))
    → (v : ℕ) → P v (get_or gs v no_gate)
everywhere P gs z f v =
    elim (dec_lt v (length gs)) [
      | yes h ↦ f v h
      | no h ↦ rw (get_or-eq_default gs no_gate {n = v} (omega arith)) (z v)
    ]

-- gates that all fit, heavy or not
module _ (n : Network) (some_gate : 0 < size n) (fit : AllFit 0 n.gates) where
  fits : (v : ℕ) → v < length n.gates → Fit v (get_or n.gates v no_gate)
  fits v h =
      let c : 0 + v ≡ v = omega arith in
      rw c at (fit_at 0 n.gates fit v no_gate h)

  in_order : (v : ℕ) → rising_from 0 v (fanins n v) ≡ true
  unfolding fanins rising_from
  in_order =
      everywhere (λ v g. rising_from 0 v g.fanins ≡ true) n.gates (λ v. refl) (λ v h. (fits v h).rising)

  fan_in_below : (v x : ℕ) → x ∈ fanins n v → x < v
  fan_in_below v = rising_below 0 v (fanins n v) (in_order v)

  pub fit_well_formed : WellFormed n
  unfolding position
  fit_well_formed =
      record {
        some_gate = some_gate;
        known = λ v x m. omega (arith, fan_in_below v x m, reader_known n v x m);
        below = fan_in_below;
      }

module _ (text : List ℕ) (n : Network) (e : reading text ≡ network n) where
  pub accepted_well_formed : WellFormed n
  accepted_well_formed = let t = accepted_text text n e in fit_well_formed n t.some_gate t.fit

  pub accepted_network : AcceptedNetwork n
  unfolding size fanins weight delay
  accepted_network =
      let t = accepted_text text n e in
      let each = fits n t.some_gate t.fit in
      let wf = accepted_well_formed in
      record {
        some_gate = t.some_gate;
        gates = let s = t.some_gate in omega (arith, (each (pred (length n.gates)) (omega arith)).number);
        fan_ins = everywhere (λ v g. length g.fanins ≤ most_fanins) n.gates (λ v. omega arith) (λ v h. (each v h).few);
        rising = λ v. rising_steps 0 v (fanins n v) (in_order n t.some_gate t.fit v);
        below = fan_in_below n t.some_gate t.fit;
        known = wf.known;
        weights = everywhere (λ v g. g.weight ≤ most_weight) n.gates (λ v. omega arith) (λ v h. (each v h).weight);
        delays = everywhere (λ v g. g.delay ≤ most_delay) n.gates (λ v. omega arith) (λ v h. (each v h).delay);
        hop = t.hop;
        capacity = t.capacity;
        light =
            everywhere (λ v g. g.weight ≤ n.capacity) n.gates (λ v. omega arith)
            (λ v. light_at n.capacity 2 n.gates t.light v no_gate);
      }

  pub accepted_within_ceilings : WithinCeilings n
  accepted_within_ceilings =
      let a = accepted_network in
      record {
        gates = a.gates;
        fan_ins = a.fan_ins;
        weights = a.weights;
        delays = a.delays;
        hop = a.hop;
        capacity = a.capacity;
      }

  pub accepted_not_heavy : (v : ℕ) → Heavy n v → ⊥
  accepted_not_heavy v h = omega (arith, accepted_network.light v, h.above)
