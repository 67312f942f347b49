-- Laws of the faults of specs/steps/RowCheck.antt, as the code walks them.
use Prim.Native.Nat.{ℕ, suc, ◌+◌, ◌-◌, ◌≤◌, ◌<◌}
use Rattle.std.specs.Prelude.{Result, Ok, Err, Option, Some, None}
use Rattle.std.specs.Option.{ok_or}
use Rattle.std.specs.Result.{result_ok}
use mathlib.Core.Path.{◌≡◌, refl, sym, ◌∙◌, ap}
use mathlib.Core.Bool.{true, false, ◌&&◌}
use mathlib.Core.List.{List}
use native.Mathlib.Numerals.{add-one}
use native.Mathlib.Omega.{arith}
use borrow.Author.Tests.{lt-ltb, le-ltb, le-leb, lt-leb, eq-eqb, ne_eqb}
use lib.ListN.{length, get_or, drop, drop_of_length-le}
use lib.Seq.{drop-cons}
use lib.Dec.{leb, ltb}
use Rattle.model.specs.Ceilings.{most_gates, most_fanins}
use Rattle.frames.specs.declared.Refusal.{Refusal}
use Rattle.frames.specs.Refusal.{at_line, at_no_line, no_room}
use Rattle.frames.specs.Table.{rising_from}
use Rattle.rows.specs.declared.Header.{Header}
use Rattle.rows.specs.Row.{too_short, weight_in, count_in, fanins_in}
use Rattle.rows.specs.steps.RowCheck.{
  first_of,
  gate_length,
  gates_length,
  too_long,
  gate_fault,
  first_fault,
  heavy_fault,
  first_heavy_fault,
  row_fault,
}
use Rattle.rows.proofs.Access.{few_fanins}

-- what was asked of a maker

-- With nothing made the refusal is handed on.
pub none_made : {T : Type 0} {o : Option T} {e f : Refusal} {r : Result T Refusal} → r ≡ ok_or o e → o ≡ result_ok r → r ≡ Err f
    → (o ≡ None) × (e ≡ f)
none_made {o = o} {e = e} {f = f} {r = r} p q is =
    let none : o ≡ None = q ∙ ap result_ok is in
    let same : Err e ≡ Err f = sym (rw none at p) ∙ is in (none, cc)

-- Otherwise something is made.
pub some_made : {T : Type 0} {o : Option T} {r : Result T Refusal} {x : T} → o ≡ result_ok r → r ≡ Ok x → o ≡ Some x
some_made q is = q ∙ ap result_ok is

-- gate by gate

-- What is found of the gates from v on: what is found at v, and then from the next one on. A loop that is at v has
-- the gates from v on before it.
module _ {A : Type 0} (from : ℕ → ℕ → A) (at : ℕ → A → A) (step : (v k : ℕ) → from v (suc k) ≡ at v (from (suc v) k)) where
  turn : (v gates : ℕ) → v < gates → from v (gates - v) ≡ at v (from (v + 1) (gates - (v + 1)))
  turn v gates h =
      let c : gates - v ≡ suc (gates - (v + 1)) = omega arith in
      rw (c, step v (gates - (v + 1)), add-one v)

-- Where a gate has no fault the gates after it decide; where it has one it decides.
module _ (from : ℕ → ℕ → Result (Unit {0}) Refusal) (here : ℕ → Result (Unit {0}) Refusal) (step : (v k : ℕ) → from v (suc k) ≡ first_of (here v) (from (suc v) k)) where
  passed_by : (v gates : ℕ) → v < gates → here v ≡ Ok (tt {0}) → from (v + 1) (gates - (v + 1)) ≡ from v (gates - v)
  unfolding first_of
  passed_by v gates h e = sym (rw e at (turn from (λ u f. first_of (here u) f) step v gates h))

  told_here : (v gates : ℕ) {r : Refusal} → v < gates → here v ≡ Err r → here v ≡ from v (gates - v)
  unfolding first_of
  told_here v gates h e = e ∙ sym (rw e at (turn from (λ u f. first_of (here u) f) step v gates h))

module _ (row : List ℕ) where
  pub faultless_here : (v gates : ℕ) → v < gates → gate_fault row v ≡ Ok (tt {0})
      → first_fault row (v + 1) (gates - (v + 1)) ≡ first_fault row v (gates - v)
  unfolding first_fault
  faultless_here = passed_by (first_fault row) (gate_fault row) (λ v k. refl)

  pub fault_here : (v gates : ℕ) {r : Refusal} → v < gates → gate_fault row v ≡ Err r
      → gate_fault row v ≡ first_fault row v (gates - v)
  unfolding first_fault
  fault_here = told_here (first_fault row) (gate_fault row) (λ v k. refl)

module _ (capacity : ℕ) (row : List ℕ) where
  heavy_at : ℕ → Result (Unit {0}) Refusal
  heavy_at v = heavy_fault v (weight_in row v) capacity

  pub light_here : (v gates : ℕ) → v < gates → heavy_fault v (weight_in row v) capacity ≡ Ok (tt {0})
      → first_heavy_fault capacity row (v + 1) (gates - (v + 1)) ≡ first_heavy_fault capacity row v (gates - v)
  unfolding first_heavy_fault heavy_at
  light_here = passed_by (first_heavy_fault capacity row) heavy_at (λ v k. refl)

  pub heavy_here : (v gates : ℕ) {r : Refusal} → v < gates → heavy_fault v (weight_in row v) capacity ≡ Err r
      → heavy_fault v (weight_in row v) capacity ≡ first_heavy_fault capacity row v (gates - v)
  unfolding first_heavy_fault heavy_at
  heavy_here = told_here (first_heavy_fault capacity row) heavy_at (λ v k. refl)

-- 1

module _ (row : List ℕ) where
  pub gate_length_most : (v : ℕ) → gate_length row v ≤ 45
  unfolding gate_length
  gate_length_most v = omega (arith, few_fanins row v)

  pub gates_length_turn : (v gates : ℕ) → v < gates
      → gates_length row v (gates - v) ≡ gate_length row v + gates_length row (v + 1) (gates - (v + 1))
  unfolding gates_length
  gates_length_turn = turn (gates_length row) (λ v n. gate_length row v + n) (λ v k. refl)

  pub gates_length_over : (v gates : ℕ) → gates ≤ v → gates_length row v (gates - v) ≡ 0
  unfolding gates_length
  gates_length_over v gates h = let c : gates - v ≡ 0 = omega arith in rw c

-- 6

module _ (xs : List ℕ) (i least gate : ℕ) where
  rising_turn : i < length xs
      → rising_from least gate (drop i xs)
      ≡ ((leb least (get_or xs i 0) && ltb (get_or xs i 0) gate) && rising_from (get_or xs i 0 + 1) gate (drop (i + 1) xs))
  unfolding rising_from
  rising_turn h = rw (add-one (get_or xs i 0), add-one i, drop-cons xs i 0 h)

  pub rising_on : i < length xs → (leb least (get_or xs i 0) && ltb (get_or xs i 0) gate) ≡ true
      → rising_from (get_or xs i 0 + 1) gate (drop (i + 1) xs) ≡ rising_from least gate (drop i xs)
  rising_on h e = sym (rw e at (rising_turn h))

  pub rising_broken : i < length xs → (leb least (get_or xs i 0) && ltb (get_or xs i 0) gate) ≡ false
      → rising_from least gate (drop i xs) ≡ false
  rising_broken h e = rw e at (rising_turn h)

  pub rising_over : length xs ≤ i → rising_from least gate (drop i xs) ≡ true
  unfolding rising_from
  rising_over h = rw (drop_of_length-le xs h)

-- 4, 5 and 6 of one gate

module _ (row : List ℕ) (v : ℕ) where
  pub fault_four : most_fanins < count_in row v → Err (at_line 4 (v + 2)) ≡ gate_fault row v
  unfolding gate_fault
  fault_four h = rw (lt-ltb most_fanins (count_in row v) h)

  module _ (h : count_in row v ≤ most_fanins) where
    pub fault_five : most_gates ≤ v → Err (at_line 5 (v + 2)) ≡ gate_fault row v
    unfolding gate_fault
    fault_five g = rw (le-ltb most_fanins (count_in row v) h, le-leb most_gates v g)

    pub fault_six : v < most_gates → rising_from 0 v (fanins_in row v) ≡ false → Err (at_line 6 (v + 2)) ≡ gate_fault row v
    unfolding gate_fault
    fault_six g e = rw (le-ltb most_fanins (count_in row v) h, lt-leb most_gates v g, e)

    pub no_fault : v < most_gates → rising_from 0 v (fanins_in row v) ≡ true → Ok (tt {0}) ≡ gate_fault row v
    unfolding gate_fault
    no_fault g e = rw (le-ltb most_fanins (count_in row v) h, lt-leb most_gates v g, e)

-- all of them: 10, 1, those of the gates, 8, 9

module _ (h : Header) (row : List ℕ) where
  pub ten_decides : too_short h.gates row ≡ true → Err no_room ≡ row_fault h row
  unfolding row_fault
  ten_decides s = rw s

  module _ (s : too_short h.gates row ≡ false) where
    pub one_decides : too_long h.gates row ≡ true → Err (at_no_line 1) ≡ row_fault h row
    unfolding row_fault
    one_decides l = rw (s, l)

    module _ (l : too_long h.gates row ≡ false) where
      pub gate_decides : {r : Refusal} → first_fault row 0 h.gates ≡ Err r → first_fault row 0 h.gates ≡ row_fault h row
      unfolding row_fault
      gate_decides f = rw (s, l, f)

      pub eight_decides : first_fault row 0 h.gates ≡ Ok (tt {0}) → h.gates ≡ 0 → Err (at_line 8 2) ≡ row_fault h row
      unfolding row_fault
      eight_decides f z = rw (s, l, f, eq-eqb h.gates 0 z)

      pub nine_decides : first_fault row 0 h.gates ≡ Ok (tt {0}) → (h.gates ≡ 0 → ⊥)
          → first_heavy_fault h.capacity.0 row 0 h.gates ≡ row_fault h row
      unfolding row_fault
      nine_decides f z = rw (s, l, f, ne_eqb h.gates 0 z)
