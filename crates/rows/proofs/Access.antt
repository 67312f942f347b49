-- From what the code tests and where it reads and stores to the blocks of a row: whether the row has all places of a gate is
-- asked of the whole blocks that it has, so that no product can be too large.
use Prim.Native.Nat.{ℕ, zero, suc, ◌+◌, ◌*◌, ◌/◌, ◌-◌, ◌≤◌, ◌<◌, min}
use mathlib.Core.Path.{◌≡◌, refl, sym, ◌∙◌, ap}
use mathlib.Core.Bool.{true, false}
use mathlib.Core.List.{List, [], ◌∷◌}
use native.Mathlib.Decide.{ℕ_discrete, dec_lt}
use native.Mathlib.Nat.{zero-add, suc-add, add_assoc}
use native.Mathlib.Omega.{arith}
use borrow.Author.Tests.{lt-ltb, le-ltb, le-leb, lt-leb, eq-eqb, ne_eqb}
use borrow.Rule.Slice.PartMut.{put_mid}
use Rattle.std.proofs.lemmas.Slice.{put_mid-paste}
use lib.ListN.{length, get_or, set, take, drop, replicate, length-take}
use lib.Seq.{sets, sets-eq, take-nil, get_or-take, get_or-drop, take-take, drop-drop}
use lib.Dec.{ltb, eqb}
use Rattle.model.specs.Ceilings.{most_fanins}
use Rattle.model.specs.Network.{empty}
use Rattle.units.specs.declared.Cells.{Cells}
use Rattle.units.specs.declared.Ticks.{Ticks}
use Rattle.units.specs.declared.FanInCount.{FanInCount}
use Rattle.units.specs.Units.{weight_place, delay_place, count_place}
use Rattle.rows.specs.Row.{places, has_block, block, count_in, fanins_in, gate_put, fanin_put}
use Rattle.rows.proofs.Blocks.{block_there, length_fanins}

-- the whole blocks of a row
abbrev pub whole : List ℕ → ℕ
whole row = length row / places

-- a row of l places has fewer than eleven a gate
pub eleventh : (l gates : ℕ) → ltb (l / places) gates ≡ ltb l (places * gates)
eleventh l gates =
    elim (dec_lt l (places * gates)) [
      | yes h ↦ lt-ltb (l / places) gates (omega arith) ∙ sym (lt-ltb l (places * gates) h)
      | no h ↦ le-ltb (l / places) gates (omega arith) ∙ sym (le-ltb l (places * gates) (omega arith))
    ]

-- what is empty has no length
pub empty_length : (xs : List ℕ) → eqb (length xs) 0 ≡ empty xs
unfolding empty
empty_length [] = refl
empty_length (x ∷ xs) = ne_eqb (length (x ∷ xs)) 0 (λ e. omega arith)

-- of a number, held at eight or not, it is the same to be 0
same_test : (k n : ℕ) → n ≡ min k most_fanins → eqb k 0 ≡ eqb n 0
same_test k n e =
    elim (ℕ_discrete k 0) [
      | yes z ↦ eq-eqb k 0 z ∙ sym (eq-eqb n 0 (omega arith))
      | no d ↦ ne_eqb k 0 d ∙ sym (ne_eqb n 0 (omega arith))
    ]

-- a part of a part, further on, is a part
part_of : (m n k : ℕ) (l : List ℕ) → m ≤ k → take m (drop n (take (n + k) l)) ≡ take m (drop n l)
part_of m zero k l h = rw (zero-add k, take-take m k l h)
part_of m (suc n) k [] h = rw (suc-add n k)
part_of m (suc n) k (x ∷ l) h = rw (suc-add n k) (part_of m n k l h)

-- The row with 0 in the places of the fan-ins from the i-th on, of a block that starts at `from`: what is left to store.
abbrev pub zeroed : ℕ → List ℕ → ℕ → List ℕ
zeroed from row i = sets row (from + 3 + i) (replicate (most_fanins - i) 0)

-- the part of a block behind its count overwritten with 0
pub zeroed_part : (from k : ℕ) (row zeros : List ℕ) → k ≡ most_fanins → from + places ≤ length row → zeros ≡ replicate k 0
    → put_mid (from + 3) k row zeros ≡ zeroed from row 0
zeroed_part from k row zeros few long is =
    let there : from + 3 ≡ from + 3 + 0 = omega arith in
    put_mid-paste (from + 3) k row zeros (replicate most_fanins 0) most_fanins (is ∙ ap (λ (n : ℕ). replicate {A = ℕ} n 0) few) (sym few) refl
    ∙ sym (sets-eq (replicate most_fanins 0) row (from + 3) (omega arith))
    ∙ ap (λ (i : ℕ). sets row i (replicate most_fanins 0)) there

module _ (row : List ℕ) (v : ℕ) where
  -- a row without the block

  module _ (h : whole row ≤ v) where
    pub blockless : has_block row v ≡ false
    unfolding has_block
    blockless = lt-leb (places * suc v) (length row) (omega arith)

    no_block : block row v ≡ []
    unfolding block
    no_block = rw blockless

    pub place_none : (k : ℕ) → 0 ≡ get_or (block row v) k 0
    place_none k = rw no_block

    pub fanins_none : [] ≡ fanins_in row v
    unfolding fanins_in
    fanins_none = rw no_block (sym (take-nil (min 0 most_fanins)))

  -- a row with the block

  module _ (h : v < whole row) where
    pub blocked : has_block row v ≡ true
    unfolding has_block
    blocked = le-leb (places * suc v) (length row) (omega arith)

    block_part : block row v ≡ take places (drop (places * v) row)
    block_part = block_there row v (omega arith)

    pub place_at : (k : ℕ) → k < places → get_or row (places * v + k) 0 ≡ get_or (block row v) k 0
    place_at k small = rw (block_part, get_or-take places (drop (places * v) row) k 0 small, get_or-drop)

    pub fanins_at : (many : ℕ) → many ≡ min (count_in row v) most_fanins → take many (drop (places * v + 3) row) ≡ fanins_in row v
    unfolding fanins_in
    fanins_at many e = rw (← e, block_part, part_of many 3 most_fanins (drop (places * v) row) (omega arith), drop-drop)

  -- a gate has no fan-ins where its count is 0, and where there is no block
  pub input_counted : eqb (count_in row v) 0 ≡ empty (fanins_in row v)
  input_counted =
      elim (dec_lt v (whole row)) [
        | yes h ↦
            same_test (count_in row v) (length (fanins_in row v)) (length_fanins row v (omega arith)) ∙ empty_length (fanins_in row v)
        | no h ↦
            let none : whole row ≤ v = omega arith in
            rw (← fanins_none none) (unfold count_in empty in rw (← place_none none 2))
      ]

  pub few_fanins : length (fanins_in row v) ≤ most_fanins
  unfolding fanins_in
  few_fanins = simp length-take (omega arith)

  -- stores

  module _ (i x : ℕ) where
    pub fanin_blockless : whole row ≤ v → row ≡ fanin_put v i x row
    unfolding fanin_put
    fanin_blockless h = rw (blockless h)

    pub fanin_placeless : v < whole row → most_fanins ≤ i → row ≡ fanin_put v i x row
    unfolding fanin_put
    fanin_placeless h g = rw (blocked h, le-ltb i most_fanins g)

    pub fanin_stored : v < whole row → i < most_fanins → set row (places * v + 3 + i) x ≡ fanin_put v i x row
    unfolding fanin_put
    fanin_stored h g = rw (blocked h, lt-ltb i most_fanins g, add_assoc (places * v) 3 i)

  module _ (weight : Cells) (delay : Ticks) (count : FanInCount) where
    pub gate_blockless : whole row ≤ v → row ≡ gate_put v weight delay count row
    unfolding gate_put
    gate_blockless h = rw (blockless h)

    pub gate_stored : {w d k : ℕ} → v < whole row → w ≡ weight_place weight → d ≡ delay_place delay → k ≡ count_place count
        → zeroed (places * v) (set (set (set row (places * v + 0) w) (places * v + 1) d) (places * v + 2) k) 0
        ≡ gate_put v weight delay count row
    unfolding gate_put
    gate_stored h ew ed ek =
        let at0 : places * v + 0 ≡ places * v = omega arith in
        let at1 : places * v + 1 ≡ suc (places * v) = omega arith in
        let at2 : places * v + 2 ≡ suc (suc (places * v)) = omega arith in
        let at3 : places * v + 3 + 0 ≡ suc (suc (suc (places * v))) = omega arith in
        rw (blocked h, at0, at1, at2, at3, ew, ed, ek)
