-- Laws of specs/Row.antt: a network filled into a row stands in it, and what stands in a row, filled into it again, changes only
-- fan-in places that no gate uses.
use Prim.Native.Nat.{ℕ, zero, suc, ◌+◌, ◌*◌, ◌-◌, ◌≤◌, ◌<◌, min}
use mathlib.Core.Path.{◌≡◌, refl, sym, ◌∙◌, ap}
use mathlib.Core.Logic.{⊎_elim}
use mathlib.Core.Bool.{true, false}
use mathlib.Core.List.{List, [], ◌∷◌, ◌++◌, map, map-id, append_assoc}
use native.Mathlib.Omega.{arith}
use borrow.Author.Tests.{le-leb, ltb-false}
use lib.ListN.{length, get_or, take, drop, replicate, length-append, length-take, length-drop, length-replicate, length-map, get_or-map, take-append-drop}
use lib.Seq.{take_at, drop_at, take-add, drop-append-add, drop-drop, get_or-drop, ext_get_or}
use Rattle.model.specs.Basics.{upto, gather}
use Rattle.model.specs.Ceilings.{most_fanins}
use Rattle.model.specs.Network.{Gate}
use Rattle.model.proofs.Lists.{true_or_false}
use Rattle.frames.proofs.Digits.{Below}
use Rattle.frames.proofs.Made.{length_made, get_or_made}
use Rattle.rows.specs.declared.Header.{Header}
use Rattle.rows.specs.Row.{places, too_short, has_block, block, weight_in, delay_in, count_in, fanins_in, gate_in, network_in, block_of, blocks, fill}

-- v, v + 1, .. and so on, k of them
unfoldable pub count_up : ℕ → ℕ → List ℕ
count_up v zero = []
count_up v (suc k) = v ∷ count_up (suc v) k

count_up_last : (v k : ℕ) → count_up v (suc k) ≡ count_up v k ++ ((v + k) ∷ [])
unfolding count_up
count_up_last v zero = let c : v + zero ≡ v = omega arith in rw c
count_up_last v (suc k) =
    let c : v + suc k ≡ suc v + k = omega arith in rw c (ap (λ (l : List ℕ). v ∷ l) (count_up_last (suc v) k))

pub upto_counts_up : (k : ℕ) → upto k ≡ count_up 0 k
unfolding upto
upto_counts_up zero = unfold count_up in refl
upto_counts_up (suc k) =
    let c : 0 + k ≡ k = omega arith in
    rw (upto_counts_up k) (sym (rw c at (count_up_last 0 k)))

-- what is made by number of a list's elements is made of the list
made_of : {A B : Type 0} (f : ℕ → B) (g : A → B) (xs : List A) (d : A) → ((v : ℕ) → v < length xs → f v ≡ g (get_or xs v d))
    → map f (upto (length xs)) ≡ map g xs
made_of f g xs d same =
    let l = length_made f (length xs) in
    ext_get_or (g d) (map f (upto (length xs))) (map g xs) (l ∙ sym (length-map xs g))
    (λ v h. get_or_made f (g d) (length xs) v (omega arith) ∙ same v (omega arith) ∙ sym (get_or-map g xs v d))

-- the block of a gate

-- a row that is not too short
pub long_enough : (gates : ℕ) (row : List ℕ) → too_short gates row ≡ false → places * gates ≤ length row
unfolding too_short
long_enough gates row e = ltb-false (length row) (places * gates) e

module _ (row : List ℕ) (v : ℕ) where
  pub block_there : places * suc v ≤ length row → block row v ≡ take places (drop (places * v) row)
  unfolding block has_block
  block_there h = rw (le-leb (places * suc v) (length row) h)

  pub length_block : places * suc v ≤ length row → length (block row v) ≡ places
  length_block h = rw (block_there h) (simp (length-take, length-drop) (omega arith))

  -- as many fan-ins as are counted, but no more than eight
  pub length_fanins : places * suc v ≤ length row → length (fanins_in row v) ≡ min (count_in row v) most_fanins
  unfolding fanins_in
  length_fanins h = simp (length-take, length-drop) (omega (arith, length_block h))

-- numbers that fit

below_take : (k n : ℕ) (xs : List ℕ) → 0 < k → Below k xs → Below k (take n xs)
below_take k zero xs h b i = h
below_take k (suc n) [] h b i = h
below_take k (suc n) (x ∷ xs) h b zero = b 0
below_take k (suc n) (x ∷ xs) h b (suc i) = below_take k n xs h (λ j. b (suc j)) i

module _ (row : List ℕ) (fit : Below 65_536 row) (v : ℕ) where
  block_below : Below 65_536 (block row v)
  unfolding block
  block_below =
      ⊎_elim
      (λ (t : has_block row v ≡ true).
      rw t (below_take 65_536 places (drop (places * v) row) (omega arith) (λ i. rw get_or-drop (fit (places * v + i)))))
      (λ (t : has_block row v ≡ false). rw t (λ i. omega arith))
      (true_or_false (has_block row v))

  pub weight_below : weight_in row v < 65_536
  unfolding weight_in
  weight_below = block_below 0

  pub delay_below : delay_in row v < 65_536
  unfolding delay_in
  delay_below = block_below 1

  pub count_below : count_in row v < 65_536
  unfolding count_in
  count_below = block_below 2

  pub fanins_fit : Below 65_536 (fanins_in row v)
  unfolding fanins_in
  fanins_fit =
      below_take 65_536 (min (count_in row v) most_fanins) (drop 3 (block row v)) (omega arith)
      (λ i. rw get_or-drop (block_below (3 + i)))

-- a filled row

-- at most eight fan-ins each
abbrev pub AllFew : List Gate → Type 0
AllFew [] = Unit {0}
AllFew (g ∷ gs) = (length g.fanins ≤ most_fanins) × AllFew gs

few_at : (gs : List Gate) → AllFew gs → (v : ℕ) (d : Gate) → v < length gs → length (get_or gs v d).fanins ≤ most_fanins
few_at [] f v d h = absurd (omega arith)
few_at (g ∷ gs) f zero d h = f.0
few_at (g ∷ gs) f (suc v) d h = few_at gs f.1 v d (omega arith)

length_block_of : (g : Gate) → length g.fanins ≤ most_fanins → length (block_of g) ≡ places
unfolding block_of
length_block_of g h = simp (length-append, length-replicate) (omega arith)

pub length_blocks : (gs : List Gate) → AllFew gs → length (blocks gs) ≡ places * length gs
unfolding blocks
length_blocks [] f = refl
length_blocks (g ∷ gs) f =
    length-append (block_of g) (blocks gs) ∙ omega (arith, length_block_of g f.0, length_blocks gs f.1)

-- the block of a gate among those of all
block_among : (gs : List Gate) (rest : List ℕ) → AllFew gs → (v : ℕ) (d : Gate) → v < length gs
    → take places (drop (places * v) (blocks gs ++ rest)) ≡ block_of (get_or gs v d)
unfolding blocks
block_among [] rest f v d h = absurd (omega arith)
block_among (g ∷ gs) rest f zero d h =
    ap (take places) (append_assoc (block_of g) (blocks gs) rest)
    ∙ take_at (block_of g) (blocks gs ++ rest) places (length_block_of g f.0)
block_among (g ∷ gs) rest f (suc v) d h =
    let l = length_block_of g f.0 in
    let c : places * suc v ≡ length (block_of g) + places * v = omega arith in
    ap (take places)
    (ap (drop (places * suc v)) (append_assoc (block_of g) (blocks gs) rest)
    ∙ ap (λ (i : ℕ). drop i (block_of g ++ (blocks gs ++ rest))) c
    ∙ drop-append-add (block_of g) (blocks gs ++ rest) (places * v))
    ∙ block_among gs rest f.1 v d (omega arith)

-- what the block of a gate says is the gate
module _ (g : Gate) (few : length g.fanins ≤ most_fanins) (row : List ℕ) (v : ℕ) (there : block row v ≡ block_of g) where
  block_counts : count_in row v ≡ length g.fanins
  unfolding count_in
  block_counts = rw there (unfold block_of in refl)

  block_gate : gate_in row v ≡ g
  unfolding gate_in weight_in delay_in fanins_in
  block_gate =
      let m : min (length g.fanins) most_fanins ≡ length g.fanins = omega arith in
      rw (block_counts, there, m)
      (unfold block_of in rw (take_at g.fanins (replicate (most_fanins - length g.fanins) 0) (length g.fanins) refl))

module _ (gs : List Gate) (row : List ℕ) (few : AllFew gs) (long : places * length gs ≤ length row) where
  -- Filling keeps the row's length.
  pub length_fill : length (fill gs row) ≡ length row
  unfolding fill
  length_fill = simp (length-append, length-drop) (omega (arith, length_blocks gs few))

  -- The blocks of the gates stand in front,
  pub block_filled : (v : ℕ) (d : Gate) → v < length gs → block (fill gs row) v ≡ block_of (get_or gs v d)
  block_filled v d h =
      let l = length_fill in
      block_there (fill gs row) v (omega arith)
      ∙ (unfold fill in block_among gs (drop (places * length gs) row) few v d h)

  -- and the rest is as it was.
  pub rest_filled : drop (places * length gs) (fill gs row) ≡ drop (places * length gs) row
  unfolding fill
  rest_filled = drop_at (blocks gs) (drop (places * length gs) row) (places * length gs) (length_blocks gs few)

  pub gate_filled : (v : ℕ) (d : Gate) → v < length gs → gate_in (fill gs row) v ≡ get_or gs v d
  gate_filled v d h = block_gate (get_or gs v d) (few_at gs few v d h) (fill gs row) v (block_filled v d h)

  pub count_filled : (v : ℕ) (d : Gate) → v < length gs → count_in (fill gs row) v ≡ length (get_or gs v d).fanins
  count_filled v d h = block_counts (get_or gs v d) (few_at gs few v d h) (fill gs row) v (block_filled v d h)

  -- Whatever is made of a gate and its count, made of the filled row it is made of the gates.
  pub filled_gates : {A : Type 0} (f : Gate → ℕ → A)
      → map (λ v. f (gate_in (fill gs row) v) (count_in (fill gs row) v)) (upto (length gs)) ≡ map (λ g. f g (length g.fanins)) gs
  filled_gates f =
      let d : Gate = record { weight = 0; delay = 0; fanins = [] } in
      made_of (λ v. f (gate_in (fill gs row) v) (count_in (fill gs row) v)) (λ g. f g (length g.fanins)) gs d
      (λ v h. rw (gate_filled v d h, count_filled v d h))

  pub gates_filled : map (gate_in (fill gs row)) (upto (length gs)) ≡ gs
  gates_filled = filled_gates (λ g k. g) ∙ map-id gs

  -- A row that is filled once more stays as it is.
  pub fill_twice : fill gs (fill gs row) ≡ fill gs row
  fill_twice = unfold fill in rw rest_filled

-- what stands in a row, filled into it again

-- a block with its unused fan-in places made 0
unfoldable pub cleared_block : List ℕ → List ℕ
cleared_block b = take (3 + get_or b 2 0) b ++ replicate (most_fanins - get_or b 2 0) 0

-- a row with the unused fan-in places of so many gates made 0
unfoldable pub cleared : ℕ → List ℕ → List ℕ
cleared gates row = gather (λ v. cleared_block (block row v)) (upto gates) ++ drop (places * gates) row

gather_same : (f g : ℕ → List ℕ) (v k : ℕ) → ((u : ℕ) → u < v + k → f u ≡ g u) → gather f (count_up v k) ≡ gather g (count_up v k)
unfolding gather count_up
gather_same f g v zero same = refl
gather_same f g v (suc k) same = rw (same v (omega arith), gather_same f g (suc v) k (λ u l. same u (omega arith)))

front : (b : List ℕ) (k : ℕ) → 3 ≤ length b → take (3 + k) b ≡ get_or b 0 0 ∷ get_or b 1 0 ∷ get_or b 2 0 ∷ take k (drop 3 b)
front [] k h = absurd (omega arith)
front (x ∷ []) k h = absurd (omega arith)
front (x ∷ y ∷ []) k h = absurd (omega arith)
front (x ∷ y ∷ z ∷ b) k h = let c : 3 + k ≡ suc (suc (suc k)) = omega arith in rw c

module _ (row : List ℕ) where
  all_fanins : (v : ℕ) → count_in row v ≤ most_fanins → fanins_in row v ≡ take (count_in row v) (drop 3 (block row v))
  unfolding fanins_in
  all_fanins v few = let m : min (count_in row v) most_fanins ≡ count_in row v = omega arith in rw m

  block_again : (v : ℕ) → places * suc v ≤ length row → count_in row v ≤ most_fanins
      → block_of (gate_in row v) ≡ cleared_block (block row v)
  unfolding block_of cleared_block gate_in weight_in delay_in
  block_again v h few =
      let c : length (fanins_in row v) ≡ count_in row v = omega (arith, length_fanins row v h) in
      rw (c, all_fanins v few)
      (unfold count_in in rw (front (block row v) (get_or (block row v) 2 0) (omega (arith, length_block row v h))))

  blocks_again : (v k : ℕ) → places * (v + k) ≤ length row → ((u : ℕ) → u < v + k → count_in row u ≤ most_fanins)
      → blocks (map (gate_in row) (count_up v k)) ≡ gather (λ u. cleared_block (block row u)) (count_up v k)
  unfolding blocks count_up gather
  blocks_again v zero h few = refl
  blocks_again v (suc k) h few =
      ap (λ (b : List ℕ). b ++ blocks (map (gate_in row) (count_up (suc v) k))) (block_again v (omega arith) (few v (omega arith)))
      ∙ ap (λ (bs : List ℕ). cleared_block (block row v) ++ bs) (blocks_again (suc v) k (omega arith) (λ u l. few u (omega arith)))

  -- the blocks of a row, one after the other, are its places
  blocks_of_row : (v k : ℕ) → places * (v + k) ≤ length row → gather (block row) (count_up v k) ≡ take (places * k) (drop (places * v) row)
  unfolding gather count_up
  blocks_of_row v zero h = refl
  blocks_of_row v (suc k) h =
      let c : places * suc k ≡ places + places * k = omega arith in
      let d : places * v + places ≡ places * suc v = omega arith in
      rw (block_there row v (omega arith), blocks_of_row (suc v) k (omega arith), c)
      (rw (take-add places (places * k) (drop (places * v) row), drop-drop places (places * v) row, d))

  -- Where the unused places are 0 already, that is the row itself.
  pub cleared_same : (gates : ℕ) → places * gates ≤ length row → ((v : ℕ) → v < gates → cleared_block (block row v) ≡ block row v)
      → cleared gates row ≡ row
  unfolding cleared
  cleared_same gates long same =
      let all = gather_same (λ v. cleared_block (block row v)) (block row) 0 gates (λ u l. same u (omega arith)) in
      rw (upto_counts_up gates, all, blocks_of_row 0 gates (omega arith)) (take-append-drop (places * gates) row)

-- What stands in a row, filled into it again, leaves the row with its unused fan-in places made 0.
module _
    (h : Header) (row : List ℕ)
    (long : places * h.gates ≤ length row) (few : (v : ℕ) → v < h.gates → count_in row v ≤ most_fanins)
  where
    pub fill_again : fill (network_in h row).gates row ≡ cleared h.gates row
    unfolding fill network_in cleared
    fill_again =
        let all = blocks_again row 0 h.gates (omega arith) (λ u l. few u (omega arith)) in
        rw (length_made (gate_in row) h.gates, upto_counts_up h.gates, all)
