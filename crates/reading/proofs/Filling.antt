-- The second pass: gates put into their blocks one by one, until the walk ends, fill the row.
use Prim.Native.Nat.{ℕ, zero, suc, ◌+◌, ◌*◌, ◌-◌, ◌≤◌, ◌<◌}
use Rattle.std.specs.Prelude.{Result, Ok, Err}
use mathlib.Core.Path.{◌≡◌, refl, sym, ap, ◌∙◌}
use mathlib.Core.List.Memᴰ
use mathlib.Core.List.{List, [], ◌∷◌, ◌++◌, append_assoc, append-nil}
use native.Mathlib.Omega.{arith}
use native.Mathlib.Numerals.{add-one}
use borrow.Author.Tests.{le-leb, lt-ltb, ltb-false}
use lib.ListN.{length, get_or, take, drop, set, replicate, take-append-drop, length-append, length-drop, length-set, length-replicate, replicate-append-replicate}
use lib.Seq.{sets, set_at, append_snoc, length-take-le, drop-drop}
use Rattle.model.specs.Basics.{◌∈◌}
use Rattle.model.specs.Ceilings.{most_gates, most_fanins}
use Rattle.model.specs.Network.{Gate, Network, size}
use Rattle.units.specs.declared.Cells.{Cells}
use Rattle.units.specs.declared.Ticks.{Ticks}
use Rattle.units.specs.declared.FanInCount.{FanInCount}
use Rattle.units.specs.Units.{weight_place, delay_place, count_place}
use Rattle.frames.specs.declared.Refusal.{Refusal}
use Rattle.frames.specs.Frames.{fan_in_from, line_read}
use Rattle.frames.specs.Text.{lines}
use Rattle.frames.specs.declared.Place.TheVariants.{Opening, AfterGates}
use Rattle.frames.specs.declared.LineRead.{LineRead}
use Rattle.frames.proofs.Tests.{never}
use Rattle.texts.specs.Reading.{network, nothing_read, at_the_end, walk, reading}
use Rattle.texts.proofs.Accepted.{walk_gates}
use Rattle.texts.proofs.AcceptedNetwork.{rising_below}
use Rattle.texts.proofs.Table.{walk_whole, reading_exactly}
use Rattle.rows.specs.Row.{places, too_short, has_block, block_of, blocks, fill, gate_put, fanin_put}
use Rattle.rows.specs.Read.{filled}
use Rattle.reading.specs.steps.Passes.{header_only, with_fan_ins, FitsInto}
use Rattle.reading.proofs.LinesRead.{NoHeader, NoGate, with_one, HeaderRead, GateRead, never_refused, no_header, no_more_gates}

-- the fan-ins of one gate, put one by one

module _ (text : List ℕ) (at v count : ℕ) where
  pub fan_ins_more : (row : List ℕ) (i : ℕ) → i < count
      → with_fan_ins text at v (i + 1) (count - (i + 1)) (fanin_put v i (fan_in_from text at i) row)
      ≡ with_fan_ins text at v i (count - i) row
  unfolding with_fan_ins
  fan_ins_more row i h =
      let left : count - i ≡ suc (count - (i + 1)) = omega arith in
      rw (left, add-one i)

  pub fan_ins_last : (row : List ℕ) (i : ℕ) → count ≤ i → with_fan_ins text at v i (count - i) row ≡ row
  unfolding with_fan_ins
  fan_ins_last row i h = let left : count - i ≡ 0 = omega arith in rw left

-- Fan-ins for which the block has places are stored one behind the other.
fan_ins_stored : (text : List ℕ) (at v i count : ℕ) (fs row : List ℕ) → length fs ≡ count → i + count ≤ most_fanins
    → places * suc v ≤ length row → ((j : ℕ) → j < count → fan_in_from text at (i + j) ≡ get_or fs j 0)
    → with_fan_ins text at v i count row ≡ sets row (places * v + (3 + i)) fs
unfolding with_fan_ins fanin_put has_block
fan_ins_stored text at v i zero [] row e h long each = refl
fan_ins_stored text at v i (suc k) [] row e h long each = absurd (omega arith)
fan_ins_stored text at v i zero (x ∷ fs) row e h long each = absurd (omega arith)
fan_ins_stored text at v i (suc k) (x ∷ fs) row e h long each =
    let here : i + 0 ≡ i = omega arith in
    let first : fan_in_from text at i ≡ x = rw here at (each 0 (omega arith)) in
    let place : places * v + (3 + suc i) ≡ suc (places * v + (3 + i)) = omega arith in
    let rest =
    fan_ins_stored text at v (suc i) k fs (set row (places * v + (3 + i)) x) (omega arith) (omega arith) (omega (arith, length-set row (places * v + (3 + i)) x))
    (λ j l. let there : suc i + j ≡ i + suc j = omega arith in rw there (each (suc j) (omega arith))) in
    rw (le-leb (places * suc v) (length row) long, lt-ltb i most_fanins (omega arith), first, ← place) rest

-- the block of one gate

-- a run of stores over as many elements
sets_at : (front old rest new : List ℕ) (n : ℕ) → length front ≡ n → length old ≡ length new
    → sets (front ++ (old ++ rest)) n new ≡ front ++ (new ++ rest)
sets_at front [] rest [] n e f = refl
sets_at front [] rest (y ∷ new) n e f = absurd (omega arith)
sets_at front (x ∷ old) rest [] n e f = absurd (omega arith)
sets_at front (x ∷ old) rest (y ∷ new) n e f =
    rw (set_at front x (old ++ rest) y n e, ← (append_snoc front y (old ++ rest)), ← (append_snoc front y (new ++ rest)))
    (sets_at (front ++ (y ∷ [])) old rest new (suc n) (simp length-append (omega arith)) (omega arith))

-- Behind the blocks of the gates before gate v stand eleven places. They are the block of the gate, once its weight, its delay
-- and its count are put there and then its fan-ins.
module _ (front old rest : List ℕ) (v : ℕ) (before : length front ≡ places * v) (eleven : length old ≡ places) where
  opened : (weight : Cells) (delay : Ticks) (count : FanInCount)
      → gate_put v weight delay count (front ++ (old ++ rest))
      ≡ front ++ ((weight_place weight ∷ delay_place delay ∷ count_place count ∷ replicate most_fanins 0) ++ rest)
  unfolding gate_put has_block
  opened weight delay count =
      let has = le-leb (places * suc v) (length (front ++ (old ++ rest))) (simp length-append (omega arith)) in
      rw has (sets_at front old rest (weight_place weight ∷ delay_place delay ∷ count_place count ∷ replicate most_fanins 0) (places * v) before eleven)

  -- The fan-ins take as many of the eight places that are 0, from the first on.
  fan_ins_behind : (w d n : ℕ) (fs : List ℕ) → length fs ≤ most_fanins
      → sets (front ++ ((w ∷ d ∷ n ∷ replicate most_fanins 0) ++ rest)) (places * v + 3) fs
      ≡ front ++ ((w ∷ d ∷ n ∷ fs ++ replicate (most_fanins - length fs) 0) ++ rest)
  fan_ins_behind w d n fs few =
      let k = length fs in
      let unused : List ℕ = replicate (most_fanins - k) 0 in
      let sum : k + (most_fanins - k) ≡ most_fanins = omega arith in
      let zeros : replicate most_fanins 0 ≡ replicate k 0 ++ unused =
      sym (replicate-append-replicate k (most_fanins - k) 0 ∙ ap (λ m. replicate m 0) sum) in
      ap (λ zs. sets (front ++ ((w ∷ d ∷ n ∷ zs) ++ rest)) (places * v + 3) fs) zeros
      ∙ simp append_assoc
      (simp append_assoc at
      (sets_at (front ++ (w ∷ d ∷ n ∷ [])) (replicate k 0) (unused ++ rest) fs (places * v + 3) (simp length-append (omega arith)) (length-replicate k 0)))

  block_put : (text : List ℕ) (at : ℕ) (weight : Cells) (delay : Ticks) (count : FanInCount) (next : ℕ)
      → (r : GateRead text at v weight delay count next)
      → with_fan_ins text at v 0 count.0 (gate_put v weight delay count (front ++ (old ++ rest)))
      ≡ front ++ (block_of r.gate ++ rest)
  unfolding block_of
  block_put text at weight delay count next r =
      let f = r.fit in
      let fs = r.gate.fanins in
      let w : weight_place weight ≡ r.gate.weight = omega (arith, r.weighs, f.weight) in
      let d : delay_place delay ≡ r.gate.delay = omega (arith, r.takes, f.delay) in
      let k : count_place count ≡ length fs = omega (arith, r.as_many, f.few) in
      let long : places * suc v ≤ length (front ++ ((weight_place weight ∷ delay_place delay ∷ count_place count ∷ replicate most_fanins 0) ++ rest)) =
      simp length-append (omega arith) in
      rw (opened weight delay count)
      (fan_ins_stored text at v 0 count.0 fs _ r.as_many (omega (arith, r.as_many, f.few)) long
      (λ j h. let there : 0 + j ≡ j = omega arith in rw there (r.each j h))
      ∙ rw (w, d, k) (fan_ins_behind r.gate.weight r.gate.delay (length fs) fs f.few))

stands_in : (xs : List ℕ) (i : ℕ) → i < length xs → get_or xs i 0 ∈ xs
stands_in [] i h = absurd (omega arith)
stands_in (x ∷ xs) zero h = Memᴰ.head refl
stands_in (x ∷ xs) (suc i) h = Memᴰ.tail (stands_in xs i (omega arith))

-- a fan-in is below its gate, so that 16 bits hold it
pub word_sized : (text : List ℕ) (at v : ℕ) (weight : Cells) (delay : Ticks) (count : FanInCount) (next : ℕ)
    → GateRead text at v weight delay count next → (i : ℕ) → i < count.0 → fan_in_from text at i < 65_536
word_sized text at v weight delay count next r i h =
    let f = r.fit in
    let m = stands_in r.gate.fanins i (omega (arith, r.as_many)) in
    omega (arith, r.each i h, f.number, rising_below 0 v r.gate.fanins f.rising _ m)

-- the blocks of the gates so far, and the rest of the row

length_block : (g : Gate) → length g.fanins ≤ most_fanins → length (block_of g) ≡ places
unfolding block_of
length_block g few = simp (length-append, length-replicate) (omega arith)

blocks_more : (gs : List Gate) (g : Gate) → blocks (gs ++ (g ∷ [])) ≡ blocks gs ++ block_of g
unfolding blocks
blocks_more [] g = append-nil (block_of g)
blocks_more (h ∷ gs) g = rw (blocks_more gs g, append_assoc)

-- One gate more, put into its block, is one gate more of the filled row. A row filled with gates is their blocks, and behind them
-- what stood there. Of that the first eleven places become the block of the next gate, and the others stay behind it.
fill_more : (gs : List Gate) (row text : List ℕ) (at v : ℕ) (weight : Cells) (delay : Ticks) (count : FanInCount) (next : ℕ)
    → (r : GateRead text at v weight delay count next)
    → length gs ≡ v → length (blocks gs) ≡ places * v → places * suc v ≤ length row
    → with_fan_ins text at v 0 count.0 (gate_put v weight delay count (fill gs row)) ≡ fill (gs ++ (r.gate ∷ [])) row
unfolding fill
fill_more gs row text at v weight delay count next r counted even long =
    let left = drop (places * v) row in
    let split : drop (places * length gs) row ≡ take places left ++ drop places left =
    ap (λ n. drop (places * n) row) counted ∙ sym (take-append-drop places left) in
    let eleven = length-take-le places left (simp length-drop (omega arith)) in
    let end : places * v + places ≡ places * length (gs ++ (r.gate ∷ [])) = simp length-append (omega arith) in
    let rest : drop places left ≡ drop (places * length (gs ++ (r.gate ∷ []))) row =
    drop-drop places (places * v) row ∙ ap (λ n. drop n row) end in
    rw split
    (block_put (blocks gs) (take places left) (drop places left) v even eleven text at weight delay count next r
    ∙ rw (rest, blocks_more gs r.gate, append_assoc))

-- on the way through the gate lines

-- The row is filled with the gates so far, and the walk over the lines that are left ends with the whole network.
pub record Filling (text before row : List ℕ) (at gates : ℕ) : Type 0 where
  pub fits : FitsInto text before
  pub so_far : Network
  pub counted : size so_far ≡ gates
  pub few : gates ≤ most_gates
  pub on : walk (AfterGates gates) (gates + 2) so_far (lines (drop at text)) ≡ network fits.whole
  pub even : length (blocks so_far.gates) ≡ places * gates
  pub stands : row ≡ fill so_far.gates before

walk_read : (text : List ℕ) (n : Network) → reading text ≡ network n → walk Opening 1 nothing_read (lines text) ≡ network n
unfolding at_the_end
walk_read text n e = walk_whole (((reading_exactly text).whole n).0 e).whole

-- room for the network is room for each of its gates
enough : {text row : List ℕ} (f : FitsInto text row) → places * size f.whole ≤ length row
unfolding too_short
enough {row = row} f = ltb-false (length row) (places * size f.whole) f.room

pub start : (text row : List ℕ) (capacity : Cells) (hop : Ticks) (next : ℕ)
    → FitsInto text row → HeaderRead text capacity hop next → Filling text row row next 0
unfolding size fill blocks
start text row capacity hop next f h =
    record {
      fits = f;
      so_far = header_only capacity hop;
      counted = refl;
      few = omega arith;
      on = sym h ∙ walk_read text f.whole f.reads;
      even = refl;
      stands = refl;
    }

module _
    (text before row : List ℕ) (at gates : ℕ) (f : Filling text before row at gates)
    (weight : Cells) (delay : Ticks) (count : FanInCount) (next : ℕ) (r : GateRead text at gates weight delay count next)
  where
    on_there : walk (AfterGates (gates + 1)) (gates + 1 + 2) (with_one f.so_far r.gate) (lines (drop next text)) ≡ network f.fits.whole
    on_there = sym (r.on f.so_far) ∙ f.on

    inside : gates < size f.fits.whole
    unfolding size
    inside =
        let g = walk_gates (lines (drop next text)) (gates + 1) (gates + 1 + 2) (with_one f.so_far r.gate) f.fits.whole on_there in
        omega (arith, simp length-append at (ap length g.gates), f.counted)

    pub one_on : (opened after : List ℕ) → opened ≡ gate_put gates weight delay count row
        → after ≡ with_fan_ins text at gates 0 count.0 opened → Filling text before after next (gates + 1)
    unfolding size
    one_on opened after e g =
        let gs = f.so_far.gates in
        record {
          fits = f.fits;
          so_far = with_one f.so_far r.gate;
          counted = length-append gs (r.gate ∷ []) ∙ ap (λ n. n + 1) f.counted;
          few = omega (arith, r.fit.number);
          on = on_there;
          even = rw (blocks_more gs r.gate) (simp length-append (omega (arith, f.even, length_block r.gate r.fit.few)));
          stands =
              g
              ∙ rw (e, f.stands)
              (fill_more gs before text at gates weight delay count next r f.counted f.even (omega (arith, inside, enough f.fits)));
        }

-- A text that fits into the row opens with a header: its first line is nothing else, and it is not refused.
module _ (text row : List ℕ) (f : FitsInto text row) where
  pub opens : {r : LineRead} → line_read text 0 Opening 1 ≡ Ok r → NoHeader r → ⊥
  opens {r = r} answers other = let e = sym (no_header text 0 1 nothing_read r answers other) ∙ walk_read text f.whole f.reads in never cc

  pub opens_unrefused : {r : Result LineRead Refusal} {refusal : Refusal} → r ≡ line_read text 0 Opening 1 → r ≡ Err refusal → row ≡ filled (reading text) row
  opens_unrefused answers refuses = absurd (never_refused text 0 Opening 1 (sym answers ∙ refuses) nothing_read f.whole refl (walk_read text f.whole f.reads))

-- Where no gate is read, the walk is at its end.
module _
    (text before row : List ℕ) (at gates : ℕ) (f : Filling text before row at gates)
    {r : LineRead} (answers : line_read text at (AfterGates gates) (gates + 2) ≡ Ok r) (other : NoGate r)
  where
    all_read : f.so_far ≡ f.fits.whole
    all_read = no_more_gates text at gates answers other f.so_far f.fits.whole f.on

    pub done : row ≡ filled (reading text) before
    unfolding filled
    done = rw f.fits.reads (rw all_read at f.stands)
