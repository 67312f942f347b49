-- What the lines that values spell are read as, and which faults they can have.
use Prim.Native.Nat.{ℕ, zero, suc, ◌+◌, ◌*◌, ◌/◌, ◌%◌, ◌<◌, min}
use mathlib.Core.Path.{◌≡◌, refl, ◌∙◌}
use mathlib.Core.Bool.{Bool, false, cond, not, ◌||◌}
use mathlib.Core.List.{List, [], ◌∷◌, ◌++◌}
use mathlib.Core.Option.{none, some}
use native.Mathlib.Decide.{dec_lt}
use native.Mathlib.Omega.{arith}
use borrow.Author.Tests.{lt-ltb, le-ltb, eq-eqb}
use lib.ListN.{length, get_or}
use lib.Dec.{leb, ltb, eqb}
use Rattle.model.specs.Basics.{gather}
use Rattle.model.specs.Ceilings.{most_gates, most_fanins}
use Rattle.model.specs.Network.{Gate}
use Rattle.frames.specs.Text.{Line}
use Rattle.frames.specs.declared.Place.{Place}
use Rattle.frames.specs.declared.Place.TheVariants.{Opening, AfterGates}
use Rattle.frames.specs.Table.{kind, frame_length, header_capacity, header_hop, gate_count, gate_fanins, gate_of, end_count, none_there, misplaced, wrong_length, one_too_many, rising_from, unordered, miscounted, no_gates, fault}
use Rattle.frames.specs.Digits.{word_bytes, long_bytes, byte_digits}
use Rattle.texts.specs.Spelling.{header_bytes, gate_bytes, end_bytes}
use Rattle.frames.proofs.Digits.{Below, bytes_digits, digits_are_digits, digits_are_even, word_of, words_bytes, length_word_bytes, word_bytes_below, words_bytes_below, long_at_head}
use Rattle.frames.proofs.Formed.{WellFormed}
use Rattle.texts.proofs.Lines.{line_of}
use Rattle.rows.specs.steps.RowCheck.{gate_number}

-- the line that bytes spell
abbrev pub spelled : List ℕ → Line
spelled bs = line_of (gather byte_digits bs)

-- the number that a well-formed line is refused with, test by test
pub fault_by_tests : (p : Place) (l : Line) {t3 t4 t5 t6 t7 t8 : Bool} → WellFormed l → misplaced p l ≡ t3 → wrong_length p l ≡ t4
    → one_too_many p l ≡ t5 → unordered p l ≡ t6 → miscounted p l ≡ t7 → no_gates p l ≡ t8
    → fault p l ≡ cond t3 (some 3) (cond t4 (some 4) (cond t5 (some 5) (cond t6 (some 6) (cond t7 (some 7) (cond t8 (some 8) none)))))
unfolding fault
fault_by_tests p l w e3 e4 e5 e6 e7 e8 =
    λ i.
    cond (w.begun i) (some 23)
    (cond (not (w.spelled i)) (some 21)
    (cond (not (w.evenly i)) (some 22)
    (cond (not (w.ended i)) (some 24)
    (cond (e3 i) (some 3) (cond (e4 i) (some 4) (cond (e5 i) (some 5) (cond (e6 i) (some 6) (cond (e7 i) (some 7) (cond (e8 i) (some 8) none)))))))))

spelled_formed : (b : ℕ) (bs : List ℕ) → Below 256 (b ∷ bs) → WellFormed (spelled (b ∷ bs))
spelled_formed b bs h =
    record {
      begun = unfold none_there gather byte_digits in refl;
      spelled = digits_are_digits (b ∷ bs) h;
      evenly = digits_are_even (b ∷ bs);
      ended = refl;
    }

cons_below : (k b : ℕ) (bs : List ℕ) → b < k → Below k bs → Below k (b ∷ bs)
cons_below k b bs h t zero = h
cons_below k b bs h t (suc i) = t i

nil_below : Below 256 []
nil_below i = omega arith

-- the tests by the bytes

module _ (bs : List ℕ) (h : Below 256 bs) where
  spelled_kind : kind (spelled bs) ≡ get_or bs 0 0
  unfolding kind
  spelled_kind = rw (bytes_digits bs h)

  spelled_length : frame_length (spelled bs) ≡ length bs
  unfolding frame_length
  spelled_length = rw (bytes_digits bs h)

-- the header

module _ (capacity hop : ℕ) where
  header_below : Below 256 (header_bytes capacity hop)
  unfolding header_bytes
  header_below =
      let d = word_bytes hop ++ [] in
      let m = word_bytes (capacity % 65_536) ++ d in
      cons_below 256 0x01 (word_bytes (capacity / 65_536) ++ m) (omega arith)
      (word_bytes_below (capacity / 65_536) m
      (word_bytes_below (capacity % 65_536) d (word_bytes_below hop [] nil_below)))

  header_formed : WellFormed (spelled (header_bytes capacity hop))
  unfolding header_bytes
  header_formed = spelled_formed 0x01 (long_bytes capacity ++ word_bytes hop) header_below

  pub header_length : length (header_bytes capacity hop) ≡ 7
  unfolding header_bytes
  header_length = refl

  header_kind : kind (spelled (header_bytes capacity hop)) ≡ 0x01
  header_kind = spelled_kind (header_bytes capacity hop) header_below ∙ (unfold header_bytes in refl)

  header_frame_length : frame_length (spelled (header_bytes capacity hop)) ≡ 7
  header_frame_length = spelled_length (header_bytes capacity hop) header_below ∙ header_length

  pub header_faultless : fault Opening (spelled (header_bytes capacity hop)) ≡ none
  header_faultless =
      let l = spelled (header_bytes capacity hop) in
      let k = header_kind in
      let s = header_frame_length in
      let e3 : misplaced Opening l ≡ false = unfold misplaced in rw k in
      let e4 : wrong_length Opening l ≡ false = unfold wrong_length in rw (k, s) in
      let e5 : one_too_many Opening l ≡ false = unfold one_too_many in refl in
      let e6 : unordered Opening l ≡ false = unfold unordered in refl in
      let e7 : miscounted Opening l ≡ false = unfold miscounted in refl in
      let e8 : no_gates Opening l ≡ false = unfold no_gates in refl in
      fault_by_tests Opening l header_formed e3 e4 e5 e6 e7 e8

  pub header_capacity_of : capacity < 4_294_967_296 → header_capacity (spelled (header_bytes capacity hop)) ≡ capacity
  unfolding header_capacity
  header_capacity_of c =
      rw (bytes_digits (header_bytes capacity hop) header_below)
      (unfold header_bytes in long_at_head capacity (word_bytes hop) c)

  pub header_hop_of : hop < 65_536 → header_hop (spelled (header_bytes capacity hop)) ≡ hop
  unfolding header_hop
  header_hop_of c =
      rw (bytes_digits (header_bytes capacity hop) header_below) (unfold header_bytes in word_of hop c)

-- a gate

-- as many fan-ins as are counted, but no more than eight: the length is wrong only where the count is
count_decides : (count k : ℕ) → k ≡ min count most_fanins
    → (ltb most_fanins count || not (eqb (6 + 2 * k) (6 + 2 * count))) ≡ ltb most_fanins count
count_decides count k e =
    elim (dec_lt most_fanins count) [
      | yes h ↦ rw (lt-ltb most_fanins count h)
      | no h ↦ rw (le-ltb most_fanins count (omega arith), eq-eqb (6 + 2 * k) (6 + 2 * count) (omega arith))
    ]

module _ (g : Gate) (count : ℕ) (c : count < 256) where
  gate_below : Below 256 (gate_bytes g count)
  unfolding gate_bytes
  gate_below =
      let f = gather word_bytes g.fanins in
      let d = word_bytes g.delay ++ (count ∷ f) in
      cons_below 256 0x02 (word_bytes g.weight ++ d) (omega arith)
      (word_bytes_below g.weight d
      (word_bytes_below g.delay (count ∷ f) (cons_below 256 count f c (words_bytes_below g.fanins))))

  gate_formed : WellFormed (spelled (gate_bytes g count))
  unfolding gate_bytes
  gate_formed =
      spelled_formed 0x02 (word_bytes g.weight ++ word_bytes g.delay ++ (count ∷ []) ++ gather word_bytes g.fanins) gate_below

  pub gate_length : length (gate_bytes g count) ≡ 6 + 2 * length g.fanins
  unfolding gate_bytes
  gate_length = omega (arith, length_word_bytes g.fanins)

  pub gate_kind : kind (spelled (gate_bytes g count)) ≡ 0x02
  gate_kind = spelled_kind (gate_bytes g count) gate_below ∙ (unfold gate_bytes in refl)

  gate_count_of : gate_count (spelled (gate_bytes g count)) ≡ count
  unfolding gate_count
  gate_count_of = rw (bytes_digits (gate_bytes g count) gate_below) (unfold gate_bytes in refl)

  gate_fanins_of : Below 65_536 g.fanins → gate_fanins (spelled (gate_bytes g count)) ≡ g.fanins
  unfolding gate_fanins
  gate_fanins_of b = rw (bytes_digits (gate_bytes g count) gate_below) (unfold gate_bytes in words_bytes g.fanins b)

  pub gate_of_spelled : g.weight < 65_536 → g.delay < 65_536 → Below 65_536 g.fanins → gate_of (spelled (gate_bytes g count)) ≡ g
  unfolding gate_of
  gate_of_spelled w d b =
      rw (bytes_digits (gate_bytes g count) gate_below)
      (unfold gate_bytes in rw (word_of g.weight w, word_of g.delay d, words_bytes g.fanins b))

  gate_frame_length : frame_length (spelled (gate_bytes g count)) ≡ 6 + 2 * length g.fanins
  gate_frame_length = spelled_length (gate_bytes g count) gate_below ∙ gate_length

  pub gate_faults : (v : ℕ) → Below 65_536 g.fanins → length g.fanins ≡ min count most_fanins
      → fault (AfterGates v) (spelled (gate_bytes g count)) ≡ gate_number v count g.fanins
  unfolding gate_number
  gate_faults v b m =
      let l = spelled (gate_bytes g count) in
      let k = gate_kind in
      let n = gate_count_of in
      let f = gate_fanins_of b in
      let s = gate_frame_length in
      let e3 : misplaced (AfterGates v) l ≡ false = unfold misplaced in rw k in
      let e4 : wrong_length (AfterGates v) l ≡ ltb most_fanins count = unfold wrong_length in rw (k, s, n) (count_decides count (length g.fanins) m) in
      let e5 : one_too_many (AfterGates v) l ≡ leb most_gates v = unfold one_too_many in rw k in
      let e6 : unordered (AfterGates v) l ≡ not (rising_from 0 v g.fanins) = unfold unordered in rw (k, f) in
      let e7 : miscounted (AfterGates v) l ≡ false = unfold miscounted in rw k in
      let e8 : no_gates (AfterGates v) l ≡ false = unfold no_gates in rw k in
      fault_by_tests (AfterGates v) l gate_formed e3 e4 e5 e6 e7 e8

-- the end

module _ (gates : ℕ) where
  end_below : Below 256 (end_bytes gates)
  unfolding end_bytes
  end_below = cons_below 256 0x0F (word_bytes gates ++ []) (omega arith) (word_bytes_below gates [] nil_below)

  end_formed : WellFormed (spelled (end_bytes gates))
  unfolding end_bytes
  end_formed = spelled_formed 0x0F (word_bytes gates) end_below

  pub end_length : length (end_bytes gates) ≡ 3
  unfolding end_bytes
  end_length = refl

  pub end_kind : kind (spelled (end_bytes gates)) ≡ 0x0F
  end_kind = spelled_kind (end_bytes gates) end_below ∙ (unfold end_bytes in refl)

  end_count_of : gates < 65_536 → end_count (spelled (end_bytes gates)) ≡ gates
  unfolding end_count
  end_count_of h = rw (bytes_digits (end_bytes gates) end_below) (unfold end_bytes in word_of gates h)

  end_frame_length : frame_length (spelled (end_bytes gates)) ≡ 3
  end_frame_length = spelled_length (end_bytes gates) end_below ∙ end_length

  -- told where it stands, the number of gates is only refused where it is 0
  pub end_faults : gates < 65_536 → fault (AfterGates gates) (spelled (end_bytes gates)) ≡ cond (eqb gates 0) (some 8) none
  end_faults h =
      let l = spelled (end_bytes gates) in
      let k = end_kind in
      let n = end_count_of h in
      let s = end_frame_length in
      let e3 : misplaced (AfterGates gates) l ≡ false = unfold misplaced in rw k in
      let e4 : wrong_length (AfterGates gates) l ≡ false = unfold wrong_length in rw (k, s) in
      let e5 : one_too_many (AfterGates gates) l ≡ false = unfold one_too_many in rw k in
      let e6 : unordered (AfterGates gates) l ≡ false = unfold unordered in rw k in
      let e7 : miscounted (AfterGates gates) l ≡ false = unfold miscounted in rw (k, n, eq-eqb gates gates refl) in
      let e8 : no_gates (AfterGates gates) l ≡ eqb gates 0 = unfold no_gates in rw k in
      fault_by_tests (AfterGates gates) l end_formed e3 e4 e5 e6 e7 e8
