-- What a row answers, found without spelling it.
use Prim.Native.Nat.{ℕ, zero, suc, ◌+◌, ◌*◌, ◌≤◌, ◌<◌}
use Rattle.std.specs.Prelude.{Result, Ok, Err}
use mathlib.Core.Path.{◌≡◌, refl, sym, ◌∙◌, ap}
use mathlib.Core.Logic.{⊎_elim}
use mathlib.Core.Bool.{Bool, true, false, cond, not}
use mathlib.Core.List.{List, [], ◌∷◌, ◌++◌, map, append_assoc, append-nil}
use mathlib.Core.Option.{Option, none, some}
use native.Mathlib.Decide.{dec_lt}
use native.Mathlib.Omega.{arith}
use borrow.Author.Tests.{leb-false, ltb-false, lt-ltb, le-ltb, eq-eqb, ne_eqb}
use lib.ListN.{length, length-append}
use lib.Dec.{leb, ltb, eqb}
use Rattle.model.specs.Basics.{upto, gather}
use Rattle.model.specs.Ceilings.{most_gates, most_fanins}
use Rattle.model.specs.Network.{Gate, Network}
use Rattle.model.proofs.Lists.{true_or_false, same_or_not}
use Rattle.units.specs.Units.{held, capacity_place, delay_place}
use Rattle.frames.specs.Text.{Line, lines}
use Rattle.frames.specs.declared.Place.TheVariants.{Opening, AfterGates}
use Rattle.frames.specs.declared.Refusal.{Refusal}
use Rattle.frames.specs.Refusal.{at_line, at_no_line, no_room}
use Rattle.frames.specs.Table.{kind, fault, rising_from, gate_of}
use Rattle.frames.specs.Digits.{byte_digits, spell_line}
use Rattle.frames.proofs.Tests.{never, passed, picked}
use Rattle.frames.proofs.Digits.{length_digits}
use Rattle.texts.specs.Reading.{Reading, refused, network, nothing_read, with_header, with_gate, unless, walk, first_heavy, told_heavy, weigh, reading}
use Rattle.texts.specs.Spelling.{header_bytes, gate_bytes, end_bytes, join}
use Rattle.texts.proofs.Lines.{lines_spelled}
use Rattle.texts.proofs.Accepted.{join_framed}
use Rattle.rows.specs.declared.Header.{Header}
use Rattle.rows.specs.Row.{places, too_short, weight_in, count_in, fanins_in, gate_in, network_in}
use Rattle.rows.specs.Spelling.{spell, row_answer}
use Rattle.rows.specs.steps.RowCheck.{settled, fault_if, told, first_of, line_of_gate, gate_length, gates_length, too_long, gate_number, gate_fault, first_fault, heavy_fault, first_heavy_fault, text_fault, row_fault, unless_fault, row_check}
use Rattle.rows.proofs.Blocks.{count_up, upto_counts_up, long_enough, length_fanins, weight_below, delay_below, fanins_fit}
use Rattle.rows.proofs.Holds.{InRange}
use Rattle.rows.proofs.Spelled.{spelled, header_faultless, header_capacity_of, header_hop_of, header_length, gate_length as frame_length, gate_kind, gate_of_spelled, gate_faults, end_length, end_kind, end_faults}

-- faults, one after the other

then_faults : (f g : Result (Unit {0}) Refusal) (r : Reading) → unless_fault (first_of f g) r ≡ unless_fault f (unless_fault g r)
unfolding unless_fault first_of
then_faults (Ok u) g r = refl
then_faults (Err f) g r = refl

unless_test : (test : Bool) (f : Refusal) (r : Reading) → unless_fault (fault_if test f) r ≡ cond test (refused f) r
unfolding unless_fault fault_if
unless_test true f r = refl
unless_test false f r = refl

-- the numbers that the line of a gate can be given, none of which points at a column
pub data GateNumber : Option ℕ → Type 0 where
  right : GateNumber none
  four : GateNumber (some 4)
  five : GateNumber (some 5)
  six : GateNumber (some 6)

pub gate_given : (v count : ℕ) (fs : List ℕ) → GateNumber (gate_number v count fs)
unfolding gate_number
gate_given v count fs = by (ltb most_fanins count) (leb most_gates v) (not (rising_from 0 v fs))
  where
    by : (a b c : Bool) → GateNumber (cond a (some 4) (cond b (some 5) (cond c (some 6) none)))
    by true b c = four
    by false true c = five
    by false false true = six
    by false false false = right

unless_told : {o : Option ℕ} → GateNumber o → (line : ℕ) (l : Line) (r : Reading) → unless_fault (told o line) r ≡ unless o line l r
unfolding unless_fault told unless
unless_told right line l r = refl
unless_told four line l r = refl
unless_told five line l r = refl
unless_told six line l r = refl

in_order : (long none_there : Bool) (f h : Result (Unit {0}) Refusal) (r : Reading)
    → unless_fault (first_of (fault_if long (at_no_line 1)) (first_of f (first_of (fault_if none_there (at_line 8 2)) h))) r
    ≡ cond long (refused (at_no_line 1)) (unless_fault f (cond none_there (refused (at_line 8 2)) (unless_fault h r)))
in_order long none_there f h r = simp (then_faults, unless_test)

-- the lines that a row spells

-- the frame of the header
abbrev header_frame : Header → List ℕ
header_frame h = header_bytes (capacity_place h.capacity) (delay_place h.hop)

-- the frame of the gate at v
abbrev row_frame : List ℕ → ℕ → List ℕ
row_frame row v = gate_bytes (gate_in row v) (held 8 (count_in row v))

-- the lines of gates, and the line of the end
abbrev gate_texts : List ℕ → List ℕ → List ℕ
gate_texts row vs = join (map (λ v. spell_line (row_frame row v)) vs)

abbrev end_text : Header → List ℕ
end_text h = spell_line (end_bytes h.gates)

gate_lines : (row vs rest : List ℕ) → lines (gate_texts row vs ++ rest) ≡ map (λ v. spelled (row_frame row v)) vs ++ lines rest
unfolding join
gate_lines row [] rest = refl
gate_lines row (v ∷ vs) rest =
    rw (append_assoc (spell_line (row_frame row v)) (gate_texts row vs) rest)
    (rw (lines_spelled (row_frame row v) (gate_texts row vs ++ rest), gate_lines row vs rest))

module _ (h : Header) (row : List ℕ) where
  pub spell_framed : spell h row ≡ spell_line (header_frame h) ++ (gate_texts row (upto h.gates) ++ end_text h)
  unfolding spell
  spell_framed = join_framed (spell_line (header_frame h)) (map (λ v. spell_line (row_frame row v)) (upto h.gates)) (end_text h)

  spell_counts_up : spell h row ≡ spell_line (header_frame h) ++ (gate_texts row (count_up 0 h.gates) ++ end_text h)
  spell_counts_up = rw (← (upto_counts_up h.gates)) spell_framed

  spell_lines : lines (spell h row)
      ≡ spelled (header_frame h) ∷ map (λ v. spelled (row_frame row v)) (count_up 0 h.gates) ++ (spelled (end_bytes h.gates) ∷ [])
  unfolding lines
  spell_lines =
      let e : lines (end_text h) ≡ spelled (end_bytes h.gates) ∷ [] = rw (append-nil (end_text h)) at (lines_spelled (end_bytes h.gates) []) in
      let gs = gate_texts row (count_up 0 h.gates) in
      rw (spell_counts_up, lines_spelled (header_frame h) (gs ++ end_text h), gate_lines row (count_up 0 h.gates) (end_text h), e)

-- the length of the text that a row spells

line_length : (bs : List ℕ) → length (spell_line bs) ≡ 2 * length bs + 1
unfolding spell_line
line_length bs = length-append (gather byte_digits bs) _ ∙ omega (arith, length_digits bs)

spelled_gate_length : (row : List ℕ) (v : ℕ) → length (spell_line (row_frame row v)) ≡ gate_length row v
unfolding gate_length gate_in
spelled_gate_length row v =
    omega (arith, line_length (row_frame row v), frame_length (gate_in row v) (held 8 (count_in row v)) (omega arith))

spelled_gates_length : (row : List ℕ) (v k : ℕ) → length (gate_texts row (count_up v k)) ≡ gates_length row v k
unfolding join count_up gates_length
spelled_gates_length row v zero = refl
spelled_gates_length row v (suc k) =
    length-append (spell_line (row_frame row v)) _ ∙ omega (arith, spelled_gate_length row v, spelled_gates_length row (suc v) k)

spell_length : (h : Header) (row : List ℕ) → length (spell h row) ≡ 22 + gates_length row 0 h.gates
spell_length h row =
    let gs = gate_texts row (count_up 0 h.gates) in
    let front = line_length (header_frame h) in
    let seven = header_length (capacity_place h.capacity) (delay_place h.hop) in
    let back = line_length (end_bytes h.gates) in
    let three = end_length h.gates in
    rw (spell_counts_up h row, length-append (spell_line (header_frame h)) (gs ++ end_text h), length-append gs (end_text h))
    (omega (arith, spelled_gates_length row 0 h.gates))

-- reading the lines

walk_header : (at : ℕ) (n : Network) (l : Line) (ls : List Line)
    → walk Opening at n (l ∷ ls) ≡ unless (fault Opening l) at l (walk (AfterGates 0) (suc at) (with_header n l) ls)
unfolding walk
walk_header at n l ls = refl

walk_gate : (v at : ℕ) (n : Network) (l : Line) (ls : List Line) → kind l ≡ 0x02
    → walk (AfterGates v) at n (l ∷ ls) ≡ unless (fault (AfterGates v) l) at l (walk (AfterGates (suc v)) (suc at) (with_gate n l) ls)
unfolding walk
walk_gate v at n l ls k =
    let t : eqb (kind l) 0x02 ≡ true = eq-eqb (kind l) 0x02 k in
    rw (walk, t)

walk_end : (v at : ℕ) (n : Network) (l : Line) → kind l ≡ 0x0F
    → walk (AfterGates v) at n (l ∷ []) ≡ unless (fault (AfterGates v) l) at l (network n)
unfolding walk
walk_end v at n l k =
    let t : eqb (kind l) 0x02 ≡ false = ne_eqb (kind l) 0x02 (omega arith) in
    rw (walk, t)

unless_same : (o : Option ℕ) (at : ℕ) (l : Line) (r s : Reading) → (o ≡ none → r ≡ s) → unless o at l r ≡ unless o at l s
unfolding unless
unless_same none at l r s h = h refl
unless_same (some k) at l r s h = refl

-- a network with more gates
abbrev more_gates : Network → List Gate → Network
more_gates n gs = record { capacity = n.capacity; hop = n.hop; gates = n.gates ++ gs }

no_more_gates : (n : Network) → more_gates n [] ≡ n
no_more_gates n = rw (append-nil n.gates)

still_more_gates : (n : Network) (gs hs : List Gate) → more_gates (more_gates n gs) hs ≡ more_gates n (gs ++ hs)
still_more_gates n gs hs = rw (append_assoc n.gates gs hs)

with_that_gate : (n : Network) (l : Line) (g : Gate) → gate_of l ≡ g → with_gate n l ≡ more_gates n (g ∷ [])
unfolding with_gate
with_that_gate n l g e = ap (λ (x : Gate). more_gates n (x ∷ [])) e

-- a gate that has no fault is one of the 512
in_number : (v count : ℕ) (fs : List ℕ) → gate_number v count fs ≡ none → v < most_gates
unfolding gate_number
in_number v count fs e = leb-false most_gates v (passed (leb most_gates v) 5 _ (passed (ltb most_fanins count) 4 _ e).1).0

-- a count that is told as 255 is above eight, as it was
count_told : (v count : ℕ) (fs : List ℕ) → gate_number v (held 8 count) fs ≡ gate_number v count fs
unfolding gate_number
count_told v count fs =
    elim (dec_lt most_fanins count) [
      | yes l ↦ rw (lt-ltb most_fanins count l, lt-ltb most_fanins (held 8 count) (omega arith))
      | no l ↦ rw (le-ltb most_fanins count (omega arith), le-ltb most_fanins (held 8 count) (omega arith))
    ]

-- what the end answers
abbrev ended : ℕ → Network → Reading
ended gates n = cond (eqb gates 0) (refused (at_line 8 2)) (network n)

ended_here : (v at : ℕ) (l : Line) (n : Network) → at ≡ line_of_gate v → unless (cond (eqb v 0) (some 8) none) at l (network n) ≡ ended v n
unfolding unless
ended_here zero at l n e = rw e
ended_here (suc v) at l n e = rw (ne_eqb (suc v) 0 (omega arith))

module _ (row : List ℕ) (fit : InRange row) where
  row_line_gate : (v : ℕ) → gate_of (spelled (row_frame row v)) ≡ gate_in row v
  row_line_gate v =
      gate_of_spelled (gate_in row v) (held 8 (count_in row v)) (omega arith)
      (unfold gate_in in weight_below row fit v) (unfold gate_in in delay_below row fit v) (unfold gate_in in fanins_fit row fit v)

  row_line_fault : (v : ℕ) → places * suc v ≤ length row
      → fault (AfterGates v) (spelled (row_frame row v)) ≡ gate_number v (count_in row v) (fanins_in row v)
  unfolding gate_in
  row_line_fault v h =
      gate_faults (gate_in row v) (held 8 (count_in row v)) (omega arith) v (fanins_fit row fit v) (omega (arith, length_fanins row v h))
      ∙ count_told v (count_in row v) (fanins_in row v)

  -- The line of a gate can only have the faults 4, 5 and 6, and is read as the gate that stands in the row; so reading
  -- the lines from gate v on does what the check of the gates does from v on. Past 512 gates the check has stopped, so
  -- the number that the end tells fits its two bytes.
  walk_row : (v k at : ℕ) (n : Network) → v ≤ most_gates → places * (v + k) ≤ length row → at ≡ line_of_gate v
      → walk (AfterGates v) at n (map (λ u. spelled (row_frame row u)) (count_up v k) ++ (spelled (end_bytes (v + k)) ∷ []))
      ≡ unless_fault (first_fault row v k) (ended (v + k) (more_gates n (map (gate_in row) (count_up v k))))
  unfolding count_up first_fault unless_fault
  walk_row v zero at n h r e =
      let c : v + 0 ≡ v = omega arith in
      rw (c, walk_end v at n (spelled (end_bytes v)) (end_kind v), end_faults v (omega arith), no_more_gates n) (ended_here v at (spelled (end_bytes v)) n e)
  walk_row v (suc k) at n h r e =
      let c : v + suc k ≡ suc v + k = omega arith in
      let l = spelled (row_frame row v) in
      let g = gate_in row v in
      let gs = map (gate_in row) (count_up (suc v) k) in
      let rest = map (λ u. spelled (row_frame row u)) (count_up (suc v) k) ++ (spelled (end_bytes (v + suc k)) ∷ []) in
      let here = gate_number v (count_in row v) (fanins_in row v) in
      let later = first_fault row (suc v) k in
      let then = ended (v + suc k) (more_gates n (g ∷ gs)) in
      walk_gate v at n l rest (gate_kind g (held 8 (count_in row v)) (omega arith))
      ∙ ap (λ (o : Option ℕ). unless o at l (walk (AfterGates (suc v)) (suc at) (with_gate n l) rest)) (row_line_fault v (omega arith))
      ∙ ap (λ (a : ℕ). unless here a l (walk (AfterGates (suc v)) (suc at) (with_gate n l) rest)) e
      ∙ unless_same here (line_of_gate v) l (walk (AfterGates (suc v)) (suc at) (with_gate n l) rest) (unless_fault later then)
      (λ z.
      rw (c, with_that_gate n l g (row_line_gate v))
      (walk_row (suc v) k (suc at) (more_gates n (g ∷ [])) (in_number v (count_in row v) (fanins_in row v) z) (rw c at r) (omega arith)
      ∙ ap (λ (m : Network). unless_fault later (ended (suc v + k) m)) (still_more_gates n (g ∷ []) gs)))
      ∙ sym (then_faults (told here (line_of_gate v)) later then ∙ unless_told (gate_given v (count_in row v) (fanins_in row v)) (line_of_gate v) l (unless_fault later then))

-- 9

heavy_here : (test : Bool) (at line : ℕ) (o : Option ℕ) (f : Result (Unit {0}) Refusal) (n : Network) → at ≡ line → told_heavy o n ≡ unless_fault f (network n)
    → told_heavy (cond test (some at) o) n ≡ unless_fault (first_of (fault_if test (at_line 9 line)) f) (network n)
unfolding told_heavy unless_fault first_of fault_if
heavy_here true at line o f n e h = rw e
heavy_here false at line o f n e h = h

heavy_row : (capacity : ℕ) (row : List ℕ) (v k at : ℕ) (n : Network) → at ≡ line_of_gate v
    → told_heavy (first_heavy capacity at (map (gate_in row) (count_up v k))) n ≡ unless_fault (first_heavy_fault capacity row v k) (network n)
unfolding first_heavy first_heavy_fault count_up gate_in heavy_fault
heavy_row capacity row v zero at n e = unfold told_heavy unless_fault in refl
heavy_row capacity row v (suc k) at n e =
    heavy_here (ltb capacity (weight_in row v)) at (line_of_gate v) (first_heavy capacity (suc at) (map (gate_in row) (count_up (suc v) k)))
    (first_heavy_fault capacity row (suc v) k) n e
    (heavy_row capacity row (suc v) k (suc at) n (omega arith))

weigh_faults : (f : Result (Unit {0}) Refusal) (r : Reading) → weigh (unless_fault f r) ≡ unless_fault f (weigh r)
unfolding weigh unless_fault
weigh_faults (Ok u) r = refl
weigh_faults (Err f) r = refl

weigh_ended : (gates : ℕ) (n : Network)
    → weigh (ended gates n) ≡ cond (eqb gates 0) (refused (at_line 8 2)) (told_heavy (first_heavy n.capacity 2 n.gates) n)
unfolding weigh
weigh_ended gates n =
    ⊎_elim (λ (t : eqb gates 0 ≡ true). rw t) (λ (t : eqb gates 0 ≡ false). rw t) (true_or_false (eqb gates 0))

-- together

module _ (h : Header) (row : List ℕ) where
  network_counts_up : network_in h row
      ≡ record { capacity = capacity_place h.capacity; hop = delay_place h.hop; gates = map (gate_in row) (count_up 0 h.gates) }
  unfolding network_in
  network_counts_up = rw (upto_counts_up h.gates)

  heavy_network : (n : Network)
      → told_heavy (first_heavy (network_in h row).capacity 2 (network_in h row).gates) n
      ≡ unless_fault (first_heavy_fault (capacity_place h.capacity) row 0 h.gates) (network n)
  heavy_network n = rw network_counts_up (heavy_row (capacity_place h.capacity) row 0 h.gates 2 n refl)

  header_read : with_header nothing_read (spelled (header_frame h))
      ≡ record { capacity = capacity_place h.capacity; hop = delay_place h.hop; gates = [] }
  unfolding with_header nothing_read
  header_read =
      let m = capacity_place h.capacity in
      let d = delay_place h.hop in
      rw (header_capacity_of m d (omega arith), header_hop_of m d (omega arith))

  -- A row that is long enough answers as the text that it spells.
  pub row_answer_long : places * h.gates ≤ length row → row_answer h row ≡ reading (spell h row)
  unfolding row_answer
  row_answer_long long = rw (le-ltb (length row) (places * h.gates) long)

  module _ (fit : InRange row) where
    walk_spelled : places * h.gates ≤ length row
        → walk Opening 1 nothing_read (lines (spell h row)) ≡ unless_fault (first_fault row 0 h.gates) (ended h.gates (network_in h row))
    unfolding unless
    walk_spelled long =
        let z : 0 + h.gates ≡ h.gates = omega arith in
        let gs = map (λ v. spelled (row_frame row v)) (count_up 0 h.gates) ++ (spelled (end_bytes h.gates) ∷ []) in
        let n : Network = record { capacity = capacity_place h.capacity; hop = delay_place h.hop; gates = [] } in
        let w = walk_row row fit 0 h.gates 2 n (omega arith) (omega arith) refl in
        let clean = header_faultless (capacity_place h.capacity) (delay_place h.hop) in
        rw (spell_lines h row, walk_header 1 nothing_read (spelled (header_frame h)) gs, clean, header_read, network_counts_up)
        (rw z at w)

    -- What the text is read as that a row spells, for every header and every row that is long enough.
    pub read_row : places * h.gates ≤ length row
        → reading (spell h row) ≡ unless_fault (text_fault (settled h) row) (network (network_in h row))
    unfolding reading text_fault too_long
    read_row long =
        let n = network_in h row in
        let fs = first_fault row 0 h.gates in
        let heavy = first_heavy_fault (capacity_place h.capacity) row 0 h.gates in
        rw (spell_length h row, walk_spelled long, weigh_faults fs (ended h.gates n), weigh_ended h.gates n, heavy_network n)
        (sym (in_order (too_long h.gates row) (eqb h.gates 0) fs heavy (network n)))

    -- What a row answers, for every header and every row.
    pub row_answer_check : row_answer h row ≡ row_check h row
    unfolding row_answer row_check row_fault
    row_answer_check =
        ⊎_elim (λ (t : too_short h.gates row ≡ true). rw t)
        (λ (t : too_short h.gates row ≡ false). rw t (read_row (long_enough h.gates row t)))
        (true_or_false (too_short h.gates row))

-- a row that answers a network has no fault

both_none : (f g : Result (Unit {0}) Refusal) → first_of f g ≡ Ok (tt {0}) → (f ≡ Ok (tt {0})) × (g ≡ Ok (tt {0}))
unfolding first_of
both_none (Ok u) g e = (refl, e)
both_none (Err r) g e = never cc

faultless : (f : Result (Unit {0}) Refusal) (m n : Network) → unless_fault f (network m) ≡ network n → (f ≡ Ok (tt {0})) × (m ≡ n)
unfolding unless_fault
faultless (Ok u) m n e = (refl, cc)
faultless (Err r) m n e = never cc

untold : (o : Option ℕ) (line : ℕ) → told o line ≡ Ok (tt {0}) → o ≡ none
unfolding told
untold none line e = refl
untold (some number) line e = never cc

-- gates without fault have at most eight fan-ins
few_counted : (row : List ℕ) (v k : ℕ) → first_fault row v k ≡ Ok (tt {0}) → (u : ℕ) → v ≤ u → u < v + k → count_in row u ≤ most_fanins
unfolding first_fault
few_counted row v zero e u l h = absurd (omega arith)
few_counted row v (suc k) e u l h =
    let count = count_in row v in
    let s = both_none (gate_fault row v) (first_fault row (suc v) k) e in
    let here : count ≤ most_fanins =
    unfold gate_fault gate_number in
    ltb-false most_fanins count (passed (ltb most_fanins count) 4 _ (untold _ (line_of_gate v) s.0)).0 in
    ⊎_elim (λ (d : u ≡ v). rw d here)
    (λ (d : u ≡ v → ⊥). few_counted row (suc v) k s.1 u (omega arith) (omega arith))
    (same_or_not u v)

few_read : (h : Header) (row : List ℕ) → text_fault h row ≡ Ok (tt {0}) → (v : ℕ) → v < h.gates → count_in row v ≤ most_fanins
unfolding text_fault
few_read h row e v l =
    let of_gates = (both_none (first_fault row 0 h.gates) _ (both_none (fault_if (too_long h.gates row) (at_no_line 1)) _ e).1).0 in
    few_counted row 0 h.gates of_gates v (omega arith) (omega arith)

-- The row answers the network n: it is long enough for it, the text that it spells is read as n, and n is what stands in it, with
-- all the fan-ins that are counted.
pub record Answered (h : Header) (row : List ℕ) (n : Network) : Type 0 where
  pub long : places * h.gates ≤ length row
  pub read : reading (spell h row) ≡ network n
  pub same : n ≡ network_in h row
  pub few : (v : ℕ) → v < h.gates → count_in row v ≤ most_fanins

pub row_answered : (h : Header) (row : List ℕ) → InRange row → (n : Network) → row_answer h row ≡ network n → Answered h row n
unfolding row_answer
row_answered h row fit n e =
    ⊎_elim (λ t. let z = t.1 in never cc)
    (λ t.
    let long = long_enough h.gates row t.0 in
    let NoneFound = faultless (text_fault (settled h) row) (network_in h row) n (sym (read_row h row fit long) ∙ t.1) in
    record { long = long; read = t.1; same = sym NoneFound.1; few = few_read (settled h) row NoneFound.0 })
    (picked (too_short h.gates row) (refused no_room) (reading (spell h row)) e)
