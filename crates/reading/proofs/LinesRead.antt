-- What a line's answer says of the walk over the lines that are left: a frame goes on behind its line, and anything else
-- is told.
use Prim.Native.Nat.{ℕ, ◌+◌, ◌<◌}
use Rattle.std.specs.Prelude.{Result, Ok, Err}
use mathlib.Core.Path.{◌≡◌, refl, sym, ap, ◌∙◌}
use mathlib.Core.Logic.{◌⊎◌, inl, inr, ⊎_elim}
use mathlib.Core.Bool.{true, false}
use mathlib.Core.List.{List, [], ◌∷◌, ◌++◌}
use mathlib.Core.Option.{Option, none, some}
use native.Mathlib.Omega.{arith}
use native.Mathlib.Numerals.{add-one}
use native.Mathlib.Decide.{dec_lt}
use lib.ListN.{length, get_or, drop, drop_of_length-le}
use lib.Seq.{length-slice}
use lib.Dec.{eqb}
use borrow.Author.Tests.{not-false, eqb-true, ne_eqb}
use Rattle.model.specs.Network.{Gate, Network}
use Rattle.model.proofs.Lists.{true_or_false}
use Rattle.units.specs.Units.{cells, ticks}
use Rattle.units.specs.declared.Cells.{Cells}
use Rattle.units.specs.declared.Ticks.{Ticks}
use Rattle.units.specs.declared.FanInCount.{FanInCount}
use Rattle.frames.specs.declared.Place.{Place}
use Rattle.frames.specs.declared.Place.TheVariants.{Opening, AfterGates, Closed}
use Rattle.frames.specs.declared.LineRead.{LineRead}
use Rattle.frames.specs.declared.LineRead.TheVariants as read
use Rattle.frames.specs.Text.{Line, lines}
use Rattle.frames.specs.Table.{kind, fault, column, next_place, misplaced, header_capacity, header_hop, gate_of, gate_count}
use Rattle.frames.specs.declared.Refusal.{Refusal}
use Rattle.frames.specs.Refusal.{at_column, at_line}
use Rattle.frames.specs.Frames.{frame, told, judged, line_read, fan_in_from}
use Rattle.frames.specs.steps.Cut.{line_from, line_length}
use Rattle.frames.proofs.Rows.{faultless}
use Rattle.frames.proofs.Lines.{lines_from, end_most, read_first, read_past}
use Rattle.frames.proofs.FanIns.{fan_ins_read}
use Rattle.texts.specs.Reading.{refused, network, at_the_end, walk, nothing_read, take_in}
use Rattle.frames.proofs.Tests.{never}
use Rattle.texts.proofs.Faultless.{Fit, gate_line, closed_line}
use Rattle.texts.proofs.Accepted.{walk_closed}
use Rattle.texts.proofs.Table.{walk_clean, walk_faulty}
use Rattle.reading.specs.steps.Passes.{header_only}

-- What is read at a place of the text: the text ends there; or its line has a fault; or it is a frame, behind which the
-- other lines stand.
data View (text : List ℕ) (at : ℕ) (p : Place) (line : ℕ) (r : Result LineRead Refusal) : Type 0 where
  nothing : lines (drop at text) ≡ [] → r ≡ Ok read.Nothing → View text at p line r
  faulty :
      (l : Line) (ls : List Line) (k : ℕ) →
      lines (drop at text) ≡ l ∷ ls → fault p l ≡ some k → r ≡ Err (at_column k line (column k l)) → View text at p line r
  clean :
      (l : Line) (next : ℕ) →
      at < length text →
      at < next → lines (drop at text) ≡ l ∷ lines (drop next text) → fault p l ≡ none → r ≡ Ok (frame l next) → View text at p line r

-- the first line, up to `end`
module _ (text : List ℕ) (at : ℕ) (inside : at < length text) (p : Place) (line : ℕ) where
  abbrev end : ℕ
  end = at + line_length (drop at text)

  abbrev first : Line
  first = line_from text at end

  read_told : line_read text at p line ≡ told (fault p first) line first (frame first (end + 1))
  unfolding judged
  read_told =
      let next : at + length first.digits + 1 ≡ end + 1 =
      omega (arith, length-slice at end text (end_most text at end inside refl)) in
      read_first text at end inside refl p line ∙ ap (λ k. told (fault p first) line first (frame first k)) next

  view_line : View text at p line (line_read text at p line)
  unfolding told
  view_line = go (fault p first) refl
    where
      here : lines (drop at text) ≡ first ∷ lines (drop (end + 1) text)
      here = lines_from text at end inside refl

      go : (o : Option ℕ) → fault p first ≡ o → View text at p line (line_read text at p line)
      go none e = clean first (end + 1) inside (omega arith) here e (read_told ∙ rw e)
      go (some k) e = faulty first (lines (drop (end + 1) text)) k here e (read_told ∙ rw e)

view : (text : List ℕ) (at : ℕ) (p : Place) (line : ℕ) → View text at p line (line_read text at p line)
view text at p line =
    elim (dec_lt at (length text)) [
      | yes h ↦ view_line text at h p line
      | no h ↦ nothing (unfold lines in ap lines (drop_of_length-le text {i = at} (omega arith))) (sym (read_past text at p line (omega arith)))
    ]

module _ (text : List ℕ) (at : ℕ) (p : Place) (line : ℕ) {r : Result LineRead Refusal} (answers : line_read text at p line ≡ r) where
  viewed : View text at p line r
  viewed = rw answers at (view text at p line)

  -- A line that is refused is told by the walk.
  pub refused_there : (n : Network) {f : Refusal} → r ≡ Err f → walk p line n (lines (drop at text)) ≡ refused f
  unfolding walk
  refused_there n {f = f} e = go viewed
    where
      go : View text at p line r → walk p line n (lines (drop at text)) ≡ refused f
      go (nothing h g) = never cc
      go (faulty l ls k h g i) = rw h (walk_faulty p line n l ls k g ∙ cc)
      go (clean l next inside ahead h g i) = never cc

  -- A walk that ends in a network refuses none.
  pub never_refused : (n m : Network) {f : Refusal} → r ≡ Err f → walk p line n (lines (drop at text)) ≡ network m → ⊥
  never_refused n m e w = let told = refused_there n e in never cc

-- the frame of a line without fault, by its place

opening_frame : (l : Line) (next : ℕ) → fault Opening l ≡ none → frame l next ≡ read.Header (cells (header_capacity l)) (ticks (header_hop l)) next
unfolding frame misplaced
opening_frame l next e =
    let k : eqb (kind l) 0x01 ≡ true = not-false _ (faultless Opening l e).placed in
    rw k

record GateFrame (l : Line) (next : ℕ) : Type 0 where
  of_type : eqb (kind l) 0x02 ≡ true
  framed : frame l next ≡ read.Gate (cells (gate_of l).weight) (ticks (gate_of l).delay) (record { 0 = gate_count l }) next

record EndFrame (l : Line) (next : ℕ) : Type 0 where
  other_type : eqb (kind l) 0x02 ≡ false
  framed : frame l next ≡ read.End next

module _ (v : ℕ) (l : Line) (next : ℕ) (e : fault (AfterGates v) l ≡ none) where
  a_gate : eqb (kind l) 0x02 ≡ true → GateFrame l next
  unfolding frame
  a_gate t =
      let k = eqb-true (kind l) 0x02 t in
      let other : eqb (kind l) 0x01 ≡ false = ne_eqb (kind l) 0x01 (omega arith) in
      record { of_type = t; framed = rw (other, t) }

  an_end : eqb (kind l) 0x02 ≡ false → EndFrame l next
  unfolding frame misplaced
  an_end t =
      let k = eqb-true (kind l) 0x0F (not-false _ (rw t at (faultless (AfterGates v) l e).placed)) in
      let other : eqb (kind l) 0x01 ≡ false = ne_eqb (kind l) 0x01 (omega arith) in
      record { other_type = t; framed = rw (other, t) }

  later_frame : GateFrame l next ⊎ EndFrame l next
  later_frame =
      ⊎_elim (λ (t : eqb (kind l) 0x02 ≡ true). inl (a_gate t)) (λ (t : eqb (kind l) 0x02 ≡ false). inr (an_end t))
      (true_or_false (eqb (kind l) 0x02))

-- A header that was read: the walk goes on behind it, with what it says.
abbrev pub HeaderRead : List ℕ → Cells → Ticks → ℕ → Type 0
HeaderRead text capacity hop next =
    walk Opening 1 nothing_read (lines text) ≡ walk (AfterGates 0) 2 (header_only capacity hop) (lines (drop next text))

pub header_read : (text : List ℕ) (capacity : Cells) (hop : Ticks) (next : ℕ)
    → line_read text 0 Opening 1 ≡ Ok (read.Header capacity hop next) → HeaderRead text capacity hop next
unfolding next_place take_in nothing_read
header_read text capacity hop next e = go (viewed text 0 Opening 1 e)
  where
    go : View text 0 Opening 1 (Ok (read.Header capacity hop next)) → HeaderRead text capacity hop next
    go (nothing h f) = never cc
    go (faulty l ls k h g f) = never cc
    go (clean l next' inside ahead h g f) =
        let framed = opening_frame l next' g in
        let c : header_capacity l ≡ capacity.0 = cc in
        let d : header_hop l ≡ hop.0 = cc in
        let n : next' ≡ next = cc in
        ap (walk Opening 1 nothing_read) h
        ∙ walk_clean Opening 1 nothing_read l (lines (drop next' text)) g
        ∙ (λ i. walk (AfterGates 0) 2 (record { capacity = c i; hop = d i; gates = [] }) (lines (drop (n i) text)))

-- a network with one gate more
abbrev pub with_one : Network → Gate → Network
with_one n g = record { capacity = n.capacity; hop = n.hop; gates = n.gates ++ (g ∷ []) }

-- A gate that was read: what it is, and that the walk goes on behind it with one gate more.
pub record GateRead (text : List ℕ) (at v : ℕ) (weight : Cells) (delay : Ticks) (count : FanInCount) (next : ℕ) : Type 0 where
  pub gate : Gate
  pub inside : at < length text
  pub ahead : at < next
  pub fit : Fit v gate
  pub weighs : gate.weight ≡ weight.0
  pub takes : gate.delay ≡ delay.0
  pub as_many : length gate.fanins ≡ count.0
  pub each : (i : ℕ) → i < count.0 → fan_in_from text at i ≡ get_or gate.fanins i 0
  pub on :
      (n : Network) →
      walk (AfterGates v) (v + 2) n (lines (drop at text))
      ≡ walk (AfterGates (v + 1)) (v + 1 + 2) (with_one n gate) (lines (drop next text))

-- the walk over a line without fault, by what it is
module _ (v line : ℕ) (n : Network) (l : Line) (ls : List Line) (e : fault (AfterGates v) l ≡ none) where
  over_gate : eqb (kind l) 0x02 ≡ true → walk (AfterGates v) line n (l ∷ ls) ≡ walk (AfterGates (v + 1)) (line + 1) (with_one n (gate_of l)) ls
  unfolding next_place take_in
  over_gate t = walk_clean (AfterGates v) line n l ls e ∙ rw (t, add-one v, add-one line)

  over_end : eqb (kind l) 0x02 ≡ false → walk (AfterGates v) line n (l ∷ ls) ≡ walk Closed (line + 1) n ls
  unfolding next_place take_in
  over_end t = walk_clean (AfterGates v) line n l ls e ∙ rw (t, add-one line)

-- Gate v stands in line v + 2.
module _ (text : List ℕ) (at v : ℕ) where
  pub gate_read : (weight : Cells) (delay : Ticks) (count : FanInCount) (next : ℕ)
      → line_read text at (AfterGates v) (v + 2) ≡ Ok (read.Gate weight delay count next) → GateRead text at v weight delay count next
  unfolding gate_of
  gate_read weight delay count next e = go (viewed text at (AfterGates v) (v + 2) e)
    where
      go : View text at (AfterGates v) (v + 2) (Ok (read.Gate weight delay count next)) → GateRead text at v weight delay count next
      go (nothing h f) = never cc
      go (faulty l ls k h g f) = never cc
      go (clean l next' inside ahead h g f) =
          ⊎_elim
          (λ (t : GateFrame l next').
          let framed = t.framed in
          let fan_ins = fan_ins_read text at (AfterGates v) (v + 2) weight delay count next l (lines (drop next' text)) h e in
          let n : next' ≡ next = cc in
          let line : v + 1 + 2 ≡ v + 2 + 1 = omega arith in
          record {
            gate = gate_of l;
            inside = inside;
            ahead = omega arith;
            fit = (gate_line v l g t.of_type).fit;
            weighs = cc;
            takes = cc;
            as_many = fan_ins.as_many;
            each = fan_ins.each;
            on = λ m. rw (h, ← n, line) (over_gate v (v + 2) m l (lines (drop next' text)) g t.of_type);
          })
          (λ (t : EndFrame l next'). let framed = t.framed in never cc)
          (later_frame v l next' g)

  pub end_read : (next : ℕ) → line_read text at (AfterGates v) (v + 2) ≡ Ok (read.End next) → (n : Network)
      → walk (AfterGates v) (v + 2) n (lines (drop at text)) ≡ walk Closed (v + 3) n (lines (drop next text))
  end_read next e n = go (viewed text at (AfterGates v) (v + 2) e)
    where
      go : View text at (AfterGates v) (v + 2) (Ok (read.End next))
          → walk (AfterGates v) (v + 2) n (lines (drop at text)) ≡ walk Closed (v + 3) n (lines (drop next text))
      go (nothing h f) = never cc
      go (faulty l ls k h g f) = never cc
      go (clean l next' inside ahead h g f) =
          ⊎_elim
          (λ (t : GateFrame l next'). let framed = t.framed in never cc)
          (λ (t : EndFrame l next').
          let framed = t.framed in
          let n' : next' ≡ next = cc in
          let line : v + 3 ≡ v + 2 + 1 = omega arith in
          rw (h, ← n', line) (over_end v (v + 2) n l (lines (drop next' text)) g t.other_type))
          (later_frame v l next' g)

-- No header was read; no gate was read.
abbrev pub NoHeader : LineRead → Type 0
NoHeader r = (capacity : Cells) (hop : Ticks) (next : ℕ) → r ≡ read.Header capacity hop next → ⊥

abbrev pub NoGate : LineRead → Type 0
NoGate r = (weight : Cells) (delay : Ticks) (count : FanInCount) (next : ℕ) → r ≡ read.Gate weight delay count next → ⊥

-- Where a walk that ends in a network reads no gate, it is at its end.
pub no_more_gates : (text : List ℕ) (at v : ℕ) {r : LineRead} → line_read text at (AfterGates v) (v + 2) ≡ Ok r
    → NoGate r → (n m : Network)
    → walk (AfterGates v) (v + 2) n (lines (drop at text)) ≡ network m → n ≡ m
no_more_gates text at v {r = r} answers other n m e = go (viewed text at (AfterGates v) (v + 2) answers)
  where
    go : View text at (AfterGates v) (v + 2) (Ok r) → n ≡ m
    go (nothing h f) = let z = rw h at e in unfold walk in never cc
    go (faulty l ls k h g f) = never cc
    go (clean l next inside ahead h g f) =
        ⊎_elim
        (λ (t : GateFrame l next). let framed = t.framed in let same : r ≡ frame l next = cc in absurd (other _ _ _ _ (same ∙ t.framed)))
        (λ (t : EndFrame l next).
        (walk_closed (v + 2 + 1) n m (lines (drop next text))
        (sym (over_end v (v + 2) n l (lines (drop next text)) g t.other_type) ∙ rw h at e)).1)
        (later_frame v l next g)

-- Where no frame goes on, the walk tells 3 at the line that is missing.
module _ (text : List ℕ) (at line : ℕ) (n : Network) (r : LineRead) where
  stops : (p : Place) → line_read text at p line ≡ Ok r
      → (r ≡ read.Nothing → at_the_end p line n ≡ refused (at_line 3 line))
      → ((l : Line) (next : ℕ) → fault p l ≡ none → r ≡ frame l next → ⊥)
      → walk p line n (lines (drop at text)) ≡ refused (at_line 3 line)
  unfolding walk
  stops p answers ended frames = go (viewed text at p line answers)
    where
      go : View text at p line (Ok r) → walk p line n (lines (drop at text)) ≡ refused (at_line 3 line)
      go (nothing h f) = rw h (ended cc)
      go (faulty l ls k h g f) = never cc
      go (clean l next inside ahead h g f) = absurd (frames l next g cc)

  pub no_header : line_read text at Opening line ≡ Ok r → NoHeader r
      → walk Opening line n (lines (drop at text)) ≡ refused (at_line 3 line)
  unfolding at_the_end
  no_header e h = stops Opening e (λ f. refl) (λ l next g f. h _ _ _ (f ∙ opening_frame l next g))

  pub no_gate_or_end : (v : ℕ) → line_read text at (AfterGates v) line ≡ Ok r → NoGate r
      → ((next : ℕ) → r ≡ read.End next → ⊥) → walk (AfterGates v) line n (lines (drop at text)) ≡ refused (at_line 3 line)
  unfolding at_the_end
  no_gate_or_end v e h k =
      stops (AfterGates v) e (λ f. refl)
      (λ l next g f.
      ⊎_elim
      (λ (t : GateFrame l next). h _ _ _ _ (f ∙ t.framed))
      (λ (t : EndFrame l next). k _ (f ∙ t.framed))
      (later_frame v l next g))

  pub no_end : line_read text at Closed line ≡ Ok r → (r ≡ read.Nothing → ⊥)
      → walk Closed line n (lines (drop at text)) ≡ refused (at_line 3 line)
  no_end e h = stops Closed e (λ f. absurd (h f)) (λ l next g f. closed_line l g)

-- nothing behind the end frame
pub whole : (text : List ℕ) (at line : ℕ) (n : Network) → line_read text at Closed line ≡ Ok read.Nothing
    → walk Closed line n (lines (drop at text)) ≡ network n
whole text at line n e = go (viewed text at Closed line e)
  where
    go : View text at Closed line (Ok read.Nothing) → walk Closed line n (lines (drop at text)) ≡ network n
    go (nothing h f) = rw h (unfold walk in refl)
    go (faulty l ls k h g f) = never cc
    go (clean l next inside ahead h g f) = absurd (closed_line l g)
