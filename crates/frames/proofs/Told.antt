-- What an answer of `read_line` tells its caller of the lines that are left: there is none; the first has this fault; or
-- the first is this frame, without fault, and the others begin where the answer says.
use Prim.Native.Nat.{ℕ, ◌+◌, ◌-◌, ◌≤◌, ◌<◌}
use mathlib.Core.Path.{◌≡◌, refl, sym, ap, ◌∙◌}
use mathlib.Core.Bool.{Bool, true, false, cond}
use mathlib.Core.List.{List, [], ◌∷◌}
use mathlib.Core.Option.{Option, none, some}
use mathlib.Core.Logic.{◌⊎◌, inl, inr, ⊎_elim}
use native.Mathlib.Omega.{arith}
use native.Mathlib.Decide.{dec_lt}
use lib.ListN.{length, drop, drop_of_length-le}
use lib.Seq.{slice, length-slice}
use lib.Dec.{eqb}
use borrow.Author.Tests.{eqb-true, eqb-false, ltb-true}
use Rattle.units.specs.Units.{cells, ticks}
use Rattle.units.specs.declared.Cells.{Cells}
use Rattle.units.specs.declared.Ticks.{Ticks}
use Rattle.units.specs.declared.FanInCount.{FanInCount}
use Rattle.frames.specs.declared.Place.{Place}
use Rattle.frames.specs.declared.LineRead.{LineRead}
use Rattle.std.specs.Prelude.{Ok, Err}
use Rattle.frames.specs.declared.LineRead.TheVariants.{Header, Gate, End, Nothing}
use Rattle.frames.specs.declared.Refusal.{Refusal}
use Rattle.frames.specs.Refusal.{at_column}
use Rattle.frames.specs.Text.{Line, lines}
use Rattle.frames.specs.Table.{fault, column, kind, header_capacity, header_hop, gate_of, gate_count}
use Rattle.frames.specs.Frames.{frame, told, judged, line_read}
use Rattle.frames.specs.steps.Cut.{line_from, line_length}
use Rattle.frames.proofs.Tests.{never}
use Rattle.frames.proofs.Formed.{formed}
use Rattle.frames.proofs.Rows.{faultless}
use Rattle.frames.proofs.Lines.{lines_from, read_first, read_past}

-- where the next line begins behind a frame
abbrev pub next_of : LineRead → Option ℕ
next_of (Header c h n) = some n
next_of (Gate w d k n) = some n
next_of (End n) = some n
next_of Nothing = none

-- The first line of those left is without fault, and is the frame that was read; the others begin at `next`.
pub record FrameRead (text : List ℕ) (at : ℕ) (p : Place) (next : ℕ) (r : LineRead) : Type 0 where
  pub line : Line
  pub first : lines (drop at text) ≡ line ∷ lines (drop next text)
  pub right : fault p line ≡ none
  pub is : frame line next ≡ r
  pub onward : at < next
  pub inside : next ≤ length text

-- The first line of those left has this fault, told at this number of a line.
pub record FaultRead (text : List ℕ) (at : ℕ) (p : Place) (at_number : ℕ) (r : Refusal) : Type 0 where
  pub line : Line
  pub rest : List Line
  pub first : lines (drop at text) ≡ line ∷ rest
  pub wrong : fault p line ≡ some r.number
  pub told_there : r ≡ at_column r.number at_number (column r.number line)

-- A frame is the one that its type says.
pub data Typed (l : Line) (n : ℕ) (r : LineRead) : Type 0 where
  header : kind l ≡ 0x01 → r ≡ Header (cells (header_capacity l)) (ticks (header_hop l)) n → Typed l n r
  gate : kind l ≡ 0x02 → r ≡ Gate (cells (gate_of l).weight) (ticks (gate_of l).delay) (record { 0 = gate_count l }) n → Typed l n r
  end : (kind l ≡ 0x01 → ⊥) → (kind l ≡ 0x02 → ⊥) → r ≡ End n → Typed l n r

pub typed : (l : Line) (n : ℕ) → Typed l n (frame l n)
unfolding frame
typed l n = by (eqb (kind l) 0x01) (eqb (kind l) 0x02) refl refl
  where
    by : (t u : Bool) → eqb (kind l) 0x01 ≡ t → eqb (kind l) 0x02 ≡ u
        → Typed l n
        (cond t (Header (cells (header_capacity l)) (ticks (header_hop l)) n)
        (cond u (Gate (cells (gate_of l).weight) (ticks (gate_of l).delay) (record { 0 = gate_count l }) n) (End n)))
    by true u e f = header (eqb-true _ _ e) refl
    by false true e f = gate (eqb-true _ _ f) refl
    by false false e f = end (eqb-false _ _ e) (eqb-false _ _ f) refl

frame_next : (l : Line) (n : ℕ) → next_of (frame l n) ≡ some n
frame_next l n = by (typed l n)
  where
    by : Typed l n (frame l n) → next_of (frame l n) ≡ some n
    by (header k e) = ap next_of e
    by (gate k e) = ap next_of e
    by (end k h e) = ap next_of e

-- an answer with a next line was judged to have no fault, and one without was not
none_told : (o : Option ℕ) (line : ℕ) (l : Line) (f r : LineRead) (next : ℕ) → told o line l f ≡ Ok r → next_of r ≡ some next
    → (o ≡ none) × (f ≡ r)
unfolding told
none_told none line l f r next e n = (refl, cc)
none_told (some k) line l f r next e n = never cc

some_told : (o : Option ℕ) (line : ℕ) (l : Line) (f : LineRead) (n : ℕ) (r : Refusal) → next_of f ≡ some n → told o line l f ≡ Err r
    → (o ≡ some r.number) × (r ≡ at_column r.number line (column r.number l))
unfolding told
some_told none line l f n r h e = never cc
some_told (some j) line l f n r h e = let same : at_column j line (column j l) ≡ r = cc in rw (← same) (refl, refl)

nothing_judged : (o : Option ℕ) (line : ℕ) (l : Line) (f : LineRead) (n : ℕ) → next_of f ≡ some n → told o line l f ≡ Ok Nothing → ⊥
unfolding told
nothing_judged none line l f n h e = never cc
nothing_judged (some j) line l f n h e = never cc

module _ (text : List ℕ) (at : ℕ) (p : Place) (line : ℕ) where
  -- no line is left, or there is a first one
  left : (length text ≤ at) ⊎ (at < length text)
  left = elim (dec_lt at (length text)) [ yes h ↦ inr h | no h ↦ inl (omega arith) ]

  there : at < length text → (r : LineRead) (next : ℕ) → line_read text at p line ≡ Ok r → next_of r ≡ some next → FrameRead text at p next r
  unfolding judged
  there h r next e n =
      let end = at + line_length (drop at text) in
      let l = line_from text at end in
      let m = at + length (slice at end text) + 1 in
      let given = none_told (fault p l) line l (frame l m) r next (sym (read_first text at end h refl p line) ∙ e) n in
      let form = formed l (faultless p l given.0).formed in
      let ended : end < length text = ltb-true end (length text) form.ended in
      let as_long : length l.digits ≡ end - at = length-slice at end text (omega arith) in
      let same : m ≡ next = cc (frame_next l m, ap next_of given.1) in
      let behind : end + 1 ≡ next = omega (arith, form.begun) in
      record {
        line = l;
        first = lines_from text at end h refl ∙ ap (λ k. l ∷ lines (drop k text)) behind;
        right = given.0;
        is = ap (frame l) (sym same) ∙ given.1;
        onward = omega arith;
        inside = omega arith;
      }

  pub frame_told : (r : LineRead) (next : ℕ) → line_read text at p line ≡ Ok r → next_of r ≡ some next → FrameRead text at p next r
  frame_told r next e n = ⊎_elim (λ h. never (cc (read_past text at p line h))) (λ h. there h r next e n) left

  refused_there : at < length text → (r : Refusal) → line_read text at p line ≡ Err r → FaultRead text at p line r
  unfolding judged
  refused_there h r e =
      let end = at + line_length (drop at text) in
      let l = line_from text at end in
      let n = at + length (slice at end text) + 1 in
      let given = some_told (fault p l) line l (frame l n) n r (frame_next l n) (sym (read_first text at end h refl p line) ∙ e) in
      record {
        line = l;
        rest = lines (drop (end + 1) text);
        first = lines_from text at end h refl;
        wrong = given.0;
        told_there = given.1;
      }

  pub refused_told : (r : Refusal) → line_read text at p line ≡ Err r → FaultRead text at p line r
  refused_told r e = ⊎_elim (λ h. never (cc (read_past text at p line h))) (λ h. refused_there h r e) left

  nothing_there : at < length text → line_read text at p line ≡ Ok Nothing → ⊥
  unfolding judged
  nothing_there h e =
      let end = at + line_length (drop at text) in
      let l = line_from text at end in
      let n = at + length (slice at end text) + 1 in
      nothing_judged (fault p l) line l (frame l n) n (frame_next l n) (sym (read_first text at end h refl p line) ∙ e)

  pub nothing_told : line_read text at p line ≡ Ok Nothing → lines (drop at text) ≡ []
  unfolding lines
  nothing_told e = ⊎_elim (λ h. ap lines (drop_of_length-le text {i = at} h)) (λ h. absurd (nothing_there h e)) left

-- What a frame says is what the table reads in its line.
module _ (l : Line) (n : ℕ) where
  pub header_is : {c : Cells} {h : Ticks} {m : ℕ} → frame l n ≡ Header c h m
      → (kind l ≡ 0x01) × (c.0 ≡ header_capacity l) × (h.0 ≡ header_hop l)
  header_is {c} {h} {m} e = by (typed l n)
    where
      by : Typed l n (frame l n) → (kind l ≡ 0x01) × (c.0 ≡ header_capacity l) × (h.0 ≡ header_hop l)
      by (header k f) = (k, cc, cc)
      by (gate k f) = never cc
      by (end k j f) = never cc

  pub gate_is : {w : Cells} {d : Ticks} {k : FanInCount} {m : ℕ} → frame l n ≡ Gate w d k m
      → (kind l ≡ 0x02) × (w.0 ≡ (gate_of l).weight) × (d.0 ≡ (gate_of l).delay) × (k.0 ≡ gate_count l)
  gate_is {w} {d} {k} {m} e = by (typed l n)
    where
      by : Typed l n (frame l n) → (kind l ≡ 0x02) × (w.0 ≡ (gate_of l).weight) × (d.0 ≡ (gate_of l).delay) × (k.0 ≡ gate_count l)
      by (header t f) = never cc
      by (gate t f) = (t, cc, cc, cc)
      by (end t j f) = never cc

  pub end_is : {m : ℕ} → frame l n ≡ End m → (kind l ≡ 0x01 → ⊥) × (kind l ≡ 0x02 → ⊥)
  end_is {m} e = by (typed l n)
    where
      by : Typed l n (frame l n) → (kind l ≡ 0x01 → ⊥) × (kind l ≡ 0x02 → ⊥)
      by (header t f) = never cc
      by (gate t f) = never cc
      by (end t j f) = (t, j)
