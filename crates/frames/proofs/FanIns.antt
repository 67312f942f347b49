-- The fan-ins of a line that was read as a gate: as many as its count, each where `fan_in` reads it.
use Prim.Native.Nat.{ℕ, ◌+◌, ◌*◌, ◌-◌, ◌<◌}
use mathlib.Core.Path.{◌≡◌, refl, sym, ap, subst, ◌∙◌}
use mathlib.Core.Bool.{Bool, true, false, not, ◌||◌}
use mathlib.Core.List.{List, ◌∷◌}
use mathlib.Core.Option.{none}
use native.Mathlib.Omega.{arith}
use lib.ListN.{length, get_or, drop}
use lib.Seq.{length-slice}
use lib.Dec.{ltb}
use Rattle.model.specs.Ceilings.{most_fanins}
use borrow.Author.Tests.{eqb-true, ltb-true, not-false}
use Rattle.units.specs.declared.Cells.{Cells}
use Rattle.units.specs.declared.Ticks.{Ticks}
use Rattle.units.specs.declared.FanInCount.{FanInCount}
use Rattle.frames.specs.declared.Place.{Place}
use Rattle.std.specs.Prelude.{Ok}
use Rattle.frames.specs.declared.LineRead.TheVariants.{Gate}
use Rattle.frames.specs.Text.{Line, lines}
use Rattle.frames.specs.Table.{fault, kind, frame_length, gate_count, gate_fanins}
use Rattle.frames.specs.Frames.{line_read, word_from, fan_in_from}
use Rattle.frames.specs.steps.Cut.{line_from, line_length}
use Rattle.frames.proofs.Tests.{never}
use Rattle.frames.proofs.Bytes.{word_cut}
use Rattle.frames.proofs.Formed.{formed}
use Rattle.frames.proofs.Rows.{faultless}
use Rattle.frames.proofs.OfLine.{length_is, fanins_length, fanin_is}
use Rattle.frames.proofs.Gate.{gate_length}
use Rattle.frames.proofs.Lines.{lines_from}
use Rattle.frames.proofs.Told.{frame_told, gate_is}

pub record FanInsRead (text : List ℕ) (at count : ℕ) (l : Line) : Type 0 where
  pub counted : gate_count l ≡ count
  pub as_many : length (gate_fanins l) ≡ count
  pub each : (i : ℕ) → i < count → fan_in_from text at i ≡ get_or (gate_fanins l) i 0

-- A faultless gate line has room for its fan-ins and for nothing else.
second : (a b : Bool) → (a || not b) ≡ false → b ≡ true
second true b e = never cc
second false b e = not-false b e

fan_in_is : (text : List ℕ) (at i : ℕ) → fan_in_from text at i ≡ word_from text (at + (12 + 4 * i))
unfolding fan_in_from
fan_in_is text at i = ap (word_from text) (omega arith)

fan_ins_of : (text : List ℕ) (at end : ℕ) (p : Place) (count : ℕ) → fault p (line_from text at end) ≡ none
    → kind (line_from text at end) ≡ 0x02 → gate_count (line_from text at end) ≡ count → FanInsRead text at count (line_from text at end)
fan_ins_of text at end p count e is counted =
    let l = line_from text at end in
    let given = faultless p l e in
    let form = formed l given.formed in
    let whole : frame_length l ≡ 6 + 2 * gate_count l =
    eqb-true _ _ (second (ltb most_fanins (gate_count l)) _ (sym (gate_length p l is) ∙ given.right_length)) in
    let ended : end < length text = ltb-true end (length text) form.ended in
    let as_long : length l.digits ≡ end - at = length-slice at end text (omega arith) in
    let digits : length l.digits ≡ 12 + 4 * count = omega (arith, length_is form, form.whole) in
    record {
      counted = counted;
      as_many = fanins_length form count digits;
      each = λ i h. fan_in_is text at i ∙ sym (fanin_is form count digits i h ∙ word_cut text at end (12 + 4 * i) (omega arith));
    }

pub fan_ins_read : (text : List ℕ) (at : ℕ) (p : Place) (line : ℕ) (weight : Cells) (delay : Ticks) (count : FanInCount) (next : ℕ)
    (l : Line) (ls : List Line) → lines (drop at text) ≡ l ∷ ls → line_read text at p line ≡ Ok (Gate weight delay count next) → FanInsRead text at count.0 l
fan_ins_read text at p line weight delay count next l ls e r =
    let end = at + line_length (drop at text) in
    let read = frame_told text at p line (Gate weight delay count next) next r refl in
    let here : line_from text at end ≡ read.line = cc (lines_from text at end (omega arith) refl) in
    let gate = gate_is read.line next read.is in
    subst (λ m. FanInsRead text at count.0 m) (cc)
    (fan_ins_of text at end p count.0 (ap (fault p) here ∙ read.right) (ap kind here ∙ gate.0) (ap gate_count here ∙ sym gate.3))
