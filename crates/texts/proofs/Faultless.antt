-- A line without fault where it stands: it is well formed, and it is the line that its own values spell.
use Prim.Native.Nat.{ℕ, ◌+◌, ◌*◌, ◌≤◌, ◌<◌}
use mathlib.Core.Path.{◌≡◌, refl, ◌∙◌, ap}
use mathlib.Core.Bool.{true, false, not, ◌||◌}
use mathlib.Core.Option.{none}
use native.Mathlib.Omega.{arith}
use borrow.Author.Tests.{eqb-true, eqb-false, ltb-false, leb-false, not-false, eq-eqb}
use lib.ListN.{length, drop, length-drop}
use lib.Dec.{ltb, eqb}
use Rattle.model.specs.Ceilings.{most_gates, most_fanins, most_weight, most_delay}
use Rattle.model.specs.Network.{Gate}
use Rattle.frames.specs.Text.{Line, bytes}
use Rattle.frames.specs.declared.Place.TheVariants.{Opening, AfterGates, Closed}
use Rattle.frames.specs.Table.{kind, frame_length, header_capacity, header_hop, gate_count, gate_fanins, gate_of, end_count, misplaced, wrong_length, one_too_many, rising_from, unordered, miscounted, no_gates, fault}
use Rattle.frames.specs.Digits.{spell_line}
use Rattle.texts.specs.Spelling.{header_bytes, gate_bytes, end_bytes}
use Rattle.frames.proofs.Tests.{never, neither_true}
use Rattle.frames.proofs.Formed.{WellFormed, well_formed}
use Rattle.frames.proofs.Rows.{faultless}
use Rattle.frames.proofs.Digits.{digits_bytes, bytes_below, length_words, word_below, long_below}
use Rattle.texts.proofs.Lines.{line_text}
use Rattle.texts.proofs.Frames.{header_again, gate_again, end_again}

line_again : (l : Line) → WellFormed l → spell_line (bytes l.digits) ≡ line_text l
unfolding spell_line line_text
line_again l f = rw (digits_bytes l.digits f.spelled f.evenly)

-- the header

pub record HeaderLine (l : Line) : Type 0 where
  pub ended : l.ended ≡ true
  pub again : spell_line (header_bytes (header_capacity l) (header_hop l)) ≡ line_text l
  pub capacity : header_capacity l < 4_294_967_296
  pub hop : header_hop l < 65_536

pub header_line : (l : Line) → fault Opening l ≡ none → HeaderLine l
unfolding misplaced wrong_length header_capacity header_hop
header_line l e =
    let f = faultless Opening l e in
    let d = well_formed l f.formed in
    let b = bytes_below l.digits d.spelled in
    let k : kind l ≡ 0x01 = eqb-true (kind l) 0x01 (not-false _ f.placed) in
    let s : frame_length l ≡ 7 = eqb-true (frame_length l) 7 (not-false _ (rw (eq-eqb (kind l) 0x01 k) at f.right_length)) in
    record {
      ended = d.ended;
      again = ap spell_line (unfold frame_length kind in header_again (bytes l.digits) b s k) ∙ line_again l d;
      capacity = long_below (bytes l.digits) 1 b;
      hop = word_below (bytes l.digits) 5 b;
    }

-- a gate

-- a gate that may stand at v
pub record Fit (v : ℕ) (g : Gate) : Type 0 where
  pub number : v < most_gates
  pub few : length g.fanins ≤ most_fanins
  pub rising : rising_from 0 v g.fanins ≡ true
  pub weight : g.weight ≤ most_weight
  pub delay : g.delay ≤ most_delay

pub record GateLine (v : ℕ) (l : Line) : Type 0 where
  pub ended : l.ended ≡ true
  pub again : spell_line (gate_bytes (gate_of l) (length (gate_of l).fanins)) ≡ line_text l
  pub fit : Fit v (gate_of l)

pub gate_line : (v : ℕ) (l : Line) → fault (AfterGates v) l ≡ none → eqb (kind l) 0x02 ≡ true → GateLine v l
unfolding wrong_length one_too_many unordered gate_of
gate_line v l e t =
    let f = faultless (AfterGates v) l e in
    let d = well_formed l f.formed in
    let b = bytes_below l.digits d.spelled in
    let k : kind l ≡ 0x02 = eqb-true (kind l) 0x02 t in
    let s : (ltb most_fanins (gate_count l) || not (eqb (frame_length l) (6 + 2 * gate_count l))) ≡ false = rw (k, wrong_length) at f.right_length in
    let u = neither_true (ltb most_fanins (gate_count l)) (not (eqb (frame_length l) (6 + 2 * gate_count l))) s in
    let m : gate_count l ≤ most_fanins = ltb-false most_fanins (gate_count l) u.0 in
    let n : frame_length l ≡ 6 + 2 * gate_count l = eqb-true _ _ (not-false _ u.1) in
    let r : length (gate_fanins l) ≡ gate_count l = unfold frame_length gate_fanins in length_words (drop 6 (bytes l.digits)) (gate_count l) (simp length-drop (omega arith)) in
    record {
      ended = d.ended;
      again = ap spell_line (rw r (unfold frame_length kind gate_count gate_fanins in gate_again (bytes l.digits) b (gate_count l) n k refl)) ∙ line_again l d;
      fit =
          record {
            number = leb-false most_gates v (rw (k, one_too_many) at f.within);
            few = omega arith;
            rising = not-false _ (rw (k, unordered) at f.ordered);
            weight = omega (arith, word_below (bytes l.digits) 1 b);
            delay = omega (arith, word_below (bytes l.digits) 3 b);
          };
    }

-- the end

pub record EndLine (v : ℕ) (l : Line) : Type 0 where
  pub ended : l.ended ≡ true
  pub again : spell_line (end_bytes v) ≡ line_text l
  pub some_gate : 0 < v

pub end_line : (v : ℕ) (l : Line) → fault (AfterGates v) l ≡ none → eqb (kind l) 0x02 ≡ false → EndLine v l
unfolding misplaced wrong_length miscounted no_gates
end_line v l e t =
    let f = faultless (AfterGates v) l e in
    let d = well_formed l f.formed in
    let b = bytes_below l.digits d.spelled in
    let k : eqb (kind l) 0x0F ≡ true = not-false _ (rw t at f.placed) in
    let k15 : kind l ≡ 0x0F = eqb-true (kind l) 0x0F k in
    let s : frame_length l ≡ 3 = eqb-true _ _ (not-false _ (rw (k15, wrong_length) at f.right_length)) in
    let c : end_count l ≡ v = eqb-true _ _ (not-false _ (rw (k15, miscounted) at f.counted)) in
    let z = eqb-false v 0 (rw (k15, no_gates) at f.some_gates) in
    record {
      ended = d.ended;
      again = ap spell_line (rw (← c) (unfold frame_length kind end_count in end_again (bytes l.digits) b s k15)) ∙ line_again l d;
      some_gate = omega arith;
    }

-- nothing stands behind the end
pub closed_line : (l : Line) → fault Closed l ≡ none → ⊥
unfolding misplaced
closed_line l e = let f = faultless Closed l e in let z = f.placed in never cc
