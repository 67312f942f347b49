-- What the table reads in a line, as the code reads it in the line's digits.
use Prim.Native.Nat.{ℕ, suc, ◌+◌, ◌*◌, ◌/◌, ◌≤◌, ◌<◌}
use mathlib.Core.Path.{◌≡◌, refl, ap, ap₂, ◌∙◌}
use native.Mathlib.Omega.{arith}
use lib.ListN.{length, get_or, drop, length-drop}
use lib.Seq.{get_or-drop}
use Rattle.model.specs.Ceilings.{most_weight, most_delay, most_hop}
use Rattle.frames.specs.Text.{Line, bytes, word_at, words}
use Rattle.frames.specs.Table.{kind, frame_length, header_capacity, header_hop, gate_count, gate_fanins, gate_of, end_count}
use Rattle.frames.specs.Frames.{byte_from, word_from}
use Rattle.frames.specs.steps.Cut.{long_from}
use Rattle.frames.proofs.Formed.{Formed}
use Rattle.frames.proofs.Bytes.{length_bytes, drop_bytes, length_words, line_byte, line_word, line_long, word_here}
use Rattle.frames.proofs.Digits.{bytes_below, word_below}

-- The fan-ins of a gate line are the words behind its first twelve digits.
pub fanins_are : (l : Line) → gate_fanins l ≡ words (bytes (drop 12 l.digits))
unfolding gate_fanins
fanins_are l = ap words (drop_bytes l.digits 6 12 refl)

module _ {l : Line} (f : Formed l) where
  pub kind_is : kind l ≡ byte_from l.digits 0
  unfolding kind
  kind_is = line_byte l.digits 0 0 refl (omega arith)

  pub length_is : frame_length l ≡ length l.digits / 2
  unfolding frame_length
  length_is = length_bytes l.digits

  pub capacity_is : length l.digits ≡ 14 → header_capacity l ≡ long_from l.digits 2
  unfolding header_capacity
  capacity_is e = line_long l.digits 1 2 refl (omega arith)

  pub hop_is : length l.digits ≡ 14 → header_hop l ≡ word_from l.digits 10
  unfolding header_hop
  hop_is e = line_word l.digits 5 10 refl (omega arith)

  pub end_count_is : length l.digits ≡ 6 → end_count l ≡ word_from l.digits 2
  unfolding end_count
  end_count_is e = line_word l.digits 1 2 refl (omega arith)

  pub count_is : 12 ≤ length l.digits → gate_count l ≡ byte_from l.digits 10
  unfolding gate_count
  count_is h = line_byte l.digits 5 10 refl (omega arith)

  pub weight_is : 12 ≤ length l.digits → (gate_of l).weight ≡ word_from l.digits 2
  unfolding gate_of
  weight_is h = line_word l.digits 1 2 refl (omega arith)

  pub delay_is : 12 ≤ length l.digits → (gate_of l).delay ≡ word_from l.digits 6
  unfolding gate_of
  delay_is h = line_word l.digits 3 6 refl (omega arith)

  module _ (count : ℕ) (long : length l.digits ≡ 12 + 4 * count) where
    bytes_long : length (bytes l.digits) ≡ 6 + 2 * count
    bytes_long = omega (arith, length_bytes l.digits)

    pub fanins_length : length (gate_fanins l) ≡ count
    unfolding gate_fanins
    fanins_length =
        let bs = bytes l.digits in
        omega (arith, length_words (drop 6 bs), length-drop 6 bs, bytes_long)

    pub fanin_is : (i : ℕ) → i < count → get_or (gate_fanins l) i 0 ≡ word_from l.digits (12 + 4 * i)
    unfolding gate_fanins word_at
    fanin_is i h =
        let bs = bytes l.digits in
        word_here (drop 6 bs) i (2 * i) refl (omega (arith, length-drop 6 bs, bytes_long))
        ∙ ap₂ (λ x y. 256 * x + y) (get_or-drop 6 bs (2 * i) 0) (get_or-drop 6 bs (suc (2 * i)) 0 ∙ ap (λ n. get_or bs n 0) (omega arith))
        ∙ line_word l.digits (6 + 2 * i) (12 + 4 * i) (omega arith) (omega arith)

  -- Two bytes of a well-formed line say at most 65,535, since each of its digits counts below 16. So no weight, no delay and
  -- no D that a line says lies above its ceiling.
  word_most : (i k : ℕ) → k ≡ 2 * i → k + 3 < length l.digits → word_from l.digits k ≤ 65_535
  word_most i k e h = omega (arith, line_word l.digits i k e h, word_below (bytes l.digits) i (bytes_below l.digits f.spelled))

  pub hop_most : length l.digits ≡ 14 → word_from l.digits 10 ≤ most_hop
  hop_most e = word_most 5 10 refl (omega arith)

  pub weight_most : 12 ≤ length l.digits → word_from l.digits 2 ≤ most_weight
  weight_most h = word_most 1 2 refl (omega arith)

  pub delay_most : 12 ≤ length l.digits → word_from l.digits 6 ≤ most_delay
  delay_most h = word_most 3 6 refl (omega arith)
