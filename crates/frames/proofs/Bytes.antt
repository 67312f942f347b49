-- The bytes, words and longs of a line are those that its digits spell in the text: byte i stands at digits 2i and 2i + 1.
use Prim.Native.Nat.{ℕ, zero, suc, ◌+◌, ◌*◌, ◌/◌, ◌%◌, ◌<◌}
use mathlib.Core.Path.{◌≡◌, refl, ap, ap₂, ◌∙◌}
use mathlib.Core.List.{List, [], ◌∷◌}
use native.Mathlib.Omega.{arith}
use lib.ListN.{length, get_or, drop, take}
use lib.Seq.{slice, get_or-drop, get_or-take}
use lib.Dec.{eqb}
use Rattle.frames.specs.Text.{digit, even, bytes, word_at, long_at, words}
use Rattle.frames.specs.Frames.{digit_at, byte_from, word_from}
use Rattle.frames.specs.steps.Cut.{long_from}

pub length_bytes : (ds : List ℕ) → length (bytes ds) ≡ length ds / 2
unfolding bytes
length_bytes [] = refl
length_bytes (a ∷ []) = refl
length_bytes (a ∷ b ∷ ds) = omega (arith, length_bytes ds)

pub even_length : (ds : List ℕ) → even ds ≡ eqb (length ds % 2) 0
unfolding even
even_length [] = refl
even_length (a ∷ []) = refl
even_length (a ∷ b ∷ ds) =
    let two_less : suc (suc (length ds)) % 2 ≡ length ds % 2 = omega arith in
    rw two_less (even_length ds)

pub length_words : (bs : List ℕ) → length (words bs) ≡ length bs / 2
unfolding words
length_words [] = refl
length_words (a ∷ []) = refl
length_words (a ∷ b ∷ bs) = omega (arith, length_words bs)

-- What is left behind i bytes is spelled by what is left behind 2i digits.
pub drop_bytes : (ds : List ℕ) (i j : ℕ) → j ≡ 2 * i → drop i (bytes ds) ≡ bytes (drop j ds)
unfolding bytes
drop_bytes ds zero zero e = refl
drop_bytes ds zero (suc j) e = absurd (omega arith)
drop_bytes ds (suc i) zero e = absurd (omega arith)
drop_bytes ds (suc i) (suc zero) e = absurd (omega arith)
drop_bytes [] (suc i) (suc (suc j)) e = refl
drop_bytes (a ∷ []) (suc i) (suc (suc j)) e = refl
drop_bytes (a ∷ b ∷ ds) (suc i) (suc (suc j)) e = drop_bytes ds i j (omega arith)

-- Two digits make a byte, and two bytes a word.
byte_here : (ds : List ℕ) (i j : ℕ) → j ≡ 2 * i → suc j < length ds
    → get_or (bytes ds) i 0 ≡ 16 * digit (get_or ds j 0) + digit (get_or ds (suc j) 0)
unfolding bytes
byte_here [] i j e h = absurd (omega arith)
byte_here (a ∷ []) i j e h = absurd (omega arith)
byte_here (a ∷ b ∷ ds) zero zero e h = refl
byte_here (a ∷ b ∷ ds) zero (suc j) e h = absurd (omega arith)
byte_here (a ∷ b ∷ ds) (suc i) zero e h = absurd (omega arith)
byte_here (a ∷ b ∷ ds) (suc i) (suc zero) e h = absurd (omega arith)
byte_here (a ∷ b ∷ ds) (suc i) (suc (suc j)) e h = byte_here ds i j (omega arith) (omega arith)

pub word_here : (bs : List ℕ) (i j : ℕ) → j ≡ 2 * i → suc j < length bs
    → get_or (words bs) i 0 ≡ 256 * get_or bs j 0 + get_or bs (suc j) 0
unfolding words
word_here [] i j e h = absurd (omega arith)
word_here (a ∷ []) i j e h = absurd (omega arith)
word_here (a ∷ b ∷ bs) zero zero e h = refl
word_here (a ∷ b ∷ bs) zero (suc j) e h = absurd (omega arith)
word_here (a ∷ b ∷ bs) (suc i) zero e h = absurd (omega arith)
word_here (a ∷ b ∷ bs) (suc i) (suc zero) e h = absurd (omega arith)
word_here (a ∷ b ∷ bs) (suc i) (suc (suc j)) e h = word_here bs i j (omega arith) (omega arith)

byte_is : (ds : List ℕ) (k : ℕ) → 16 * digit (get_or ds k 0) + digit (get_or ds (k + 1) 0) ≡ byte_from ds k
unfolding byte_from
byte_is ds k = refl

module _ (ds : List ℕ) where
  pub line_byte : (i k : ℕ) → k ≡ 2 * i → k + 1 < length ds → get_or (bytes ds) i 0 ≡ byte_from ds k
  line_byte i k e h =
      let next : suc k ≡ k + 1 = omega arith in
      byte_here ds i k e (omega arith) ∙ ap (λ n. 16 * digit (get_or ds k 0) + digit (get_or ds n 0)) next ∙ byte_is ds k

  pub line_word : (i k : ℕ) → k ≡ 2 * i → k + 3 < length ds → word_at (bytes ds) i ≡ word_from ds k
  unfolding word_at word_from
  line_word i k e h =
      ap₂ (λ x y. 256 * x + y) (line_byte i k e (omega arith)) (line_byte (i + 1) (k + 2) (omega arith) (omega arith))

  pub line_long : (i k : ℕ) → k ≡ 2 * i → k + 7 < length ds → long_at (bytes ds) i ≡ long_from ds k
  unfolding long_at long_from
  line_long i k e h =
      ap₂ (λ x y. 65_536 * x + y) (line_word i k e (omega arith)) (line_word (i + 2) (k + 4) (omega arith) (omega arith))

-- What stands in a line that is cut out of the text stands in the text.
module _ (text : List ℕ) (at end : ℕ) where
  digit_cut : (k : ℕ) → at + k < end → digit_at (slice at end text) k ≡ digit_at text (at + k)
  unfolding digit_at
  digit_cut k h = ap digit (get_or-drop at (take end text) k 0 ∙ get_or-take end text (at + k) 0 h)

  byte_cut : (k : ℕ) → at + k + 1 < end → byte_from (slice at end text) k ≡ byte_from text (at + k)
  unfolding byte_from
  byte_cut k h =
      ap₂ (λ x y. 16 * x + y) (digit_cut k (omega arith)) (digit_cut (k + 1) (omega arith) ∙ ap (digit_at text) (omega arith))

  pub word_cut : (k : ℕ) → at + k + 3 < end → word_from (slice at end text) k ≡ word_from text (at + k)
  unfolding word_from
  word_cut k h =
      ap₂ (λ x y. 256 * x + y) (byte_cut k (omega arith)) (byte_cut (k + 2) (omega arith) ∙ ap (byte_from text) (omega arith))
