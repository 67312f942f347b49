-- What the searches along a text find: a line's length, the first byte that is no digit, fan-ins that rise.
use Prim.Native.Nat.{ℕ, suc, ◌+◌, ◌≤◌, ◌<◌}
use mathlib.Core.Path.{◌≡◌, refl, sym, ap, ◌∙◌}
use mathlib.Core.Logic.{◌⊎◌, inl, inr, ⊎_elim}
use mathlib.Core.Bool.{Bool, true, false, cond, not, and-false}
use mathlib.Core.List.{List, [], ◌∷◌, ◌++◌}
use native.Mathlib.Decide.{dec_lt}
use native.Mathlib.Numerals.{add-one}
use native.Mathlib.Omega.{arith}
use lib.ListN.{length}
use lib.Dec.{eqb, ltb}
use borrow.Author.Tests.{eq-eqb, ne_eqb, ltb-true, ltb-false, lt-ltb, le-ltb, le-leb, lt-leb}
use Rattle.std.specs.Prelude.{Some, None}
use Rattle.std.specs.List.{take_while, position, position_or_len}
use Rattle.std.proofs.lemmas.List.Sums.{take_while-cons}
use Rattle.std.proofs.lemmas.List.Recursion.{is_position_or_len}
use Rattle.frames.specs.Text.{line_feed, digit, digits_before, bytes, words}
use Rattle.frames.specs.Table.{rising_from}
use Rattle.frames.specs.Frames.{word_from}
use Rattle.frames.specs.steps.Cut.{line_length}
use Rattle.frames.proofs.Tests.{never, picked}
use Rattle.frames.proofs.Numbers.{digit_most}
use Rattle.frames.proofs.Bytes.{length_bytes, length_words}

-- A line is as long as the bytes that are no line feed, from the front on.
pub line_count : (bs : List ℕ) → length (take_while (λ b. not (eqb b line_feed)) bs) ≡ line_length bs
unfolding line_length
line_count [] = refl
line_count (b ∷ bs) = rw (take_while-cons (λ c. not (eqb c line_feed)) b bs) (by (eqb b line_feed) (line_count bs))
  where
    by : (t : Bool) → length (take_while (λ c. not (eqb c line_feed)) bs) ≡ line_length bs
        → length (cond (not t) (b ∷ take_while (λ c. not (eqb c line_feed)) bs) []) ≡ cond t 0 (suc (line_length bs))
    by true e = refl
    by false e = ap suc e

-- The digits before the first byte that is none end where a search for that byte ends.
before_found : (ds : List ℕ) → digits_before ds ≡ position_or_len (λ b. eqb (digit b) 16) ds
unfolding digits_before
before_found = is_position_or_len digits_before (λ b. eqb (digit b) 16) refl (λ b bs. by b (digits_before bs) (dec_lt (digit b) 16))
  where
    by : (b n : ℕ) → Dec (digit b < 16) → cond (ltb (digit b) 16) (suc n) 0 ≡ cond (eqb (digit b) 16) 0 (1 + n)
    by b n (yes h) = rw (lt-ltb (digit b) 16 h, ne_eqb (digit b) 16 (omega arith)) (omega arith)
    by b n (no h) = rw (le-ltb (digit b) 16 (omega arith), eq-eqb (digit b) 16 (omega (arith, digit_most b)))

pub bad_found : (ds : List ℕ) {bad : ℕ} → position (λ b. eqb (digit b) 16) ds ≡ Some bad → (digits_before ds ≡ bad) × (bad < length ds)
bad_found ds {bad} e =
    ⊎_elim (λ h. let is : position_or_len (λ b. eqb (digit b) 16) ds ≡ bad = cc in (before_found ds ∙ is, omega (arith, ltb-true _ _ h.0)))
    (λ h. never cc)
    (picked (ltb (position_or_len (λ b. eqb (digit b) 16) ds) (length ds)) _ _ e)

pub none_bad : (ds : List ℕ) → position (λ b. eqb (digit b) 16) ds ≡ None → length ds ≤ digits_before ds
none_bad ds e =
    ⊎_elim (λ h. never cc) (λ h. omega (arith, before_found ds, ltb-false _ _ h.0))
    (picked (ltb (position_or_len (λ b. eqb (digit b) 16) ds) (length ds)) _ _ e)

-- The words of some digits: none where there are fewer than four, and else that of the first four, and the others'.
words_none : (ds : List ℕ) → length ds < 4 → words (bytes ds) ≡ []
words_none ds h = empty (words (bytes ds)) (omega (arith, length_words (bytes ds), length_bytes ds))
  where
    empty : (xs : List ℕ) → length xs ≡ 0 → xs ≡ []
    empty [] e = refl
    empty (x ∷ xs) e = absurd (omega arith)

words_more : (ds rest : List ℕ) → length ds ≡ 4 → words (bytes (ds ++ rest)) ≡ word_from ds 0 ∷ words (bytes rest)
unfolding words bytes word_from
words_more [] rest h = absurd (omega arith)
words_more (a ∷ []) rest h = absurd (omega arith)
words_more (a ∷ b ∷ []) rest h = absurd (omega arith)
words_more (a ∷ b ∷ c ∷ []) rest h = absurd (omega arith)
words_more (a ∷ b ∷ c ∷ d ∷ []) rest h = refl
words_more (a ∷ b ∷ c ∷ d ∷ e ∷ ds) rest h = absurd (omega arith)

-- The fan-ins left to test: none, or one more that is in its place, too low, or too high.
pub rising_none : (ds : List ℕ) (least bound : ℕ) → length ds < 4 → rising_from least bound (words (bytes ds)) ≡ true
unfolding rising_from
rising_none ds least bound h = rw (words_none ds h)

module _ (ds rest : List ℕ) (least bound : ℕ) {x : ℕ} (four : length ds ≡ 4) (is : x ≡ word_from ds 0) where
  next_word : words (bytes (ds ++ rest)) ≡ x ∷ words (bytes rest)
  next_word = words_more ds rest four ∙ ap (λ w. w ∷ words (bytes rest)) (sym is)

  pub rising_more : least ≤ x → x < bound → rising_from least bound (words (bytes (ds ++ rest))) ≡ rising_from (x + 1) bound (words (bytes rest))
  unfolding rising_from
  rising_more low high = rw (next_word, add-one) (simp (le-leb least x low, lt-ltb x bound high))

  pub rising_stops : (x < least) ⊎ (bound ≤ x) → rising_from least bound (words (bytes (ds ++ rest))) ≡ false
  unfolding rising_from
  rising_stops (inl h) = rw next_word (simp (lt-leb least x h))
  rising_stops (inr h) = rw next_word (simp (le-ltb x bound h, and-false))
