-- Laws of digits, bytes and numbers: what is spelled reads back, and what is read spells again.
use Prim.Native.Nat.{ℕ, zero, suc, ◌+◌, ◌*◌, ◌/◌, ◌%◌, ◌-◌, ◌≤◌, ◌<◌}
use mathlib.Core.Path.{◌≡◌, refl, ◌∙◌}
use mathlib.Core.Logic.{◌⊎◌, inl, inr, ⊎_elim}
use mathlib.Core.Bool.{true, cond, ◌&&◌}
use mathlib.Core.List.{List, [], ◌∷◌, ◌++◌}
use native.Mathlib.Decide.{dec_lt}
use native.Mathlib.Omega.{arith}
use borrow.Author.Tests.{ltb-true, leb-true, lt-ltb, le-ltb, le-leb, lt-leb}
use lib.ListN.{length, get_or}
use lib.Dec.{leb, ltb}
use Rattle.model.specs.Basics.{gather}
use Rattle.frames.specs.Text.{line_feed, digit, all_digits, even, bytes, word_at, long_at, words}
use Rattle.frames.specs.Digits.{figure, byte_digits, word_bytes, long_bytes}
use Rattle.frames.proofs.Tests.{never, both_true, picked}
use Rattle.frames.proofs.Bytes.{length_words as bytes_length_words}

-- every number of the list is below a bound
abbrev pub Below : ℕ → List ℕ → Type 0
Below k xs = (i : ℕ) → get_or xs i 0 < k

-- one digit

figure_low : (d : ℕ) → d < 10 → figure d ≡ 48 + d
unfolding figure
figure_low d h = rw (lt-ltb d 10)

figure_high : (d : ℕ) → 10 ≤ d → figure d ≡ 55 + d
unfolding figure
figure_high d h = rw (le-ltb d 10)

digit_low : (b : ℕ) → 48 ≤ b → b ≤ 57 → digit b ≡ b - 48
unfolding digit
digit_low b l h = rw (le-leb 48 b l, le-leb b 57 h)

digit_high : (b : ℕ) → 65 ≤ b → b ≤ 70 → digit b ≡ b - 55
unfolding digit
digit_high b l h = rw (lt-leb b 57 (omega arith), le-leb 48 b (omega arith), le-leb 65 b l, le-leb b 70 h)

pub digit_figure : (d : ℕ) → d < 16 → digit (figure d) ≡ d
digit_figure d h =
    elim (dec_lt d 10) [
      | yes l ↦ rw (figure_low d l) (digit_low (48 + d) (omega arith) (omega arith) ∙ omega arith)
      | no l ↦ rw (figure_high d (omega arith)) (digit_high (55 + d) (omega arith) (omega arith) ∙ omega arith)
    ]

between : (l b h : ℕ) → (leb l b && leb b h) ≡ true → (l ≤ b) × (b ≤ h)
between l b h e = let t = both_true (leb l b) (leb b h) e in (leb-true l b t.0, leb-true b h t.1)

digit_cases : (b : ℕ) → digit b < 16 → ((48 ≤ b) × (b ≤ 57)) ⊎ ((65 ≤ b) × (b ≤ 70))
unfolding digit
digit_cases b h =
    ⊎_elim (λ t. inl (between 48 b 57 t.0))
    (λ f.
    ⊎_elim (λ t. inr (between 65 b 70 t.0)) (λ g. absurd (omega arith)) (picked (leb 65 b && leb b 70) (b - 55) 16 f.1))
    (picked (leb 48 b && leb b 57) (b - 48) (cond (leb 65 b && leb b 70) (b - 55) 16) {r = digit b} refl)

pub figure_of_digit : (b : ℕ) → digit b < 16 → figure (digit b) ≡ b
figure_of_digit b h =
    ⊎_elim (λ t. rw (digit_low b t.0 t.1) (figure_low (b - 48) (omega arith) ∙ omega arith))
    (λ t. rw (digit_high b t.0 t.1) (figure_high (b - 55) (omega arith) ∙ omega arith))
    (digit_cases b h)

-- a figure is no line feed
pub figure_least : (d : ℕ) → 48 ≤ figure d
figure_least d =
    elim (dec_lt d 10) [
      | yes l ↦ omega (arith, figure_low d l)
      | no l ↦ omega (arith, figure_high d (omega arith))
    ]

-- bytes as digits, and back

pub byte_digits_in : (b : ℕ) → b < 256 → (16 * digit (figure (b / 16)) + digit (figure (b % 16))) ≡ b
byte_digits_in b h = rw (digit_figure (b / 16) (omega arith), digit_figure (b % 16) (omega arith)) (omega arith)

pub bytes_digits : (bs : List ℕ) → Below 256 bs → bytes (gather byte_digits bs) ≡ bs
unfolding bytes gather byte_digits
bytes_digits [] h = refl
bytes_digits (b ∷ bs) h = let e = bytes_digits bs (λ i. h (suc i)) in let f = byte_digits_in b (h 0) in cc

pub digits_are_digits : (bs : List ℕ) → Below 256 bs → all_digits (gather byte_digits bs) ≡ true
unfolding all_digits gather byte_digits
digits_are_digits [] h = refl
digits_are_digits (b ∷ bs) h =
    rw (digit_figure (b / 16) (omega (arith, h 0)), digit_figure (b % 16) (omega arith), lt-ltb (b / 16) 16 (omega (arith, h 0)), lt-ltb (b % 16) 16 (omega arith)) (digits_are_digits bs (λ i. h (suc i)))

pub digits_are_even : (bs : List ℕ) → even (gather byte_digits bs) ≡ true
unfolding even gather byte_digits
digits_are_even [] = refl
digits_are_even (b ∷ bs) = digits_are_even bs

pub digits_no_feed : (bs : List ℕ) (i : ℕ) → get_or (gather byte_digits bs) i 0 ≡ line_feed → ⊥
unfolding gather byte_digits
digits_no_feed [] i e = omega arith
digits_no_feed (b ∷ bs) zero e = omega (arith, figure_least (b / 16))
digits_no_feed (b ∷ bs) (suc zero) e = omega (arith, figure_least (b % 16))
digits_no_feed (b ∷ bs) (suc (suc i)) e = digits_no_feed bs i e

pub length_digits : (bs : List ℕ) → length (gather byte_digits bs) ≡ 2 * length bs
unfolding gather byte_digits
length_digits [] = refl
length_digits (b ∷ bs) = let e = length_digits bs in omega arith

-- digits as bytes, and back

both_digits : (c d : ℕ) (ds : List ℕ) → all_digits (c ∷ d ∷ ds) ≡ true → (digit c < 16) × (digit d < 16) × (all_digits ds ≡ true)
unfolding all_digits
both_digits c d ds a =
    let t = both_true (ltb (digit c) 16) (ltb (digit d) 16 && all_digits ds) a in
    let u = both_true (ltb (digit d) 16) (all_digits ds) t.1 in
    (ltb-true (digit c) 16 t.0, ltb-true (digit d) 16 u.0, u.1)

pub digits_bytes : (ds : List ℕ) → all_digits ds ≡ true → even ds ≡ true → gather byte_digits (bytes ds) ≡ ds
unfolding even bytes gather byte_digits
digits_bytes [] a e = refl
digits_bytes (d ∷ []) a e = never cc
digits_bytes (c ∷ d ∷ ds) a e =
    let t = both_digits c d ds a in
    let r = digits_bytes ds t.2 e in
    let p : (16 * digit c + digit d) / 16 ≡ digit c = omega arith in
    let q : (16 * digit c + digit d) % 16 ≡ digit d = omega arith in
    rw (p, q, figure_of_digit c t.0, figure_of_digit d t.1, r)

pub bytes_below : (ds : List ℕ) → all_digits ds ≡ true → Below 256 (bytes ds)
unfolding bytes
bytes_below [] a i = omega arith
bytes_below (d ∷ []) a i = omega arith
bytes_below (c ∷ d ∷ ds) a zero = let t = both_digits c d ds a in omega arith
bytes_below (c ∷ d ∷ ds) a (suc i) = let t = both_digits c d ds a in bytes_below ds t.2 i

-- numbers as bytes, and back

pub high_of : (a b : ℕ) → a < 256 → b < 256 → (256 * a + b) / 256 % 256 ≡ a
high_of a b h k = omega arith

pub low_of : (a b : ℕ) → b < 256 → (256 * a + b) % 256 ≡ b
low_of a b k = omega arith

pub word_bytes_of : (a b : ℕ) → a < 256 → b < 256 → word_bytes (256 * a + b) ≡ a ∷ b ∷ []
unfolding word_bytes
word_bytes_of a b h k = rw (high_of a b h k, low_of a b k)

pub word_of : (w : ℕ) → w < 65_536 → 256 * (w / 256 % 256) + w % 256 ≡ w
word_of w h = omega arith

pub words_bytes : (ws : List ℕ) → Below 65_536 ws → words (gather word_bytes ws) ≡ ws
unfolding words gather word_bytes
words_bytes [] h = refl
words_bytes (w ∷ ws) h =
    let e = words_bytes ws (λ i. h (suc i)) in
    let f = word_of w (h 0) in
    cc

pub length_word_bytes : (ws : List ℕ) → length (gather word_bytes ws) ≡ 2 * length ws
unfolding gather word_bytes
length_word_bytes [] = refl
length_word_bytes (w ∷ ws) = let e = length_word_bytes ws in omega arith

-- the other way round, for an even number of bytes
pub bytes_words : (bs : List ℕ) (k : ℕ) → length bs ≡ 2 * k → Below 256 bs → gather word_bytes (words bs) ≡ bs
unfolding words gather
bytes_words [] k e h = refl
bytes_words (b ∷ []) k e h = absurd (omega arith)
bytes_words (a ∷ b ∷ bs) zero e h = absurd (omega arith)
bytes_words (a ∷ b ∷ bs) (suc k) e h =
    let r = bytes_words bs k (omega arith) (λ i. h (suc (suc i))) in
    rw (word_bytes_of a b (h 0) (h 1), r)

pub length_words : (bs : List ℕ) (k : ℕ) → length bs ≡ 2 * k → length (words bs) ≡ k
length_words bs k e = omega (arith, bytes_length_words bs)

-- a number that stands among bytes

pub long_at_head : (w : ℕ) (bs : List ℕ) → w < 4_294_967_296 → long_at (long_bytes w ++ bs) 0 ≡ w
unfolding long_at long_bytes
long_at_head w bs h =
    let p = word_of (w / 65_536) (omega arith) in let q = word_of (w % 65_536) (omega arith) in rw (p, q) (omega arith)

pub long_bytes_of : (a b c d : ℕ) → a < 256 → b < 256 → c < 256 → d < 256
    → long_bytes (65_536 * (256 * a + b) + (256 * c + d)) ≡ a ∷ b ∷ c ∷ d ∷ []
unfolding long_bytes
long_bytes_of a b c d ha hb hc hd =
    let p : (65_536 * (256 * a + b) + (256 * c + d)) / 65_536 ≡ 256 * a + b = omega arith in
    let q : (65_536 * (256 * a + b) + (256 * c + d)) % 65_536 ≡ 256 * c + d = omega arith in
    rw (p, q, high_of a b ha hb, low_of a b hb, high_of c d hc hd, low_of c d hd)

pub word_below : (bs : List ℕ) (i : ℕ) → Below 256 bs → word_at bs i < 65_536
unfolding word_at
word_below bs i h = omega (arith, h i, h (i + 1))

pub long_below : (bs : List ℕ) (i : ℕ) → Below 256 bs → long_at bs i < 4_294_967_296
unfolding long_at
long_below bs i h = omega (arith, word_below bs i h, word_below bs (i + 2) h)

-- bytes that spell a number are bytes

pub word_bytes_below : (w : ℕ) (bs : List ℕ) → Below 256 bs → Below 256 (word_bytes w ++ bs)
unfolding word_bytes
word_bytes_below w bs h zero = omega arith
word_bytes_below w bs h (suc zero) = omega arith
word_bytes_below w bs h (suc (suc i)) = h i

pub words_bytes_below : (ws : List ℕ) → Below 256 (gather word_bytes ws)
unfolding gather
words_bytes_below [] i = omega arith
words_bytes_below (w ∷ ws) i = word_bytes_below w (gather word_bytes ws) (words_bytes_below ws) i
