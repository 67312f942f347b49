-- Text, lines, digits, numbers.
use Rattle.std.specs.Prelude.{ℕ, suc, ◌+◌, ◌*◌, ◌-◌, Bool, true, false, cond, ◌&&◌, List, [], ◌∷◌, get_or, leb, ltb, eqb}

-- the line feed, 0A
abbrev pub line_feed : ℕ
line_feed = 10

-- [F1] A line: what stands before its line feed. What follows the last line feed, if anything does, is a line that is not ended.
pub record Line : Type 0 where
  pub digits : List ℕ
  pub ended : Bool

-- a byte put in front of the first line
unfoldable pub begin : ℕ → List Line → List Line
begin b [] = record { digits = b ∷ []; ended = false } ∷ []
begin b (l ∷ ls) = record { digits = b ∷ l.digits; ended = l.ended } ∷ ls

unfoldable pub lines : List ℕ → List Line
unfolding begin
lines [] = []
lines (b ∷ bs) = cond (eqb b line_feed) (record { digits = []; ended = true } ∷ lines bs) (begin b (lines bs))

-- [F1] what a byte counts for as a digit, 16 if it is none
unfoldable pub digit : ℕ → ℕ
digit b = cond (leb 48 b && leb b 57) (b - 48) (cond (leb 65 b && leb b 70) (b - 55) 16)

unfoldable pub all_digits : List ℕ → Bool
unfolding digit
all_digits [] = true
all_digits (b ∷ bs) = ltb (digit b) 16 && all_digits bs

-- how many digits stand before the first byte that is none, or in all
unfoldable pub digits_before : List ℕ → ℕ
unfolding digit
digits_before [] = 0
digits_before (b ∷ bs) = cond (ltb (digit b) 16) (suc (digits_before bs)) 0

-- [F1] two digits a byte
unfoldable pub even : List ℕ → Bool
even [] = true
even (a ∷ []) = false
even (a ∷ b ∷ ds) = even ds

-- the bytes that the digits of a line spell
unfoldable pub bytes : List ℕ → List ℕ
unfolding digit
bytes [] = []
bytes (a ∷ []) = []
bytes (a ∷ b ∷ ds) = (16 * digit a + digit b) ∷ bytes ds

-- [F2] the number of two bytes, and of four, highest first
unfoldable pub word_at : List ℕ → ℕ → ℕ
word_at bs i = 256 * get_or bs i 0 + get_or bs (i + 1) 0

unfoldable pub long_at : List ℕ → ℕ → ℕ
unfolding word_at
long_at bs i = 65_536 * word_at bs i + word_at bs (i + 2)

unfoldable pub words : List ℕ → List ℕ
words [] = []
words (a ∷ []) = []
words (a ∷ b ∷ bs) = (256 * a + b) ∷ words bs
