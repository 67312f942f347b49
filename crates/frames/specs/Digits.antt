-- Bytes, and numbers as bytes, written as digits.
use Rattle.std.specs.Prelude.{ℕ, ◌+◌, ◌/◌, ◌%◌, cond, List, [], ◌∷◌, ◌++◌, ltb}
use Rattle.model.specs.Basics.{gather}
use Rattle.frames.specs.Text.{line_feed}

-- [F2] the bytes of a number, highest first
unfoldable pub word_bytes : ℕ → List ℕ
word_bytes w = w / 256 % 256 ∷ w % 256 ∷ []

unfoldable pub long_bytes : ℕ → List ℕ
unfolding word_bytes
long_bytes w = word_bytes (w / 65_536) ++ word_bytes (w % 65_536)

-- [F1] the digit that stands for a number below 16
unfoldable pub figure : ℕ → ℕ
figure d = cond (ltb d 10) (48 + d) (55 + d)

unfoldable pub byte_digits : ℕ → List ℕ
unfolding figure
byte_digits b = figure (b / 16) ∷ figure (b % 16) ∷ []

-- the digits of some bytes, two a byte
unfoldable pub digits : List ℕ → List ℕ
unfolding gather byte_digits
digits bs = gather byte_digits bs

-- a frame's bytes as a line, its line feed included
unfoldable pub spell_line : List ℕ → List ℕ
unfolding digits
spell_line bs = digits bs ++ (line_feed ∷ [])
