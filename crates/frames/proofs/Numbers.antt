-- Numbers in a text: how large they can be, and what stands past the end.
use Prim.Native.Nat.{ℕ, ◌+◌, ◌-◌, ◌≤◌}
use mathlib.Core.Path.{◌≡◌, refl}
use mathlib.Core.Bool.{Bool, true, false, cond, ◌&&◌}
use mathlib.Core.List.{List}
use native.Mathlib.Omega.{arith}
use lib.ListN.{length, get_or, get_or-eq_default}
use lib.Dec.{leb}
use borrow.Author.Tests.{leb-true}
use Rattle.frames.specs.Text.{digit}
use Rattle.frames.specs.Frames.{digit_at, byte_from, word_from}

pub digit_most : (b : ℕ) → digit b ≤ 16
unfolding digit
digit_most b = low (leb 48 b) (leb b 57) refl
  where
    high : (u v : Bool) → leb b 70 ≡ v → cond (u && v) (b - 55) 16 ≤ 16
    high false v e = omega arith
    high true false e = omega arith
    high true true e = omega (arith, leb-true b 70 e)

    low : (u v : Bool) → leb b 57 ≡ v → cond (u && v) (b - 48) (cond (leb 65 b && leb b 70) (b - 55) 16) ≤ 16
    low false v e = high (leb 65 b) (leb b 70) refl
    low true false e = high (leb 65 b) (leb b 70) refl
    low true true e = omega (arith, leb-true b 57 e)

pub digit_at_most : (text : List ℕ) (k : ℕ) → digit_at text k ≤ 16
unfolding digit_at
digit_at_most text k = digit_most (get_or text k 0)

pub byte_most : (text : List ℕ) (k : ℕ) → byte_from text k ≤ 272
unfolding byte_from
byte_most text k = omega (arith, digit_at_most text k, digit_at_most text (k + 1))

pub word_most : (text : List ℕ) (k : ℕ) → word_from text k ≤ 69_904
unfolding word_from
word_most text k = omega (arith, byte_most text k, byte_most text (k + 2))

-- Past the end there is no digit.
pub digit_past : (text : List ℕ) (k : ℕ) → length text ≤ k → digit_at text k ≡ 16
unfolding digit_at
digit_past text k h = rw (get_or-eq_default text 0 {n = k} h)

pub word_past : (text : List ℕ) (k : ℕ) → length text ≤ k → word_from text k ≡ 69_904
unfolding word_from
word_past text k h =
    omega
    (arith, digit_past text k h, digit_past text (k + 1) (omega arith), digit_past text (k + 2) (omega arith), digit_past text (k + 2 + 1) (omega arith))
