-- The first line of a text is what stands up to its line feed.
use Prim.Native.Nat.{ℕ, zero, suc, ◌+◌, ◌-◌, ◌≤◌, ◌<◌}
use mathlib.Core.Path.{◌≡◌, refl, sym, ap, ap₂, ◌∙◌}
use mathlib.Core.Bool.{Bool, true, false, cond}
use mathlib.Core.List.{List, [], ◌∷◌}
use native.Mathlib.Omega.{arith}
use native.Mathlib.Decide.{dec_lt}
use lib.ListN.{length, drop, take, length-drop, drop_of_length-le}
use lib.Seq.{slice, take-nil, take_all, drop-drop}
use lib.Dec.{ltb, eqb, leb-suc-suc}
use borrow.Author.Tests.{lt-ltb, le-ltb}
use Rattle.frames.specs.declared.Place.{Place}
use Rattle.std.specs.Prelude.{Ok}
use Rattle.frames.specs.declared.LineRead.TheVariants.{Nothing}
use Rattle.frames.specs.Text.{Line, line_feed, begin, lines}
use Rattle.frames.specs.Frames.{judged, first_read, line_read}
use Rattle.frames.specs.steps.Cut.{line_length, line_from}

-- what is left of a list behind some of it, all of it
pub rest_whole : (xs : List ℕ) (at : ℕ) → take (length xs - at) (drop at xs) ≡ drop at xs
rest_whole xs at = take_all (length xs - at) (drop at xs) (omega (arith, length-drop at xs))

pub length_most : (bs : List ℕ) → line_length bs ≤ length bs
unfolding line_length
length_most [] = omega arith
length_most (b ∷ bs) = by (eqb b line_feed) (length_most bs)
  where
    by : (t : Bool) → line_length bs ≤ length bs → cond t 0 (suc (line_length bs)) ≤ suc (length bs)
    by true h = omega arith
    by false h = omega arith

-- the line of the first n bytes
abbrev pub cut : List ℕ → ℕ → Line
cut bs n = record { digits = take n bs; ended = ltb n (length bs) }

-- one byte more in front
cut_begin : (b : ℕ) (bs : List ℕ) (n : ℕ) (ls : List Line) → begin b (cut bs n ∷ ls) ≡ cut (b ∷ bs) (suc n) ∷ ls
unfolding begin
cut_begin b bs n ls = rw (leb-suc-suc (suc n) (length bs))

cut_step : (t : Bool) (b : ℕ) (bs : List ℕ)
    → begin b (lines bs) ≡ cut (b ∷ bs) (suc (line_length bs)) ∷ lines (drop (suc (line_length bs)) bs)
    → cond t (record { digits = []; ended = true } ∷ lines bs) (begin b (lines bs))
    ≡ cut (b ∷ bs) (cond t 0 (suc (line_length bs))) ∷ lines (drop (cond t 0 (suc (line_length bs))) bs)
cut_step true b bs h = rw (lt-ltb 0 (suc (length bs)) (omega arith))
cut_step false b bs h = h

lines_cut : (b : ℕ) (bs : List ℕ)
    → lines (b ∷ bs) ≡ cut (b ∷ bs) (line_length (b ∷ bs)) ∷ lines (drop (suc (line_length (b ∷ bs))) (b ∷ bs))
unfolding lines line_length
lines_cut b [] = cut_step (eqb b line_feed) b [] refl
lines_cut b (c ∷ bs) =
    cut_step (eqb b line_feed) b (c ∷ bs) (ap (begin b) (lines_cut c bs) ∙ cut_begin b (c ∷ bs) (line_length (c ∷ bs)) (lines (drop (suc (line_length (c ∷ bs))) (c ∷ bs))))

-- a part of the text, cut from its front or behind its start
slice_cut : (at n m : ℕ) (text : List ℕ) → m ≡ at + n → take n (drop at text) ≡ slice at m text
slice_cut zero n m text e = let same : n ≡ m = omega arith in rw same
slice_cut (suc at) n m [] e = simp take-nil
slice_cut (suc at) n zero (x ∷ text) e = absurd (omega arith)
slice_cut (suc at) n (suc m) (x ∷ text) e = slice_cut at n m text (omega arith)

pub lines_some : (bs : List ℕ) → 0 < length bs → lines bs ≡ cut bs (line_length bs) ∷ lines (drop (suc (line_length bs)) bs)
lines_some [] h = absurd (omega arith)
lines_some (b ∷ bs) h = lines_cut b bs

-- The lines from a place of the text on: the one that begins there, and those behind its line feed.
module _ (text : List ℕ) (at end : ℕ) (inside : at < length text) (ends : end ≡ at + line_length (drop at text)) where
  ended_there : ltb (line_length (drop at text)) (length (drop at text)) ≡ ltb end (length text)
  ended_there =
      let n = line_length (drop at text) in
      let rest = length (drop at text) in
      elim (dec_lt end (length text)) [
        | yes h ↦ lt-ltb n rest (omega (arith, length-drop at text)) ∙ sym (lt-ltb end (length text) h)
        | no h ↦ le-ltb n rest (omega (arith, length-drop at text)) ∙ sym (le-ltb end (length text) (omega arith))
      ]

  pub lines_from : lines (drop at text) ≡ line_from text at end ∷ lines (drop (end + 1) text)
  lines_from =
      let behind : at + suc (line_length (drop at text)) ≡ end + 1 = omega arith in
      lines_some (drop at text) (omega (arith, length-drop at text))
      ∙ ap₂ (λ l ls. l ∷ ls)
      (λ i. record { digits = slice_cut at (line_length (drop at text)) end text ends i; ended = ended_there i })
      (ap lines (drop-drop (suc (line_length (drop at text))) at text ∙ ap (λ k. drop k text) behind))

  pub end_most : end ≤ length text
  end_most = omega (arith, length_most (drop at text), length-drop at text)

  pub read_first : (p : Place) (line : ℕ) → line_read text at p line ≡ judged at p line (line_from text at end)
  unfolding line_read
  read_first p line = ap (first_read at p line) lines_from

pub read_past : (text : List ℕ) (at : ℕ) (p : Place) (line : ℕ) → length text ≤ at → Ok Nothing ≡ line_read text at p line
unfolding line_read
read_past text at p line h = rw (drop_of_length-le text {i = at} h)
