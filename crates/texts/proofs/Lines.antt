-- Laws of lines: spelled lines are read one by one, a text whose lines are all ended is its lines put together, and how many
-- lines a text has at most, and how long they are.
use Prim.Native.Nat.{ℕ, suc, ◌≤◌}
use mathlib.Core.Path.{◌≡◌, refl}
use mathlib.Core.Logic.{⊎_elim}
use mathlib.Core.Bool.{Bool, true, false, cond}
use mathlib.Core.List.Memᴰ
use mathlib.Core.List.{List, [], ◌∷◌, ◌++◌, map, append_assoc, Memᴰ}
use native.Mathlib.Omega.{arith}
use borrow.Author.Tests.{eq-eqb, ne_eqb}
use lib.ListN.{length, get_or}
use lib.Dec.{eqb}
use Rattle.model.specs.Basics.{gather}
use Rattle.model.proofs.Lists.{same_or_not}
use Rattle.frames.specs.Text.{line_feed, Line, begin, lines}
use Rattle.frames.specs.Digits.{byte_digits, spell_line}
use Rattle.texts.specs.Spelling.{join}
use Rattle.frames.proofs.Tests.{never}
use Rattle.frames.proofs.Digits.{digits_no_feed}

-- a line that is ended, of given digits
abbrev pub line_of : List ℕ → Line
line_of ds = record { digits = ds; ended = true }

-- digits without a line feed, and then one, are a line
pub lines_first : (ds rest : List ℕ) → ((i : ℕ) → get_or ds i 0 ≡ line_feed → ⊥)
    → lines (ds ++ line_feed ∷ rest) ≡ line_of ds ∷ lines rest
unfolding lines begin
lines_first [] rest h = refl
lines_first (d ∷ ds) rest h = rw (ne_eqb d line_feed (h 0), lines_first ds rest (λ i. h (suc i)))

pub lines_spelled : (bs rest : List ℕ) → lines (spell_line bs ++ rest) ≡ line_of (gather byte_digits bs) ∷ lines rest
unfolding spell_line
lines_spelled bs rest = rw append_assoc (lines_first (gather byte_digits bs) rest (digits_no_feed bs))

-- every line is ended
abbrev pub AllEnded : List Line → Type 0
AllEnded [] = Unit {0}
AllEnded (l ∷ ls) = (l.ended ≡ true) × AllEnded ls

-- the bytes of a line that is ended
unfoldable pub line_text : Line → List ℕ
line_text l = l.digits ++ (line_feed ∷ [])

begin_ended : (b : ℕ) (ls : List Line) → AllEnded (begin b ls)
    → AllEnded ls × (join (map line_text (begin b ls)) ≡ b ∷ join (map line_text ls))
unfolding begin join line_text
begin_ended b [] h = let z = h.0 in never cc
begin_ended b (l ∷ ls) h = (h, refl)

lines_other : (b : ℕ) (bs : List ℕ) → (b ≡ line_feed → ⊥) → lines (b ∷ bs) ≡ begin b (lines bs)
unfolding lines
lines_other b bs d = rw (ne_eqb b line_feed d)

lines_feed : (b : ℕ) (bs : List ℕ) → b ≡ line_feed → lines (b ∷ bs) ≡ line_of [] ∷ lines bs
unfolding lines
lines_feed b bs e = rw (eq-eqb b line_feed e)

pub text_of_lines : (text : List ℕ) → AllEnded (lines text) → join (map line_text (lines text)) ≡ text
unfolding join line_text
text_of_lines [] h = unfold lines in refl
text_of_lines (b ∷ bs) h =
    ⊎_elim
    (λ (e : b ≡ line_feed).
    let k = rw (lines_feed b bs e) at h in rw (lines_feed b bs e, text_of_lines bs k.1, e))
    (λ (d : b ≡ line_feed → ⊥).
    let k = begin_ended b (lines bs) (rw (lines_other b bs d) at h) in
    rw (lines_other b bs d, k.1, text_of_lines bs k.0))
    (same_or_not b line_feed)

-- A text has no more lines than bytes, and no line is longer than the text.

begin_few : (b : ℕ) (ls : List Line) → length (begin b ls) ≤ suc (length ls)
unfolding begin
begin_few b [] = omega arith
begin_few b (l ∷ ls) = omega arith

pub lines_few : (text : List ℕ) → length (lines text) ≤ length text
unfolding lines
lines_few [] = omega arith
lines_few (b ∷ bs) = go (eqb b line_feed) (lines_few bs)
  where
    go : (t : Bool) → length (lines bs) ≤ length bs → length (cond t (line_of [] ∷ lines bs) (begin b (lines bs))) ≤ suc (length bs)
    go true few = omega arith
    go false few = omega (arith, begin_few b (lines bs))

begin_within : (b most : ℕ) (ls : List Line) (l : Line) → ((k : Line) → Memᴰ k ls → length k.digits ≤ most)
    → Memᴰ l (begin b ls) → length l.digits ≤ suc most
unfolding begin
begin_within b most [] l all m = rw (Memᴰ.eq_of_singleton m) (omega arith)
begin_within b most (k ∷ ls) l all m =
    ⊎_elim (λ (q : l ≡ _). rw q (omega (arith, all k (Memᴰ.head refl))))
    (λ (later : Memᴰ l ls). omega (arith, all l (Memᴰ.tail later)))
    (Memᴰ.cases_cons m)

pub line_within : (text : List ℕ) (l : Line) → Memᴰ l (lines text) → length l.digits ≤ length text
unfolding lines
line_within [] l m = absurd (Memᴰ.not-nil m)
line_within (b ∷ bs) l m = go (eqb b line_feed) (line_within bs) m
  where
    go : (t : Bool) → ((k : Line) → Memᴰ k (lines bs) → length k.digits ≤ length bs)
        → Memᴰ l (cond t (line_of [] ∷ lines bs) (begin b (lines bs))) → length l.digits ≤ suc (length bs)
    go true all m =
        ⊎_elim (λ (q : l ≡ line_of []). rw q (omega arith)) (λ (later : Memᴰ l (lines bs)). omega (arith, all l later)) (Memᴰ.cases_cons m)
    go false all m = begin_within b (length bs) (lines bs) l all m
