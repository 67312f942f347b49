-- Laws of the column: the digits before the first byte that is none, and the place that this byte has.
use Prim.Native.Nat.{ℕ, suc, ◌≤◌, ◌<◌}
use mathlib.Core.Path.{◌≡◌, refl, sym, ◌∙◌, ap}
use mathlib.Core.Logic.{⊎_elim}
use mathlib.Core.Bool.{Bool, true, false, cond, ◌&&◌}
use mathlib.Core.List.Memᴰ
use mathlib.Core.List.{List, [], ◌∷◌, ◌++◌, Memᴰ}
use native.Mathlib.Decide.{dec_lt}
use native.Mathlib.Omega.{arith}
use lib.ListN.{length, length-append}
use lib.Dec.{ltb}
use borrow.Author.Tests.{lt-ltb, le-ltb}
use Rattle.frames.specs.Text.{digit, all_digits, digits_before}
use Rattle.frames.specs.Fault.{FirstBad}
use Rattle.frames.proofs.Numbers.{digit_most}
use Rattle.frames.proofs.Tests.{never}

pub before_all : (ds : List ℕ) → length ds ≤ digits_before ds → all_digits ds ≡ true
unfolding all_digits digits_before
before_all [] h = refl
before_all (b ∷ bs) h = go (ltb (digit b) 16) (before_all bs) h
  where
    go : (t : Bool) → (length bs ≤ digits_before bs → all_digits bs ≡ true) → suc (length bs) ≤ cond t (suc (digits_before bs)) 0
        → (t && all_digits bs) ≡ true
    go true later h = later (omega arith)
    go false later h = absurd (omega arith)

pub before_some : (ds : List ℕ) → digits_before ds < length ds → all_digits ds ≡ false
unfolding all_digits digits_before
before_some [] h = absurd (omega arith)
before_some (b ∷ bs) h = go (ltb (digit b) 16) (before_some bs) h
  where
    go : (t : Bool) → (digits_before bs < length bs → all_digits bs ≡ false) → cond t (suc (digits_before bs)) 0 < suc (length bs)
        → (t && all_digits bs) ≡ false
    go true later h = later (omega arith)
    go false later h = refl

-- one digit more in front
module _ (b : ℕ) (bs : List ℕ) (is : digit b < 16) where
  pub digit_more : digits_before (b ∷ bs) ≡ suc (digits_before bs)
  unfolding digits_before
  digit_more = rw (lt-ltb (digit b) 16 is)

  all_more : all_digits (b ∷ bs) ≡ all_digits bs
  unfolding all_digits
  all_more = rw (lt-ltb (digit b) 16 is)

-- a byte in front that is no digit
pub digit_none : (b : ℕ) (bs : List ℕ) → digit b ≡ 16 → digits_before (b ∷ bs) ≡ 0
unfolding digits_before
digit_none b bs is = rw (le-ltb (digit b) 16 (omega arith))

-- Where not all bytes are digits, the one behind those that `digits_before` counts is the first that is none.
pub first_found : (ds : List ℕ) → all_digits ds ≡ false → FirstBad ds (suc (digits_before ds))
unfolding all_digits
first_found [] e = never cc
first_found (b ∷ bs) e =
    elim (dec_lt (digit b) 16) [
      | yes h ↦ later h (first_found bs (sym (all_more b bs h) ∙ e))
      | no h ↦ here (omega (arith, digit_most b))
    ]
  where
    later : digit b < 16 → FirstBad bs (suc (digits_before bs)) → FirstBad (b ∷ bs) (suc (digits_before (b ∷ bs)))
    later h f =
        record {
          before = b ∷ f.before;
          bad = f.bad;
          after = f.after;
          listed = ap (λ (cs : List ℕ). b ∷ cs) f.listed;
          placed = omega (arith, digit_more b bs h, f.placed);
          wrong = f.wrong;
          right = λ c m. ⊎_elim (λ (q : c ≡ b). rw q h) (λ (m' : Memᴰ c f.before). f.right c m') (Memᴰ.cases_cons m);
        }

    here : digit b ≡ 16 → FirstBad (b ∷ bs) (suc (digits_before (b ∷ bs)))
    here h =
        record {
          before = [];
          bad = b;
          after = bs;
          listed = refl;
          placed = omega (arith, digit_none b bs h);
          wrong = h;
          right = λ c m. absurd (Memᴰ.not-nil m);
        }

-- No other place is the first.
pub first_only : (ds : List ℕ) (place : ℕ) → FirstBad ds place → suc (digits_before ds) ≡ place
first_only ds place f = omega (arith, ap digits_before f.listed, counts f.before f.right, f.placed)
  where
    counts : (before : List ℕ) → ((b : ℕ) → Memᴰ b before → digit b < 16)
        → digits_before (before ++ (f.bad ∷ f.after)) ≡ length before
    counts [] right = digit_none f.bad f.after f.wrong
    counts (b ∷ before) right =
        omega
        (arith, digit_more b (before ++ (f.bad ∷ f.after)) (right b (Memᴰ.head refl)), counts before (λ c m. right c (Memᴰ.tail m)))

pub first_wrong : (ds : List ℕ) (place : ℕ) → FirstBad ds place → all_digits ds ≡ false
first_wrong ds place f =
    before_some ds
    (omega (arith, first_only ds place f, f.placed, ap length f.listed, length-append f.before (f.bad ∷ f.after)))
