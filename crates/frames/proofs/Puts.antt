-- Laws of writing: what a put row is, and that puts in a row are one put.
use Prim.Native.Nat.{ℕ, suc, ◌+◌, ◌*◌, ◌/◌, ◌%◌, ◌≤◌, ◌<◌}
use mathlib.Core.Path.{◌≡◌, refl, ap, ◌∙◌}
use mathlib.Core.Bool.{true, false}
use mathlib.Core.List.{List, [], ◌∷◌, ◌++◌, append_assoc, append-nil}
use native.Mathlib.Nat.{add-zero, add-suc, suc-add}
use native.Mathlib.Numerals.{add-one}
use native.Mathlib.Omega.{arith}
use lib.ListN.{length, get_or, set, take, length-append, length-take}
use lib.Seq.{sets, length-sets, take-suc}
use lib.Dec.{leb}
use borrow.Author.Tests.{le-leb, lt-leb}
use Rattle.std.specs.Int.{w16, w32, to_be_bytes}
use Rattle.model.specs.Basics.{gather}
use Rattle.frames.specs.Digits.{figure, byte_digits, word_bytes, long_bytes, digits}
use Rattle.frames.specs.Put.{room, Put}
use Rattle.frames.proofs.Digits.{length_digits}

-- The digits of these bytes stand in the row from that place on, and next is the place past them.
pub record Stands (bs : List ℕ) (at : ℕ) (out : List ℕ) (next : ℕ) (row : List ℕ) : Type 0 where
  pub past : next ≡ at + length (digits bs)
  pub row_is : row ≡ sets out at (digits bs)

pub put_none : (bs : List ℕ) (at : ℕ) (out : List ℕ) → length out < at + length (digits bs) → Put bs at out at out
unfolding room
put_none bs at out h =
    let e : leb (at + length (digits bs)) (length out) ≡ false = lt-leb _ _ h in
    record { answer = rw e; kept = rw e }

pub put_all : (bs : List ℕ) (at : ℕ) (out : List ℕ) (next : ℕ) (row : List ℕ) → at + length (digits bs) ≤ length out → Stands bs at out next row → Put bs at out next row
unfolding room
put_all bs at out next row h s =
    let e : leb (at + length (digits bs)) (length out) ≡ true = le-leb _ _ h in
    record { answer = rw e s.past; kept = rw e s.row_is }

pub put_stands : (bs : List ℕ) (at : ℕ) (out : List ℕ) (next : ℕ) (row : List ℕ) → at + length (digits bs) ≤ length out → Put bs at out next row → Stands bs at out next row
unfolding room
put_stands bs at out next row h p =
    let e : leb (at + length (digits bs)) (length out) ≡ true = le-leb _ _ h in
    record { past = rw e at p.answer; row_is = rw e at p.kept }

pub sets_append : (l : List ℕ) (i : ℕ) (xs ys : List ℕ) → sets l i (xs ++ ys) ≡ sets (sets l i xs) (i + length xs) ys
sets_append l i [] ys = rw add-zero
sets_append l i (x ∷ xs) ys = rw (sets_append (set l i x) (suc i) xs ys, add-suc, suc-add)

pub gather_append : (f : ℕ → List ℕ) (xs ys : List ℕ) → gather f (xs ++ ys) ≡ gather f xs ++ gather f ys
unfolding gather
gather_append f [] ys = refl
gather_append f (x ∷ xs) ys = rw (gather_append f xs ys, append_assoc)

digits_append : (xs ys : List ℕ) → digits (xs ++ ys) ≡ digits xs ++ digits ys
unfolding digits
digits_append xs ys = gather_append byte_digits xs ys

-- Bytes put past bytes that stand already: all of them stand, one after the other.
pub stands_then : (xs ys : List ℕ) (at : ℕ) (out : List ℕ) (mid : ℕ) (part : List ℕ) (next : ℕ) (row : List ℕ)
    → at + length (digits (xs ++ ys)) ≤ length out → Stands xs at out mid part → Put ys mid part next row → Stands (xs ++ ys) at out next row
stands_then xs ys at out mid part next row h s p =
    let both : length (digits (xs ++ ys)) ≡ length (digits xs) + length (digits ys) = ap length (digits_append xs ys) ∙ length-append (digits xs) (digits ys) in
    let kept : length part ≡ length out = ap length s.row_is ∙ length-sets out at (digits xs) in
    let t : Stands ys mid part next row = put_stands ys mid part next row (omega (arith, s.past)) p in
    record {
      past = omega arith;
      row_is =
          t.row_is
          ∙ cc (sets_append out at (digits xs) (digits ys), digits_append xs ys, s.past, s.row_is);
    }

pub puts : (xs ys : List ℕ) (at : ℕ) (out : List ℕ) (mid : ℕ) (part : List ℕ) (next : ℕ) (row : List ℕ)
    → at + length (digits (xs ++ ys)) ≤ length out → Put xs at out mid part → Put ys mid part next row → Put (xs ++ ys) at out next row
puts xs ys at out mid part next row h p q =
    let both : length (digits (xs ++ ys)) ≡ length (digits xs) + length (digits ys) = ap length (digits_append xs ys) ∙ length-append (digits xs) (digits ys) in
    put_all (xs ++ ys) at out next row h (stands_then xs ys at out mid part next row h (put_stands xs at out mid part (omega arith) p) q)

-- Words are four digits each.
pub length_words : (ws : List ℕ) → length (digits (gather word_bytes ws)) ≡ 4 * length ws
unfolding digits gather byte_digits word_bytes
length_words [] = refl
length_words (w ∷ ws) = let rest : length (digits (gather word_bytes ws)) ≡ 4 * length ws = length_words ws in omega arith

-- One more of a list's numbers behind the first i of them.
gather_more : (f : ℕ → List ℕ) (xs : List ℕ) (i : ℕ) → i < length xs → gather f (take (i + 1) xs) ≡ gather f (take i xs) ++ f (get_or xs i 0)
unfolding gather
gather_more f xs i more = rw (add-one, take-suc xs i 0) (gather_append f (take i xs) (get_or xs i 0 ∷ []) ∙ ap (λ ys. gather f (take i xs) ++ ys) (append-nil (f (get_or xs i 0))))

-- One more word put past the first i.
pub words_more : (ws : List ℕ) (i at : ℕ) (out : List ℕ) (mid : ℕ) (part : List ℕ) (next : ℕ) (row : List ℕ)
    → i < length ws → at + 4 * length ws ≤ length out → Stands (gather word_bytes (take i ws)) at out mid part
    → Put (word_bytes (get_or ws i 0)) mid part next row → Stands (gather word_bytes (take (i + 1) ws)) at out next row
words_more ws i at out mid part next row more h s p =
    let e : gather word_bytes (take (i + 1) ws) ≡ gather word_bytes (take i ws) ++ word_bytes (get_or ws i 0) = gather_more word_bytes ws i more in
    let fits : at + length (digits (gather word_bytes (take (i + 1) ws))) ≤ length out =
    simp (length_words, length-take) (omega arith)
    in
    rw e (stands_then _ _ at out mid part next row (rw e at fits) s p)

-- Bytes are two digits each.
pub length_bytes : (bs : List ℕ) → length (digits bs) ≡ 2 * length bs
unfolding digits
length_bytes bs = length_digits bs

-- One more byte put past the first i, a digit after the other.
pub bytes_more : (bs : List ℕ) (i at : ℕ) (out : List ℕ) (mid : ℕ) (part : List ℕ) {high low : ℕ} → i < length bs
    → high ≡ figure (get_or bs i 0 / 16) → low ≡ figure (get_or bs i 0 % 16)
    → Stands (take i bs) at out mid part → Stands (take (i + 1) bs) at out (mid + 2) (set (set part mid high) (mid + 1) low)
unfolding digits byte_digits
bytes_more bs i at out mid part {high} {low} more h l s =
    let e : digits (take (i + 1) bs) ≡ digits (take i bs) ++ byte_digits (get_or bs i 0) = gather_more byte_digits bs i more in
    record {
      past = omega (arith, s.past, ap length e, length-append (digits (take i bs)) (byte_digits (get_or bs i 0)));
      row_is = rw (e, h, l) (cc (sets_append out at (digits (take i bs)) (byte_digits (get_or bs i 0)), s.past, s.row_is, add-one mid));
    }

-- What the bytes of a number are, and so what a put of them puts.
pub word_be : (w : ℕ) → to_be_bytes w16 w ≡ word_bytes w
unfolding word_bytes
word_be w = refl

pub long_be : (w : ℕ) → to_be_bytes w32 w ≡ long_bytes w
unfolding long_bytes word_bytes
long_be w =
    let a : w / 16777216 % 256 ≡ w / 65536 / 256 % 256 = omega arith in
    let b : w / 256 % 256 ≡ w % 65536 / 256 % 256 = omega arith in
    let c : w % 256 ≡ w % 65536 % 256 = omega arith in
    cc

pub put_word : (w : ℕ) {at : ℕ} {bs out : List ℕ} {next : ℕ} {row : List ℕ} → bs ≡ to_be_bytes w16 w → Put bs at out next row
    → Put (word_bytes w) at out next row
put_word w e p = rw (← word_be w, ← e) p

pub stands_none : (at : ℕ) (out : List ℕ) → Stands [] at out at out
unfolding digits gather
stands_none at out = record { past = omega arith; row_is = refl }

pub stands_kept : {bs : List ℕ} {at : ℕ} {out : List ℕ} {next : ℕ} {row : List ℕ} → Stands bs at out next row → length row ≡ length out
stands_kept {bs} {at} {out} s = ap length s.row_is ∙ length-sets out at (digits bs)
