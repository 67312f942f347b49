-- [O6] `ReadingExactly` of specs/Exactly.antt: reading a text answers a refusal exactly when the table says it, and a network
-- exactly when the table says nothing.
-- After faultless lines the walk stands where `Before` says, so what the table says of the next line, of the end or of the
-- weights is what reading answers there. And of every text it says something or a network is read: follow the lines until
-- one is faulty or none is left, then look at the place and at the weights. An answer is never two answers, so each is told
-- exactly when it is said.
use Prim.Native.Nat.{ℕ, suc, ◌+◌, ◌≤◌, ◌<◌}
use mathlib.Core.Path.{◌≡◌, refl, sym, ◌∙◌, ap}
use mathlib.Core.List.{List, [], ◌∷◌, ◌++◌, append-nil, append_assoc}
use mathlib.Core.Option.{Option, none, some}
use native.Mathlib.Decide.{dec_le}
use native.Mathlib.Omega.{arith}
use borrow.Author.Tests.{lt-ltb, le-ltb}
use lib.ListN.{length, length-append}
use Rattle.model.specs.Network.{Network}
use Rattle.frames.specs.declared.Place.{Place}
use Rattle.frames.specs.declared.Place.TheVariants.{Opening, AfterGates, Closed}
use Rattle.frames.specs.Text.{Line, lines}
use Rattle.frames.specs.Table.{fault, column, next_place}
use Rattle.frames.proofs.Fault.{fault_given, fault_none}
use Rattle.frames.proofs.FormExactly.{column_exactly}
use Rattle.frames.specs.declared.Refusal.{Refusal}
use Rattle.frames.specs.Refusal.{at_column, at_line, at_no_line}
use Rattle.texts.specs.Reading.{refused, network, most_text, nothing_read, take_in, at_the_end, unless, walk, first_heavy, told_heavy, weigh, reading}
use Rattle.texts.specs.Says.{Before, first, after, Says, too_long, faulty_line, no_end, too_heavy, Reads}
use Rattle.texts.specs.Exactly.{ReadingExactly}
use Rattle.texts.proofs.Exactly.{Some, said, read, exactly}
use Rattle.texts.proofs.Heavy.{heavy_told, heavy_none}

-- the walk, line by line

pub walk_clean :
    (p : Place) (at : ℕ) (n : Network) (l : Line) (ls : List Line) →
    fault p l ≡ none → walk p at n (l ∷ ls) ≡ walk (next_place p l) (suc at) (take_in n p l) ls
unfolding walk unless
walk_clean p at n l ls h = rw h

pub walk_faulty :
    (p : Place) (at : ℕ) (n : Network) (l : Line) (ls : List Line) (k : ℕ) →
    fault p l ≡ some k → walk p at n (l ∷ ls) ≡ refused (at_column k at (column k l))
unfolding walk unless
walk_faulty p at n l ls k h = rw h

length_next : (front : List Line) (l : Line) → length (front ++ (l ∷ [])) ≡ suc (length front)
length_next front l = simp length-append (omega arith)

-- after faultless lines the walk stands where they lead
walk_past :
    {front : List Line} {p : Place} {n : Network} →
    Before front p n → (rest : List Line) → walk Opening 1 nothing_read (front ++ rest) ≡ walk p (suc (length front)) n rest
walk_past first rest = refl
walk_past (after {front = front} {p = p} {n = n} {l = l} b clear) rest =
    rw (append_assoc front (l ∷ []) rest, length_next front l)
    (walk_past b (l ∷ rest) ∙ walk_clean p (suc (length front)) n l rest ((fault_none p l).1 clear))

-- the end of the walk

open_end : (p : Place) (at : ℕ) (n : Network) → (p ≡ Closed → ⊥) → at_the_end p at n ≡ refused (at_line 3 at)
unfolding at_the_end
open_end Opening at n h = refl
open_end (AfterGates g) at n h = refl
open_end Closed at n h = absurd (h refl)

-- all lines faultless: the walk ends where they lead
pub walk_whole :
    {ls : List Line} {p : Place} {n : Network} →
    Before ls p n → walk Opening 1 nothing_read ls ≡ at_the_end p (suc (length ls)) n
unfolding walk
walk_whole {ls} b = ap (walk Opening 1 nothing_read) (sym (append-nil ls)) ∙ walk_past b []

-- reading, a part at a time

pub read_too_long : (text : List ℕ) → most_text < length text → reading text ≡ refused (at_no_line 1)
unfolding reading
read_too_long text h = rw (lt-ltb most_text (length text) h)

pub read_fitting : (text : List ℕ) → length text ≤ most_text → reading text ≡ weigh (walk Opening 1 nothing_read (lines text))
unfolding reading
read_fitting text h = rw (le-ltb most_text (length text) h)

-- Where the table says a number, reading answers it.
refused_says : (text : List ℕ) (f : Refusal) → Says text f → reading text ≡ refused f
unfolding weigh at_the_end told_heavy
refused_says text _ (too_long h) = read_too_long text h
refused_says text _ (faulty_line {front = front} {l = l} {p = p} {n = n} {k = k} {c = c} back fits b here given pointed) =
    read_fitting text fits
    ∙ ap weigh
    (ap (walk Opening 1 nothing_read) here
    ∙ walk_past b (l ∷ back)
    ∙ walk_faulty p (suc (length front)) n l back k ((fault_given k p l).1 given)
    ∙ ap (λ (place : ℕ). refused (at_column k (suc (length front)) place)) ((column_exactly k p l given c).1 pointed))
refused_says text _ (no_end {p = p} {n = n} fits b h) =
    read_fitting text fits ∙ ap weigh (walk_whole b ∙ open_end p (suc (length (lines text))) n h)
refused_says text _ (too_heavy {n = n} {v = v} fits b h) =
    read_fitting text fits ∙ ap weigh (walk_whole b) ∙ ap (λ o. told_heavy o n) ((heavy_told n (v + 2)).1 (v, h, refl))

-- Where the text is a network's, reading answers that network.
network_reads : (text : List ℕ) (n : Network) → Reads text n → reading text ≡ network n
unfolding weigh at_the_end told_heavy
network_reads text n r =
    read_fitting text r.fits ∙ ap weigh (walk_whole r.whole) ∙ ap (λ o. told_heavy o n) ((heavy_none n).1 r.light)

-- The table says something of a text, or the text is a network's: the lines are followed until one is faulty or none is left.
module _ (text : List ℕ) (fits : length text ≤ most_text) where
  weighed : (n : Network) → Before (lines text) Closed n → (o : Option ℕ) → first_heavy n.capacity 2 n.gates ≡ o → Some (Says text) (Reads text)
  weighed n b none e = read (record { fits = fits; whole = b; light = (heavy_none n).0 e })
  weighed n b (some at) e = said (too_heavy fits b ((heavy_told n at).0 e).1)

  ended : (p : Place) (n : Network) → Before (lines text) p n → Some (Says text) (Reads text)
  ended Opening n b = said (no_end fits b (λ e. let z : ◌≡◌ {A = ℕ} 0 1 = cc in omega arith))
  ended (AfterGates g) n b = said (no_end fits b (λ e. let z : ◌≡◌ {A = ℕ} 0 1 = cc in omega arith))
  ended Closed n b = weighed n b (first_heavy n.capacity 2 n.gates) refl

  followed :
      (rest front : List Line) (p : Place) (n : Network) →
      Before front p n → lines text ≡ front ++ rest → Some (Says text) (Reads text)
  followed [] front p n b here = ended p n (rw (here, append-nil front) b)
  followed (l ∷ rest) front p n b here =
      go (fault p l) refl (followed rest (front ++ (l ∷ [])) (next_place p l) (take_in n p l))
    where
      go :
          (o : Option ℕ) →
          fault p l ≡ o →
          (Before (front ++ (l ∷ [])) (next_place p l) (take_in n p l) →
          lines text ≡ (front ++ (l ∷ [])) ++ rest → Some (Says text) (Reads text)) →
          Some (Says text) (Reads text)
      go none e later = later (after b ((fault_none p l).0 e)) (here ∙ sym (append_assoc front (l ∷ []) rest))
      go (some k) e later =
          let given = (fault_given k p l).0 e in
          said (faulty_line rest fits b here given ((column_exactly k p l given (column k l)).0 refl))

says_or_reads : (text : List ℕ) → Some (Says text) (Reads text)
says_or_reads text =
    elim (dec_le (length text) most_text) [
      | yes fits ↦ followed text fits (lines text) [] Opening nothing_read first refl
      | no h ↦ said (too_long (omega arith))
    ]

pub reading_exactly : ReadingExactly
reading_exactly text =
    exactly (Says text) (Reads text) (reading text) (refused_says text) (network_reads text) (says_or_reads text)
