-- Laws of written lines: a frame's digits that stand in a row, with a line feed past them, are its line.
use Prim.Native.Nat.{ℕ, ◌+◌, ◌≤◌, ◌<◌}
use mathlib.Core.Path.{◌≡◌, refl, ap, ◌∙◌}
use mathlib.Core.Bool.{true, false}
use mathlib.Core.List.{List, [], ◌∷◌, ◌++◌}
use native.Mathlib.Nat.{zero-add}
use native.Mathlib.Omega.{arith}
use lib.ListN.{length, set, drop, length-append}
use lib.Seq.{sets, sets-eq}
use lib.Dec.{ltb}
use borrow.Author.Tests.{lt-ltb, le-ltb}
use Rattle.frames.specs.declared.Refusal.{Refusal}
use Rattle.std.specs.Prelude.{Result, Ok, Err}
use Rattle.frames.specs.Refusal.{no_room}
use Rattle.frames.specs.Text.{line_feed}
use Rattle.frames.specs.Digits.{digits, spell_line}
use Rattle.frames.specs.Put.{Fed, line_answer, line_row, LineWritten}
use Rattle.frames.proofs.Puts.{Stands, stands_kept, sets_append}

line_is : (bs : List ℕ) → spell_line bs ≡ digits bs ++ (line_feed ∷ [])
unfolding spell_line
line_is bs = refl

pub length_line : (bs : List ℕ) → length (spell_line bs) ≡ length (digits bs) + 1
length_line bs = ap length (line_is bs) ∙ length-append (digits bs) (line_feed ∷ [])

-- Nothing is always written.
pub line_none : (out : List ℕ) → LineWritten [] out (Ok 0) out
unfolding line_answer line_row
line_none out = let e : ltb (length out) 0 ≡ false = le-ltb (length out) 0 (omega arith) in record { answer = rw e; kept = rw e }

-- A row shorter than the line keeps its content.
pub line_short : (line out : List ℕ) {r : Refusal} → r ≡ no_room → length out < length line → LineWritten line out (Err r) out
unfolding line_answer line_row
line_short line out is h =
    let e : ltb (length out) (length line) ≡ true = lt-ltb _ _ h in
    record { answer = rw e (ap (λ f. Err f) is); kept = rw e }

module _ (bs out : List ℕ) (mid : ℕ) (part : List ℕ) (fits : length (spell_line bs) ≤ length out) (s : Stands bs 0 out mid part) where
  feed_fits : mid < length part
  feed_fits = omega (arith, s.past, stands_kept s, length_line bs)

  in_front : set part mid line_feed ≡ spell_line bs ++ drop (length (spell_line bs)) out
  in_front =
      let stores : set part mid line_feed ≡ sets out 0 (spell_line bs) =
      cc (sets_append out 0 (digits bs) (line_feed ∷ []), line_is bs, s.past, s.row_is)
      in
      stores ∙ sets-eq (spell_line bs) out 0 (omega arith) ∙ rw zero-add

  -- With the line feed past its digits the line stands in front of the row.
  pub line_ends : (r : Result ℕ Refusal) (row : List ℕ) → Fed mid part r row → LineWritten (spell_line bs) out r row
  unfolding line_answer line_row
  line_ends r row fed =
      let e : ltb (length out) (length (spell_line bs)) ≡ false = le-ltb _ _ fits in
      let there : ltb mid (length part) ≡ true = lt-ltb _ _ feed_fits in
      let n : mid + 1 ≡ length (spell_line bs) = omega (arith, s.past, length_line bs) in
      record {
        answer = rw e ((rw there at fed.answer) ∙ ap (λ k. Ok k) n);
        kept = rw e ((rw there at fed.kept) ∙ in_front);
      }
