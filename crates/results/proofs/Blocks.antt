-- Laws of specs/Block.antt: what is answered in each case.
use Rattle.std.specs.Prelude.{Result, Ok, Err}
use Rattle.std.specs.Result.{result_unwrap_or}
use Rattle.results.specs.Block.{block_of}
use Rattle.results.specs.declared.block.Block.{Block}
use Prim.Native.Nat.{ℕ, zero, suc, ◌+◌, ◌*◌, ◌-◌, ◌≤◌, ◌<◌}
use mathlib.Core.Path.{◌≡◌, refl, sym, ◌∙◌, ap}
use mathlib.Core.Logic.{⊎_elim}
use mathlib.Core.Bool.{true, false}
use mathlib.Core.List.{List, [], ◌∷◌, ◌++◌, append-nil}
use native.Mathlib.Omega.{arith}
use borrow.Author.Tests.{ltb-true, ltb-false, lt-ltb, le-ltb}
use lib.Dec.{ltb}
use lib.ListN.{length, take, drop, length-append, length-drop, drop_of_length-le}
use lib.Seq.{take_all, drop_at, drop-append-add, drop-drop}
use Rattle.model.specs.Network.{Network, size}
use Rattle.model.proofs.Lists.{true_or_false}
use Rattle.frames.specs.declared.Refusal.{Refusal}
use Rattle.frames.specs.Refusal.{no_room}
use Rattle.frames.specs.Digits.{spell_line}
use Rattle.frames.proofs.Tests.{never}
use Rattle.frames.specs.Put.{line_at, line_answer, line_row, LineWritten}
use Rattle.texts.specs.Reading.{Reading, refused, network}
use Rattle.texts.specs.Spelling.{join}
use Rattle.labelling.specs.Promises.{either_short}
use Rattle.labelling.proofs.Room.{room}
use Rattle.selection.specs.Selection.{roots}
use Rattle.selection.proofs.Roots.{roots_few}
use Rattle.results.specs.Result.{result_lines, refusal_bytes}
use Rattle.results.specs.Line.{told_line}
use Rattle.results.specs.Block.{fitting, run_answer, in_front, lines_answer, lines_row, LinesWritten, drawn_lines, block_answer, block_row, BlockAnswered, refusal_lines}
use Rattle.results.specs.steps.Line.{later_lines}
use Rattle.results.specs.steps.Block.{if_fits, Added, Begun, Ran}
use Rattle.results.specs.steps.Marked.{refusing}
use Rattle.results.proofs.Lengths.{line_length, result_count}
use Rattle.results.proofs.LineAt.{first_at, label_at, later_at, cluster_at, end_at}
use Rattle.results.proofs.Fitting.{Full, length_front, drop_first}

-- a line that was written, or had no room

module _ (line out : List ℕ) {r : Result ℕ Refusal} {row : List ℕ} (w : LineWritten line out r row) where
  has_room : {bytes : ℕ} → r ≡ Ok bytes → (length line ≤ length out) × (bytes ≡ length line) × (row ≡ in_front line out)
  unfolding line_answer line_row
  has_room e =
      ⊎_elim (λ t. let same = sym e ∙ (rw t at w.answer) in never cc)
      (λ t. let same = sym e ∙ (rw t at w.answer) in (ltb-false _ _ t, cc, rw t at w.kept))
      (true_or_false (ltb (length out) (length line)))

  lacks_room : {f : Refusal} → r ≡ Err f → (length out < length line) × (f ≡ no_room) × (row ≡ out)
  unfolding line_answer line_row
  lacks_room e =
      ⊎_elim (λ t. let same = sym e ∙ (rw t at w.answer) in (ltb-true _ _ t, cc, rw t at w.kept))
      (λ t. let same = sym e ∙ (rw t at w.answer) in never cc)
      (true_or_false (ltb (length out) (length line)))

-- A line put into the part of a row from a place on.
module _ (line out : List ℕ) (at : ℕ) (within : at ≤ length out) where
  abbrev part : List ℕ
  part = take (length out - at) (drop at out)

  part_is : part ≡ drop at out
  part_is = take_all (length out - at) (drop at out) (omega (arith, length-drop at out))

  length_part : length part ≡ length out - at
  length_part = ap length part_is ∙ length-drop at out

  behind : drop (length out - at) (drop at out) ≡ []
  behind = drop_of_length-le (drop at out) {i = length out - at} (omega (arith, length-drop at out))

  module _ {r : Result ℕ Refusal} {row : List ℕ} (w : LineWritten line part r row) where
    not_added : {f : Refusal} → r ≡ Err f → Added line at out 0 (take at out ++ (row ++ drop (length out - at) (drop at out)))
    unfolding if_fits
    not_added e =
        let h = lacks_room line part w e in
        let t : ltb (length out - at) (length line) ≡ true = lt-ltb (length out - at) (length line) (omega (arith, h.0, length_part)) in
        let kept = h.2 ∙ part_is in
        let here : at + 0 ≡ at = omega arith in
        record { many = rw t; row_is = rw (t, behind, kept, append-nil, here) }

    added : {bytes : ℕ} → r ≡ Ok bytes → Added line at out bytes (take at out ++ (row ++ drop (length out - at) (drop at out)))
    unfolding if_fits
    added e =
        let h = has_room line part w e in
        let t : ltb (length out - at) (length line) ≡ false = le-ltb (length out - at) (length line) (omega (arith, h.0, length_part)) in
        let kept : row ≡ line ++ drop (at + length line) out = h.2 ∙ rw (part_is, drop-drop) in
        record { many = rw t h.1; row_is = rw (t, behind, kept, append-nil, h.1) }

    -- The bytes are none where the line has no room.
    pub put_from : Added line at out (result_unwrap_or r 0) (take at out ++ (row ++ drop (length out - at) (drop at out)))
    put_from = by r refl
      where
        by : (k : Result ℕ Refusal) → r ≡ k → Added line at out (result_unwrap_or k 0) (take at out ++ (row ++ drop (length out - at) (drop at out)))
        by (Ok n) e = added e
        by (Err f) e = not_added e

-- no line left, a first line without room, and a first line with room

none_left : (out : List ℕ) → LinesWritten [] out (Ok (block_of 0 0)) out
unfolding lines_answer lines_row run_answer fitting join
none_left out = record { answer = refl; kept = refl }

none_fits : (ls : List (List ℕ)) (out : List ℕ) {f : Refusal} → f ≡ no_room → length out < length (line_at 0 ls) → LinesWritten ls out (Err f) out
unfolding lines_answer lines_row run_answer fitting join line_at
none_fits [] out is h = absurd (omega arith)
none_fits (l ∷ ls) out is h = let t = lt-ltb (length out) (length l) h in record { answer = rw t (ap Err is); kept = rw t }

first_fits : (ls : List (List ℕ)) (room : ℕ) → length (line_at 0 ls) ≤ room → line_at 0 (fitting room ls) ≡ line_at 0 ls
unfolding fitting line_at
first_fits [] room h = refl
first_fits (l ∷ ls) room h = rw (le-ltb room (length l) h)

pub some_fit : (ls : List (List ℕ)) (room : ℕ) → length (line_at 0 ls) ≤ room
    → run_answer ls (fitting room ls) ≡ Ok (block_of (length (fitting room ls)) (length (join (fitting room ls))))
unfolding fitting line_at run_answer join
some_fit [] room h = refl
some_fit (l ∷ ls) room h = rw (le-ltb room (length l) h)

pub one_fits : (ls : List (List ℕ)) (room : ℕ) → length (line_at 0 ls) ≤ room → 0 < length ls → 0 < length (fitting room ls)
unfolding fitting line_at
one_fits [] room h some = absurd (omega arith)
one_fits (l ∷ ls) room h some = rw (le-ltb room (length l) h) (omega arith)

join_first : (ls : List (List ℕ)) → join ls ≡ line_at 0 ls ++ join (drop 1 ls)
unfolding join line_at
join_first [] = refl
join_first (l ∷ ls) = refl

-- what stands in front already may be put there again
front_twice : (bytes more out : List ℕ) → in_front (bytes ++ more) (in_front bytes out) ≡ in_front (bytes ++ more) out
front_twice bytes more out = rw (length-append, drop-append-add, drop-drop)

module _ (ls : List (List ℕ)) (out : List ℕ) {r : Result ℕ Refusal} {row : List ℕ} (w : LineWritten (line_at 0 ls) out r row) where
  lines_refused : {f g : Refusal} → g ≡ no_room → r ≡ Err f → LinesWritten ls out (Err g) row
  lines_refused is e = let h = lacks_room (line_at 0 ls) out w e in rw h.2 (none_fits ls out is h.0)

  module _ {first : ℕ} (e : r ≡ Ok first) where
    abbrev fits : length (line_at 0 ls) ≤ length out
    fits = (has_room (line_at 0 ls) out w e).0

    abbrev row_is : row ≡ in_front (line_at 0 ls) out
    row_is = (has_room (line_at 0 ls) out w e).2

    same_length : length row ≡ length out
    same_length = ap length row_is ∙ length_front (line_at 0 ls) out fits

    same_first : line_at 0 (fitting (length row) ls) ≡ line_at 0 ls
    same_first = first_fits ls (length row) (omega (arith, same_length, fits))

    lines_begun : Begun ls first row
    lines_begun =
        record {
          many = (has_room (line_at 0 ls) out w e).1 ∙ sym (ap length same_first);
          stands =
              rw same_first
              (row_is
              ∙ ap (λ (rest : List ℕ). line_at 0 ls ++ rest)
              (sym (ap (drop (length (line_at 0 ls))) row_is ∙ drop_at (line_at 0 ls) (drop (length (line_at 0 ls)) out) (length (line_at 0 ls)) refl)));
        }

    lines_ran : {b : Block} {after : List ℕ} → Ran ls row b after → LinesWritten ls out (Ok b) after
    unfolding lines_answer lines_row
    lines_ran ran =
        let fit = fitting (length out) ls in
        let parts : join fit ≡ line_at 0 ls ++ join (drop 1 fit) = join_first fit ∙ ap (λ (l : List ℕ). l ++ join (drop 1 fit)) (first_fits ls (length out) fits) in
        record {
          answer = ap (λ k. Ok k) (rw same_length at ran.answer) ∙ sym (some_fit ls (length out) fits);
          kept =
              (rw (same_length, row_is) at ran.kept)
              ∙ ap (λ (bytes : List ℕ). in_front bytes (in_front (line_at 0 ls) out)) parts
              ∙ front_twice (line_at 0 ls) (join (drop 1 fit)) out
              ∙ sym (ap (λ (bytes : List ℕ). in_front bytes out) parts);
        }

-- the one line of a refusal

module _ (index : ℕ) (told : Refusal) (out : List ℕ) where
  pub refusal_none : 0 < index → LinesWritten (drop index (refusal_lines told)) out (Ok (block_of 0 0)) out
  refusal_none h = rw (drop_of_length-le (refusal_lines told) {i = index} (omega arith)) (none_left out)

  module _ {r : Result ℕ Refusal} {row : List ℕ} (first : index ≡ 0) (w : LineWritten (spell_line (refusal_bytes told)) out r row) where
    first_line : LineWritten (line_at 0 (refusal_lines told)) out r row
    unfolding line_at
    first_line = w

    pub refusal_short : {f : Refusal} → r ≡ Err f → LinesWritten (drop index (refusal_lines told)) out (Err f) row
    refusal_short e =
        let h = lacks_room (spell_line (refusal_bytes told)) out w e in
        rw first (lines_refused (refusal_lines told) out first_line h.1 e)

    pub refusal_whole : {bytes : ℕ} → r ≡ Ok bytes → LinesWritten (drop index (refusal_lines told)) out (Ok (block_of 1 bytes)) row
    unfolding lines_answer lines_row run_answer fitting join
    refusal_whole e =
        let h = has_room (spell_line (refusal_bytes told)) out w e in
        let t = le-ltb (length out) (length (spell_line (refusal_bytes told))) h.0 in
        record { answer = rw (first, t, append-nil, h.1); kept = rw (first, t, append-nil) h.2 }

-- The lines of a result have bytes, each, and are at most two for each gate and two more.
spelled : (bs : List ℕ) → 0 < length (spell_line bs)
spelled bs = omega (arith, line_length bs)

module _ (n : Network) (labels rs : List ℕ) where
  later_full : (k : ℕ) → k ≤ length rs → 0 < length (line_at k (later_lines n labels rs))
  later_full k h =
      ⊎_elim (λ t. rw (cluster_at n labels rs k 0 (ltb-true _ _ t)) (spelled _))
      (λ t. rw (end_at n labels rs k (omega (arith, ltb-false k (length rs) t))) (spelled _))
      (true_or_false (ltb k (length rs)))

  result_full : Full (result_lines n labels rs)
  result_full zero h = rw (first_at n labels rs refl) (spelled _)
  result_full (suc k) h =
      let e : suc k - 1 ≡ k = omega arith in
      ⊎_elim (λ t. rw (label_at n labels rs (suc k) (omega arith) (omega (arith, ltb-true k (size n) t))) (spelled _))
      (λ t.
      rw (later_at n labels rs (suc k) (omega arith) (omega (arith, ltb-false k (size n) t)))
      (later_full (suc k - 1 - size n) (omega (arith, result_count n labels rs, ltb-false k (size n) t))))
      (true_or_false (ltb k (size n)))

module _ (n : Network) (labels row : List ℕ) where
  pub lines_full : Full (drawn_lines n labels row)
  unfolding drawn_lines
  lines_full = result_full n labels (roots row (size n))

  pub lines_count : length (drawn_lines n labels row) ≤ 2 + 2 * size n
  unfolding drawn_lines
  lines_count = omega (arith, result_count n labels (roots row (size n)), roots_few row (size n))

  pub told_at : (index : ℕ) → told_line index n labels row ≡ line_at index (drawn_lines n labels row)
  unfolding told_line drawn_lines
  told_at index = refl

  told_first : (index : ℕ) → told_line index n labels row ≡ line_at 0 (drop index (drawn_lines n labels row))
  told_first index = told_at index ∙ sym (drop_first index (drawn_lines n labels row))

  -- the first line of those that are left decides
  module _ (index : ℕ) {out : List ℕ} {r : Result ℕ Refusal} {row' : List ℕ} (w : LineWritten (told_line index n labels row) out r row') where
    first_written : LineWritten (line_at 0 (drop index (drawn_lines n labels row))) out r row'
    first_written = rw (← told_first index) w

    pub first_refused : {f : Refusal} → r ≡ Err f → LinesWritten (drop index (drawn_lines n labels row)) out (Err f) row'
    first_refused e =
        let ls = drop index (drawn_lines n labels row) in
        lines_refused ls out first_written (lacks_room (line_at 0 ls) out first_written e).1 e

    module _ {first : ℕ} (e : r ≡ Ok first) where
      pub first_begun : Begun (drop index (drawn_lines n labels row)) first row'
      first_begun = lines_begun (drop index (drawn_lines n labels row)) out first_written e

      pub first_ran : {b : Block} {after : List ℕ} → Ran (drop index (drawn_lines n labels row)) row' b after
          → LinesWritten (drop index (drawn_lines n labels row)) out (Ok b) after
      first_ran ran = lines_ran (drop index (drawn_lines n labels row)) out first_written e ran

-- a refusal of the rows handed over, and the lines of what they hold

pub block_refused : (reading : Reading) (index : ℕ) (labels row out : List ℕ) {f : Refusal} → refusing reading labels row f
    → BlockAnswered index reading labels row out (Err f) out
unfolding block_answer block_row
block_refused (refused g) index labels row out h = record { answer = ap (λ k. Err k) h; kept = refl }
block_refused (network n) index labels row out h = record { answer = rw h.0 (ap (λ k. Err k) h.1); kept = rw h.0 }

pub block_told : {reading : Reading} {n : Network} {labels row : List ℕ} (index : ℕ) (out : List ℕ) {b : Result Block Refusal} {after : List ℕ}
    → reading ≡ network n → either_short (size n) labels row ≡ false
    → LinesWritten (drop index (drawn_lines n labels row)) out b after
    → BlockAnswered index reading labels row out b after
unfolding block_answer block_row
block_told index out e t w = record { answer = rw (e, t) w.answer; kept = rw (e, t) w.kept }

-- and what is answered where labels and marks have room
pub block_written : (n : Network) (labels row : List ℕ) {index : ℕ} {out : List ℕ} {b : Result Block Refusal} {after : List ℕ}
    → size n ≤ length labels → size n ≤ length row → BlockAnswered index (network n) labels row out b after
    → LinesWritten (drop index (drawn_lines n labels row)) out b after
unfolding block_answer block_row
block_written n labels row h l a =
    let t = room (size n) labels row h l in record { answer = rw t at a.answer; kept = rw t at a.kept }
