-- The promise over a whole text holds.
use Rattle.std.specs.Prelude.{Result, Ok, Err}
use Rattle.results.specs.Block.{block_of}
use Rattle.results.specs.declared.block.Block.{Block}
use Rattle.rows.specs.declared.Header.{Header}
use Prim.Native.Nat.{ℕ, zero, suc, ◌*◌, ◌≤◌, ◌<◌}
use mathlib.Core.Path.{◌≡◌, refl, sym, ◌∙◌, ap}
use mathlib.Core.Bool.{true, false, not}
use mathlib.Core.List.{List, [], ◌∷◌, ◌++◌, Memᴰ}
use native.Mathlib.Omega.{arith}
use borrow.Author.Tests.{le-ltb}
use lib.Dec.{eqb}
use lib.ListN.{length, drop, length-append, length-drop}
use Rattle.model.specs.Ceilings.{most_gates}
use Rattle.model.specs.Network.{Network, size}
use Rattle.model.specs.Label.{labels as labels_of}
use Rattle.model.specs.Drawing.{marks as marks_of, drawn}
use Rattle.model.proofs.Drawn.{drawn_known}
use Rattle.texts.specs.Reading.{Reading, refused, network, reading}
use Rattle.frames.specs.declared.Refusal.{Refusal}
use Rattle.texts.specs.Spelling.{join}
use Rattle.texts.specs.Says.{Says, too_long, faulty_line, no_end, too_heavy}
use Rattle.frames.proofs.Fault.{given_number, passes, passed_by}
use Rattle.frames.proofs.Tests.{never}
use Rattle.texts.proofs.Table.{reading_exactly}
use Rattle.texts.proofs.AcceptedNetwork.{accepted_well_formed, accepted_within_ceilings}
use Rattle.rows.specs.Row.{too_short, header_of, fill, places}
use Rattle.rows.specs.Spelling.{row_answer}
use Rattle.rows.proofs.RoundTrip.{read_filled_answers}
use Rattle.frames.specs.Put.{line_at, line_answer, line_row, LineWritten}
use Rattle.labelling.specs.Promises.{written}
use Rattle.selection.proofs.Roots.{length_marks, drawn_roots}
use Rattle.results.specs.Result.{result_lines}
use Rattle.results.specs.Line.{told_line}
use Rattle.results.specs.Block.{fitting, in_front, lines_answer, lines_row, LinesWritten, drawn_lines}
use Rattle.results.proofs.Answered.{told_written}
use Rattle.results.proofs.Fitting.{drop_first}
use Rattle.results.proofs.Blocks.{told_at, some_fit, one_fits, block_written}
use Rattle.drawing.specs.Answer.{answer_lines, network_result}
use Rattle.drawing.specs.Demands.{most_line}
use Rattle.drawing.specs.Prepared.{Lent, any_short, prepared_answer, prepared_rows, prepared_lent, tell_answer, tell_row, Told, tell_lines_answer, tell_lines_row, ToldLines}
use Rattle.drawing.specs.Headline.{Ample, Answers, Headline}
use Rattle.drawing.proofs.Demands.{refused_lines, finished, faithful}
use Rattle.drawing.proofs.SameLabels.{lines_same}
use Rattle.drawing.proofs.Preparing.{length_labelled, labels_same}

-- ample rows have room for a network of any text

ample_row : (gates : ℕ) (l : Lent) → Ample l → gates ≤ most_gates → too_short gates l.row ≡ false
unfolding too_short
ample_row gates l a h = le-ltb (length l.row) (places * gates) (omega (arith, a.row))

none_short : (gates : ℕ) (l : Lent) → Ample l → gates ≤ most_gates → any_short gates l ≡ false
unfolding any_short
none_short gates l a h =
    rw (ample_row gates l a h, le-ltb (length l.labels) gates (omega (arith, a.labels)), le-ltb (length l.marks) gates (omega (arith, a.marks)))

-- reading never refuses by 10
never_by_10 : {text : List ℕ} {f : Refusal} → Says text f → f.number ≡ 10 → ⊥
unfolding passes
never_by_10 (too_long h) ten = omega (arith, ten)
never_by_10 (faulty_line {k = k} back fits b here given c) ten =
    let other : not (eqb k 10) ≡ true = passed_by (λ j. not (eqb j 10)) (given_number given) refl in
    let z = rw ten at other in
    never cc
never_by_10 (no_end fits b h) ten = omega (arith, ten)
never_by_10 (too_heavy fits b h) ten = omega (arith, ten)

-- every line of an answer is among its lines, or is none
line_short : (ls : List (List ℕ)) (most : ℕ) → ((l : List ℕ) → Memᴰ l ls → length l ≤ most) → (index : ℕ) → length (line_at index ls) ≤ most
unfolding line_at
line_short [] most h index = omega arith
line_short (l ∷ ls) most h zero = h l (Memᴰ.head refl)
line_short (l ∷ ls) most h (suc index) = line_short ls most (λ k m. h k (Memᴰ.tail m)) index

written_whole : {line out : List ℕ} {r : Result ℕ Refusal} {row : List ℕ} → LineWritten line out r row → length line ≤ length out
    → (r ≡ Ok (length line)) × (row ≡ line ++ drop (length line) out)
unfolding line_answer line_row
written_whole {line} {out} w h = let t = le-ltb (length out) (length line) h in (rw t at w.answer, rw t at w.kept)

-- A first line that has room: the block is not refused, and where a line is left it has one.
written_run : (ls : List (List ℕ)) (index : ℕ) {out : List ℕ} {r : Result Block Refusal} {row : List ℕ} → LinesWritten (drop index ls) out r row
    → length (line_at index ls) ≤ length out
    → let run = fitting (length out) (drop index ls) in
    (r ≡ Ok (block_of (length run) (length (join run)))) × (row ≡ in_front (join run) out) × (index < length ls → 0 < length run)
unfolding lines_answer lines_row
written_run ls index {out} w h =
    let fits : length (line_at 0 (drop index ls)) ≤ length out = omega (arith, ap length (drop_first index ls)) in (
      w.answer ∙ some_fit (drop index ls) (length out) fits,
      w.kept,
      λ more. one_fits (drop index ls) (length out) fits (omega (arith, length-drop index ls)),
    )

refusal_told : (text : List ℕ) {f : Refusal} {p : Result Header Refusal} {index : ℕ} {l : Lent} {out : List ℕ} {r : Result ℕ Refusal} {row : List ℕ}
    → reading text ≡ refused f
    → p ≡ Err f
    → Told p index l out r row
    → LineWritten (line_at index (answer_lines text)) out r row
unfolding tell_answer tell_row
refusal_told text {f} e q t =
    let lines = refused_lines text f e in
    rw lines (record { answer = rw q at t.answer; kept = rw q at t.kept })

refusal_block : (text : List ℕ) {f : Refusal} {p : Result Header Refusal} {index : ℕ} {l : Lent} {out : List ℕ} {r : Result Block Refusal} {row : List ℕ}
    → reading text ≡ refused f
    → p ≡ Err f
    → ToldLines p index l out r row
    → LinesWritten (drop index (answer_lines text)) out r row
unfolding tell_lines_answer tell_lines_row
refusal_block text {f} e q t =
    let lines = refused_lines text f e in
    rw lines (record { answer = rw q at t.answer; kept = rw q at t.kept })

-- The result of a network, told from the rows that were prepared for it.
module _ (text : List ℕ) (n : Network) (before : Lent) (e : reading text ≡ network n) (a : Ample before) where
  few : size n ≤ most_gates
  few = (accepted_within_ceilings text n e).gates

  abbrev labels : List ℕ
  labels = written (labels_of n) before.labels

  abbrev marks : List ℕ
  marks = marks_of n (labels_of n) ++ drop (size n) before.marks

  own_lines : result_lines n (labels_of n) (drawn n (labels_of n)) ≡ answer_lines text
  own_lines = unfold network_result in sym (faithful text n e).frames

  prepared_lines : drawn_lines n labels marks ≡ answer_lines text
  unfolding drawn_lines
  prepared_lines =
      ap (result_lines n labels) (drawn_roots n (labels_of n) (size n) (drop (size n) before.marks) refl)
      ∙ lines_same n labels (labels_of n) (labels_same n before.labels) (drawn n (labels_of n))
      (drawn_known n (accepted_well_formed text n e) (labels_of n))
      ∙ own_lines

  told_lines : (index : ℕ) → told_line index n labels marks ≡ line_at index (answer_lines text)
  told_lines index = told_at n labels marks index ∙ ap (line_at index) prepared_lines

  row_answered : row_answer (header_of n) (fill n.gates before.row) ≡ network n
  row_answered = read_filled_answers text n before.row e (ample_row (size n) before a few)

  labels_room : size n ≤ length labels
  labels_room = omega (arith, length_labelled n before.labels (omega (arith, a.labels, few)), a.labels, few)

  marks_room : size n ≤ length marks
  marks_room = omega (arith, length-append (marks_of n (labels_of n)) (drop (size n) before.marks), length_marks n (labels_of n))

  result_told : {index : ℕ} {p : Result Header Refusal} {l : Lent} {out : List ℕ} {r : Result ℕ Refusal} {row : List ℕ} → p ≡ Ok (header_of n)
      → l ≡ prepared_rows n before
      → Told p index l out r row
      → LineWritten (line_at index (answer_lines text)) out r row
  unfolding tell_answer tell_row prepared_rows
  result_told {index} q k t =
      rw (← told_lines index)
      (told_written n labels marks labels_room marks_room
      (record { answer = rw (q, k, row_answered) at t.answer; kept = rw (q, k, row_answered) at t.kept }))

  result_block : {index : ℕ} {p : Result Header Refusal} {l : Lent} {out : List ℕ} {r : Result Block Refusal} {row : List ℕ} → p ≡ Ok (header_of n)
      → l ≡ prepared_rows n before
      → ToldLines p index l out r row
      → LinesWritten (drop index (answer_lines text)) out r row
  unfolding tell_lines_answer tell_lines_row prepared_rows
  result_block q k t =
      rw (← prepared_lines)
      (block_written n labels marks labels_room marks_room
      (record { answer = rw (q, k, row_answered) at t.answer; kept = rw (q, k, row_answered) at t.kept }))

-- A text is refused, and its one line is told; or it is a network's, for which ample rows have room, and its result is told.
pub headline : Headline
headline text before after p a into = go (reading text) refl
  where
    all : ((index : ℕ) (out : List ℕ) (r : Result ℕ Refusal) (row : List ℕ) → Told p index after out r row
        → LineWritten (line_at index (answer_lines text)) out r row)
        → ((index : ℕ) (out : List ℕ) (r : Result Block Refusal) (row : List ℕ) → ToldLines p index after out r row
        → LinesWritten (drop index (answer_lines text)) out r row)
        → ((f : Refusal) → p ≡ Err f → f.number ≡ 10 → ⊥)
        → Answers text p after
    all line lines never_10 =
        let short = line_short (answer_lines text) most_line (finished text before.row).short in
        record {
          line = line;
          room = λ index out r row t h. written_whole (line index out r row t) (omega (arith, short index));
          lines = lines;
          block_room = λ index out r row t h. written_run (answer_lines text) index (lines index out r row t) (omega (arith, short index));
          never_10 = never_10;
        }

    go : (w : Reading) → reading text ≡ w → Answers text p after
    go (refused f) q =
        let told : p ≡ Err f = into.answer ∙ unfold prepared_answer in rw q in
        all (λ index out r row t. refusal_told text q told t) (λ index out r row t. refusal_block text q told t)
        (λ g is ten.
        let same : f ≡ g = cc in
        never_by_10 (((reading_exactly text).refusal f).0 q) (ap (λ (k : Refusal). k.number) same ∙ ten))
    go (network n) q =
        let none = none_short (size n) before a (few text n before q a) in
        let told : p ≡ Ok (header_of n) = into.answer ∙ unfold prepared_answer in rw (q, none) in
        let left : after ≡ prepared_rows n before = into.lent ∙ unfold prepared_lent in rw (q, none) in
        all (λ index out r row t. result_told text n before q a told left t) (λ index out r row t. result_block text n before q a told left t)
        (λ f is ten. never cc)
