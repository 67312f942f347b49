-- A whole text prepared: reading, labelling and selecting, one after the other, leave the rows that specs/Prepared.antt says.
use Rattle.std.specs.Prelude.{Result, Ok, Err}
use Rattle.selection.specs.declared.Drawn.{Drawn}
use Rattle.results.specs.declared.block.Block.{Block}
use Prim.Native.Nat.{ℕ, ◌≤◌, ◌<◌}
use mathlib.Core.Path.{◌≡◌, refl, sym, ◌∙◌, ap}
use mathlib.Core.Bool.{Bool, true, false}
use mathlib.Core.List.{List, [], ◌++◌}
use native.Mathlib.Omega.{arith}
use borrow.Author.Tests.{ltb-false, le-ltb}
use lib.Dec.{ltb}
use lib.ListN.{length, get_or, drop, length-append, length-drop, get_or-append, get_or-eq_default}
use Rattle.model.specs.Network.{Network, size}
use Rattle.model.specs.Label.{labels as labels_of}
use Rattle.model.specs.Drawing.{marks as marks_of}
use Rattle.model.proofs.Label.{labels_length}
use Rattle.frames.specs.declared.Refusal.{Refusal}
use Rattle.frames.specs.Refusal.{no_room}
use Rattle.frames.specs.Digits.{spell_line}
use Rattle.frames.specs.Put.{line_at, LineWritten}
use Rattle.frames.proofs.Tests.{never, neither_true}
use Rattle.frames.proofs.WrittenLines.{line_none}
use Rattle.texts.specs.Reading.{Reading, refused, network, reading}
use Rattle.rows.specs.declared.Header.{Header}
use Rattle.rows.specs.Row.{too_short, header_of, fill}
use Rattle.rows.specs.Spelling.{row_answer}
use Rattle.rows.specs.Read.{shown, in_room, answer, filled}
use Rattle.rows.proofs.RoundTrip.{read_filled_answers}
use Rattle.labelling.specs.Promises.{written, label_row, LabelledInto, either_short}
use Rattle.selection.specs.Selection.{drawn_row, DrawingAnswered}
use Rattle.results.specs.Result.{refusal_bytes}
use Rattle.results.specs.Line.{LineAnswered}
use Rattle.results.specs.Block.{LinesWritten, BlockAnswered, refusal_lines}
use Rattle.drawing.specs.Prepared.{Lent, lent_of, any_short, prepared_answer, prepared_rows, prepared_lent, PreparedInto, tell_answer, tell_row, Told, tell_lines_answer, tell_lines_row, ToldLines}
use Rattle.drawing.specs.steps.Preparing.{Readable}
use Rattle.drawing.proofs.SameLabels.{marks_same}

-- the rooms, one by one

record Rooms (gates : ℕ) (l : Lent) : Type 0 where
  pub row : too_short gates l.row ≡ false
  pub labels : gates ≤ length l.labels
  pub marks : gates ≤ length l.marks

rooms : (gates : ℕ) (l : Lent) → any_short gates l ≡ false → Rooms gates l
unfolding any_short
rooms gates l e =
    let a = neither_true (too_short gates l.row) (either_short gates l.labels l.marks) e in
    let b = neither_true (ltb (length l.labels) gates) (ltb (length l.marks) gates) a.1 in
    record { row = a.0; labels = ltb-false _ _ b.0; marks = ltb-false _ _ b.1 }

-- the labels of a network in front of a row
module _ (n : Network) (row : List ℕ) where
  pub length_labelled : size n ≤ length row → length (written (labels_of n) row) ≡ length row
  length_labelled h =
      omega (arith, length-append (labels_of n) (drop (length (labels_of n)) row), labels_length n, length-drop (length (labels_of n)) row)

  pub labels_same : (u : ℕ) → u < size n → get_or (written (labels_of n) row) u 0 ≡ get_or (labels_of n) u 0
  labels_same u h = get_or-append (labels_of n) (drop (length (labels_of n)) row) 0 u (omega (arith, labels_length n))

same_gates : {h k : Header} → h ≡ k → h.gates ≡ k.gates
same_gates e = ap (λ (h : Header). h.gates) e

-- The three passes, one after the other.
module _ (text : List ℕ) (h : Header) (l : Lent) (r : Readable text h l) where
  abbrev n : Network
  n = r.whole

  none_short : any_short (size n) l ≡ false
  none_short = let s = same_gates r.header_is in rw s r.roomy

  abbrev room : Rooms (size n) l
  room = rooms (size n) l none_short

  module _ {row : List ℕ} (filled_in : row ≡ filled (answer text l.row) l.row) where
    read_row : row ≡ fill n.gates l.row
    unfolding answer in_room filled
    read_row = let long = room.row in rw (r.reads, long) at filled_in

    told : row_answer h row ≡ network n
    told =
        ap (row_answer h) read_row
        ∙ ap (λ (k : Header). row_answer k (fill n.gates l.row)) (sym r.header_is)
        ∙ read_filled_answers text n l.row r.reads room.row

    labels_row : {a : Result (Unit {0}) Refusal} {labels : List ℕ} → LabelledInto h row l.labels a labels
        → labels ≡ written (labels_of n) l.labels
    unfolding label_row
    labels_row a = let wide = le-ltb (length l.labels) (size n) room.labels in rw (told, wide) at a.kept

    marks_row : {labels : List ℕ} {d : Result Drawn Refusal} {marks : List ℕ} → labels ≡ written (labels_of n) l.labels
        → DrawingAnswered (row_answer h row) labels l.marks d marks
        → marks ≡ marks_of n (labels_of n) ++ drop (size n) l.marks
    unfolding drawn_row
    marks_row {labels} e d =
        let wide : ltb (length labels) (size n) ≡ false =
        le-ltb (length labels) (size n) (omega (arith, ap length e, length_labelled n l.labels room.labels, room.labels))
        in
        let broad = le-ltb (length l.marks) (size n) room.marks in
        (rw (told, wide, broad) at d.kept)
        ∙ ap (λ (row : List ℕ). row ++ drop (size n) l.marks)
        (ap (marks_of n) e ∙ marks_same n (written (labels_of n) l.labels) (labels_of n) (labels_same n l.labels))

    pub prepared_filled : {a : Result (Unit {0}) Refusal} {labels : List ℕ} {d : Result Drawn Refusal} {marks : List ℕ} → LabelledInto h row l.labels a labels
        → DrawingAnswered (row_answer h row) labels l.marks d marks
        → lent_of row labels marks ≡ prepared_lent (reading text) l
    unfolding prepared_lent prepared_rows
    prepared_filled a d =
        let b = labels_row a in
        let c = marks_row b d in
        rw (r.reads, none_short, read_row, b, c)

-- What a text answers, told by what was seen of it.
module _ (text : List ℕ) (l : Lent) {seen : Result Header Refusal} (look : seen ≡ shown (reading text)) where
  pub prepared_refused : {f : Refusal} → seen ≡ Err f → PreparedInto text l (Err f) l
  unfolding shown prepared_answer prepared_lent
  prepared_refused {f} is = go (reading text) refl
    where
      go : (r : Reading) → reading text ≡ r → PreparedInto text l (Err f) l
      go (refused g) q = record { answer = rw q (sym is ∙ look ∙ ap shown q); lent = rw q }
      go (network m) q = let same = sym is ∙ look ∙ ap shown q in never cc

  module _ {h : Header} (is : seen ≡ Ok h) {short : Bool} (test : short ≡ any_short h.gates l) where
    pub prepared_short : {f : Refusal} → short ≡ true → f ≡ no_room → PreparedInto text l (Err f) l
    unfolding shown prepared_answer prepared_lent
    prepared_short {f} t ten = go (reading text) refl
      where
        go : (r : Reading) → reading text ≡ r → PreparedInto text l (Err f) l
        go (refused g) q = let same = sym is ∙ look ∙ ap shown q in never cc
        go (network m) q =
            let same = sym is ∙ look ∙ ap shown q in
            let e : header_of m ≡ h = cc in
            let s = same_gates e in
            let u : any_short (size m) l ≡ true = rw s (sym test ∙ t) in
            record { answer = rw (q, u, ten); lent = rw (q, u) }

    pub readable : short ≡ false → Readable text h l
    unfolding shown
    readable t = go (reading text) refl
      where
        go : (r : Reading) → reading text ≡ r → Readable text h l
        go (refused f) q = let same = sym is ∙ look ∙ ap shown q in never cc
        go (network m) q =
            let same = sym is ∙ look ∙ ap shown q in
            record { whole = m; reads = q; header_is = cc; roomy = sym test ∙ t }

    pub prepared_made : {after : Lent} → short ≡ false → after ≡ prepared_lent (reading text) l
        → PreparedInto text l (Ok h) after
    unfolding prepared_answer
    prepared_made t e =
        let r = readable t in
        let s = r.header_is in
        let none = none_short text h l r in
        record { answer = rw (r.reads, none, s); lent = e }

-- a line told

module _ {p : Result Header Refusal} {index : ℕ} {l : Lent} {out : List ℕ} {r : Result ℕ Refusal} {after : List ℕ} where
  tell_refused : {f : Refusal} → p ≡ Err f → LineWritten (line_at index (refusal_lines f)) out r after
      → Told p index l out r after
  unfolding tell_answer tell_row
  tell_refused e w = record { answer = rw e w.answer; kept = rw e w.kept }

  pub tell_first : {f : Refusal} → p ≡ Err f → index ≤ 0 → LineWritten (spell_line (refusal_bytes f)) out r after
      → Told p index l out r after
  unfolding line_at
  tell_first {f} e h w = tell_refused e (rw first w)
    where
      first : line_at index (refusal_lines f) ≡ spell_line (refusal_bytes f)
      first = let zero : index ≡ 0 = omega arith in rw zero

  pub tell_result : {h : Header} → p ≡ Ok h
      → LineAnswered index (row_answer h l.row) l.labels l.marks out r after
      → Told p index l out r after
  unfolding tell_answer tell_row
  tell_result e a = record { answer = rw e a.answer; kept = rw e a.kept }

pub tell_past : {p : Result Header Refusal} {f : Refusal} {index : ℕ} {l : Lent} (out : List ℕ) → p ≡ Err f → 0 < index
    → Told p index l out (Ok 0) out
unfolding line_at
tell_past {f = f} {index} out e h = tell_refused e (rw past (line_none out))
  where
    past : line_at index (refusal_lines f) ≡ []
    past = get_or-eq_default (refusal_lines f) [] {n = index} (omega arith)

-- a block told

module _ {p : Result Header Refusal} {index : ℕ} {l : Lent} {out : List ℕ} {b : Result Block Refusal} {after : List ℕ} where
  pub lines_of_refusal : {f : Refusal} → p ≡ Err f → LinesWritten (drop index (refusal_lines f)) out b after
      → ToldLines p index l out b after
  unfolding tell_lines_answer tell_lines_row
  lines_of_refusal e w = record { answer = rw e w.answer; kept = rw e w.kept }

  pub lines_of_result : {h : Header} → p ≡ Ok h
      → BlockAnswered index (row_answer h l.row) l.labels l.marks out b after
      → ToldLines p index l out b after
  unfolding tell_lines_answer tell_lines_row
  lines_of_result e a = record { answer = rw e a.answer; kept = rw e a.kept }
