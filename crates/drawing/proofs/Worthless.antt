-- The four worthless builds fall, by network A: antt computes what the promises say of it.
use Rattle.std.specs.Prelude.{Result, Ok, Err}
use Rattle.results.specs.Block.{block_of}
use Rattle.frames.specs.declared.Refusal.{Refusal}
use Rattle.rows.specs.declared.Header.{Header}
use Prim.Native.Nat.{ℕ}
use mathlib.Core.Path.{◌≡◌, refl, sym, ◌∙◌, ap}
use mathlib.Core.Logic.{inl, ⊎_elim}
use mathlib.Core.List.{List, [], ◌∷◌}
use native.Mathlib.Omega.{arith}
use lib.ListN.{get_or, set, replicate}
use Rattle.model.specs.Network.{Network, size}
use Rattle.model.specs.Label.{labels, label}
use Rattle.model.specs.Drawing.{marks}
use Rattle.model.proofs.Examples.{A}
use Rattle.frames.specs.Refusal.{no_room}
use Rattle.frames.specs.Put.{line_at, line_row}
use Rattle.frames.proofs.Tests.{never}
use Rattle.texts.specs.Reading.{Reading, refused, network, reading}
use Rattle.texts.specs.Spelling.{spell_network, join}
use Rattle.rows.specs.Row.{too_short, header_of, fill}
use Rattle.rows.specs.Spelling.{row_answer}
use Rattle.results.specs.Result.{result_lines}
use Rattle.results.specs.Line.{told_line, told_row}
use Rattle.results.specs.Block.{fitting, lines_row, drawn_lines, block_row}
use Rattle.drawing.specs.Prepared.{Lent, lent_of, any_short, prepared_answer, prepared_rows, prepared_lent, tell_answer, tell_row, tell_lines_answer, tell_lines_row}
use Rattle.drawing.specs.Worthless.{Build, Keeps, Accepted, RefusesAll, WritesAlike, FixedResult, WritesNothing, FirstGateOnly, WorthlessFall}

-- what a build that keeps the promises does with an accepted text
module _ (b : Build) (k : Keeps b) {text : List ℕ} {l : Lent} {n : Network} (a : Accepted text l n) where
  answered : b.prepared text l ≡ Ok (header_of n)
  answered = (k.prepare text l).answer ∙ unfold prepared_answer in rw (a.reads, a.roomy)

  left : b.rows text l ≡ prepared_rows n l
  left = (k.prepare text l).lent ∙ unfold prepared_lent in rw (a.reads, a.roomy)

  -- the same, of whatever writes what was prepared into a row
  wrote : (writes : Result Header Refusal → ℕ → Lent → List ℕ → List ℕ) (index : ℕ) (out : List ℕ)
      → writes (b.prepared text l) index (b.rows text l) out ≡ writes (Ok (header_of n)) index (prepared_rows n l) out
  wrote writes index out = rw (answered, left)

-- network A's text with M left open, and rows with just the room for its five gates

text : ℕ → List ℕ
text m = spell_network (A m 4)

zeros : Lent
zeros = lent_of (replicate 55 0) (replicate 5 0) (replicate 5 0)

accepted_3 : Accepted (text 3) zeros (A 3 4)
unfolding text zeros reading spell_network A any_short too_short
accepted_3 = record { reads = refl; roomy = refl }

accepted_1 : Accepted (text 1) zeros (A 1 4)
unfolding text zeros reading spell_network A any_short too_short
accepted_1 = record { reads = refl; roomy = refl }

-- the labels that have to stand in the row
labels_3 : (prepared_rows (A 3 4) zeros).labels ≡ 1 ∷ 2 ∷ 5 ∷ 3 ∷ 10 ∷ []
unfolding prepared_rows zeros A labels
labels_3 = refl

nothing_written : prepared_rows (A 3 4) zeros ≡ zeros → ⊥
unfolding zeros
nothing_written e = let labels = sym labels_3 ∙ ap (λ (l : Lent). l.labels) e in omega (arith, ap (λ (row : List ℕ). get_or row 0 0) labels)

first_written : (prepared_rows (A 3 4) zeros).labels ≡ set zeros.labels 0 (label (A 3 4) 0) → ⊥
unfolding zeros
first_written e = omega (arith, ap (λ (row : List ℕ). get_or row 1 0) (sym labels_3 ∙ e))

-- what has to be written of A at index 0, into a row with just the room for the first line
first : (Result Header Refusal → ℕ → Lent → List ℕ → List ℕ) → ℕ → List ℕ
first writes m = writes (Ok (header_of (A m 4))) 0 (prepared_rows (A m 4) zeros) (replicate 15 0)

-- the digit that differs is the last of the output delay: A and F

lines_differ : first tell_row 3 ≡ first tell_row 1 → ⊥
unfolding first tell_row told_row row_answer prepared_rows zeros A fill size labels marks line_row told_line line_at result_lines
lines_differ e = omega (arith, ap (λ (row : List ℕ). get_or row 9 0) e)

blocks_differ : first tell_lines_row 3 ≡ first tell_lines_row 1 → ⊥
unfolding first tell_lines_row block_row row_answer prepared_rows zeros A fill size labels marks lines_row fitting join drawn_lines result_lines
blocks_differ e = omega (arith, ap (λ (row : List ℕ). get_or row 9 0) e)

module _ (b : Build) (k : Keeps b) where
  line_kept : (m : ℕ) → first b.line m ≡ first tell_row m
  unfolding first
  line_kept m = (k.tell (Ok (header_of (A m 4))) 0 (prepared_rows (A m 4) zeros) (replicate 15 0)).kept

  lines_kept : (m : ℕ) → first b.lines m ≡ first tell_lines_row m
  unfolding first
  lines_kept m = (k.tell_lines (Ok (header_of (A m 4))) 0 (prepared_rows (A m 4) zeros) (replicate 15 0)).kept

  alike : (writes : Result Header Refusal → ℕ → Lent → List ℕ → List ℕ) → WritesAlike b writes → first writes 3 ≡ first writes 1
  unfolding first
  alike writes same =
      sym (wrote b k accepted_3 writes 0 (replicate 15 0))
      ∙ same (text 3) (text 1) zeros (A 3 4) (A 1 4) accepted_3 accepted_1 0 (replicate 15 0)
      ∙ wrote b k accepted_1 writes 0 (replicate 15 0)

pub worthless_fall : WorthlessFall
worthless_fall b k =
    record {
      refuses_all =
          λ all. let (f, e) = all (text 3) zeros (A 3 4) accepted_3 in let is = answered b k accepted_3 in never cc;
      fixed_result =
          ⊎_elim (λ same. lines_differ (sym (line_kept b k 3) ∙ alike b k b.line same ∙ line_kept b k 1))
          (λ same. blocks_differ (sym (lines_kept b k 3) ∙ alike b k b.lines same ∙ lines_kept b k 1));
      writes_nothing = λ nothing. nothing_written (sym (left b k accepted_3) ∙ nothing (text 3) zeros (A 3 4) accepted_3);
      first_gate_only =
          λ one.
          first_written (sym (ap (λ (l : Lent). l.labels) (left b k accepted_3)) ∙ one (text 3) zeros (A 3 4) accepted_3);
    }

-- The promises can be kept, and each of the four can be built: neither side of the theorem is empty.

unfoldable pub promised : Build
promised =
    record {
      prepared = λ text l. prepared_answer (reading text) l;
      rows = λ text l. prepared_lent (reading text) l;
      told = tell_answer;
      line = tell_row;
      told_lines = tell_lines_answer;
      lines = tell_lines_row;
    }

pub promised_keeps : Keeps promised
unfolding promised
promised_keeps =
    record {
      prepare = λ text before. record { answer = refl; lent = refl };
      tell = λ p index l out. record { answer = refl; kept = refl };
      tell_lines = λ p index l out. record { answer = refl; kept = refl };
    }

unfoldable pub first_labelled : Reading → Lent → Lent
first_labelled (refused f) l = l
first_labelled (network n) l = lent_of l.row (set l.labels 0 (label n 0)) l.marks

-- Every text is answered by 10 and no line is written; `leaves` says how the rows are left.
unfoldable pub idle : (Reading → Lent → Lent) → Build
idle leaves =
    record {
      prepared = λ text l. Err no_room;
      rows = λ text l. leaves (reading text) l;
      told = λ p index l out. Ok 0;
      line = λ p index l out. out;
      told_lines = λ p index l out. Ok (block_of 0 0);
      lines = λ p index l out. out;
    }

pub idle_worthless : let b = idle (λ r l. l) in RefusesAll b × FixedResult b × WritesNothing b
unfolding idle
idle_worthless = (λ text l n a. (no_room, refl), inl (λ text other l n m a c index out. refl), λ text l n a. refl)

pub first_labelled_worthless : FirstGateOnly (idle first_labelled)
unfolding idle first_labelled
first_labelled_worthless text l n a = rw a.reads
