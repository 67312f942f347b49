-- The lines of a network in its row: the frame of a gate put part by part, and which line has which number.
use Prim.Native.Nat.{ℕ, zero, suc, ◌+◌, ◌*◌, ◌-◌, ◌≤◌, ◌<◌}
use mathlib.Core.Path.{◌≡◌, refl, ap, ◌∙◌}
use mathlib.Core.List.{List, [], ◌∷◌, ◌++◌, map}
use native.Mathlib.Omega.{arith}
use lib.ListN.{length, get_or, length-append, get_or-append, get_or-eq_default}
use lib.Seq.{get_or_at}
use Rattle.model.specs.Basics.{gather, upto}
use Rattle.model.specs.Ceilings.{most_fanins}
use Rattle.units.specs.declared.Cells.{Cells}
use Rattle.units.specs.declared.Ticks.{Ticks}
use Rattle.units.specs.Units.{held, weight_place, capacity_place, delay_place}
use Rattle.frames.specs.declared.Refusal.{Refusal}
use Rattle.std.specs.Prelude.{Result, Err}
use Rattle.frames.specs.Digits.{byte_digits, word_bytes, digits, spell_line}
use Rattle.frames.specs.Put.{Put, LineWritten, line_at}
use Rattle.frames.proofs.Made.{length_made, get_or_made}
use Rattle.frames.proofs.Puts.{Stands, put_stands, stands_then, length_words}
use Rattle.frames.proofs.WrittenLines.{length_line}
use Rattle.texts.specs.Reading.{refused}
use Rattle.texts.specs.Spelling.{header_bytes, gate_bytes, end_bytes}
use Rattle.rows.specs.declared.Header.{Header}
use Rattle.rows.specs.Row.{weight_in, delay_in, count_in, fanins_in, gate_in}
use Rattle.rows.specs.Read.{checked}
use Rattle.rows.specs.Spelling.{gate_line, row_lines, row_answer}
use Rattle.rows.specs.steps.Holds.{Holds}
use Rattle.rows.proofs.Holds.{weight_most, delay_most, fanins_counted}
use Rattle.rows.proofs.Checked.{Known, check_refused}
use Rattle.writing.specs.Promises.{answer_unless, row_unless, RowWritten}

-- The bytes of a gate's frame, and its five parts put one after the other.
module _ (w d count : ℕ) (fs : List ℕ) where
  abbrev pub frame : List ℕ
  frame = 0x02 ∷ word_bytes w ++ word_bytes d ++ (count ∷ []) ++ gather word_bytes fs

  length_frame : length (digits frame) ≡ 12 + 4 * length fs
  unfolding digits gather byte_digits word_bytes
  length_frame = let rest : length (digits (gather word_bytes fs)) ≡ 4 * length fs = length_words fs in omega arith

  pub gate_stands : {out : List ℕ} {n₁ n₂ n₃ n₄ n₅ : ℕ} {o₁ o₂ o₃ o₄ o₅ : List ℕ} → 13 + 4 * length fs ≤ length out
      → Put (0x02 ∷ []) 0 out n₁ o₁ → Put (word_bytes w) n₁ o₁ n₂ o₂ → Put (word_bytes d) n₂ o₂ n₃ o₃ → Put (count ∷ []) n₃ o₃ n₄ o₄
      → Put (gather word_bytes fs) n₄ o₄ n₅ o₅ → Stands frame 0 out n₅ o₅
  unfolding digits gather byte_digits word_bytes
  gate_stands {out} fits p₁ p₂ p₃ p₄ p₅ =
      let s₁ = put_stands (0x02 ∷ []) 0 out _ _ (omega arith) p₁ in
      let s₂ = stands_then (0x02 ∷ []) (word_bytes w) 0 out _ _ _ _ (omega arith) s₁ p₂ in
      let s₃ = stands_then (0x02 ∷ word_bytes w) (word_bytes d) 0 out _ _ _ _ (omega arith) s₂ p₃ in
      let s₄ = stands_then (0x02 ∷ word_bytes w ++ word_bytes d) (count ∷ []) 0 out _ _ _ _ (omega arith) s₃ p₄ in
      stands_then (0x02 ∷ word_bytes w ++ word_bytes d ++ (count ∷ [])) (gather word_bytes fs) 0 out _ _ _ _ (omega (arith, length_frame)) s₄ p₅

-- The places of a gate's line: thirteen, and four for each fan-in.
pub length_gate_line : (row : List ℕ) (v : ℕ) → length (gate_line row v) ≡ 13 + 4 * length (fanins_in row v)
unfolding gate_line gate_bytes gate_in
length_gate_line row v =
    let w = weight_in row v in
    let d = delay_in row v in
    let count = held 8 (count_in row v) in
    let fs = fanins_in row v in
    omega (arith, length_line (frame w d count fs), length_frame w d count fs)

-- The line of a gate that stands in its row has what the accessors answer of the gate: 16 bits hold its weight and its delay, and
-- its count is that of its fan-ins.
module _ {h : Header} {row : List ℕ} (s : Holds h row) {v : ℕ} (k : v < h.gates) where
  pub few_fanins : {fs : List ℕ} → fs ≡ fanins_in row v → length fs ≤ most_fanins
  few_fanins e = omega (arith, ap length e, fanins_counted h row s v k, s.few v k)

  pub gate_line_is : {w : Cells} {d : Ticks} {fs : List ℕ} {p q : ℕ} → w.0 ≡ weight_in row v → p ≡ weight_place w → d.0 ≡ delay_in row v
      → q ≡ delay_place d → fs ≡ fanins_in row v → gate_line row v ≡ spell_line (frame p q (length fs) fs)
  unfolding gate_line gate_bytes gate_in
  gate_line_is {fs = fs} {p = p} {q = q} is_weight placed_weight is_delay placed_delay is_fanins =
      let weight : weight_in row v ≡ p = omega (arith, weight_most h row s v k) in
      let delay : delay_in row v ≡ q = omega (arith, delay_most h row s v k) in
      let count : held 8 (count_in row v) ≡ length fs = omega (arith, ap length is_fanins, fanins_counted h row s v k, s.few v k) in
      rw (weight, delay, count, ← is_fanins)

-- Lines counted from 0: one in front, so many made by number, and one behind.
module _ (f : ℕ → List ℕ) (front behind : List ℕ) (k : ℕ) where
  abbrev all_lines : List (List ℕ)
  all_lines = front ∷ map f (upto k) ++ (behind ∷ [])

  at_made : (i : ℕ) → (i ≡ 0 → ⊥) → i - 1 < k → get_or all_lines i [] ≡ f (i - 1)
  at_made zero h more = absurd (h refl)
  at_made (suc i) h more =
      let e : suc i - 1 ≡ i = omega arith in
      rw e (get_or-append (map f (upto k)) (behind ∷ []) [] i (omega (arith, length_made f k)) ∙ get_or_made f [] k i (omega arith))

  at_behind : (i : ℕ) → (i ≡ 0 → ⊥) → i - 1 ≡ k → get_or all_lines i [] ≡ behind
  at_behind zero h e = absurd (h refl)
  at_behind (suc i) h e = get_or_at (map f (upto k)) behind [] [] i (omega (arith, length_made f k))

  at_none : (i : ℕ) → (i ≡ 0 → ⊥) → k < i - 1 → get_or all_lines i [] ≡ []
  at_none zero h past = absurd (h refl)
  at_none (suc i) h past =
      get_or-eq_default (map f (upto k) ++ (behind ∷ [])) [] (omega (arith, length-append (map f (upto k)) (behind ∷ []), length_made f k))

-- The lines that a header and a row spell, by number: the header, the gates, the end, and nothing past it.
module _ (h : Header) (row : List ℕ) where
  pub header_at : {i capacity hop : ℕ} → i ≡ 0 → capacity ≡ capacity_place h.capacity → hop ≡ delay_place h.hop
      → line_at i (row_lines h row) ≡ spell_line (header_bytes capacity hop)
  unfolding line_at row_lines
  header_at e m d = rw (e, m, d)

  pub gate_at : (i : ℕ) → (i ≡ 0 → ⊥) → i - 1 < h.gates → line_at i (row_lines h row) ≡ gate_line row (i - 1)
  unfolding line_at row_lines
  gate_at i first more = at_made (gate_line row) _ _ h.gates i first more

  pub end_at : (i : ℕ) → (i ≡ 0 → ⊥) → i - 1 ≡ h.gates → line_at i (row_lines h row) ≡ spell_line (end_bytes h.gates)
  unfolding line_at row_lines
  end_at i first e = at_behind (gate_line row) _ _ h.gates i first e

  pub none_at : (i : ℕ) → (i ≡ 0 → ⊥) → h.gates < i - 1 → line_at i (row_lines h row) ≡ []
  unfolding line_at row_lines
  none_at i first past = at_none (gate_line row) _ _ h.gates i first past

-- Once the row is checked: its refusal handed on, or the line written.
module _ (index : ℕ) {h : Header} {row : List ℕ} (out : List ℕ) where
  pub row_refused : {f : Refusal} → row_answer h row ≡ refused f → RowWritten index h row out (Err f) out
  unfolding answer_unless row_unless
  row_refused e = record { answer = rw e; kept = rw e }

  pub row_written : {k : Header} {r : Result ℕ Refusal} {after : List ℕ} → Known h k row → LineWritten (line_at index (row_lines k row)) out r after
      → RowWritten index h row out r after
  unfolding answer_unless row_unless
  row_written known w =
      record {
        answer = rw (known.answered, ← known.lines) w.answer;
        kept = rw (known.answered, ← known.lines) w.kept;
      }

-- A refusal that `check` told is the answer, and the lent row is as it was.
pub told_answer : (h : Header) (row : List ℕ) (w : Result ℕ Refusal) {r : Result Header Refusal} {f : Refusal} → r ≡ checked h row → r ≡ Err f
    → Err f ≡ answer_unless (row_answer h row) w
unfolding answer_unless
told_answer h row w answers is = rw (check_refused h row answers is)

pub told_row : (h : Header) (row out written : List ℕ) {r : Result Header Refusal} {f : Refusal} → r ≡ checked h row → r ≡ Err f
    → out ≡ row_unless (row_answer h row) out written
unfolding row_unless
told_row h row out written answers is = rw (check_refused h row answers is)
