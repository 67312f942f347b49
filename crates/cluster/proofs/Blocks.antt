-- Laws of the blocks that print what a text answers. By the headline each is told whole, and only one past the last line has no line.
use Rattle.std.specs.Prelude.{Result, Ok}
use Rattle.cluster.specs.declared.WriteFailed.{WriteFailed}
use Rattle.results.specs.declared.block.Block.{Block}
use Rattle.frames.specs.declared.Refusal.{Refusal}
use Rattle.rows.specs.declared.Header.{Header}
use Prim.Native.Nat.{ℕ, ◌+◌, ◌*◌, ◌≤◌}
use mathlib.Core.Path.{◌≡◌, refl, sym, ◌∙◌, ap}
use mathlib.Core.Logic.{⊎_elim}
use mathlib.Core.List.{List, []}
use native.Mathlib.Omega.{arith}
use borrow.Author.Tests.{ltb-true, ltb-false}
use lib.Dec.{ltb}
use lib.ListN.{length, take, drop, length-drop, length-append, replicate, length-replicate}
use lib.Seq.{take_at}
use Rattle.model.specs.Ceilings.{most_gates}
use Rattle.model.proofs.Lists.{true_or_false}
use Rattle.frames.proofs.Tests.{never}
use Rattle.texts.specs.Spelling.{join}
use Rattle.results.specs.Block.{block_of, in_front}
use Rattle.results.proofs.Fitting.{fitting_few}
use Rattle.drawing.specs.Answer.{answer_lines}
use Rattle.drawing.specs.Demands.{most_line}
use Rattle.drawing.specs.Prepared.{Lent, PreparedInto, tell_lines_answer, tell_lines_row, ToldLines}
use Rattle.drawing.specs.Headline.{Ample, Answers}
use Rattle.drawing.proofs.Demands.{finished}
use Rattle.drawing.proofs.Headline.{headline}
use Rattle.cluster.specs.Printing.{Prepared, block, Begins, first, next, Unprinted, BlockBytes, Prints, BlockPrinted}

-- a text that was prepared in rows that suffice
abbrev pub prepared_of : {text : List ℕ} {before : Lent} {p : Result Header Refusal} {l : Lent} → PreparedInto text before p l → Ample before
    → Prepared p l
prepared_of {text} {before} into ample = record { text = text; before = before; ample = ample; into = into }

answers : {p : Result Header Refusal} {l : Lent} (t : Prepared p l) → Answers t.text p l
answers {p} {l} t = headline t.text t.before l p t.ample t.into

-- blocks begin among the lines, or behind the last

begins_among : {room : ℕ} {text : List ℕ} {index : ℕ} → Begins room text index → index ≤ length (answer_lines text)
begins_among first = omega arith
begins_among {room} {text} (next {index} b) =
    omega (arith, begins_among b, fitting_few room (drop index (answer_lines text)), length-drop index (answer_lines text))

pub begins_few : {room : ℕ} {text : List ℕ} {index : ℕ} → Begins room text index → index ≤ 2 + 2 * most_gates
begins_few {text = text} b = omega (arith, begins_among b, (finished text []).few)

-- What `tell_lines` tells is the block of that index.
module _ {p : Result Header Refusal} {index : ℕ} {l : Lent} {out : List ℕ} {b : Result Block Refusal} {row : List ℕ} {made : Block}
    (told : ToldLines p index l out b row) (is : b ≡ Ok made) (u : Unprinted (length out) p l index) where
  abbrev run : Prepared p l → List (List ℕ)
  run t = block (length out) t.text index

  told_counts : (t : Prepared p l) → (made.count ≡ length (run t)) × (made.length ≡ length (join (run t)))
  told_counts t =
      let both = sym is ∙ ((answers t).block_room index out b row told u.roomy).0 in
      let same : made ≡ block_of (length (run t)) (length (join (run t))) = cc in
      (ap (λ (k : Block). k.count) same, ap (λ (k : Block). k.length) same)

  front : row ≡ in_front (join (run u.prepared)) out
  front = ((answers u.prepared).block_room index out b row told u.roomy).1

  pub told_within : made.length ≤ length row
  told_within =
      let bytes = join (run u.prepared) in
      omega (arith, told_counts u.prepared, ap length front, length-append bytes (drop (length bytes) out))

  pub told_bytes : BlockBytes made.count (take made.length row)
  told_bytes =
      let t = u.prepared in
      record {
        room = length out;
        text = t.text;
        index = index;
        lines = (told_counts t).0;
        whole = rw front (take_at _ _ made.length (sym (told_counts t).1));
      }

  pub block_printed : {r : Result ℕ WriteFailed} → Prints made.count r → BlockPrinted (length out) p l index r
  block_printed printed t = rw (told_counts t).0 at printed

-- only past the last line a block has no line
none_left : {room : ℕ} {p : Result Header Refusal} {l : Lent} {index : ℕ} (t : Prepared p l) → most_line ≤ room → Begins room t.text index
    → length (block room t.text index) ≡ 0
    → index ≡ length (answer_lines t.text)
none_left {room} {p} {l} {index} t roomy b none =
    let out = replicate {A = ℕ} room 0 in
    let lines = length (answer_lines t.text) in
    let same : length out ≡ room = length-replicate room 0 in
    let told : ToldLines p index l out (tell_lines_answer p index l out) (tell_lines_row p index l out) =
    record { answer = refl; kept = refl }
    in
    let some = rw same at ((answers t).block_room index out _ _ told (omega arith)).2 in
    ⊎_elim (λ less. absurd (omega (arith, some (ltb-true index lines less))))
    (λ past. omega (arith, ltb-false index lines past, begins_among b))
    (true_or_false (ltb index lines))

-- Behind a block that was printed the next one begins; one without a line is behind the last.
module _ {room lent : ℕ} {p : Result Header Refusal} {l : Lent} {index count : ℕ} (t : Prepared p l) (b : Begins room t.text index) (same : lent ≡ room)
    (printed : BlockPrinted lent p l index (Ok count)) where
  counts : count ≡ length (block room t.text index)
  counts = ⊎_elim (λ h. cc) (λ h. never cc) (rw same at (printed t))

  pub goes_on : Begins room t.text (index + count)
  goes_on = rw counts (next b)

  pub at_last : most_line ≤ room → count ≡ 0 → index ≡ length (answer_lines t.text)
  at_last roomy none = none_left t roomy b (sym counts ∙ none)
