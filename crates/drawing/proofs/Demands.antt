-- The three demands hold of every text.
use Prim.Native.Nat.{ℕ, suc, ◌+◌, ◌*◌, ◌≤◌, ◌<◌}
use mathlib.Core.Path.{◌≡◌, refl, sym, ◌∙◌, ap}
use mathlib.Core.Logic.{◌⊎◌, inl, inr, ⊎_elim, ◌↔◌}
use mathlib.Core.List.{List, [], ◌∷◌, ◌++◌, map, Memᴰ}
use mathlib.Core.Option.{Option, none, some}
use native.Mathlib.Omega.{arith}
use lib.ListN.{length, get_or, length-append}
use lib.Seq.{get_or-append_seam}
use lib.Dec.{ltb}
use Rattle.model.specs.Basics.{upto, member, ◌∈◌}
use Rattle.model.specs.Ceilings.{most_gates}
use Rattle.model.specs.Network.{Network, size, position, WellFormed}
use Rattle.model.specs.Label.{labels, label, cluster}
use Rattle.model.specs.Drawing.{marks, drawn, members, output_delay}
use Rattle.model.specs.Best.{SomeHeavy, Best, LeastDelay}
use Rattle.model.proofs.Best.{best, least_delay}
use Rattle.model.proofs.Lists.{in_keep, keep_in, in_upto, member_true, true_member}
use Rattle.model.proofs.Paths.{path_rises}
use Rattle.model.proofs.Onward.{in_cone_true, true_in_cone, onward_largest}
use Rattle.model.proofs.Label.{label_input, label_largest}
use Rattle.model.proofs.Growth.{grows, in_cone_gates, cone_gates_in}
use Rattle.model.proofs.Ceiling.{label_ceiling}
use Rattle.model.proofs.Drawing.{reaches_inside}
use Rattle.model.proofs.UpperBound.{member_known, member_position}
use Rattle.model.proofs.Drawn.{drawn_is}
use Rattle.model.proofs.CopyDelay.{output_delay_is}
use Rattle.frames.specs.Text.{Line, lines}
use Rattle.frames.specs.declared.Refusal.{Refusal}
use Rattle.frames.specs.Refusal.{at_line}
use Rattle.frames.specs.Fault.{Column, of_21, of_another}
use Rattle.frames.proofs.Fault.{given_number, passes, among}
use Rattle.frames.proofs.Tests.{never}
use Rattle.texts.specs.Reading.{Reading, refused, network, reading, first_heavy}
use Rattle.texts.specs.Says.{Says, too_long, faulty_line, no_end, too_heavy}
use Rattle.frames.specs.Digits.{spell_line, word_bytes, long_bytes}
use Rattle.texts.proofs.Table.{reading_exactly, walk_whole}
use Rattle.texts.proofs.Heavy.{heavy_told, heavy_none}
use Rattle.texts.proofs.GateLines.{blank, line_count}
use Rattle.texts.proofs.Lines.{lines_few, line_within}
use Rattle.frames.proofs.Digits.{length_word_bytes}
use Rattle.texts.proofs.Accepted.{walked}
use Rattle.texts.proofs.AcceptedNetwork.{fit_well_formed, accepted_well_formed, accepted_network, accepted_within_ceilings, accepted_not_heavy}
use Rattle.rows.specs.Says.{SaysRoom, of_text, short_row}
use Rattle.rows.specs.Read.{answer, filled}
use Rattle.rows.proofs.Room.{answer_exactly}
use Rattle.rows.proofs.RoundTrip.{read_written}
use Rattle.selection.specs.Selection.{delay_from}
use Rattle.results.specs.Result.{result_lines, result_bytes, label_bytes, cluster_bytes, result_end_bytes, refusal_bytes}
use Rattle.results.specs.Block.{refusal_lines}
use Rattle.results.proofs.Lengths.{keep_shorter, length_upto, members_few, line_length, result_count}
use Rattle.drawing.specs.Answer.{answer_lines, lines_told, network_result}
use Rattle.drawing.specs.Demands.{most_line, numbers, Finished, Faithful, WellFormedText, Optimal}

-- what the model says of an accepted network

module _ (text : List ℕ) (n : Network) (e : reading text ≡ network n) where
  none_heavy : SomeHeavy n → ⊥
  none_heavy (v, h) = accepted_not_heavy text n e v h

  accepted_best : Best n
  accepted_best = best n (accepted_well_formed text n e)

  accepted_least : LeastDelay n
  accepted_least = least_delay n (accepted_well_formed text n e)

-- Demand 3

module _ (text : List ℕ) (n : Network) (t : WellFormedText text n) where
  well_formed : WellFormed n
  unfolding Rattle.texts.specs.Reading.at_the_end
  well_formed = let w = walked (lines text) n (walk_whole t.whole) in fit_well_formed n w.some_gate w.fit

  -- a heavy gate is told, and only then
  told_or_light : ((at : ℕ) × (reading text ≡ refused (at_line 9 at)) × SomeHeavy n) ⊎ (reading text ≡ network n)
  told_or_light = go (first_heavy n.capacity 2 n.gates) refl
    where
      go :
          (o : Option ℕ) → first_heavy n.capacity 2 n.gates ≡ o
          → ((at : ℕ) × (reading text ≡ refused (at_line 9 at)) × SomeHeavy n) ⊎ (reading text ≡ network n)
      go none e =
          inr (((reading_exactly text).whole n).1 (record { fits = t.fits; whole = t.whole; light = (heavy_none n).0 e }))
      go (some at) e =
          let w = (heavy_told n at).0 e in
          inl
          (w.0 + 2, ((reading_exactly text).refusal (at_line 9 (w.0 + 2))).1 (too_heavy t.fits t.whole w.1), (w.0, w.1.heavy))

-- A heavy gate is what reading tells of a text without fault, and what forbids a legal clustering.
pub optimal : (text : List ℕ) → Optimal text
optimal text =
    record {
      light = λ n e v known. (accepted_network text n e).light v;
      legal = λ n e. (accepted_best text n e).legal (none_heavy text n e);
      exact = λ n e. (accepted_best text n e).exact (none_heavy text n e);
      unbeaten = λ n e. (accepted_best text n e).unbeaten;
      reached = λ n e. (accepted_least text n e).reached (none_heavy text n e);
      least = λ n e. (accepted_least text n e).unbeaten;
      heavy =
          λ n t.
          let b = best n (well_formed text n t) in (
            (λ w.
                ⊎_elim (λ h. b.heavy.0 h.2) (λ e. let q = w.1 in never cc)
                (told_or_light text n t)),
            λ none_legal.
                ⊎_elim (λ h. (h.0, h.1))
                (λ e. absurd (none_heavy text n e (b.heavy.1 none_legal)))
                (told_or_light text n t),
          );
    }

-- Demand 2

pub faithful : (text : List ℕ) (n : Network) → reading text ≡ network n → Faithful text n
unfolding members answer_lines lines_told delay_from label output_delay
faithful text n e =
    let wf = accepted_well_formed text n e in
    record {
      cone = λ u v known. (in_cone_true n wf u v known, λ c. true_in_cone n wf known c.1);
      taken =
          λ u v known. (
            (λ m. let (c, b) = cone_gates_in n v u m in (in_cone_true n wf u v known c, λ q. omega (arith, ap (position n) q))),
            λ (c, apart).
                in_cone_gates n v u (true_in_cone n wf known c.1)
                (⊎_elim (λ q. absurd (apart q)) (λ b. b) (path_rises n wf c.1)),
          );
      longest = onward_largest n wf;
      input_label = label_input n;
      gate_label = label_largest n;
      ceiling = label_ceiling n wf (accepted_within_ceilings text n e);
      clusters = λ v. grows n (labels n) v;
      reaches = reaches_inside n wf (none_heavy text n e);
      inside =
          λ r x known. (
            (λ m. member_true x (cluster n (labels n) r) (keep_in (λ y. member y (cluster n (labels n) r)) x (upto (size n)) m).1),
            λ m. in_keep (λ y. member y (cluster n (labels n) r)) (in_upto (size n) (member_known n wf r x known m)) (true_member m),
          );
      selection = drawn_is n wf (labels n) (member_position n wf (labels n));
      output = output_delay_is n wf;
      frames = rw e;
      again = read_written text n e;
    }

-- Demand 1

-- the line with so many in front of it
stands : {ls : List Line} (front : List Line) (l : Line) (back : List Line) → ls ≡ front ++ (l ∷ back) → get_or ls (length front) blank ≡ l
stands front l back e = ap (λ (ls : List Line). get_or ls (length front) blank) e ∙ get_or-append_seam front l back blank

-- a column comes with 21 alone, and points into its line
no_column : {k : ℕ} → (k ≡ 21 → ⊥) → (k ≡ 21) ↔ (0 < 0)
no_column other = (λ e. absurd (other e), λ h. absurd (omega arith))

column_with : {l : Line} {k c : ℕ} → Column l k c → (k ≡ 21) ↔ (0 < c)
column_with (of_21 f) = (λ e. omega (arith, f.placed), λ h. refl)
column_with (of_another other) = no_column other

column_in : {l : Line} {k c : ℕ} → Column l k c → c ≤ length l.digits
column_in (of_21 f) = omega (arith, f.placed, ap length f.listed, length-append f.before (f.bad ∷ f.after))
column_in (of_another other) = omega arith

-- the column points into the line that it is told of
abbrev Inside : List ℕ → Refusal → Type 0
Inside text f =
    (front : List Line) (l : Line) (back : List Line) → lines text ≡ front ++ (l ∷ back) → f.line ≡ suc (length front)
    → f.column ≤ length l.digits

module _ (text : List ℕ) where
  number_known : {f : Refusal} → Says text f → f.number ∈ numbers
  unfolding passes member
  number_known (too_long h) = member_true 1 numbers refl
  number_known (faulty_line back fits b here given c) = among _ numbers (given_number given) refl
  number_known (no_end fits b h) = member_true 3 numbers refl
  number_known (too_heavy fits b h) = member_true 9 numbers refl

  line_bound : {f : Refusal} → Says text f → f.line ≤ suc (length (lines text))
  line_bound (too_long h) = omega arith
  line_bound (faulty_line {front = front} {l = l} back fits b here given c) =
      omega (arith, ap length here, length-append front (l ∷ back))
  line_bound (no_end fits b h) = omega arith
  line_bound (too_heavy fits b h) = omega (arith, line_count b, h.heavy.known)

  column_told : {f : Refusal} → Says text f → (f.number ≡ 21) ↔ (0 < f.column)
  column_told (too_long h) = no_column (λ e. omega (arith, e))
  column_told (faulty_line back fits b here given c) = column_with c
  column_told (no_end fits b h) = no_column (λ e. omega (arith, e))
  column_told (too_heavy fits b h) = no_column (λ e. omega (arith, e))

  column_inside : {f : Refusal} → Says text f → Inside text f
  column_inside (too_long h) front l back e at = omega arith
  column_inside (faulty_line {front = before} {l = k} behind fits b here given c) front l back e at =
      let level : length before ≡ length front = omega (arith, at) in
      let same : k ≡ l = sym (stands before k behind here) ∙ ap (λ i. get_or (lines text) i blank) level ∙ stands front l back e in
      omega (arith, column_in c, ap (λ (m : Line). length m.digits) same)
  column_inside (no_end fits b h) front l back e at = omega arith
  column_inside (too_heavy fits b h) front l back e at = omega arith

  -- a text that is not too long has no more lines than bytes, and no longer line
  both_held : {f : Refusal} → Says text f → (f.line < 65_536) × (f.column < 65_536)
  both_held (too_long h) = omega arith
  both_held (faulty_line {front = front} {l = l} back fits b here given c) =
      let there : Memᴰ l (lines text) = rw here (mathlib.Core.List.Memᴰ.append_right front (mathlib.Core.List.Memᴰ.head refl)) in
      omega
      (arith, lines_few text, ap length here, length-append front (l ∷ back), column_in c, line_within text l there)
  both_held (no_end fits b h) = omega (arith, lines_few text)
  both_held (too_heavy fits b h) = omega (arith, lines_few text, line_count b, h.heavy.known)

-- the lines of an answer: how many, and how long

pub drawn_few : (n : Network) (l : List ℕ) → length (drawn n l) ≤ size n
unfolding drawn
drawn_few n l = omega (arith, keep_shorter (λ r. ltb 0 (get_or (marks n l) r 0)) (upto (size n)), length_upto (size n))

AllShort : List (List ℕ) → Type 0
AllShort ls = (l : List ℕ) → Memᴰ l ls → length l ≤ most_line

mapped_short : (f : ℕ → List ℕ) (xs : List ℕ) → ((x : ℕ) → length (f x) ≤ most_line) → AllShort (map f xs)
unfolding AllShort
mapped_short f [] h l m = absurd (mathlib.Core.List.Memᴰ.not-nil m)
mapped_short f (x ∷ xs) h l m =
    ⊎_elim (λ (e : l ≡ f x). omega (arith, ap length e, h x)) (λ (m' : Memᴰ l (map f xs)). mapped_short f xs h l m')
    (mathlib.Core.List.Memᴰ.cases_cons m)

both_short : (ls ks : List (List ℕ)) → AllShort ls → AllShort ks → AllShort (ls ++ ks)
unfolding AllShort
both_short ls ks h g l m = ⊎_elim (h l) (g l) (mathlib.Core.List.Memᴰ.append_cases ls m)

one_short : (l : List ℕ) → length l ≤ most_line → AllShort (l ∷ [])
unfolding AllShort
one_short l h k m = omega (arith, ap length (mathlib.Core.List.Memᴰ.eq_of_singleton m))

module _ (n : Network) (l roots : List ℕ) where
  first_lines : List (List ℕ)
  unfolding result_lines
  first_lines =
      spell_line (result_bytes (delay_from n l) (length roots)) ∷ map (λ v. spell_line (label_bytes v (get_or l v 0))) (upto (size n))

  cluster_lines : List (List ℕ)
  cluster_lines = map (λ r. spell_line (cluster_bytes r (members n l r))) roots

  result_parts : result_lines n l roots ≡ first_lines ++ cluster_lines ++ (spell_line (result_end_bytes (size n)) ∷ [])
  unfolding result_lines first_lines cluster_lines
  result_parts = refl

  result_short : size n ≤ most_gates → AllShort (result_lines n l roots)
  unfolding AllShort first_lines cluster_lines result_bytes label_bytes cluster_bytes result_end_bytes long_bytes word_bytes
  result_short few =
      rw result_parts
      (both_short (first_lines ++ cluster_lines) (spell_line (result_end_bytes (size n)) ∷ [])
      (both_short first_lines cluster_lines
      (both_short (spell_line (result_bytes (delay_from n l) (length roots)) ∷ []) (map (λ v. spell_line (label_bytes v (get_or l v 0))) (upto (size n)))
      (one_short _ (omega (arith, line_length (result_bytes (delay_from n l) (length roots)))))
      (mapped_short (λ v. spell_line (label_bytes v (get_or l v 0))) (upto (size n)) (λ v. omega (arith, line_length (label_bytes v (get_or l v 0))))))
      (mapped_short (λ r. spell_line (cluster_bytes r (members n l r))) roots
      (λ r. omega (arith, line_length (cluster_bytes r (members n l r)), length_word_bytes (members n l r), members_few n l r))))
      (one_short _ (omega (arith, line_length (result_end_bytes (size n))))))

told_few : (r : Reading) → ((n : Network) → r ≡ network n → size n ≤ most_gates) → length (lines_told r) ≤ 2 + 2 * most_gates
unfolding lines_told network_result
told_few (refused f) few = omega arith
told_few (network n) few =
    omega (arith, result_count n (labels n) (drawn n (labels n)), drawn_few n (labels n), few n refl)

told_short : (r : Reading) → ((n : Network) → r ≡ network n → size n ≤ most_gates) → AllShort (lines_told r)
unfolding lines_told network_result refusal_bytes word_bytes
told_short (refused f) few = one_short _ (omega (arith, line_length (refusal_bytes f)))
told_short (network n) few = result_short n (labels n) (drawn n (labels n)) (few n refl)

-- the one line of a text that is refused
pub refused_lines : (text : List ℕ) (f : Refusal) → reading text ≡ refused f → answer_lines text ≡ refusal_lines f
unfolding answer_lines lines_told
refused_lines text f e = ap lines_told e

pub refusal_line_length : (f : Refusal) (l : List ℕ) → Memᴰ l (refusal_lines f) → length l ≡ 13
unfolding refusal_bytes word_bytes
refusal_line_length f l m = omega (arith, ap length (mathlib.Core.List.Memᴰ.eq_of_singleton m), line_length (refusal_bytes f))

-- Every text is answered within the bounds, and a refusal keeps the row.
pub finished : (text row : List ℕ) → Finished text row
unfolding answer_lines AllShort filled
finished text row =
    let few : (n : Network) → reading text ≡ network n → size n ≤ most_gates = λ n e. (accepted_within_ceilings text n e).gates in
    record {
      told = either (answer text row);
      number = λ f e. room_number (((answer_exactly text row).refusal f).0 e);
      line = λ f e. room_line (((answer_exactly text row).refusal f).0 e);
      column = λ f e. room_column (((answer_exactly text row).refusal f).0 e);
      inside = λ f e. room_inside (((answer_exactly text row).refusal f).0 e);
      held = λ f e. room_held (((answer_exactly text row).refusal f).0 e);
      one_line = refused_lines text;
      bytes = refusal_line_length;
      few = told_few (reading text) few;
      short = told_short (reading text) few;
      kept = λ f e. rw e;
    }
  where
    either : (r : Reading) → ((n : Network) × (r ≡ network n)) ⊎ ((f : Refusal) × (r ≡ refused f))
    either (refused f) = inr (f, refl)
    either (network n) = inl (n, refl)

    room_number : {f : Refusal} → SaysRoom text row f → f.number ∈ numbers
    room_number (of_text s) = number_known text s
    room_number (short_row r s) = member_true 10 numbers (unfold member in refl)

    room_line : {f : Refusal} → SaysRoom text row f → f.line ≤ suc (length (lines text))
    room_line (of_text s) = line_bound text s
    room_line (short_row r s) = omega arith

    room_column : {f : Refusal} → SaysRoom text row f → (f.number ≡ 21) ↔ (0 < f.column)
    room_column (of_text s) = column_told text s
    room_column (short_row r s) = no_column (λ e. omega (arith, e))

    room_inside : {f : Refusal} → SaysRoom text row f → Inside text f
    room_inside (of_text s) = column_inside text s
    room_inside (short_row r s) = λ front l back e at. omega arith

    room_held : {f : Refusal} → SaysRoom text row f → (f.line < 65_536) × (f.column < 65_536)
    room_held (of_text s) = both_held text s
    room_held (short_row r s) = omega arith
