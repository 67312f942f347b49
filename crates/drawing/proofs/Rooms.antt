-- The lent rows of every network are modest, whether a text is accepted for it or not.
use Prim.Native.Nat.{ℕ, ◌+◌, ◌*◌, ◌≤◌}
use mathlib.Core.Path.{◌≡◌, ap}
use mathlib.Core.Logic.{⊎_elim}
use mathlib.Core.List.Memᴰ
use mathlib.Core.List.{List, ◌++◌, map, Memᴰ}
use native.Mathlib.Omega.{arith}
use borrow.Author.Tests.{le-ltb}
use lib.ListN.{length, get_or}
use Rattle.model.specs.Basics.{upto}
use Rattle.model.specs.Network.{Gate, Network, size}
use Rattle.model.specs.Drawing.{members}
use Rattle.units.specs.Units.{held, capacity_place, delay_place}
use Rattle.frames.specs.Digits.{spell_line, word_bytes, long_bytes}
use Rattle.frames.proofs.Digits.{length_word_bytes}
use Rattle.texts.specs.Spelling.{header_bytes, gate_bytes, end_bytes}
use Rattle.rows.specs.declared.Header.{Header}
use Rattle.rows.specs.Row.{places, too_short, count_in, gate_in, network_in}
use Rattle.rows.specs.Spelling.{gate_line, row_lines}
use Rattle.selection.specs.Selection.{delay_from}
use Rattle.results.specs.Result.{result_lines, result_bytes, label_bytes, cluster_bytes, result_end_bytes}
use Rattle.results.proofs.Lengths.{line_length, members_few}
use Rattle.drawing.specs.Prepared.{any_short}
use Rattle.drawing.specs.Rooms.{fan_in_count, most_room, Modest}
use Rattle.drawing.proofs.Demands.{refusal_line_length}

-- Multiplied out, the square of gates + fan-ins + 1 has each of the three in it.
linear : (n : Network) → 64 * (size n + fan_in_count n.gates + 1) ≤ most_room n
unfolding most_room
linear n = omega arith

-- no gate has more fan-ins than all together
counted : {g : Gate} {gs : List Gate} → Memᴰ g gs → length g.fanins ≤ fan_in_count gs
unfolding fan_in_count
counted (Memᴰ.head e) = omega (arith, ap (λ (k : Gate). length k.fanins) e)
counted (Memᴰ.tail m) = omega (arith, counted m)

-- The lines of a text: 15 bytes for the header, 13 and 4 a fan-in for a gate, 7 for the end.
module _ (h : Header) (row : List ℕ) where
  gate_line_length : (v : ℕ) → length (gate_line row v) ≡ 13 + 4 * length (gate_in row v).fanins
  unfolding gate_line gate_bytes word_bytes
  gate_line_length v =
      omega (arith, line_length (gate_bytes (gate_in row v) (held 8 (count_in row v))), length_word_bytes (gate_in row v).fanins)

  text_line_short : (l : List ℕ) → Memᴰ l (row_lines h row) → length l ≤ 15 + 4 * fan_in_count (network_in h row).gates
  unfolding row_lines header_bytes end_bytes long_bytes word_bytes network_in
  text_line_short l m =
      ⊎_elim (λ e. omega (arith, ap length e, line_length (header_bytes (capacity_place h.capacity) (delay_place h.hop))))
      (λ behind.
      ⊎_elim
      (λ among.
      let (v, known, e) = Memᴰ.of_map (gate_line row) (upto h.gates) among in
      omega (arith, ap length e, gate_line_length v, counted (Memᴰ.map (gate_in row) known)))
      (λ last. omega (arith, ap length (Memᴰ.eq_of_singleton last), line_length (end_bytes h.gates)))
      (Memᴰ.append_cases (map (gate_line row) (upto h.gates)) behind))
      (Memᴰ.cases_cons m)

-- The lines of a result: 15 bytes for an 11 and a 12, 11 and 4 a member for a 13, 7 for the 1F.
module _ (n : Network) (labels roots : List ℕ) where
  abbrev label_line : ℕ → List ℕ
  label_line v = spell_line (label_bytes v (get_or labels v 0))

  abbrev cluster_line : ℕ → List ℕ
  cluster_line r = spell_line (cluster_bytes r (members n labels r))

  abbrev label_lines : List (List ℕ)
  label_lines = map label_line (upto (size n))

  result_line_short : (l : List ℕ) → Memᴰ l (result_lines n labels roots) → length l ≤ 15 + 4 * size n
  unfolding result_lines result_bytes label_bytes cluster_bytes result_end_bytes long_bytes word_bytes
  result_line_short l m =
      ⊎_elim (λ e. omega (arith, ap length e, line_length (result_bytes (delay_from n labels) (length roots))))
      (λ behind.
      ⊎_elim
      (λ among.
      ⊎_elim
      (λ label.
      let (v, known, e) = Memᴰ.of_map label_line (upto (size n)) label in
      omega (arith, ap length e, line_length (label_bytes v (get_or labels v 0))))
      (λ cluster.
      let (r, known, e) = Memᴰ.of_map cluster_line roots cluster in
      omega (arith, ap length e, line_length (cluster_bytes r (members n labels r)), length_word_bytes (members n labels r), members_few n labels r))
      (Memᴰ.append_cases label_lines among))
      (λ last. omega (arith, ap length (Memᴰ.eq_of_singleton last), line_length (result_end_bytes (size n))))
      (Memᴰ.append_cases (label_lines ++ map cluster_line roots) behind))
      (Memᴰ.cases_cons m)

pub modest : (n : Network) → Modest n
unfolding too_short any_short
modest n =
    let most = linear n in
    record {
      network_row = λ row long. le-ltb (length row) (places * size n) (omega arith);
      labels = λ labels long. le-ltb (length labels) (size n) (omega arith);
      beside_labels =
          λ labels other long also. rw (le-ltb (length labels) (size n) (omega arith), le-ltb (length other) (size n) (omega arith));
      lent =
          λ l row labels marks.
          rw (
            le-ltb (length l.row) (places * size n) (omega arith),
            le-ltb (length l.labels) (size n) (omega arith),
            le-ltb (length l.marks) (size n) (omega arith),
          );
      text_line = λ h row e l m. omega (arith, text_line_short h row l m, ap (λ (k : Network). fan_in_count k.gates) e);
      result_line = λ labels roots l m. omega (arith, result_line_short n labels roots l m);
      refusal_line = λ f l m. omega (arith, refusal_line_length f l m);
    }
