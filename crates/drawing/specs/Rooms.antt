-- The room of lent rows. Each lent row of a network is measured here by the test, or by the line, that the promise of its function
-- names.
use Rattle.std.specs.Prelude.{ℕ, ◌+◌, ◌*◌, ◌≤◌, ◌≡◌, false, length, ltb}
use mathlib.Core.List.{List, [], ◌∷◌, Memᴰ}
use Rattle.model.specs.Network.{Gate, Network, size}
use Rattle.frames.specs.declared.Refusal.{Refusal}
use Rattle.rows.specs.declared.Header.{Header}
use Rattle.rows.specs.Row.{too_short, network_in}
use Rattle.rows.specs.Spelling.{row_lines}
use Rattle.labelling.specs.Promises.{either_short}
use Rattle.results.specs.Result.{result_lines}
use Rattle.results.specs.Block.{refusal_lines}
use Rattle.drawing.specs.Prepared.{Lent, any_short}

-- the fan-ins of all gates together
unfoldable pub fan_in_count : List Gate → ℕ
fan_in_count [] = 0
fan_in_count (g ∷ gs) = length g.fanins + fan_in_count gs

-- [B8] 64 times the square of gates + fan-ins + 1
unfoldable pub most_room : Network → ℕ
unfolding fan_in_count
most_room n = let side = size n + fan_in_count n.gates + 1 in 64 * (side * side)

-- [B8] A row of that many places is never too short, and no line has more bytes.
pub record Modest (n : Network) : Type 0 where
  -- [R1] the row of the network, in every function that reads into it or is handed it
  pub network_row : (row : List ℕ) → most_room n ≤ length row → too_short (size n) row ≡ false
  -- [R2] the labels of `labelling::label`,
  pub labels : (labels : List ℕ) → most_room n ≤ length labels → ltb (length labels) (size n) ≡ false
  -- and the labels with the members of `labelling::cluster`, or with the marks of `selection::draw` and the lines of `results`
  pub beside_labels :
      (labels other : List ℕ) → most_room n ≤ length labels → most_room n ≤ length other
      → either_short (size n) labels other ≡ false
  -- the three rows of `drawing::prepare`
  pub lent :
      (l : Lent) → most_room n ≤ length l.row → most_room n ≤ length l.labels → most_room n ≤ length l.marks
      → any_short (size n) l ≡ false
  -- [R6] the row for a line of the text that the network spells from its row (`writing::write_line`),
  pub text_line :
      (h : Header) (row : List ℕ) → network_in h row ≡ n → (l : List ℕ) → Memᴰ l (row_lines h row) → length l ≤ most_room n
  -- for a line of its result, or the first of a block, whatever the labels and the roots are,
  pub result_line : (labels roots l : List ℕ) → Memᴰ l (result_lines n labels roots) → length l ≤ most_room n
  -- and for the line of a refusal: even without gates and fan-ins 64 places are enough
  pub refusal_line : (f : Refusal) (l : List ℕ) → Memᴰ l (refusal_lines f) → length l ≤ most_room n
