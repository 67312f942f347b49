-- The three demands [T1] [T2] [T3], each a record with a field for each of its sentences.
use Rattle.std.specs.Prelude.{ℕ, suc, ◌+◌, ◌*◌, ◌≤◌, ◌<◌, ◌≡◌, ◌⊎◌, ◌↔◌, true, false, length}
use mathlib.Core.List.{List, [], ◌∷◌, ◌++◌, Memᴰ}
use Rattle.model.specs.Basics.{◌∈◌, Largest}
use Rattle.model.specs.Ceilings.{most_gates, most_label}
use Rattle.model.specs.Network.{Network, size, weight, delay, input}
use Rattle.model.specs.Onward.{InCone, Onward, in_cone, onward}
use Rattle.model.specs.Clustering.{Clustering, Legal, Delay, ClusteringDelay}
use Rattle.model.specs.Label.{Counts, ReachesInside, cluster, labels, label}
use Rattle.model.specs.Growth.{Grows, cone_gates}
use Rattle.model.specs.Drawing.{Drawn, drawn, members, name, drawing, OutputDelay, output_delay}
use Rattle.frames.specs.Text.{Line, lines}
use Rattle.frames.specs.declared.Place.TheVariants.{Closed}
use Rattle.frames.specs.declared.Refusal.{Refusal}
use Rattle.frames.specs.Refusal.{at_line}
use Rattle.texts.specs.Reading.{refused, network, reading, most_text}
use Rattle.texts.specs.Says.{Before}
use Rattle.rows.specs.Read.{answer, filled}
use Rattle.texts.specs.Spelling.{spell_network}
use Rattle.selection.specs.Selection.{delay_from}
use Rattle.results.specs.Block.{refusal_lines}
use Rattle.drawing.specs.Answer.{answer_lines, network_result}

-- [B7] The longest result line: that of a cluster of 512 members.
abbrev pub most_line : ℕ
most_line = 2_059

-- Every number that a text can be refused with: [N1], [N3] to [N10] and [N21] to [N24].
abbrev pub numbers : List ℕ
numbers = 1 ∷ 3 ∷ 4 ∷ 5 ∷ 6 ∷ 7 ∷ 8 ∷ 9 ∷ 10 ∷ 21 ∷ 22 ∷ 23 ∷ 24 ∷ []

-- Demand 1 [T1], of a text and the row lent for it.
pub record Finished (text row : List ℕ) : Type 0 where
  -- [F13] Every text gets a result or one refusal.
  pub told :
      ((n : Network) × (answer text row ≡ network n))
      ⊎ ((f : Refusal) × (answer text row ≡ refused f))
  -- [O1] A refusal is its number, its line and its column. The line past the last is that of a missing end [O4].
  pub number : (f : Refusal) → answer text row ≡ refused f → f.number ∈ numbers
  pub line : (f : Refusal) → answer text row ≡ refused f → f.line ≤ suc (length (lines text))
  -- [N21] A column other than 0 comes with 21 alone, and is no larger than its line.
  pub column : (f : Refusal) → answer text row ≡ refused f → (f.number ≡ 21) ↔ (0 < f.column)
  pub inside :
      (f : Refusal) → answer text row ≡ refused f
      → (front : List Line) (l : Line) (back : List Line) → lines text ≡ front ++ (l ∷ back) → f.line ≡ suc (length front)
      → f.column ≤ length l.digits
  -- [F10] Two bytes hold the line, and two the column. [F13] A refused text is told in one line, which has 13 bytes.
  pub held : (f : Refusal) → answer text row ≡ refused f → (f.line < 65_536) × (f.column < 65_536)
  pub one_line : (f : Refusal) → reading text ≡ refused f → answer_lines text ≡ refusal_lines f
  pub bytes : (f : Refusal) (l : List ℕ) → Memᴰ l (refusal_lines f) → length l ≡ 13
  -- [F12] At most a label line and a cluster line for each gate, a first line and a last; [B7] none of them too long.
  pub few : length (answer_lines text) ≤ 2 + 2 * most_gates
  pub short : (l : List ℕ) → Memᴰ l (answer_lines text) → length l ≤ most_line
  -- [R4] On a refusal the lent row has not changed.
  pub kept : (f : Refusal) → answer text row ≡ refused f → filled (answer text row) row ≡ row

-- Demand 2 [T2], of an accepted text and its network.
pub record Faithful (text : List ℕ) (n : Network) : Type 1 where
  -- [W5] The cone of v is exactly the gates with a path to v.
  pub cone : (u v : ℕ) → v < size n → (in_cone n u v ≡ true) ↔ InCone n u v
  -- [L2] Growth takes from the cone each gate but v.
  pub taken : (u v : ℕ) → v < size n → (u ∈ cone_gates n v) ↔ (InCone n u v × (u ≡ v → ⊥))
  -- [W6] The onward delay is the largest sum over paths.
  pub longest : (u v : ℕ) → v < size n → InCone n u v → Onward n u v (onward n u v)
  -- [L1] A primary input has its delay as label.
  pub input_label : (v : ℕ) → v < size n → input n v ≡ true → label n v ≡ delay n v
  -- [L5] Another gate has the largest pull of an input inside, or that of the stopping gate and D, whichever is larger.
  pub gate_label : (v : ℕ) → v < size n → input n v ≡ false → Largest (Counts n (labels n) v) (label n v)
  -- [B6] No label exceeds the ceiling.
  pub ceiling : (v : ℕ) → v < size n → label n v ≤ most_label
  -- [L3] [L4] Gates join by pull, of equal pulls the larger number first, and growth stops at the first that would overfill.
  pub clusters : (v : ℕ) → Grows n (labels n) v
  -- [L6] Every member reaches its root inside the cluster.
  pub reaches : (r x : ℕ) → r < size n → x ∈ cluster n (labels n) r → ReachesInside n (cluster n (labels n) r) r x
  -- [F8] The members that a frame names are those of the cluster.
  pub inside : (r x : ℕ) → r < size n → (x ∈ members n (labels n) r) ↔ (x ∈ cluster n (labels n) r)
  -- [S1] [S2] [S3] The least set that has the outputs and with each root the inputs of its cluster is drawn.
  pub selection : Drawn n (labels n) (drawn n (labels n))
  -- [S5] The output delay is the largest label of an output.
  pub output : OutputDelay n (delay_from n (labels n))
  -- [F12] The frames are exactly the ones that the rules give.
  pub frames : answer_lines text ≡ network_result n
  -- [F14] A network read and written again is its own text.
  pub again : spell_network n ≡ text

-- A text without fault up to its end, heavy gates or not.
pub record WellFormedText (text : List ℕ) (n : Network) : Type 0 where
  pub fits : length text ≤ most_text
  pub whole : Before (lines text) Closed n

-- Demand 3 [T3], of a text: what is drawn of the network that it spells, if it is accepted.
pub record Optimal (text : List ℕ) : Type 0 where
  -- [N9] No gate of an accepted network is heavier than M.
  pub light : (n : Network) → reading text ≡ network n → (v : ℕ) → v < size n → weight n v ≤ n.capacity
  -- The drawn clustering is legal.
  pub legal : (n : Network) → reading text ≡ network n → Legal n (drawing n)
  -- The root of each drawn cluster has exactly its label as delay.
  pub exact :
      (n : Network) → reading text ≡ network n
      → (r : ℕ) → r ∈ drawn n (labels n) → Delay n (drawing n) (name n r r) (label n r)
  -- In no legal clustering, with as many copies as anyone likes, has any copy a smaller delay than its gate's label.
  pub unbeaten :
      (n : Network) → reading text ≡ network n
      → (k : Clustering) → Legal n k → (c d : ℕ) → c ∈ k.copies → Delay n k c d → label n (k.gate_of c) ≤ d
  -- The output delay is the delay of the drawn clustering,
  pub reached : (n : Network) → reading text ≡ network n → ClusteringDelay n (drawing n) (output_delay n)
  -- and the least: no legal clustering has a smaller one.
  pub least :
      (n : Network) → reading text ≡ network n
      → (k : Clustering) → Legal n k → (d : ℕ) → ClusteringDelay n k d → output_delay n ≤ d
  -- A text without fault is refused for a heavy gate exactly when no legal clustering exists.
  pub heavy :
      (n : Network) → WellFormedText text n
      → ((at : ℕ) × (reading text ≡ refused (at_line 9 at))) ↔ ((k : Clustering) → Legal n k → ⊥)
