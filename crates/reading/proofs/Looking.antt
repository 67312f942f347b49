-- What the first pass knows of the network that it reads: kept gate by gate, and enough to answer at the end.
use Prim.Native.Nat.{ℕ, suc, ◌+◌, ◌≤◌}
use Rattle.std.specs.Prelude.{Ok, Err, Some, None}
use Rattle.std.specs.Bool.{then_some}
use Rattle.std.specs.Option.{option_or}
use mathlib.Core.Path.{◌≡◌, refl, sym, ap, ◌∙◌}
use mathlib.Core.Bool.{not}
use mathlib.Core.List.{List, [], ◌∷◌, ◌++◌}
use mathlib.Core.Option.{Option, none, some}
use native.Mathlib.Omega.{arith}
use native.Mathlib.Decide.{dec_le}
use lib.ListN.{length, drop, length-append}
use lib.Dec.{leb}
use borrow.Author.Tests.{le-leb, lt-leb, lt-ltb, le-ltb}
use Rattle.model.specs.Ceilings.{most_gates}
use Rattle.model.specs.Network.{Gate, Network, size}
use Rattle.units.specs.declared.Cells.{Cells}
use Rattle.units.specs.declared.Ticks.{Ticks}
use Rattle.units.specs.declared.FanInCount.{FanInCount}
use Rattle.frames.specs.declared.Refusal.{Refusal}
use Rattle.frames.specs.Refusal.{at_line}
use Rattle.frames.specs.Text.{lines}
use Rattle.frames.specs.declared.Place.TheVariants.{AfterGates}
use Rattle.texts.specs.Reading.{Reading, refused, network, walk, first_heavy, told_heavy, weigh}
use Rattle.frames.proofs.Tests.{never}
use Rattle.rows.specs.Read.{shown}
use Rattle.reading.specs.declared.Seen.{Seen}
use Rattle.reading.specs.steps.Passes.{line_known, Known, header_only, heavy_with, one_more}
use Rattle.reading.proofs.LinesRead.{with_one, GateRead}

-- the line of the first heavy gate, with a gate more at the end

heavy_more : (capacity at : ℕ) (gs : List Gate) (g : Gate)
    → line_known (first_heavy capacity at (gs ++ (g ∷ [])))
    ≡ option_or (line_known (first_heavy capacity at gs)) (then_some (not (leb g.weight capacity)) (at + length gs))
unfolding line_known first_heavy
heavy_more capacity at [] g = go (dec_le g.weight capacity)
  where
    go : Dec (g.weight ≤ capacity) → line_known (first_heavy capacity at (g ∷ [])) ≡ then_some (not (leb g.weight capacity)) (at + 0)
    go (yes h) = rw (le-ltb capacity g.weight h, le-leb g.weight capacity h)
    go (no h) =
        let here : at + 0 ≡ at = omega arith in
        rw (lt-ltb capacity g.weight (omega arith), lt-leb g.weight capacity (omega arith), here)
heavy_more capacity at (h ∷ hs) g = go (dec_le h.weight capacity) (heavy_more capacity (suc at) hs g)
  where
    go : Dec (h.weight ≤ capacity)
        → line_known (first_heavy capacity (suc at) (hs ++ (g ∷ [])))
        ≡ option_or (line_known (first_heavy capacity (suc at) hs)) (then_some (not (leb g.weight capacity)) (suc at + length hs))
        → line_known (first_heavy capacity at (h ∷ hs ++ (g ∷ [])))
        ≡ option_or (line_known (first_heavy capacity at (h ∷ hs))) (then_some (not (leb g.weight capacity)) (at + suc (length hs)))
    go (yes le) rest =
        let c : at + suc (length hs) ≡ suc at + length hs = omega arith in
        rw (le-ltb capacity h.weight le, c) rest
    go (no gt) rest = rw (lt-ltb capacity h.weight (omega arith))

-- kept

-- after the header
abbrev pub starting : Cells → Ticks → Seen
starting capacity hop = record { header = record { capacity = capacity; hop = hop; gates = 0 }; heavy = None }

pub known_header : (capacity : Cells) (hop : Ticks) → Known (starting capacity hop) (header_only capacity hop)
unfolding size line_known first_heavy
known_header capacity hop = record { capacity = refl; hop = refl; gates = refl; heavy = refl }

pub known_more : (seen : Seen) (n : Network) (g : Gate) (weight : Cells) → g.weight ≡ weight.0 → Known seen n → Known (one_more seen weight) (with_one n g)
unfolding size heavy_with
known_more seen n g weight e k =
    let line : 2 + length n.gates ≡ seen.header.gates + 2 = omega (arith, k.gates) in
    record {
      capacity = k.capacity;
      hop = k.hop;
      gates = length-append n.gates (g ∷ []) ∙ ap (λ m. m + 1) k.gates;
      heavy = heavy_more n.capacity 2 n.gates g ∙ rw (k.heavy, e, k.capacity, line);
    }

-- told at the end

pub told_none : (seen : Seen) (n : Network) → Known seen n → seen.heavy ≡ None
    → Ok seen.header ≡ shown (weigh (network n))
unfolding shown weigh told_heavy line_known
told_none seen n k e = go (first_heavy n.capacity 2 n.gates) refl
  where
    go : (o : Option ℕ) → first_heavy n.capacity 2 n.gates ≡ o → Ok seen.header ≡ shown (told_heavy o n)
    go none f = rw (k.capacity, k.hop, k.gates)
    go (some line) f = let z = sym (ap line_known f) ∙ k.heavy ∙ e in never cc

pub told_some : (seen : Seen) (n : Network) (heavy : ℕ) → Known seen n → seen.heavy ≡ Some heavy
    → Err (at_line 9 heavy) ≡ shown (weigh (network n))
unfolding shown weigh told_heavy line_known
told_some seen n heavy k e = go (first_heavy n.capacity 2 n.gates) refl
  where
    go : (o : Option ℕ) → first_heavy n.capacity 2 n.gates ≡ o → Err (at_line 9 heavy) ≡ shown (told_heavy o n)
    go none f = let z = sym (ap line_known f) ∙ k.heavy ∙ e in never cc
    go (some line) f =
        let z = sym (ap line_known f) ∙ k.heavy ∙ e in
        let same : line ≡ heavy = cc in rw same

-- a refusal of the walk is told as it is, whatever weighs
pub refusal_told : {f : Refusal} {w : Reading} → w ≡ refused f → Err f ≡ shown (weigh w)
unfolding shown weigh
refusal_told e = rw e

-- On the way: the network of the lines so far, and that the walk over those that are left answers what the whole does.
pub record Going (text : List ℕ) (first : ℕ) (start : Seen) (at : ℕ) (seen : Seen) : Type 0 where
  pub so_far : Network
  pub known : Known seen so_far
  pub few : seen.header.gates ≤ most_gates
  pub same :
      walk (AfterGates seen.header.gates) (seen.header.gates + 2) so_far (lines (drop at text))
      ≡ walk (AfterGates 0) 2 (header_only start.header.capacity start.header.hop) (lines (drop first text))

pub set_out : (text : List ℕ) (first : ℕ) (capacity : Cells) (hop : Ticks)
    → Going text first (starting capacity hop) first (starting capacity hop)
set_out text first capacity hop =
    record { so_far = header_only capacity hop; known = known_header capacity hop; few = omega arith; same = refl }

pub go_on : (text : List ℕ) (first : ℕ) (start : Seen) (at : ℕ) (seen : Seen) (weight : Cells) (delay : Ticks) (count : FanInCount) (next : ℕ)
    → Going text first start at seen → GateRead text at seen.header.gates weight delay count next → Going text first start next (one_more seen weight)
go_on text first start at seen weight delay count next g r =
    record {
      so_far = with_one g.so_far r.gate;
      known = known_more seen g.so_far r.gate weight r.weighs g.known;
      few = omega (arith, r.fit.number);
      same = sym (r.on g.so_far) ∙ g.same;
    }
