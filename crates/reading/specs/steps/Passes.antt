-- What the private functions of the two passes over a text answer.
use Rattle.std.specs.Prelude.{ℕ, zero, suc, ◌+◌, ◌≡◌, false, not, List, [], Option, Some, None}
use Rattle.std.specs.Bool.{then_some}
use Rattle.std.specs.Option.{option_or}
use Rattle.std.proofs.Math.Option as maybe
use Rattle.model.specs.Network.{Network, size}
use Rattle.units.specs.declared.Cells.{Cells}
use Rattle.units.specs.declared.Ticks.{Ticks}
use Rattle.units.specs.Units.{fits}
use Rattle.frames.specs.Frames.{fan_in_from}
use Rattle.texts.specs.Reading.{network, first_heavy, reading}
use Rattle.rows.specs.Row.{too_short, fanin_put}
use Rattle.reading.specs.declared.Seen.{Seen}

-- a line, where there is one
unfoldable pub line_known : maybe.Option ℕ → Option ℕ
line_known maybe.none = None
line_known (maybe.some at) = Some at

-- What is known of a network that is being read.
pub record Known (seen : Seen) (n : Network) : Type 0 where
  pub capacity : n.capacity ≡ seen.header.capacity.0
  pub hop : n.hop ≡ seen.header.hop.0
  pub gates : size n ≡ seen.header.gates
  pub heavy : line_known (first_heavy n.capacity 2 n.gates) ≡ seen.heavy

-- a network of which only the header was read
abbrev pub header_only : Cells → Ticks → Network
header_only capacity hop = record { capacity = capacity.0; hop = hop.0; gates = [] }

-- the line of the first heavy gate, after one more that stands in this line
unfoldable pub heavy_with : Option ℕ → Cells → Cells → ℕ → Option ℕ
heavy_with heavy weight capacity line = option_or heavy (then_some (not (fits weight capacity)) line)

-- after a gate of this weight more: gate v stands in line v + 2
abbrev pub one_more : Seen → Cells → Seen
one_more seen weight =
    record {
      header = record { capacity = seen.header.capacity; hop = seen.header.hop; gates = seen.header.gates + 1 };
      heavy = heavy_with seen.heavy weight seen.header.capacity (seen.header.gates + 2);
    }

-- the row with so many fan-ins of a gate line, from one of them on, put into the block of gate v
unfoldable pub with_fan_ins : List ℕ → ℕ → ℕ → ℕ → ℕ → List ℕ → List ℕ
unfolding fan_in_from fanin_put
with_fan_ins text at v i zero row = row
with_fan_ins text at v i (suc k) row = with_fan_ins text at v (suc i) k (fanin_put v i (fan_in_from text at i) row)

-- A text is a network's, and the row has room for it.
pub record FitsInto (text row : List ℕ) : Type 0 where
  pub whole : Network
  pub reads : reading text ≡ network whole
  pub room : too_short (size whole) row ≡ false
