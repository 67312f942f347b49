-- The ceilings as numbers: section Ceilings of docs/RULES.md.
use Rattle.std.specs.Prelude.{ℕ}

-- [B1] gates
abbrev pub most_gates : ℕ
most_gates = 512

-- [B2] fan-ins of a gate
abbrev pub most_fanins : ℕ
most_fanins = 8

-- [B3] what two bytes say: a weight, a delay, D
abbrev pub most_weight : ℕ
most_weight = 65_535

abbrev pub most_delay : ℕ
most_delay = 65_535

abbrev pub most_hop : ℕ
most_hop = 65_535

-- [B4] what four bytes say: M
abbrev pub most_capacity : ℕ
most_capacity = 4_294_967_295

-- [B6] the largest label
abbrev pub most_label : ℕ
most_label = 67_042_305
