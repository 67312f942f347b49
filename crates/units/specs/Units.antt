-- What each function of `units` answers. The ceilings are the model's, so that the code's constants, which the makers
-- test against, cannot drift from them. No definition takes both an area and a time [W4].
use Rattle.std.specs.Prelude.{ℕ, ◌+◌, ◌-◌, ◌^◌, min, max, Bool, cond, leb, ltb, Option, Some, None}
use Rattle.model.specs.Ceilings.{most_gates, most_fanins, most_weight, most_delay}
use Rattle.units.specs.declared.Cells.{Cells}
use Rattle.units.specs.declared.Ticks.{Ticks}
use Rattle.units.specs.declared.GateNumber.{GateNumber}
use Rattle.units.specs.declared.FanInCount.{FanInCount}

-- So many cells; so many ticks.
abbrev pub cells : ℕ → Cells
cells n = record { 0 = n }

abbrev pub ticks : ℕ → Ticks
ticks n = record { 0 = n }

-- A maker's answer: the number made where it is within its ceiling, and otherwise that it is above it.
-- [B3] a weight, and a delay
abbrev pub weighed : ℕ → Option Cells
weighed x = cond (leb x most_weight) (Some (cells x)) None

abbrev pub delayed : ℕ → Option Ticks
delayed x = cond (leb x most_delay) (Some (ticks x)) None

-- [B1] gate numbers count from 0, so they are those below the ceiling
abbrev pub numbered : ℕ → Option GateNumber
numbered x = cond (ltb x most_gates) (Some (record { 0 = x })) None

-- [B2] a number of fan-ins
abbrev pub counted : ℕ → Option FanInCount
counted x = cond (leb x most_fanins) (Some (record { 0 = x })) None

-- A number as so many bits hold it: what is above the largest number of them is that largest.
abbrev pub held : ℕ → ℕ → ℕ
held bits x = min x (2 ^ bits - 1)

-- The sum of two numbers as 64 bits hold it.
abbrev pub held_sum : ℕ → ℕ → ℕ
held_sum a b = held 64 (a + b)

-- [W4] Areas: summed, and measured against M [C4].
abbrev pub area_sum : Cells → Cells → ℕ
area_sum a b = held_sum a.0 b.0

abbrev pub fits : Cells → Cells → Bool
fits a capacity = leb a.0 capacity.0

-- [W4] Times: summed to a pull [L2], the larger of two taken [L5], compared where gates are taken by pull [L3].
abbrev pub time_sum : Ticks → Ticks → ℕ
time_sum a b = held_sum a.0 b.0

abbrev pub larger_of : Ticks → Ticks → ℕ
larger_of a b = max a.0 b.0

abbrev pub exceeds : Ticks → Ticks → Bool
exceeds a b = ltb b.0 a.0

-- What stands in a place of a row, or in an answer, for a quantity: 16 bits for a weight, a delay or D, 32 for M, a label
-- or the output delay, 8 for a fan-in count. Each holds every number up to its ceiling.
abbrev pub weight_place : Cells → ℕ
weight_place a = held 16 a.0

abbrev pub capacity_place : Cells → ℕ
capacity_place a = held 32 a.0

abbrev pub delay_place : Ticks → ℕ
delay_place a = held 16 a.0

abbrev pub label_place : Ticks → ℕ
label_place a = held 32 a.0

abbrev pub count_place : FanInCount → ℕ
count_place k = held 8 k.0
