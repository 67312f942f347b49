-- What a row answers, found without spelling it: the faults that a spelled text can have, in the order of the refusals. What a row
-- spells is well-formed hexadecimal in the right places, so that 3, 7 and 21 to 24 cannot come back.
use Rattle.std.specs.Prelude.{ℕ, zero, suc, ◌+◌, ◌*◌, Bool, cond, not, List, length, leb, ltb, eqb, Result, Ok, Err}
use Rattle.std.proofs.Math.Option.{Option, none, some}
use Rattle.model.specs.Ceilings.{most_gates, most_fanins}
use Rattle.units.specs.Units.{cells, ticks, capacity_place, delay_place}
use Rattle.frames.specs.declared.Refusal.{Refusal}
use Rattle.frames.specs.Refusal.{at_line, at_no_line, no_room}
use Rattle.frames.specs.Table.{rising_from}
use Rattle.texts.specs.Reading.{Reading, refused, network, most_text}
use Rattle.rows.specs.declared.Header.{Header}
use Rattle.rows.specs.Row.{too_short, weight_in, count_in, fanins_in, network_in}

-- a header with M and D within their ceilings
abbrev pub settled : Header → Header
settled h = record { capacity = cells (capacity_place h.capacity); hop = ticks (delay_place h.hop); gates = h.gates }

-- a refusal found where a test holds
unfoldable pub fault_if : Bool → Refusal → Result (Unit {0}) Refusal
fault_if test f = cond test (Err f) (Ok (tt {0}))

-- a number found at a line
unfoldable pub told : Option ℕ → ℕ → Result (Unit {0}) Refusal
told none line = Ok (tt {0})
told (some number) line = Err (at_line number line)

-- of two checks the first decides
unfoldable pub first_of : Result (Unit {0}) Refusal → Result (Unit {0}) Refusal → Result (Unit {0}) Refusal
first_of (Ok u) f = f
first_of (Err r) f = Err r

-- [O1] The header has line 1, so that gate v stands in line v + 2.
abbrev pub line_of_gate : ℕ → ℕ
line_of_gate v = v + 2

-- [N1] The bytes of the text. The header's line and the end's have 22; a gate's has 13, and 4 for each fan-in that is spelled.
unfoldable pub gate_length : List ℕ → ℕ → ℕ
gate_length row v = 13 + 4 * length (fanins_in row v)

unfoldable pub gates_length : List ℕ → ℕ → ℕ → ℕ
unfolding gate_length
gates_length row v zero = 0
gates_length row v (suc k) = gate_length row v + gates_length row (suc v) k

unfoldable pub too_long : ℕ → List ℕ → Bool
unfolding gates_length
too_long gates row = ltb most_text (22 + gates_length row 0 gates)

-- [N4] [N5] [N6] the faults that the line of a gate can have
unfoldable pub gate_number : ℕ → ℕ → List ℕ → Option ℕ
unfolding rising_from
gate_number v count fanins =
    cond (ltb most_fanins count) (some 4) (cond (leb most_gates v) (some 5) (cond (not (rising_from 0 v fanins)) (some 6) none))

unfoldable pub gate_fault : List ℕ → ℕ → Result (Unit {0}) Refusal
unfolding told gate_number
gate_fault row v = told (gate_number v (count_in row v) (fanins_in row v)) (line_of_gate v)

-- of the first of k gates, from v on, that has one
unfoldable pub first_fault : List ℕ → ℕ → ℕ → Result (Unit {0}) Refusal
unfolding first_of gate_fault
first_fault row v zero = Ok (tt {0})
first_fault row v (suc k) = first_of (gate_fault row v) (first_fault row (suc v) k)

-- [N9] a gate heavier than M
unfoldable pub heavy_fault : ℕ → ℕ → ℕ → Result (Unit {0}) Refusal
unfolding fault_if
heavy_fault v weight capacity = fault_if (ltb capacity weight) (at_line 9 (line_of_gate v))

unfoldable pub first_heavy_fault : ℕ → List ℕ → ℕ → ℕ → Result (Unit {0}) Refusal
unfolding first_of heavy_fault
first_heavy_fault capacity row v zero = Ok (tt {0})
first_heavy_fault capacity row v (suc k) =
    first_of (heavy_fault v (weight_in row v) capacity) (first_heavy_fault capacity row (suc v) k)

-- [O2] [O3] [O5] the order, of a row that is long enough
unfoldable pub text_fault : Header → List ℕ → Result (Unit {0}) Refusal
unfolding first_of fault_if too_long first_fault first_heavy_fault
text_fault h row =
    first_of (fault_if (too_long h.gates row) (at_no_line 1))
    (first_of (first_fault row 0 h.gates)
    (first_of (fault_if (eqb h.gates 0) (at_line 8 (line_of_gate 0))) (first_heavy_fault h.capacity.0 row 0 h.gates)))

-- A row too short for the gates that the header claims spells nothing: 10.
unfoldable pub row_fault : Header → List ℕ → Result (Unit {0}) Refusal
unfolding first_of fault_if too_short text_fault
row_fault h row = first_of (fault_if (too_short h.gates row) no_room) (text_fault h row)

-- the refusal found, and without one what is answered otherwise
unfoldable pub unless_fault : Result (Unit {0}) Refusal → Reading → Reading
unless_fault (Ok u) r = r
unless_fault (Err f) r = refused f

unfoldable pub row_check : Header → List ℕ → Reading
unfolding unless_fault row_fault network_in
row_check h row = unless_fault (row_fault (settled h) row) (network (network_in h row))
