-- The text that a network in its row spells.
use Rattle.std.specs.Prelude.{ℕ, cond, List, [], ◌∷◌, ◌++◌, map}
use Rattle.model.specs.Basics.{upto}
use Rattle.units.specs.Units.{held, capacity_place, delay_place}
use Rattle.frames.specs.Digits.{spell_line}
use Rattle.frames.specs.Refusal.{no_room}
use Rattle.texts.specs.Reading.{Reading, refused, reading}
use Rattle.texts.specs.Spelling.{header_bytes, gate_bytes, end_bytes, join}
use Rattle.rows.specs.declared.Header.{Header}
use Rattle.rows.specs.Row.{too_short, count_in, gate_in}

-- the line of the gate that stands in the row at v; one byte says no count above 255
unfoldable pub gate_line : List ℕ → ℕ → List ℕ
unfolding spell_line gate_bytes gate_in count_in
gate_line row v = spell_line (gate_bytes (gate_in row v) (held 8 (count_in row v)))

-- [F11] the lines: the header, the gates, the end
unfoldable pub row_lines : Header → List ℕ → List (List ℕ)
unfolding spell_line header_bytes gate_line upto end_bytes
row_lines h row =
    spell_line (header_bytes (capacity_place h.capacity) (delay_place h.hop))
    ∷ map (gate_line row) (upto h.gates)
    ++ (spell_line (end_bytes h.gates) ∷ [])

-- the text that they are
unfoldable pub spell : Header → List ℕ → List ℕ
unfolding join row_lines
spell h row = join (row_lines h row)

-- [R5] What the text that they spell answers. A row too short for the gates that the header claims spells nothing: 10.
unfoldable pub row_answer : Header → List ℕ → Reading
unfolding too_short reading spell
row_answer h row = cond (too_short h.gates row) (refused no_room) (reading (spell h row))
