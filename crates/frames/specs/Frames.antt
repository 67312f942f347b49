-- What reading one line answers: a frame, or a refusal at that line.
use Rattle.std.specs.Prelude.{ℕ, ◌+◌, ◌*◌, cond, List, [], ◌∷◌, length, get_or, drop, eqb, Result, Ok, Err}
use Rattle.std.proofs.Math.Option.{Option, none, some}
use Rattle.units.specs.Units.{cells, ticks}
use Rattle.frames.specs.declared.Place.{Place}
use Rattle.frames.specs.declared.LineRead.{LineRead}
use Rattle.frames.specs.declared.LineRead.TheVariants.{Header, Gate, End, Nothing}
use Rattle.frames.specs.declared.Refusal.{Refusal}
use Rattle.frames.specs.Refusal.{at_column}
use Rattle.frames.specs.Text.{Line, lines, digit}
use Rattle.frames.specs.Table.{kind, header_capacity, header_hop, gate_of, gate_count, fault, column}

-- The frame that a line without fault is, and where the next line begins.
unfoldable pub frame : Line → ℕ → LineRead
unfolding kind header_capacity header_hop gate_of gate_count
frame l next =
    cond (eqb (kind l) 0x01) (Header (cells (header_capacity l)) (ticks (header_hop l)) next)
    (cond (eqb (kind l) 0x02)
    (Gate (cells (gate_of l).weight) (ticks (gate_of l).delay) (record { 0 = gate_count l }) next)
    (End next))

-- A fault is told at its line, with its column.
unfoldable pub told : Option ℕ → ℕ → Line → LineRead → Result LineRead Refusal
unfolding column
told none line l r = Ok r
told (some k) line l r = Err (at_column k line (column k l))

-- What a line answers that begins at a place of the text: the next begins behind its line feed.
unfoldable pub judged : ℕ → Place → ℕ → Line → Result LineRead Refusal
unfolding frame told fault
judged at p line l = told (fault p l) line l (frame l (at + length l.digits + 1))

-- Of the lines that are left, the first is read.
unfoldable pub first_read : ℕ → Place → ℕ → List Line → Result LineRead Refusal
unfolding judged
first_read at p line [] = Ok Nothing
first_read at p line (l ∷ ls) = judged at p line l

-- What is read at a place of the text; a place past its end counts as its end.
unfoldable pub line_read : List ℕ → ℕ → Place → ℕ → Result LineRead Refusal
unfolding first_read lines
line_read text at p line = first_read at p line (lines (drop at text))

-- Numbers in the text, from a place on. What `get_or` gives past its end, 0, is no digit.
unfoldable pub digit_at : List ℕ → ℕ → ℕ
unfolding digit
digit_at text k = digit (get_or text k 0)

unfoldable pub byte_from : List ℕ → ℕ → ℕ
unfolding digit_at
byte_from text k = 16 * digit_at text k + digit_at text (k + 1)

unfoldable pub word_from : List ℕ → ℕ → ℕ
unfolding byte_from
word_from text k = 256 * byte_from text k + byte_from text (k + 2)

-- [F4] The i-th fan-in of a gate that begins there: six bytes stand before the first, each two digits.
unfoldable pub fan_in_from : List ℕ → ℕ → ℕ → ℕ
unfolding word_from
fan_in_from text at i = word_from text (at + 12 + 4 * i)
