-- A line cut out of the text, what its form is and what it answers, and the number that four of its bytes spell.
use Rattle.std.specs.Prelude.{ℕ, suc, ◌+◌, ◌*◌, cond, List, [], ◌∷◌, true, length, ltb, eqb, Result}
use Rattle.std.proofs.Math.Option.{Option}
use Rattle.std.proofs.Math.Seq.{slice}
use Rattle.frames.specs.declared.Place.{Place}
use Rattle.frames.specs.declared.Place.TheVariants.{Opening}
use Rattle.frames.specs.declared.LineRead.{LineRead}
use Rattle.frames.specs.declared.Refusal.{Refusal}
use Rattle.frames.specs.Text.{Line, line_feed}
use Rattle.frames.specs.Table.{form_rows, first_given, fault}
use Rattle.frames.specs.Frames.{word_from, frame, told}

-- The digits up to the line feed, and the line so cut out of the text.
unfoldable pub line_length : List ℕ → ℕ
line_length [] = 0
line_length (b ∷ bs) = cond (eqb b line_feed) 0 (suc (line_length bs))

abbrev pub line_from : List ℕ → ℕ → ℕ → Line
line_from text at end = record { digits = slice at end text; ended = ltb end (length text) }

-- The line of some digits, where it is ended.
abbrev pub ended_line : List ℕ → Line
ended_line ds = record { digits = ds; ended = true }

-- The number of its form alone, if that is faulty; any place would do.
unfoldable pub form_fault : Line → Option ℕ
unfolding first_given form_rows
form_fault l = first_given form_rows Opening l

-- What a line answers in its place, where the next line begins at a place of the text.
unfoldable pub answer : ℕ → Place → ℕ → Line → Result LineRead Refusal
unfolding frame told fault
answer next p line l = told (fault p l) line l (frame l next)

-- Eight digits from a place on.
unfoldable pub long_from : List ℕ → ℕ → ℕ
unfolding word_from
long_from text k = 65_536 * word_from text k + word_from text (k + 4)
