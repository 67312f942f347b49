-- What a line that is cut out of a text answers.
use Rattle.std.specs.Prelude.{ℕ, ◌≡◌, List, Result, Ok, Err}
use Rattle.frames.specs.declared.Place.{Place}
use Rattle.frames.specs.declared.LineRead.{LineRead}
use Rattle.frames.specs.declared.Refusal.{Refusal}
use Rattle.frames.specs.declared.cut.Cut.{Cut}
use Rattle.frames.specs.Text.{lines}
use Rattle.frames.specs.Frames.{first_read}
use Rattle.frames.specs.steps.Cut.{ended_line, answer}

abbrev pub cut_answer : Cut → Place → Result LineRead Refusal
cut_answer cut p = answer cut.next p cut.line (ended_line cut.digits.now)

-- Wherever the line stands, what is read first of the rest of a text is what the cut answers, or the refusal of its form.
abbrev pub CutOut : List ℕ → ℕ → ℕ → Result Cut Refusal → Type 0
CutOut rest at line (Ok cut) = (p : Place) → cut_answer cut p ≡ first_read at p line (lines rest)
CutOut rest at line (Err f) = (p : Place) → Err f ≡ first_read at p line (lines rest)
