-- One line of the result in one call: what is answered, and what is left in the lent row.
use Rattle.std.specs.Prelude.{ℕ, ◌≡◌, cond, List, Result, Err}
use Rattle.model.specs.Network.{Network, size}
use Rattle.frames.specs.Refusal.{no_room}
use Rattle.texts.specs.Reading.{Reading, refused, network}
use Rattle.frames.specs.Put.{line_at, line_answer, line_row}
use Rattle.frames.specs.declared.Refusal.{Refusal}
use Rattle.labelling.specs.Promises.{either_short}
use Rattle.selection.specs.Selection.{roots}
use Rattle.results.specs.Result.{result_lines}

-- [R6] One line of the result of a network, from labels and marks. The marked gates are the roots.
unfoldable pub told_line : ℕ → Network → List ℕ → List ℕ → List ℕ
told_line index n labels row = line_at index (result_lines n labels (roots row (size n)))

unfoldable pub told_answer : ℕ → Reading → List ℕ → List ℕ → List ℕ → Result ℕ Refusal
told_answer index (refused f) labels row out = Err f
told_answer index (network n) labels row out =
    cond (either_short (size n) labels row) (Err no_room) (line_answer (told_line index n labels row) out)

unfoldable pub told_row : ℕ → Reading → List ℕ → List ℕ → List ℕ → List ℕ
told_row index (refused f) labels row out = out
told_row index (network n) labels row out =
    cond (either_short (size n) labels row) out (line_row (told_line index n labels row) out)

pub record LineAnswered (index : ℕ) (reading : Reading) (labels row out : List ℕ) (r : Result ℕ Refusal) (after : List ℕ) : Type 0 where
  pub answer : r ≡ told_answer index reading labels row out
  pub kept : after ≡ told_row index reading labels row out
