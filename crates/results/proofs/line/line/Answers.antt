-- `results::line::line` meets its contract: what refuses the rows is handed on, and of what they hold the line is told.
use Rattle.std.proofs.lemmas.Result.{err_from_is_err_and}
use Rattle.results.proofs.Roomy.{roomy}
use Rattle.results.proofs.Answered.{told_refused, told_told}
use Rattle.results.proofs.line.line.Goals as goal

pub returns-in_err-drawn : goal.returns-in_err-drawn
returns-in_err-drawn c =
    let p = err_from_is_err_and c.from_residual.result c.from_residual.ensures.1 in
    rw (p.1, p.2) (told_refused _ _ _ _ _ c.in_err-drawn.ensures.refuses)

pub returns : goal.returns
returns c =
    let (answered, labels, marks) = c.in_ok-drawn.ensures.found in
    rw (← labels, ← marks) (told_told _ _ answered (roomy c.in_ok-drawn.drawn) c.known_line.ensures)
