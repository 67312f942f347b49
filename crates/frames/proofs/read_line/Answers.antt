-- `frames::read_line` meets its contract: the first line of those left answers, or is refused for its form.
use mathlib.Core.Path.{◌∙◌}
use Rattle.std.proofs.lemmas.Result.{err_from_is_err_and}
use Rattle.frames.specs.Frames.{line_read}
use Rattle.frames.proofs.Lines.{rest_whole, read_past}
use Rattle.frames.proofs.read_line.Goals as goal

pub returns-then-text-at : goal.returns-then-text-at
returns-then-text-at c =
    read_past c.args.text.now c.args.at c.args.place c.args.line c.if-text-at.true

pub returns-in_err-cut : goal.returns-in_err-cut
unfolding line_read
returns-in_err-cut c =
    let a = c.args in
    let p = err_from_is_err_and c.from_residual.result c.from_residual.ensures.1 in
    rw (p.1, p.2, ← rest_whole a.text.now a.at) (c.in_err-cut.ensures a.place)

pub returns : goal.returns
unfolding line_read
returns c =
    let a = c.args in
    c.read.ensures ∙ (rw (rest_whole a.text.now a.at) at (c.in_ok-cut.ensures a.place))
