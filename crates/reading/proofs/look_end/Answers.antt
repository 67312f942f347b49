-- `reading::look_end` meets its contract: behind the end frame the walk ends with the network or tells a line.
use mathlib.Core.Path.{sym, ap, ◌∙◌}
use Rattle.std.proofs.lemmas.Result.{err_from_is_err_and}
use Rattle.std.specs.Prelude.{Ok}
use Rattle.reading.proofs.LinesRead.{refused_there, no_end, whole}
use Rattle.reading.proofs.Looking.{refusal_told, told_none, told_some}
use Rattle.reading.proofs.look_end.Goals as goal

pub returns-in_err-read_line : goal.returns-in_err-read_line
returns-in_err-read_line c =
    λ n k.
    let p = err_from_is_err_and c.from_residual.result c.from_residual.ensures.1 in
    rw (p.1, p.2) (refusal_told (refused_there _ _ _ _ (sym c.read_line.ensures) n c.in_err-read_line.was))

pub returns-in_default : goal.returns-in_default
returns-in_default c =
    λ n k.
    rw c.at.ensures
    (refusal_told (no_end _ _ _ n _ (sym c.read_line.ensures ∙ c.in_ok-read_line.was) c.in_default.not-Nothing))

pub returns-in-Some : goal.returns-in-Some
returns-in-Some c =
    λ n k.
    let ended = whole _ _ _ n (sym c.read_line.ensures ∙ c.in_ok-read_line.was ∙ ap Ok c.in-Nothing.is) in
    rw (c.at-in-Some.ensures, ended) (told_some c.args.seen n _ k c.in-Some.is)

pub returns-in-None : goal.returns-in-None
returns-in-None c =
    λ n k.
    let ended = whole _ _ _ n (sym c.read_line.ensures ∙ c.in_ok-read_line.was ∙ ap Ok c.in-Nothing.is) in
    rw ended (told_none c.args.seen n k c.in-None.is)
