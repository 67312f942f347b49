-- `reading::look` meets its contract: the length first, then the header, then the gates.
use mathlib.Core.Path.{sym, ap, ◌∙◌}
use borrow.Author.Rules.{rules}
use Rattle.std.proofs.lemmas.Result.{err_from_is_err_and}
use Rattle.std.specs.Prelude.{Ok}
use Rattle.texts.specs.Reading.{nothing_read}
use Rattle.texts.proofs.Table.{read_too_long, read_fitting}
use Rattle.rows.specs.Read.{shown}
use Rattle.reading.proofs.LinesRead.{refused_there, header_read, no_header}
use Rattle.reading.proofs.Looking.{refusal_told}
use Rattle.reading.proofs.look.Goals as goal

pub returns-then-text-gt-MOST_TEXT : goal.returns-then-text-gt-MOST_TEXT
unfolding shown
returns-then-text-gt-MOST_TEXT c =
    rw (c.at_no_line.ensures, read_too_long c.args.text.now (search rules))

pub returns-in_err-capacity : goal.returns-in_err-capacity
returns-in_err-capacity c =
    let p = err_from_is_err_and c.from_residual.result c.from_residual.ensures.1 in
    rw (p.1, p.2, read_fitting c.args.text.now (search rules))
    (refusal_told (refused_there _ _ _ _ (sym c.read_line.ensures) nothing_read c.in_err-capacity.was))

pub returns-in_default : goal.returns-in_default
returns-in_default c =
    rw (c.at.ensures, read_fitting c.args.text.now (search rules))
    (refusal_told (no_header _ 0 1 nothing_read _ (sym c.read_line.ensures ∙ c.in_ok-capacity.was) c.in_default.not-Header))

pub returns : goal.returns
returns c =
    rw (read_fitting c.args.text.now (search rules), header_read _ _ _ _ (sym c.read_line.ensures ∙ c.in_ok-capacity.was ∙ ap Ok c.in-Header.is))
    c.look_gates.ensures
