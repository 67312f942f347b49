-- `rows::check` meets its contract: what the row answers is what its first fault tells, or the network.
use mathlib.Core.Path.{◌≡◌, refl}
use borrow.Author.Rules.{rules}
use Rattle.std.specs.Prelude.{Err}
use Rattle.std.proofs.lemmas.Result.{err_from_is_err_and}
use Rattle.rows.specs.steps.RowCheck.{row_fault}
use Rattle.rows.proofs.Checked.{checked_refused}
use Rattle.rows.proofs.check.Goals as goal

pub returns-in_err-row_fault : goal.returns-in_err-row_fault
returns-in_err-row_fault c =
    let p = err_from_is_err_and c.from_residual.result c.from_residual.ensures.1 in
    let found : Err c.in_err-row_fault.field-0.0 ≡ row_fault c.settled-known.result c.args.row.now = search rules in
    rw (p.1, p.2) (checked_refused _ _ (λ i. (c.type_inv.row i).fits) (rw c.settled-known.ensures at found) refl)
