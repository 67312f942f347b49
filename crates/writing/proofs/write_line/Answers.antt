-- `writing::write_line` meets its contract: what refuses the header and the row is handed on with the row as it was, and a
-- network that is found stands in the row. That 16 bits hold every place of the row is what its type says.
use mathlib.Core.Path.{refl}
use Rattle.std.proofs.lemmas.Result.{err_from_is_err_and}
use Rattle.rows.proofs.Found.{found_network, found_row, found_refused}
use Rattle.writing.proofs.WrittenLines.{row_refused, row_written}
use Rattle.writing.proofs.write_line.Goals as goal

pub returns-in_err-network : goal.returns-in_err-network
returns-in_err-network c =
    let p = err_from_is_err_and c.from_residual.result c.from_residual.ensures.1 in
    rw (p.1, p.2) (row_refused _ _ (found_refused _ _ c.in_err-network.ensures refl))

pub returns : goal.returns
returns c =
    let known = found_network _ _ (λ i. (c.type_inv.row i).fits) c.in_ok-network.ensures refl in
    let same = found_row _ _ c.in_ok-network.ensures refl in
    row_written _ _ known (rw same at c.spell_line.ensures)
