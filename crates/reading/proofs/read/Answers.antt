-- `reading::read` meets its contract: what the first pass answers, the test of the row, and the second pass.
use Rattle.std.proofs.lemmas.Result.{err_from_is_err_and}
use Rattle.reading.proofs.ReadInto.{refused_into, short_into, fits_into, filled_into}
use Rattle.reading.proofs.read.Goals as goal

pub returns-in_err-header : goal.returns-in_err-header
returns-in_err-header c =
    let p = err_from_is_err_and c.from_residual.result c.from_residual.ensures.1 in
    rw (p.1, p.2) (refused_into _ _ c.look.ensures c.in_err-header.was)

pub returns-then-too_short : goal.returns-then-too_short
returns-then-too_short c =
    rw c.no_room.ensures (short_into _ _ c.look.ensures _ c.in_ok-header.was c.too_short.ensures c.if-too_short.true)

pub fill_row-requires : goal.fill_row-requires
fill_row-requires c =
    fits_into _ _ c.look.ensures _ c.in_ok-header.was c.too_short.ensures c.if-too_short.false

pub returns : goal.returns
returns c =
    filled_into _ _ c.look.ensures _ c.in_ok-header.was c.too_short.ensures c.if-too_short.false c.fill_row.ensures
