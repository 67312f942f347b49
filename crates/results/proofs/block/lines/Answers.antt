-- `results::block::lines` meets its contract: what refuses the rows is handed on, what the first line answers decides, and the
-- others go behind it.
use Rattle.std.proofs.lemmas.Result.{err_from_is_err_and}
use Rattle.results.proofs.Roomy.{roomy}
use Rattle.results.proofs.Blocks.{block_refused, block_told, first_refused, first_begun, first_ran}
use Rattle.results.proofs.block.lines.Goals as goal

pub returns-in_err-drawn : goal.returns-in_err-drawn
returns-in_err-drawn c =
    let p = err_from_is_err_and c.from_residual.result c.from_residual.ensures.1 in
    rw (p.1, p.2) (block_refused _ _ _ _ _ c.in_err-drawn.ensures.refuses)

pub returns-in_err-first : goal.returns-in_err-first
returns-in_err-first c =
    let p = err_from_is_err_and c.from_residual-in_err-first.result c.from_residual-in_err-first.ensures.1 in
    let (answered, labels, marks) = c.in_ok-drawn.ensures.found in
    rw (p.1, p.2, ← labels, ← marks)
    (block_told _ _ answered (roomy c.in_ok-drawn.drawn) (first_refused _ _ _ c.args.index c.known_line.ensures c.in_err-first.was))

pub lines_behind-requires : goal.lines_behind-requires
lines_behind-requires c = first_begun _ _ _ c.args.index c.known_line.ensures c.in_ok-first.was

pub returns : goal.returns
returns c =
    let (answered, labels, marks) = c.in_ok-drawn.ensures.found in
    rw (← labels, ← marks)
    (block_told _ _ answered (roomy c.in_ok-drawn.drawn) (first_ran _ _ _ c.args.index c.known_line.ensures c.in_ok-first.was c.lines_behind.ensures))
