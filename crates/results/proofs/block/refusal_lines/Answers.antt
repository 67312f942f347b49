-- `results::block::refusal_lines` meets its contract: the refusal's line at index 0, and nothing past it.
use native.Mathlib.Omega.{arith}
use Rattle.std.proofs.lemmas.Result.{err_from_is_err_and}
use Rattle.results.proofs.Blocks.{refusal_none, refusal_short, refusal_whole}
use Rattle.results.proofs.block.refusal_lines.Goals as goal

pub returns-then-index-gt0 : goal.returns-then-index-gt0
returns-then-index-gt0 c = refusal_none c.args.index _ _ (omega arith)

pub returns-in_err-length : goal.returns-in_err-length
returns-in_err-length c =
    let p = err_from_is_err_and c.from_residual.result c.from_residual.ensures.1 in
    rw (p.1, p.2) (refusal_short c.args.index _ _ (omega arith) c.refusal_line.ensures c.in_err-length.was)

pub returns : goal.returns
returns c = refusal_whole c.args.index _ _ (omega arith) c.refusal_line.ensures c.in_ok-length.was
