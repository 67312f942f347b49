-- `results::line::refusal_line` meets its contract: the line's bytes are 1E, the number, and the line and the column in two each.
use Rattle.frames.specs.Digits.{word_bytes}
use Rattle.results.specs.Result.{refusal_bytes}
use Rattle.results.proofs.ResultLines.{refusal_wraps}
use Rattle.results.proofs.line.refusal_line.Goals as goal

pub returns : goal.returns
unfolding refusal_bytes word_bytes
returns c =
    rw (← refusal_wraps c.args.refusal)
    (simp (c.to_be_bytes.ensures, c.to_be_bytes-2.ensures) at c.put_line.ensures)
