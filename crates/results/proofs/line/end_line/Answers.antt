-- `results::line::end_line` meets its contract: the line's bytes are 1F and the number of gates.
use Rattle.frames.specs.Digits.{word_bytes}
use Rattle.results.specs.Result.{result_end_bytes}
use Rattle.results.proofs.line.end_line.Goals as goal

pub returns : goal.returns
unfolding result_end_bytes word_bytes
returns c = rw c.to_be_bytes.ensures at c.put_line.ensures
