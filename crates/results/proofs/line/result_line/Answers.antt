-- `results::line::result_line` meets its contract: the line's bytes are 11, the delay in four and the number of clusters in two.
use mathlib.Core.Path.{◌∙◌}
use Rattle.frames.specs.Digits.{word_bytes, long_bytes}
use Rattle.frames.proofs.Puts.{long_be}
use Rattle.results.specs.Result.{result_bytes}
use Rattle.results.proofs.line.result_line.Goals as goal

pub returns : goal.returns
unfolding result_bytes long_bytes word_bytes
returns c = rw (c.to_be_bytes.ensures ∙ long_be c.label_place.result, c.to_be_bytes-2.ensures, c.label_place.ensures) at c.put_line.ensures
