-- `results::line::label_line` meets its contract: the line's bytes are 12, the gate in two and its label in four.
use mathlib.Core.Path.{◌∙◌}
use Rattle.frames.specs.Digits.{word_bytes, long_bytes}
use Rattle.frames.proofs.Puts.{long_be}
use Rattle.results.specs.Result.{label_bytes}
use Rattle.results.proofs.line.label_line.Goals as goal

pub returns : goal.returns
unfolding label_bytes long_bytes word_bytes
returns c = rw (c.to_be_bytes.ensures, c.to_be_bytes-2.ensures ∙ long_be c.args.label) at c.put_line.ensures
