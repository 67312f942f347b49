-- `writing::spell_header` meets its contract: the line's bytes are 01, M in four and D in two.
use mathlib.Core.Path.{◌∙◌}
use Rattle.frames.specs.Digits.{word_bytes, long_bytes}
use Rattle.frames.proofs.Puts.{long_be}
use Rattle.texts.specs.Spelling.{header_bytes}
use Rattle.writing.proofs.spell_header.Goals as goal

pub returns : goal.returns
unfolding header_bytes long_bytes word_bytes
returns c = rw (c.to_be_bytes.ensures ∙ long_be c.args.capacity, c.to_be_bytes-2.ensures) at c.put_line.ensures
