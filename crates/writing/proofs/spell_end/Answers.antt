-- `writing::spell_end` meets its contract: the line's bytes are 0F and the number of gates.
use Rattle.frames.specs.Digits.{word_bytes}
use Rattle.texts.specs.Spelling.{end_bytes}
use Rattle.writing.proofs.spell_end.Goals as goal

pub returns : goal.returns
unfolding end_bytes word_bytes
returns c = rw c.to_be_bytes.ensures at c.put_line.ensures
