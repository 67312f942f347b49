-- `frames::put::put_words` meets its contract. The loop's invariant: the first words stand in the row, and next is the place
-- past them.
use lib.ListN.{take}
use Rattle.model.specs.Basics.{gather}
use Rattle.frames.specs.Digits.{word_bytes}
use Rattle.frames.proofs.Puts.{Stands}
use Rattle.frames.proofs.put.put_words.Given as goal

abbrev pub invariant-loop-word : goal.invariant-loop-word
invariant-loop-word l = Stands (gather word_bytes (take l.word-index l.words)) l.at l.initial.out l.next l.out
