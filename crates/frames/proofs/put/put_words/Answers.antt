-- `frames::put::put_words` meets its contract: with room, one word stands after the other; without it, nothing changed.
use native.Mathlib.Omega.{arith}
use mathlib.Core.Path.{◌≡◌}
use lib.ListN.{take}
use lib.Seq.{take_all}
use Rattle.model.specs.Basics.{gather}
use Rattle.frames.specs.Digits.{word_bytes}
use Rattle.frames.proofs.Puts.{put_none, put_all, stands_none, length_words, words_more, put_word}
use Rattle.frames.proofs.put.put_words.Goals as goal

pub returns-then-not-has_room : goal.returns-then-not-has_room
returns-then-not-has_room c =
    put_none _ _ _ (grind (arith, length_words c.args.words.now))

pub loop-word-init : goal.loop-word-init
unfolding gather
loop-word-init c = stands_none _ _

pub loop-word-preserved : goal.loop-word-preserved
loop-word-preserved c =
    let l = c.loop-word in
    words_more _ l.word-index _ _ _ _ _ _ c.loop-word-test.true (omega arith) l.invariant (put_word _ c.to_be_bytes.ensures c.put-next.ensures)

pub returns : goal.returns
returns c =
    let ws = c.args.words.now in
    let all : take c.loop-word.word-index ws ≡ ws = take_all _ _ c.loop-word-test.false in
    put_all (gather word_bytes ws) _ _ _ _ (omega (arith, length_words ws)) (rw all at c.loop-word.invariant)
