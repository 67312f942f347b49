-- `results::line::cluster_line` meets its contract: its four parts put one after the other, and
-- the line feed.
use native.Mathlib.Omega.{arith}
use lib.ListN.{length}
use Rattle.model.specs.Basics.{gather}
use Rattle.frames.specs.Digits.{word_bytes}
use Rattle.frames.proofs.Digits.{length_word_bytes}
use Rattle.results.specs.Result.{cluster_bytes}
use Rattle.frames.proofs.Puts.{word_be}
use Rattle.results.proofs.ResultLines.{Laid, short_line, laid_line, four_parts}
use Rattle.results.proofs.line.cluster_line.Goals as goal

pub returns-then-out-members : goal.returns-then-out-members
unfolding cluster_bytes word_bytes
returns-then-out-members c =
    short_line (cluster_bytes c.args.root c.args.members.now) c.args.out.now c.no_room.ensures (omega (arith, c.if-out-members.true, length_word_bytes c.args.members.now))

pub returns : goal.returns
unfolding cluster_bytes word_bytes
returns c =
    let laid : Laid (cluster_bytes c.args.root c.args.members.now) c.args.out.now c.put_words-at.result c.put_words-at.new.out = let a = c.args in
    four_parts 0x13 (word_bytes a.root) (word_bytes (length a.members.now)) (gather word_bytes a.members.now)
    (omega (arith, c.if-out-members.false, length_word_bytes a.members.now))
    c.put-at.ensures
    (rw (c.to_be_bytes.ensures, word_be) at c.put-at-2.ensures)
    (rw (c.to_be_bytes-2.ensures, word_be) at c.put-at-3.ensures)
    c.put_words-at.ensures in
    laid_line (laid) c.feed.ensures
