-- `frames::cut::Cut::header` meets its contract: each answer is a row of the table, or the header frame. The maker of `units` makes
-- every D that two bytes can say.
use mathlib.Core.Path.{◌≡◌, sym, ◌∙◌}
use native.Mathlib.Omega.{arith}
use Rattle.std.specs.Prelude.{Some, None}
use Rattle.units.proofs.Makers.{delayed_made, delayed_above}
use Rattle.frames.proofs.Formed.{formed}
use Rattle.frames.proofs.OfLine.{hop_most}
use Rattle.frames.proofs.Header.{header_4, header_read}
use Rattle.frames.proofs.cut.Cut.header.Goals as goal

pub returns-then-self-ne-HEADER_DIGITS : goal.returns-then-self-ne-HEADER_DIGITS
returns-then-self-ne-HEADER_DIGITS c =
    header_4 _ _ _ c.args.self.now.formed c.requires c.at-wrong_length.ensures c.if-self-ne-HEADER_DIGITS.true

pub returns-in_err-hop : goal.returns-in_err-hop
returns-in_err-hop c =
    let above : c.delay.result ≡ None = grind arith in
    absurd
    (omega
    (arith, delayed_above c.word_at.result (sym c.delay.ensures ∙ above), hop_most (formed _ c.args.self.now.formed) c.if-self-ne-HEADER_DIGITS.false, c.word_at.ensures))

pub returns : goal.returns
returns c =
    let made : c.delay.result ≡ Some c.in_ok-hop.hop = grind arith in
    header_read _ _ _ c.args.self.now.formed c.requires c.long_at.ensures
    ((delayed_made c.word_at.result _ (sym c.delay.ensures ∙ made)).1 ∙ c.word_at.ensures)
    c.if-self-ne-HEADER_DIGITS.false
