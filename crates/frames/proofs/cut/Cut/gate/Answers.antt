-- `frames::cut::Cut::gate` meets its contract: each answer is a row of the table, or the gate frame. The makers of `units` decide
-- the count and the gate number, and make every weight and every delay that two bytes can say.
use mathlib.Core.Path.{◌≡◌, sym, ◌∙◌}
use native.Mathlib.Omega.{arith}
use Rattle.std.specs.Prelude.{Some, None}
use Rattle.std.proofs.lemmas.Result.{err_from_is_err_and}
use Rattle.units.proofs.Makers.{weighed_made, weighed_above, delayed_made, delayed_above, counted_made, counted_above, numbered_made, numbered_above}
use Rattle.frames.specs.Refusal.{at_line}
use Rattle.frames.proofs.Formed.{formed}
use Rattle.frames.proofs.Lines.{rest_whole}
use Rattle.frames.proofs.OfLine.{weight_most, delay_most}
use Rattle.frames.proofs.Gate.{gate_4_count, gate_4_length, gate_5, gate_6, gate_read}
use Rattle.frames.proofs.cut.Cut.gate.Goals as goal

pub returns-in_err-count : goal.returns-in_err-count
returns-in_err-count c =
    let above : c.new.result ≡ None = grind arith in
    let told : c.in_err-count.field-0.0 ≡ at_line 4 c.args.self.now.line = grind arith in
    let p = err_from_is_err_and c.from_residual.result c.from_residual.ensures.1 in
    rw (p.1, p.2)
    (gate_4_count _ _ _ _ c.args.self.now.formed c.requires told (omega (arith, counted_above c.byte_at-fan_ins.result (sym c.new.ensures ∙ above), c.byte_at-fan_ins.ensures)))

pub returns-then-self-fan_ins : goal.returns-then-self-fan_ins
returns-then-self-fan_ins c =
    gate_4_length _ _ _ _ c.args.self.now.formed c.requires c.at-wrong_length.ensures (omega arith)

pub returns-in_err-gate : goal.returns-in_err-gate
returns-in_err-gate c =
    let made : c.new.result ≡ Some c.in_ok-count.count = grind arith in
    let above : c.new-2.result ≡ None = grind arith in
    let told : c.in_err-gate.field-0.0 ≡ at_line 5 c.args.self.now.line = grind arith in
    let p = err_from_is_err_and c.from_residual-in_err-gate.result c.from_residual-in_err-gate.ensures.1 in
    rw (p.1, p.2)
    (gate_5 _ _ _ _ c.args.self.now.formed c.requires (omega (arith, counted_made c.byte_at-fan_ins.result _ (sym c.new.ensures ∙ made))) (omega arith) told
    (numbered_above c.args.gates (sym c.new-2.ensures ∙ above)))

pub returns-then-not-rising : goal.returns-then-not-rising
returns-then-not-rising c =
    let ds = c.args.self.now.digits.now in
    let count : c.new.result ≡ Some c.in_ok-count.count = grind arith in
    let gate : c.new-2.result ≡ Some c.in_ok-gate.gate = grind arith in
    let numbered = numbered_made c.args.gates _ (sym c.new-2.ensures ∙ gate) in
    gate_6 _ _ _ _ c.args.self.now.formed c.requires (omega (arith, counted_made c.byte_at-fan_ins.result _ (sym c.new.ensures ∙ count))) (omega arith) numbered.0
    c.at-then-not-rising.ensures
    (rw (rest_whole ds 12, numbered.1) at (sym c.rising.ensures ∙ c.if-not-rising.true))

pub returns-in_err-weight : goal.returns-in_err-weight
returns-in_err-weight c =
    let above : c.weight.result ≡ None = grind arith in
    absurd
    (omega
    (arith, weighed_above c.word_at.result (sym c.weight.ensures ∙ above), weight_most (formed _ c.args.self.now.formed) (omega arith), c.word_at.ensures))

pub returns-in_err-delay : goal.returns-in_err-delay
returns-in_err-delay c =
    let above : c.delay.result ≡ None = grind arith in
    absurd
    (omega
    (arith, delayed_above c.word_at-2.result (sym c.delay.ensures ∙ above), delay_most (formed _ c.args.self.now.formed) (omega arith), c.word_at-2.ensures))

pub returns : goal.returns
returns c =
    let ds = c.args.self.now.digits.now in
    let count : c.new.result ≡ Some c.in_ok-count.count = grind arith in
    let gate : c.new-2.result ≡ Some c.in_ok-gate.gate = grind arith in
    let weight : c.weight.result ≡ Some c.in_ok-weight.weight = grind arith in
    let delay : c.delay.result ≡ Some c.in_ok-delay.delay = grind arith in
    let counted = counted_made c.byte_at-fan_ins.result _ (sym c.new.ensures ∙ count) in
    let numbered = numbered_made c.args.gates _ (sym c.new-2.ensures ∙ gate) in
    gate_read _ _ _ _ c.args.self.now.formed c.requires (omega (arith, counted)) (omega arith) numbered.0
    ((weighed_made c.word_at.result _ (sym c.weight.ensures ∙ weight)).1 ∙ c.word_at.ensures)
    ((delayed_made c.word_at-2.result _ (sym c.delay.ensures ∙ delay)).1 ∙ c.word_at-2.ensures)
    (counted.1 ∙ c.byte_at-fan_ins.ensures)
    (rw (rest_whole ds 12, numbered.1) at (sym c.rising.ensures ∙ c.if-not-rising.false))
