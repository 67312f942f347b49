-- `frames::cut::rising` meets its contract. The loop's invariant: the fan-ins that are left, at least `least`, decide as all do.
use mathlib.Core.Path.{◌≡◌, sym, ap, ◌∙◌}
use mathlib.Core.Logic.{◌⊎◌, inl, inr}
use Prim.Native.Nat.{◌≤◌, ◌<◌}
use native.Mathlib.Omega.{arith}
use lib.ListN.{length}
use Rattle.frames.specs.Text.{bytes, words}
use Rattle.frames.specs.Table.{rising_from}
use Rattle.frames.proofs.Walks.{rising_none, rising_more, rising_stops}
use Rattle.frames.proofs.cut.rising.Goals as goal

pub returns-then-x-least : goal.returns-then-x-least
returns-then-x-least c =
    let l = c.loop-fan_in in
    let left = c.in-Some.ensures.steps.1.0 in
    let four : length c.in-Some.fan_in.now ≡ 4 = c.in-Some.ensures.steps.1.1 ∙ l.invariant.0 in
    let stops : (c.word_at-x.result < l.least) ⊎ (c.args.gate.0 ≤ c.word_at-x.result) = elim c.then-x-least.either [ inl h ↦ inl h | inr h ↦ inr h.1 ] in
    sym (rising_stops c.in-Some.fan_in.now c.next.new.self.rest.now l.least c.args.gate.0 four c.word_at-x.ensures stops)
    ∙ ap (λ ds. rising_from l.least c.args.gate.0 (words (bytes ds))) (sym left)
    ∙ l.invariant.1

pub loop-fan_in-preserved : goal.loop-fan_in-preserved
loop-fan_in-preserved c =
    let l = c.loop-fan_in in
    let left = c.in-Some.ensures.steps.1.0 in
    let four : length c.in-Some.fan_in.now ≡ 4 = c.in-Some.ensures.steps.1.1 ∙ l.invariant.0 in (
      omega arith,
      sym (rising_more c.in-Some.fan_in.now c.next.new.self.rest.now l.least c.args.gate.0 four c.word_at-x.ensures (omega arith) (omega arith))
          ∙ ap (λ ds. rising_from l.least c.args.gate.0 (words (bytes ds))) (sym left)
          ∙ l.invariant.1,
    )

pub returns : goal.returns
returns c =
    let l = c.loop-fan_in in
    sym (rising_none l.fan_in-iterator.rest.now l.least c.args.gate.0 (omega (arith, c.in-None.ensures.steps.1.0, l.invariant.0))) ∙ l.invariant.1
