-- `reading::look_gates` meets its contract. The loop's invariant, `Going`: the walk over the lines that are left
-- answers what the walk over all of them does, and what was seen is known of the network so far. The measure is what is
-- left of the text.
use mathlib.Core.Path.{sym, ap, ◌∙◌}
use native.Mathlib.Omega.{arith}
use Rattle.std.proofs.lemmas.Result.{err_from_is_err_and}
use Rattle.std.specs.Prelude.{Ok}
use Rattle.texts.specs.Reading.{weigh}
use Rattle.rows.specs.Read.{shown}
use Rattle.reading.proofs.LinesRead.{refused_there, gate_read, end_read, no_gate_or_end}
use Rattle.reading.proofs.Looking.{refusal_told, set_out, go_on}
use Rattle.reading.proofs.look_gates.Goals as goal

pub loop-read-init : goal.loop-read-init
loop-read-init c =
    set_out c.args.text.now c.args.first c.args.capacity c.args.hop

pub returns-in_err-read : goal.returns-in_err-read
returns-in_err-read c =
    let l = c.loop-read.invariant in
    let p = err_from_is_err_and c.from_residual.result c.from_residual.ensures.1 in
    rw (p.1, p.2) (refusal_told (sym l.same ∙ refused_there _ _ _ _ (sym c.read_line.ensures) l.so_far c.in_err-read.was))

pub with_gate-seen-requires : goal.with_gate-seen-requires
with_gate-seen-requires c =
    (gate_read _ _ _ _ _ _ _ (sym c.read_line.ensures ∙ c.in_ok-read.was ∙ ap Ok c.in-Gate.is)).fit.number

pub loop-read-smaller : goal.loop-read-smaller
loop-read-smaller c =
    let g = gate_read _ _ _ _ _ _ _ (sym c.read_line.ensures ∙ c.in_ok-read.was ∙ ap Ok c.in-Gate.is) in
    omega (arith, g.inside, g.ahead)

pub loop-read-preserved : goal.loop-read-preserved
loop-read-preserved c =
    rw c.with_gate-seen.ensures
    (go_on _ _ _ _ _ _ _ _ _ c.loop-read.invariant
    (gate_read _ _ _ _ _ _ _ (sym c.read_line.ensures ∙ c.in_ok-read.was ∙ ap Ok c.in-Gate.is)))

pub returns-in_default : goal.returns-in_default
returns-in_default c =
    let l = c.loop-read.invariant in
    let on = end_read _ _ _ _ (sym c.read_line.ensures ∙ c.in_ok-read.was ∙ ap Ok c.in-End.is) l.so_far in
    c.look_end.ensures l.so_far l.known ∙ ap (λ w. shown (weigh w)) (sym on ∙ l.same)

pub returns-in_default-read : goal.returns-in_default-read
returns-in_default-read c =
    let l = c.loop-read.invariant in
    rw c.at.ensures
    (refusal_told
    (sym l.same ∙ no_gate_or_end _ _ _ l.so_far _ _ (sym c.read_line.ensures ∙ c.in_ok-read.was) c.in_default.not-Gate c.in_default-read.not-End))
