-- `exports::lykophene_label` meets its contract: it tells what `labelling::label` answers.
use mathlib.Core.Path.{◌≡◌, refl, ◌∙◌, ap}
use Rattle.std.specs.Prelude.{Result, Ok, Err}
use Rattle.std.specs.Result.{result_and}
use Rattle.frames.specs.declared.Refusal.{Refusal}
use Rattle.exports.specs.Exported.{line_told, label_told}
use Rattle.exports.proofs.lykophene_label.Goals as goal

-- labels written are told as a line of length 0
no_line : (r : Result (Unit {0}) Refusal) → line_told (result_and r (Ok 0)) ≡ label_told r
unfolding line_told label_told
no_line (Ok u) = refl
no_line (Err f) = refl

pub returns : goal.returns
returns c =
    let told = c.from-3.ensures ∙ ap line_told c.and.ensures ∙ no_line c.label.result in
    let l = rw (c.from.ensures, c.from-2.ensures) at c.label.ensures in
    record { answer = told ∙ ap label_told l.answer; kept = l.kept }
