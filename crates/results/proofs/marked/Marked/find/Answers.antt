-- `results::marked::Marked::find` meets its contract: what refuses the row, then a row too short, and otherwise the network found.
use mathlib.Core.Path.{refl}
use Rattle.std.proofs.lemmas.Result.{err_from_is_err_and}
use Rattle.rows.proofs.Found.{found_refused}
use Rattle.labelling.proofs.Promises.{found_answer}
use Rattle.labelling.proofs.WithLabels.{unlabelled}
use Rattle.results.proofs.Roomy.{no_labels, no_marks}
use Rattle.results.proofs.marked.Marked.find.Goals as goal

pub returns-in_err-network : goal.returns-in_err-network
returns-in_err-network c =
    let p = err_from_is_err_and c.from_residual.result c.from_residual.ensures.1 in
    rw (p.1, p.2) (record { found = tt {0}; refuses = rw (found_refused _ _ c.in_err-network.ensures refl) refl })

pub returns-in_err-labelled : goal.returns-in_err-labelled
returns-in_err-labelled c =
    let p = err_from_is_err_and c.from_residual-in_err-labelled.result c.from_residual-in_err-labelled.ensures.1 in
    let short = unlabelled c.in_err-labelled.ensures in
    rw (p.1, p.2)
    (record { found = tt {0}; refuses = rw (found_answer _ _ (λ i. (c.type_inv.row i).fits) c.in_ok-network.ensures) (no_labels c.in_ok-network.network _ _ short.0, short.1) })

pub returns-then-marks-network : goal.returns-then-marks-network
returns-then-marks-network c =
    let short = no_marks c.in_ok-network.network c.args.labels.now c.args.marks.now c.if-marks-network.true in
    record { found = tt {0}; refuses = rw (found_answer _ _ (λ i. (c.type_inv.row i).fits) c.in_ok-network.ensures) (short, c.no_room.ensures) }

pub returns : goal.returns
returns c =
    let l = c.in_ok-labelled.ensures in
    let answered = found_answer _ _ (λ i. (c.type_inv.row i).fits) c.in_ok-network.ensures in
    record { found = (rw (l.header, l.row) answered, l.labels, refl); refuses = tt {0} }
