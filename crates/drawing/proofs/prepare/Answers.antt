-- `drawing::prepare` meets its contract: a refusal is handed on, a row too short is told before anything is written, and
-- otherwise the three passes fill the rows.
use mathlib.Core.Path.{◌≡◌, refl}
use borrow.Author.Rules.{rules}
use Rattle.std.specs.Prelude.{Ok, Err}
use Rattle.std.proofs.lemmas.Result.{err_from_is_err_and}
use Rattle.texts.specs.Reading.{reading}
use Rattle.rows.specs.Read.{shown}
use Rattle.drawing.specs.Prepared.{lent_of}
use Rattle.drawing.proofs.Preparing.{prepared_refused, prepared_short, readable, prepared_made}
use Rattle.drawing.proofs.prepare.Goals as goal

pub returns-in_err-header : goal.returns-in_err-header
returns-in_err-header c =
    let p = err_from_is_err_and c.from_residual.result c.from_residual.ensures.1 in
    let told : Err c.in_err-header.field-0.0 ≡ shown (reading c.args.text.now) = search rules in
    rw (p.1, p.2) (prepared_refused _ (lent_of c.args.row.now c.args.labels.now c.args.marks.now) told refl)

pub returns-then-too_short : goal.returns-then-too_short
returns-then-too_short c =
    let seen : Ok c.in_ok-header.header ≡ shown (reading c.args.text.now) = search rules in
    prepared_short _ (lent_of c.args.row.now c.args.labels.now c.args.marks.now) seen refl c.too_short.ensures
    c.if-too_short.true c.no_room.ensures

pub fill-requires : goal.fill-requires
fill-requires c =
    let seen : Ok c.in_ok-header.header ≡ shown (reading c.args.text.now) = search rules in
    readable _ (lent_of c.args.row.now c.args.labels.now c.args.marks.now) seen refl c.too_short.ensures c.if-too_short.false

pub returns : goal.returns
returns c =
    let seen : Ok c.in_ok-header.header ≡ shown (reading c.args.text.now) = search rules in
    prepared_made _ (lent_of c.args.row.now c.args.labels.now c.args.marks.now) seen refl c.too_short.ensures
    c.if-too_short.false c.fill.ensures
