-- What the two halves of answering a text come to together: by the headline, a line of what the text answers.
use Rattle.std.specs.Prelude.{Result}
use Rattle.frames.specs.declared.Refusal.{Refusal}
use Rattle.rows.specs.declared.Header.{Header}
use Prim.Native.Nat.{ℕ}
use mathlib.Core.Path.{◌≡◌, ◌∙◌, ap}
use mathlib.Core.List.{List}
use Rattle.drawing.specs.Prepared.{Lent, PreparedInto, Told}
use Rattle.drawing.specs.Headline.{Ample}
use Rattle.drawing.proofs.Headline.{headline}
use Rattle.exports.specs.declared.Answer.{Answer}
use Rattle.exports.specs.Exported.{line_told, LineOut}

pub line_out : {text : List ℕ} {before after : Lent} {p : Result Header Refusal} {index : ℕ} {out : List ℕ} {w : Result ℕ Refusal} {row : List ℕ} {r : Answer}
    → Ample before → PreparedInto text before p after → Told p index after out w row → r ≡ line_told w → LineOut text index out r row
line_out {text} {before} {after} {p} {index} {out} {w} {row} room prepared told e =
    let l = (headline text before after p room prepared).line index out w row told in
    record { answer = e ∙ ap line_told l.answer; kept = l.kept }
