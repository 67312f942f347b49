-- Refusals are numbered from 1, so that 0 stands for none.
use Rattle.std.specs.Prelude.{Ok, Err}
use Prim.Native.Nat.{ℕ, ◌≤◌}
use mathlib.Core.Path.{◌≡◌, refl}
use mathlib.Core.Logic.{◌↔◌}
use mathlib.Core.Bool.{Bool, true, false, cond}
use mathlib.Core.List.{List, []}
use lib.ListN.{length}
use lib.Dec.{leb, ltb}
use borrow.Author.Tests.{leb-true}
use native.Mathlib.Omega.{arith}
use Rattle.model.specs.Network.{size}
use Rattle.frames.specs.Refusal.{no_room}
use Rattle.frames.specs.Put.{line_answer}
use Rattle.frames.proofs.Fault.{passes, passed_by}
use Rattle.texts.specs.Reading.{Reading, refused, network, reading}
use Rattle.rows.specs.declared.Header.{Header}
use Rattle.rows.specs.Row.{too_short}
use Rattle.rows.specs.Read.{answer, in_room}
use Rattle.rows.specs.Spelling.{row_answer, spell}
use Rattle.labelling.specs.Promises.{label_answer}
use Rattle.drawing.proofs.Demands.{finished}
use Rattle.exports.specs.Exported.{label_told, line_told, ZeroIsNone}

-- a refusal has a number above 0
abbrev Numbered : Reading → Type 0
Numbered (refused f) = 1 ≤ f.number
Numbered (network n) = Unit {0}

text_numbered : (text : List ℕ) → Numbered (reading text)
unfolding answer in_room
text_numbered text = go (reading text) refl
  where
    go : (r : Reading) → reading text ≡ r → Numbered r
    go (refused f) e = leb-true 1 f.number (passed_by (leb 1) ((finished text []).number f (rw e)) (unfold passes in refl))
    go (network n) e = tt

row_numbered : (h : Header) (row : List ℕ) → Numbered (row_answer h row)
unfolding row_answer
row_numbered h row = go (too_short h.gates row)
  where
    go : (short : Bool) → Numbered (cond short (refused no_room) (reading (spell h row)))
    go true = omega arith
    go false = text_numbered (spell h row)

label_told_0 :
    (h : Header) (row labels : List ℕ)
    → ((label_told (label_answer (row_answer h row) labels)).number ≡ 0) ↔ (label_answer (row_answer h row) labels ≡ Ok (tt {0}))
unfolding label_told label_answer
label_told_0 h row labels = (go (row_answer h row) (row_numbered h row), λ e. rw e)
  where
    room : (short : Bool) → (label_told (cond short (Err no_room) (Ok (tt {0})))).number ≡ 0
        → cond short (Err no_room) (Ok (tt {0})) ≡ Ok (tt {0})
    room true z = absurd (omega (arith, z))
    room false z = refl

    go : (r : Reading) → Numbered r → (label_told (label_answer r labels)).number ≡ 0 → label_answer r labels ≡ Ok (tt {0})
    go (refused f) one z = absurd (omega (arith, one, z))
    go (network n) one z = room (ltb (length labels) (size n)) z

line_told_0 :
    (line out : List ℕ)
    → ((line_told (line_answer line out)).number ≡ 0) ↔ (line_answer line out ≡ Ok (length line))
unfolding line_told line_answer
line_told_0 line out = (go (ltb (length out) (length line)), λ e. rw e)
  where
    go : (short : Bool) → (line_told (cond short (Err no_room) (Ok (length line)))).number ≡ 0
        → cond short (Err no_room) (Ok (length line)) ≡ Ok (length line)
    go true z = absurd (omega (arith, z))
    go false z = refl

pub zero_is_none : ZeroIsNone
zero_is_none = record { labels = label_told_0; line = line_told_0 }
