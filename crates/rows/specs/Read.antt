-- What a text, or a network in its row, answers, and what reading a text leaves in the row.
use Rattle.std.specs.Prelude.{ℕ, cond, List, Result, Ok, Err}
use Rattle.model.specs.Network.{size}
use Rattle.frames.specs.declared.Refusal.{Refusal}
use Rattle.frames.specs.Refusal.{no_room}
use Rattle.texts.specs.Reading.{Reading, refused, network, reading}
use Rattle.rows.specs.declared.Header.{Header}
use Rattle.rows.specs.Row.{too_short, header_of, fill}
use Rattle.rows.specs.Spelling.{row_answer}

-- a network's header, or the refusal
unfoldable pub shown : Reading → Result Header Refusal
unfolding size
shown (refused f) = Err f
shown (network n) = Ok (header_of n)

-- What `check` answers.
unfoldable pub checked : Header → List ℕ → Result Header Refusal
unfolding shown row_answer
checked h row = shown (row_answer h row)

-- The refusal of an answer that refuses. It is asked of no other; of one that is a network it is 10.
abbrev pub refusal_in : Result Header Refusal → Refusal
refusal_in (Ok h) = no_room
refusal_in (Err f) = f

-- [O5] what reading a text answers with this row lent: 10 comes last
unfoldable pub in_room : List ℕ → Reading → Reading
unfolding too_short size
in_room row (refused f) = refused f
in_room row (network n) = cond (too_short (size n) row) (refused no_room) (network n)

unfoldable pub answer : List ℕ → List ℕ → Reading
unfolding in_room reading
answer text row = in_room row (reading text)

-- [R4] The row afterwards: filled where a network is answered, as it was on a refusal.
unfoldable pub filled : Reading → List ℕ → List ℕ
unfolding fill
filled (refused f) row = row
filled (network n) row = fill n.gates row
