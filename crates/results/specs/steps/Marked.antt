-- What a network with labels and marks is found in.
use Rattle.std.specs.Prelude.{◌≡◌, ℕ, true, List, Result, IfOk, IfErr}
use Rattle.model.specs.Network.{size}
use Rattle.frames.specs.declared.Refusal.{Refusal}
use Rattle.frames.specs.Refusal.{no_room}
use Rattle.texts.specs.Reading.{Reading, refused, network}
use Rattle.rows.specs.declared.Header.{Header}
use Rattle.rows.specs.Found.{network_of}
use Rattle.rows.specs.Spelling.{row_answer}
use Rattle.labelling.specs.Promises.{either_short}
use Rattle.results.specs.declared.marked.Marked.{Marked}

-- what refuses a text's answer with these rows
abbrev pub refusing : Reading → List ℕ → List ℕ → Refusal → Type 0
refusing (refused f) labels marks g = g ≡ f
refusing (network n) labels marks g = (either_short (size n) labels marks ≡ true) × (g ≡ no_room)

-- The network that the text answers, with the rows handed over; or what refuses them.
pub record MarkedFound (h : Header) (row labels marks : List ℕ) (r : Result Marked Refusal) : Type 0 where
  pub found : IfOk r (λ m. (row_answer h row ≡ network (network_of m.labelled.network)) × (m.labelled.labels.now ≡ labels) × (m.marks.now ≡ marks))
  pub refuses : IfErr r (refusing (row_answer h row) labels marks)
