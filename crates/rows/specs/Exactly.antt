-- [O6] Given exactly when, with a row lent; and which refusals a row can have that is handed over.
use Rattle.std.specs.Prelude.{ℕ, ◌<◌, ◌≡◌, List, [], ◌∷◌, get_or}
use Rattle.model.specs.Basics.{◌∈◌}
use Rattle.frames.specs.declared.Refusal.{Refusal}
use Rattle.texts.specs.Reading.{refused}
use Rattle.texts.specs.Exactly.{Exactly}
use Rattle.rows.specs.declared.Header.{Header}
use Rattle.rows.specs.Spelling.{row_answer}
use Rattle.rows.specs.Read.{answer}
use Rattle.rows.specs.Says.{SaysRoom, ReadsRoom}

-- [O6] Every text answers, with every row lent, exactly what the table says of both, 10 included.
abbrev pub AnswerExactly : Type 0
AnswerExactly = (text row : List ℕ) → Exactly (SaysRoom text row) (ReadsRoom text row) (answer text row)

-- [R5] What a row spells is well formed, in its place and counted, so that a network handed over in a row, whose places have 16 bits, is
-- never refused by 3, by 7 or by 21 to 24, and no refusal of it points at a column.
abbrev pub RowNumbers : Type 0
RowNumbers =
    (h : Header) (row : List ℕ) → ((i : ℕ) → get_or row i 0 < 65_536) → (f : Refusal) → row_answer h row ≡ refused f
    → (f.number ∈ (1 ∷ 4 ∷ 5 ∷ 6 ∷ 8 ∷ 9 ∷ 10 ∷ [])) × (f.column ≡ 0)
