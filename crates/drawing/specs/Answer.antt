-- What every text answers, line by line.
use Rattle.std.specs.Prelude.{ℕ, List, [], ◌∷◌}
use Rattle.model.specs.Network.{Network}
use Rattle.model.specs.Label.{labels}
use Rattle.model.specs.Drawing.{drawn}
use Rattle.texts.specs.Reading.{Reading, refused, network, reading}
use Rattle.frames.specs.Digits.{spell_line}
use Rattle.results.specs.Result.{refusal_bytes, result_lines}

-- the result of a network: its own labels, its own drawn set
unfoldable pub network_result : Network → List (List ℕ)
unfolding result_lines labels drawn
network_result n = result_lines n (labels n) (drawn n (labels n))

-- [F13] the frames of its result, or one 1E
unfoldable pub lines_told : Reading → List (List ℕ)
unfolding spell_line refusal_bytes network_result
lines_told (refused f) = spell_line (refusal_bytes f) ∷ []
lines_told (network n) = network_result n

unfoldable pub answer_lines : List ℕ → List (List ℕ)
unfolding lines_told reading
answer_lines text = lines_told (reading text)
