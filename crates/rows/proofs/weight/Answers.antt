-- `rows::weight` meets its contract: the weight stands at the first place of the block.
use mathlib.Core.Path.{◌∙◌}
use Rattle.rows.specs.Row.{weight_in}
use Rattle.rows.proofs.weight.Goals as goal

pub returns : goal.returns
unfolding weight_in
returns c = c.from.ensures ∙ c.place.ensures
