-- `rows::count` meets its contract: the count stands at the third place of the block.
use mathlib.Core.Path.{◌∙◌}
use Rattle.rows.specs.Row.{count_in}
use Rattle.rows.proofs.count.Goals as goal

pub returns : goal.returns
unfolding count_in
returns c = c.from.ensures ∙ c.place.ensures
