-- `rows::delay` meets its contract: the delay stands at the second place of the block.
use mathlib.Core.Path.{◌∙◌}
use Rattle.rows.specs.Row.{delay_in}
use Rattle.rows.proofs.delay.Goals as goal

pub returns : goal.returns
unfolding delay_in
returns c = c.from.ensures ∙ c.place.ensures
