-- `rows::place` meets its contract: place k of a block is the k-th of the row from where the block starts.
use Rattle.rows.proofs.Access.{place_none, place_at}
use Rattle.rows.proofs.place.Goals as goal

pub returns-then-row-v : goal.returns-then-row-v
returns-then-row-v c =
    place_none _ _ c.if-row-v.true _

pub returns-else-row-v : goal.returns-else-row-v
returns-else-row-v c =
    place_at _ _ c.if-row-v.false _ c.requires
