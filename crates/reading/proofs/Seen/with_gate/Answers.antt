-- `Seen::with_gate` of `reading` meets its contract.
use Rattle.reading.specs.steps.Passes.{heavy_with}
use Rattle.reading.proofs.Seen.with_gate.Goals as goal

pub returns : goal.returns
unfolding heavy_with
returns c = rw (c.or.ensures, c.then_some-told.ensures, c.within.ensures)
