-- `frames::digit_at` meets its contract: past the end `get_or` gives 0 as well.
use mathlib.Core.Path.{◌≡◌, ap, ◌∙◌}
use lib.ListN.{get_or}
use Rattle.std.proofs.Common.{rules}
use Rattle.frames.specs.Text.{digit}
use Rattle.frames.specs.Frames.{digit_at}
use Rattle.frames.proofs.digit_at.Goals as goal

pub returns : goal.returns
unfolding digit_at
returns c =
    let byte : c.unwrap_or.result ≡ get_or c.args.text.now c.args.k 0 = search rules in
    c.from.ensures ∙ c.digit.ensures ∙ ap digit byte
