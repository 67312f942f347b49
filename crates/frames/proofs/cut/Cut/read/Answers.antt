-- `frames::cut::Cut::read` meets its contract: a header, a gate and an end answer for themselves, and anything else is row 3.
use mathlib.Core.Path.{◌∙◌}
use Rattle.frames.proofs.Misplaced.{opening_3, gates_3, closed_3}
use Rattle.frames.proofs.cut.Cut.read.Goals as goal
use Rattle.frames.proofs.cut.Cut.read.Goals.{in_default-via-in-Opening+in_default, in_default-via-in-AfterGates+in_default, in_default-via-in_default}

pub returns-in_default : goal.returns-in_default
returns-in_default c =
    let formed = c.args.self.now.formed in
    let told = c.at.ensures in
    let byte = c.byte_at.ensures in
    elim c.in_default.branch [
      | in_default-via-in-Opening+in_default w ↦ rw w.in_default.is-0 (opening_3 _ _ _ formed told (λ e. w.in_default.is-1.1 (byte ∙ e)))
      | in_default-via-in-AfterGates+in_default w ↦ rw w.in_default.is-0 (gates_3 _ _ _ formed told _ (λ e. w.in_default.is-1.0.1 (byte ∙ e)) (λ e. w.in_default.is-1.1 (byte ∙ e)))
      | in_default-via-in_default w ↦ rw w.in_default.is-0 (closed_3 _ _ _ formed told)
    ]
