-- `results::line::member_line` meets its contract: the members that were found, written.
use Prim.Native.Nat.{◌≤◌}
use native.Mathlib.Omega.{arith}
use Rattle.rows.specs.declared.network.Network.{Network as Standing}
use Rattle.rows.proofs.Holds.{few_gates}
use Rattle.results.proofs.line.member_line.Goals as goal

few : (n : Standing) → n.header.gates ≤ 512
few n = few_gates n.header n.row.now n.holds

pub members_of-count-requires : goal.members_of-count-requires
members_of-count-requires c = record { known = c.requires; room = few c.args.labelled.now.network }

pub overflow_cast-root : goal.overflow_cast-root
overflow_cast-root c = omega (arith, few c.args.labelled.now.network)
