-- `labelling::members::collect` meets its contract. The loop's invariant: the marked gates below x stand in front of the row.
use Rattle.labelling.proofs.MemberLaws.{Collecting}
use Rattle.labelling.proofs.members.collect.Given as goal

abbrev pub invariant-loop-x : goal.invariant-loop-x
invariant-loop-x l = Collecting l.inside l.x l.count l.initial.members l.members
