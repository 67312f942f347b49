-- `labelling::members::cluster_of` meets its contract: of a row with no mark, the marked gates up to r are the members of r.
use Rattle.std.proofs.Common.{◌≡◌, ◌+◌, length, take, length-take, arith}
use Rattle.rows.proofs.Holds.{network_size, few_gates}
use Rattle.labelling.proofs.MemberLaws.{marked_members}
use Rattle.labelling.proofs.members.cluster_of.Goals as goal
use Rattle.labelling.proofs.members.cluster_of.Goals.{After-mark_cluster}

pub slice_bounds-inside-end : goal.slice_bounds-inside-end
slice_bounds-inside-end c = omega (arith, few_gates _ _ c.args.labelled.now.network.holds)

long : (c : After-mark_cluster) → length (take (c.args.r + 1) c.mark_cluster.new.inside) ≡ c.args.r + 1
long c = omega (arith, length-take (c.args.r + 1) c.mark_cluster.new.inside, few_gates _ _ c.args.labelled.now.network.holds)

pub slice_bounds-reached-end : goal.slice_bounds-reached-end
slice_bounds-reached-end c = omega (arith, long (goal.at.slice_bounds-reached-end c).After-mark_cluster)

pub returns : goal.returns
returns c =
    let labelled = c.args.labelled.now in
    let n = labelled.network in
    rw (
      long (goal.at.returns c).After-mark_cluster,
      marked_members _ labelled.labels.now _ c.args.r
          (omega (arith, network_size n.header n.row.now))
          (omega (arith, few_gates _ _ n.holds))
          c.mark_cluster.ensures,
    ) at c.collect.ensures
