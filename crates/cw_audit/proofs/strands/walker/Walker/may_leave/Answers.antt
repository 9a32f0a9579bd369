use Rattle.std.proofs.Common.{◌↔◌, sym, subst}
use Rattle.std.specs.Prelude.{IsTrue}
use Rattle.cw_tree.specs.declared.node.Kind.{Kind}
use Rattle.cw_tree.specs.declared.node.BlockState.{BlockState}
use Rattle.cw_tree.specs.declared.node.Kind.TheVariants.{Block}
use Rattle.cw_job.specs.Jobs.{job_of_task}
use Rattle.cw_audit.specs.Visits.{MayLeaveKind}
use Rattle.cw_audit.specs.Walkers.{law_of_told, spot_of}
use Rattle.cw_audit.proofs.strands.walker.Walker.may_leave.Goals as goal

pub returns-in-Block-Committed : goal.returns-in-Block-Committed
returns-in-Block-Committed c =
    let told = c.args.told.now in
    let node = c.args.node.now in
    let P : Kind → BlockState → Type 0 = λ k b. IsTrue c.wants.result ↔ MayLeaveKind (law_of_told told) told.tree.now told.end.now c.args.n k b (spot_of c.args.self.now) in
    let Q : Kind → Type 0 = λ k. P k node.state in
    let R : BlockState → Type 0 = λ b. P Block b in
    subst Q (sym c.in-Block-Committed.is-0) (subst R (sym c.in-Block-Committed.is-1) (c.wants.ensures (job_of_task told.task)))
