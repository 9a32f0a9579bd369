use Rattle.std.proofs.Common.{◌∙◌, List, ap, sym, subst}
use Rattle.cw_strand.specs.Names.{first_memory}
use Rattle.cw_job.specs.Jobs.{Job}
use Rattle.cw_job.specs.Room.Strands.{strands_of_job}
use Rattle.cw_record.specs.declared.record_end.RecordEnd.{RecordEnd}
use Rattle.cw_record.specs.declared.items.OrderItem.{OrderItem}
use Rattle.cw_record.specs.Built.{memory_left}
use Rattle.cw_record.specs.Coherent.{IsCoherent, HasOutputs, outputs_shown}
use Rattle.cw_record.specs.Items.{items}
use Rattle.cw_record.specs.Order.{order_through}
use Rattle.cw_record.specs.Records.{IsNumberedDepthFirst}
use Rattle.cw_record.proofs.ClosedRun.LeftEnds.{same_items, end_is, has_outputs}
use Rattle.cw_record.proofs.ClosedRun.LeftRuns.{left_coherent, followed_coherent}
use Rattle.cw_record.proofs.ClosedRun.NumberedTrees.{numbered_in_order}
use Rattle.cw_record.proofs.record.build.Goals as goal

pub returns-clause-end : goal.returns-clause-end
returns-clause-end c =
    let t = c.args.closed.tree in
    let cs = c.args.closed.conflicts in
    let budget = c.args.limits.aborts in
    let all = c.as_slice.ensures.value ∙ c.in-Ok.ensures.items ∙ ap (λ xs. items t xs budget c.end_of_run-told.result) c.as_slice-conflicts.ensures in
    c.in-Ok-end_left.ensures
    ∙ end_is t cs budget c.args.closed.halt c.args.spent (memory_left (first_memory c.args.program.cells) c.args.closed.journals) c.end_of_run-told.result c.as_slice.result.now c.end_of_run-told.ensures all

pub returns-clause-order : goal.returns-clause-order
returns-clause-order c =
    let t = c.args.closed.tree in
    let cs = c.args.closed.conflicts in
    let budget = c.args.limits.aborts in
    let told = c.end_of_run-told.result in
    let memory = memory_left (first_memory c.args.program.cells) c.args.closed.journals in
    let all = c.as_slice-2.ensures.value ∙ c.in-Ok.ensures.items ∙ ap (λ xs. items t xs budget told) c.as_slice-conflicts.ensures in
    c.in-Ok-order_through.ensures
    ∙ ap (λ (xs : List OrderItem). order_through t xs c.in-Ok-end_left.end) (all ∙ same_items t cs budget told memory (outputs_shown t c.as_slice.result.now) ∙ ap (items t cs budget) (sym c.in-Ok-end_left.ensures))

pub returns-clause-outputs : goal.returns-clause-outputs
returns-clause-outputs c =
    let t = c.args.closed.tree in
    let cs = c.args.closed.conflicts in
    let budget = c.args.limits.aborts in
    let P : RecordEnd → Type 0 = HasOutputs t cs budget in
    subst P (sym (returns-clause-end c)) (has_outputs t cs budget c.args.closed.halt c.args.spent (memory_left (first_memory c.args.program.cells) c.args.closed.journals))

pub returns-clause-coherent : goal.returns-clause-coherent
returns-clause-coherent c = λ m h left.
    let job : Job = record { program = c.args.program; words = c.args.words; limits = c.args.limits } in
    let P : RecordEnd → Type 0 = IsCoherent (strands_of_job job) (first_memory job.program.cells) job.limits.aborts c.args.closed.tree c.args.closed.journals c.args.closed.conflicts in
    subst P (sym (returns-clause-end c)) (left_coherent job c.args.spent m h c.args.closed left)

pub returns-clause-followed : goal.returns-clause-followed
returns-clause-followed c = λ left.
    let job : Job = record { program = c.args.program; words = c.args.words; limits = c.args.limits } in
    let first = first_memory job.program.cells in
    let P : RecordEnd → Type 0 = IsCoherent (strands_of_job job) first job.limits.aborts c.args.closed.tree c.args.closed.journals c.args.closed.conflicts in
    subst P (sym (returns-clause-end c)) (followed_coherent (strands_of_job job) first job.limits.aborts c.args.spent c.args.closed left)

pub returns-clause-numbered : goal.returns-clause-numbered
returns-clause-numbered c = λ t w e. subst IsNumberedDepthFirst (sym e) (numbered_in_order t w)
