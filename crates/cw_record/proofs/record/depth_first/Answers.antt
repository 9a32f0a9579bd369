use Rattle.std.proofs.Common.{List, ℤ, [], ap, sym, ◌∙◌, subst}
use Rattle.cw_strand.specs.Names.{first_memory}
use Rattle.cw_tree.specs.declared.conflict.Conflict.{Conflict}
use Rattle.cw_tree.specs.declared.picks.Picks.{Picks}
use Rattle.cw_job.specs.Jobs.{Job}
use Rattle.cw_job.specs.Room.Strands.{strands_of_job}
use Rattle.cw_tree.specs.declared.access.Entry.{Entry}
use Rattle.cw_record.specs.Coherent.{IsCoherent, HasOutputs}
use Rattle.cw_record.specs.Order.{order_of}
use Rattle.cw_record.specs.Records.{IsWorkerRun}
use Rattle.cw_record.specs.Replay.{Replays}
use Rattle.cw_record.proofs.OneWorker.Ending.{replays}
use Rattle.cw_record.proofs.record.depth_first.Goals as goal

pub returns-clause-replays : goal.returns-clause-replays
returns-clause-replays c =
    let job : Job = record { program = c.args.program; words = c.args.words; limits = c.args.limits } in
    let budget = c.args.limits.aborts in
    let t = c.in-Ok.run'.drawing.tree in
    let e = c.in-Ok.run'.end in
    let none = c.new-conflicts.ensures in
    let listed = c.in-Ok-order_of.ensures ∙ ap (λ cs. order_of t cs budget e) (c.as_slice-2.ensures ∙ none) in
    let P : Picks → Type 0 = λ o. Replays (strands_of_job job) (first_memory job.program.cells) budget t [] o e in
    let C : List Conflict → Type 0 = λ cs. Replays (strands_of_job job) (first_memory job.program.cells) budget t cs c.in-Ok-order_of.order e in
    let J : List ℤ → Type 0 = λ ws. IsWorkerRun (record { program = c.args.program; words = ws; limits = c.args.limits }) t c.in-Ok.run'.drawing.journals.items e in
    subst C (sym none) (subst P (sym listed) (replays job t c.in-Ok.run'.drawing.journals.items e (subst J c.as_slice.ensures c.in-Ok.ensures) budget))

pub returns-clause-coherent : goal.returns-clause-coherent
returns-clause-coherent c =
    let run = c.in-Ok.run' in
    let first = first_memory c.args.program.cells in
    let budget = c.args.limits.aborts in
    let J : List ℤ → Type 0 = λ ws. IsCoherent (strands_of_job (record { program = c.args.program; words = ws; limits = c.args.limits })) first budget run.drawing.tree run.drawing.journals.items [] run.end in
    let C : List Conflict → Type 0 = λ cs. IsCoherent (strands_of_job (record { program = c.args.program; words = c.args.words; limits = c.args.limits })) first budget run.drawing.tree run.drawing.journals.items cs run.end in
    let K : List (List Entry) → Type 0 = λ es. IsCoherent (strands_of_job (record { program = c.args.program; words = c.args.words; limits = c.args.limits })) first budget run.drawing.tree es c.new-conflicts.result run.end in
    subst K (sym c.from_vec.ensures) (subst C (sym c.new-conflicts.ensures) (subst J c.as_slice.ensures (c.in-Ok.ensures.coherent budget)))

pub returns-clause-outputs : goal.returns-clause-outputs
returns-clause-outputs c =
    let run = c.in-Ok.run' in
    let budget = c.args.limits.aborts in
    let C : List Conflict → Type 0 = λ cs. HasOutputs run.drawing.tree cs budget run.end in
    subst C (sym c.new-conflicts.ensures) (c.in-Ok.ensures.outputs budget)
