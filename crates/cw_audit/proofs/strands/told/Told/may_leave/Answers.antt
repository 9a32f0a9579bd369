use Rattle.std.proofs.Common.{◌≡◌, ◌↔◌, ℕ, Bool, sym, subst}
use Rattle.std.specs.Prelude.{IsTrue}
use Rattle.cw_strand.specs.declared.want.Want.TheVariants as want
use Rattle.cw_strand.specs.Strands.{is_over}
use Rattle.cw_tree.specs.Series.{place}
use Rattle.cw_record.specs.declared.record_end.RecordEnd.{RecordEnd}
use Rattle.cw_job.specs.Jobs.{job_of_task}
use Rattle.cw_audit.specs.Settled.{IsSome, MayLeave}
use Rattle.cw_audit.specs.Visits.{IsPlaceOf}
use Rattle.cw_audit.specs.Walkers.{law_of_told, state_there}
use Rattle.cw_audit.proofs.strands.told.Told.may_leave.Goals as goal

pub returns-in-Finished : goal.returns-in-Finished
returns-in-Finished c =
    let told = c.args.self.now in
    let law = law_of_told told in
    let o = state_there c.args.strand.now in
    let P : RecordEnd → Type 0 = λ e. IsTrue c.may_end.result ↔ MayLeave law told.tree.now e c.args.n o in
    let Q : Bool → Type 0 = λ b. IsTrue c.may_end.result ↔ (IsTrue b → IsSome (λ a. IsTrue (is_over (law.want a))) o) in
    subst P (sym c.in-Finished.is) (subst Q c.is_live_strand.ensures (c.may_end.ensures (job_of_task told.task)))

pub returns-in-Fault : goal.returns-in-Fault
returns-in-Fault c =
    let told = c.args.self.now in
    let law = law_of_told told in
    let o = state_there c.args.strand.now in
    let R : RecordEnd → Type 0 = λ e. IsPlaceOf told.tree.now e told.place in
    let at : told.place ≡ place told.tree.now c.in-Fault.strand = subst R c.in-Fault.is c.requires.told.place in
    let P : RecordEnd → Type 0 = λ e. IsTrue c.may_stop.result ↔ MayLeave law told.tree.now e c.args.n o in
    let Q : ℕ → Type 0 = λ p. IsTrue c.may_stop.result ↔ (c.args.n ≡ p → IsSome (λ a. law.want a ≡ want.Fault c.in-Fault.kind) o) in
    subst P (sym c.in-Fault.is) (subst Q at (c.may_stop.ensures (job_of_task told.task)))
