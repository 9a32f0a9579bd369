-- What the want of a strand in memory says of the worker that runs it.
use Rattle.std.proofs.Common.{◌≡◌, ℕ, ℤ, ap, sym, ◌∙◌, true, inl, inr}
use Rattle.std.specs.Prelude.{◌⊎◌}
use Rattle.cw_strand.specs.declared.want.Want.{Want}
use Rattle.cw_strand.specs.declared.want.Want.TheVariants.{Load, Store, Out, Begin, End, Cancel, Sync, Done}
use Rattle.cw_strand.specs.Strands.{is_over, takes_answer}
use Rattle.cw_job.specs.Jobs.{Job, job_of_task}
use Rattle.cw_job.specs.Room.Strands.{state_of, strands_of_job}
use Rattle.cw_record.specs.declared.worker.SoleWorker.{SoleWorker}
use Rattle.cw_record.specs.OneWorker.{want_of_worker}

module _ (code : SoleWorker) {w : Want} (says : (job : Job) → w ≡ (strands_of_job job).want (state_of code.strand)) where
  pub wanted_by : {x : Want} → w ≡ x → want_of_worker code ≡ x
  wanted_by e = sym (says (job_of_task code.task)) ∙ e

  pub over_by : (w ≡ Sync) ⊎ (w ≡ Done) → is_over (want_of_worker code) ≡ true
  over_by (inl e) = ap is_over (wanted_by e)
  over_by (inr e) = ap is_over (wanted_by e)

  pub answered_by : ((c : ℕ) × (w ≡ Load c)) ⊎ (((c : ℕ) × (v : ℤ) × (w ≡ Store c v)) ⊎ (((v : ℤ) × (w ≡ Out v)) ⊎ ((w ≡ Cancel) ⊎ ((w ≡ Begin) ⊎ (w ≡ End))))) → takes_answer (want_of_worker code) ≡ true
  answered_by (inl (c, e)) = ap takes_answer (wanted_by e)
  answered_by (inr (inl (c, v, e))) = ap takes_answer (wanted_by e)
  answered_by (inr (inr (inl (v, e)))) = ap takes_answer (wanted_by e)
  answered_by (inr (inr (inr (inl e)))) = ap takes_answer (wanted_by e)
  answered_by (inr (inr (inr (inr (inl e))))) = ap takes_answer (wanted_by e)
  answered_by (inr (inr (inr (inr (inr e))))) = ap takes_answer (wanted_by e)
