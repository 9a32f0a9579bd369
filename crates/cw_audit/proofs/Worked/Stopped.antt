-- The same strands, stopped by a budget that was spent.
use Rattle.std.proofs.Common.{ℕ, [], ◌∷◌, refl, arith, pos}
use Rattle.cw_strand.specs.Pasts.{start, became}
use Rattle.cw_strand.specs.Strands.{Strands}
use Rattle.cw_tree.specs.Worked.{apart}
use Rattle.cw_tree.proofs.Worked.KeptRuns.{stops}
use Rattle.cw_job.specs.Room.Strands.{StrandState}
use Rattle.cw_record.specs.Coherent.{Follows}
use Rattle.cw_record.proofs.WorkedEnds.Parts.{follows}
use Rattle.cw_audit.specs.declared.findings.Audit.TheVariants.{Sound, Broken}
use Rattle.cw_audit.specs.Parts.{strands_of_sheet, AccessesHold}
use Rattle.cw_audit.specs.Audits.{refusals, strands, IsAudit}
use Rattle.cw_audit.specs.Worked.{stopped_by}
use Rattle.cw_audit.proofs.Journals.{right_reads}
use Rattle.cw_audit.proofs.Worked.Claims.{broken_row, sound_row, past_in, left, right, in_range}

abbrev s : Strands StrandState
s = strands_of_sheet (stopped_by 1 5)

-- nothing is said of a state behind a fork whose strands run
abbrev before : ℕ → StrandState
before n = became s (past_in (start ∷ start ∷ left 0 ∷ left 0 ∷ left 1 ∷ right 0 ∷ right 0 ∷ right 1 ∷ right 2 ∷ []) n)

abbrev after : ℕ → StrandState
after n = became s (past_in (start ∷ start ∷ start ∷ left 0 ∷ left 2 ∷ start ∷ right 0 ∷ right 1 ∷ right 2 ∷ []) n)

abbrev reached : ℕ → StrandState
reached n = became s (past_in (start ∷ start ∷ left 0 ∷ left 2 ∷ start ∷ right 0 ∷ right 1 ∷ right 2 ∷ start ∷ []) n)

did : Follows s apart before after reached
did =
    follows s apart before after reached refl
    (((((((((tt, (refl, refl)), tt), (refl, refl)), (refl, refl)), tt), (refl, refl)), (refl, refl)), (refl, refl)), tt)
    (tt, ((refl, (refl, refl)), (tt, ((refl, refl), ((refl, refl), (tt, ((refl, refl), ((refl, refl), ((refl, refl), tt)))))))))
    refl

accesses : AccessesHold apart (pos 0 ∷ [])
accesses = record { cells = stops.history.cells; reads = right_reads apart (pos 0 ∷ []) _ stops.history.journals }

pub stopped : IsAudit (stopped_by 1 5) Sound
stopped =
    sound_row (stopped_by 1 5) stops.history.tree refl (
      stops.history.stamps,
      accesses,
      stops.history.ended,
      record { refused = stops.history.refusals; spent = λ is. stops.spent },
      record {
        words = (_, refl, refl);
        limits = in_range 1 (omega arith, omega arith);
        named = refl;
        pending_last = stops.history.pending_last;
        rolls_back = stops.history.rolls_back;
        done = (before, after, reached, did, tt);
      },
      record { faulted = tt; memory = tt; done = (before, after, reached, did, tt) },
      stops.history.cancels,
      tt,
    )
    tt

pub unspent : IsAudit (stopped_by 2 5) (Broken 4)
unspent = broken_row (stopped_by 2 5) refusals (stops.history.stamps, accesses, stops.history.ended, tt, tt, tt, tt, tt) (λ w. (let told = (w.spent refl).told in absurd (cc told)))

pub other_strand : IsAudit (stopped_by 1 2) (Broken 4)
other_strand = broken_row (stopped_by 1 2) refusals (stops.history.stamps, accesses, stops.history.ended, tt, tt, tt, tt, tt) (λ w. (let told = (w.spent refl).told in absurd (cc told)))

pub no_strand : IsAudit (stopped_by 1 3) (Broken 5)
no_strand =
    broken_row (stopped_by 1 3) strands
    (stops.history.stamps, accesses, stops.history.ended, record { refused = stops.history.refusals; spent = λ is. absurd (cc is) }, tt, tt, tt, tt)
    (λ w. (let named = w.named in absurd (cc named)))
