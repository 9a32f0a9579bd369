use Rattle.std.proofs.Common.{rules, ◌≤◌, length, ap, sym, ◌∙◌, arith, inl, inr, subst}
use Rattle.std.specs.Option.{IsSome}
use Rattle.std.proofs.lemmas.Bool.{cases_lt}
use Rattle.std.proofs.lemmas.List.{set_past}
use Rattle.cw_serial.specs.Wants.{memory_after}
use Rattle.cw_job.specs.Jobs.{job_of_task}
use Rattle.cw_record.proofs.worker.SoleWorker.do_want.Goals as goal
use Rattle.cw_record.proofs.worker.SoleWorker.do_want.Goals.{in-Store+in_ok-add_write-in-Store, in-Some, in_default, in-Out+in_ok-push-in-Out+in_ok-add_output-in-Out, in-Begin+in_ok-begin_block-in-Begin, in-End+in_ok-end_block-in-End}

pub returns-clause-acts : goal.returns-clause-acts
returns-clause-acts c =
    let self = c.args.self.now in
    let memory = self.memory.items in
    elim c.match-want.branch [
      | in-Store+in_ok-add_write-in-Store v ↦ elim v.match-get_mut.branch [
        | in-Some w ↦ record { task = search rules; branches = search rules; memory = search rules; outputs = search rules; undo = search rules; drawing = λ since looks. search rules }
        | in_default w ↦ (
            -- an element that is not there is not written
            let wanted = sym (c.want.ensures (job_of_task self.task)) ∙ v.in-Store.is in
            let past : length memory ≤ v.in-Store.element =
            elim (cases_lt v.in-Store.element (length memory)) [ inl l ↦ absurd (cc (subst IsSome w.in_default.is (v.get_mut.ensures.variant.1 (omega (arith, self.memory.ok.0))))) | inr p ↦ p ] in
            record {
              task = search rules;
              branches = search rules;
              memory =
                  ap (λ m. m.memory.items) v.self-is
                  ∙ (ap (λ m. m.memory.items) w.self-is ∙ sym (ap (λ x. memory_after x memory) wanted ∙ set_past memory v.in-Store.element v.in-Store.value past));
              outputs = search rules;
              undo = search rules;
              drawing = λ since looks. search rules;
            })
      ]
      | in-Out+in_ok-push-in-Out+in_ok-add_output-in-Out v ↦ record { task = search rules; branches = search rules; memory = search rules; outputs = search rules; undo = search rules; drawing = λ since looks. search rules }
      | in-Begin+in_ok-begin_block-in-Begin v ↦ record { task = search rules; branches = search rules; memory = search rules; outputs = search rules; undo = search rules; drawing = λ since looks. search rules }
      | in-End+in_ok-end_block-in-End v ↦ record { task = search rules; branches = search rules; memory = search rules; outputs = search rules; undo = search rules; drawing = λ since looks. search rules }
    ]
