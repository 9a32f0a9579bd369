-- One strand that adds 1 to a cell and outputs it.
use Rattle.std.proofs.Common.{◌≡◌, ℕ, ℤ, zero, suc, List, [], ◌∷◌, map, take, refl, arith, Some, pos, true, false, sym, ◌∙◌, ap}
use Rattle.std.specs.Prelude.{slice_get}
use Rattle.cw_strand.specs.declared.want.Want.TheVariants.{Out as Shows}
use Rattle.cw_strand.specs.declared.want.Given.TheVariants.{Nothing, Value}
use Rattle.cw_strand.specs.Pasts.{Past, start, answered, became}
use Rattle.cw_strand.specs.Strands.{Strands, is_over}
use Rattle.cw_tree.specs.declared.node.Node.{Node}
use Rattle.cw_tree.specs.declared.node.Kind.TheVariants.{Strand, Read, Write, Out}
use Rattle.cw_tree.specs.Accesses.{live_accesses, written, cell_value}
use Rattle.cw_tree.specs.Shape.{AreStamps}
use Rattle.cw_tree.specs.Worked.{plain}
use Rattle.cw_tree.proofs.Cancels.{no_cancels}
use Rattle.cw_tree.proofs.Worked.Checks.{is_tree, are_stamps}
use Rattle.cw_tree.proofs.Worked.KeptParts.{ended_between}
use Rattle.cw_tree.proofs.Worked.KeptRuns.{ended_one}
use Rattle.cw_job.specs.Room.Strands.{StrandState}
use Rattle.cw_record.specs.declared.record_end.RecordEnd.TheVariants.{Finished, Moves}
use Rattle.cw_record.specs.Coherent.{alone, Follows, EndStands}
use Rattle.cw_record.proofs.WorkedEnds.Parts.{follows}
use Rattle.cw_sheet.specs.Worked.{one_strand_run, one_strand_tree}
use Rattle.cw_audit.specs.declared.findings.Audit.TheVariants.{Sound, Broken}
use Rattle.cw_audit.specs.Parts.{strands_of_sheet}
use Rattle.cw_audit.specs.Audits.{accesses, IsAudit, ending}
use Rattle.cw_audit.specs.Worked.{one_strand, writes_other}
use Rattle.cw_audit.proofs.Worked.Claims.{Before, broken_row, sound_row, order_row, accesses_fit, none_pending, none_refused, no_fork, reads_of_one, past_in, all_over, over_at, strands_by, by_default}

abbrev s : Strands StrandState
s = strands_of_sheet one_strand_run

abbrev p1 : Past
p1 = answered start (Value (pos 0))

abbrev p2 : Past
p2 = answered p1 Nothing

abbrev p3 : Past
p3 = answered p2 (Value (pos 1))

abbrev p4 : Past
p4 = answered p3 Nothing

abbrev before : ℕ → StrandState
before n = became s (past_in (start ∷ start ∷ p1 ∷ p2 ∷ p3 ∷ []) n)

abbrev after : ℕ → StrandState
after n = became s (past_in (start ∷ p1 ∷ p2 ∷ p3 ∷ p4 ∷ []) n)

-- main reached this
abbrev reached : Past → ℕ → StrandState
reached p n = became s (past_in (p ∷ []) n)

did : Follows s one_strand_tree before after (reached p4)
did =
    follows s one_strand_tree before after (reached p4) refl
    (((((tt, (refl, (refl, (refl, (refl, refl))))), tt), tt), tt), tt)
    (tt, ((refl, refl), ((refl, refl), ((refl, refl), ((refl, refl), tt)))))
    refl

did_some : Follows s (take 4 one_strand_tree) before after (reached p3)
did_some =
    follows s (take 4 one_strand_tree) before after (reached p3) refl
    ((((tt, (refl, (refl, (refl, refl)))), tt), tt), tt)
    (tt, ((refl, refl), ((refl, refl), ((refl, refl), tt))))
    refl

stands : (memory outputs : List ℤ) → EndStands s one_strand_tree before after (reached p4) (Finished memory outputs)
stands memory outputs = (
  none_pending one_strand_tree refl,
  all_over s one_strand_tree before after (reached p4) (((((tt, alone {x = 0} refl (λ f e. no_fork one_strand_tree 4 f refl e)), tt), tt), tt), tt),
)

value : (c : ℕ) (v : ℤ) → slice_get (pos 0 ∷ []) c ≡ Some v → slice_get (pos 1 ∷ []) c ≡ Some (cell_value v (map (written one_strand_tree) (live_accesses one_strand_tree c)))
value zero v e = refl
value (suc c) v e = absurd (cc e)

-- the tree if this was written
abbrev wrote : ℤ → List Node
wrote v = plain 0 Strand 0 ∷ plain 0 (Read 0 (pos 0)) 1 ∷ plain 0 (Write 0 v) 2 ∷ plain 0 (Read 0 (pos 1)) 3 ∷ plain 0 (Out (pos 1)) 4 ∷ []

stamps_of : (v : ℤ) → AreStamps (wrote v)
stamps_of v = are_stamps (wrote v) refl refl refl refl refl refl refl refl refl

-- parts 1 to 7, with these outputs
whole : (outputs : List ℤ) → Before (one_strand one_strand_tree (Finished (pos 1 ∷ []) outputs)) 8
whole outputs =
    let t = one_strand_tree in (
      stamps_of (pos 1),
      record { cells = accesses_fit t 1 refl; reads = reads_of_one t (pos 0) (refl, (refl, (refl, tt))) },
      ended_one t (ended_between t 1 2 refl, (ended_between t 2 3 refl, tt)),
      record { refused = none_refused t refl refl refl; spent = λ is. tt },
      strands_by (one_strand t (Finished (pos 1 ∷ []) outputs)) (_, refl, refl) by_default refl refl refl refl refl (before, after, reached p4, did, tt),
      record { faulted = tt; memory = record { len = refl; each = value }; done = (before, after, reached p4, did, stands (pos 1 ∷ []) outputs) },
      no_cancels t (pos 0 ∷ []) refl,
      tt,
    )

pub counted : IsAudit one_strand_run Sound
counted = sound_row one_strand_run (is_tree one_strand_tree (omega arith) refl refl refl refl refl) refl (whole (pos 1 ∷ [])) refl

pub fewer_outputs : IsAudit (one_strand one_strand_tree (Finished (pos 1 ∷ []) [])) (Broken 8)
fewer_outputs =
    order_row (one_strand one_strand_tree (Finished (pos 1 ∷ []) [])) (is_tree one_strand_tree (omega arith) refl refl refl refl refl) refl (whole [])
    (λ outs. (let e : [] ≡ pos 1 ∷ [] = outs in absurd (cc e)))

pub cut_off : IsAudit (one_strand (take 4 one_strand_tree) Moves) Sound
cut_off =
    let t = take 4 one_strand_tree in
    sound_row (one_strand t Moves) (is_tree t (omega arith) refl refl refl refl refl) refl (
      are_stamps t refl refl refl refl refl refl refl refl refl,
      record { cells = accesses_fit t 1 refl; reads = reads_of_one t (pos 0) (refl, (refl, (refl, tt))) },
      ended_one t (ended_between t 1 2 refl, (ended_between t 2 3 refl, tt)),
      record { refused = none_refused t refl refl refl; spent = λ is. tt },
      strands_by (one_strand t Moves) (_, refl, refl) by_default refl refl refl refl refl (before, after, reached p3, did_some, tt),
      record { faulted = tt; memory = tt; done = (before, after, reached p3, did_some, tt) },
      no_cancels t (pos 0 ∷ []) refl,
      tt,
    )
    tt

pub other_read : IsAudit (one_strand writes_other (Finished (pos 1 ∷ []) (pos 1 ∷ []))) (Broken 2)
other_read =
    broken_row (one_strand writes_other (Finished (pos 1 ∷ []) (pos 1 ∷ []))) accesses (stamps_of (pos 7), tt, tt, tt, tt, tt, tt, tt)
    (λ w. (let e : pos 1 ≡ pos 7 = (w.reads 0 (pos 0) refl).1.1.0 (pos 1) refl in absurd (cc e)))

-- cut off there, main wants to output
wants_more : (b a r : ℕ → StrandState) → Follows s (take 4 one_strand_tree) b a r → s.want (r 0) ≡ Shows (pos 1)
wants_more b a r d =
    let steps = d.series 0 (omega arith) refl in
    let at_load : b 1 ≡ s.start = steps.0 ∙ d.start in
    let at_store : b 2 ≡ became s p1 = steps.1.0 ∙ (d.fits 1 _ refl).1 ∙ ap (λ x. s.answer x (Value (pos 0))) at_load in
    let at_read : b 3 ≡ became s p2 = steps.1.1.0 ∙ (d.fits 2 _ refl).1 ∙ ap (λ x. s.answer x Nothing) at_store in
    let at_end : r 0 ≡ became s p3 = sym steps.1.1.1 ∙ (d.fits 3 _ refl).1 ∙ ap (λ x. s.answer x (Value (pos 1))) at_read in
    ap s.want at_end

pub not_ended : IsAudit (one_strand (take 4 one_strand_tree) (Finished (pos 1 ∷ []) [])) (Broken 6)
not_ended =
    let t = take 4 one_strand_tree in
    broken_row (one_strand t (Finished (pos 1 ∷ []) [])) ending (
      are_stamps t refl refl refl refl refl refl refl refl refl,
      record { cells = accesses_fit t 1 refl; reads = reads_of_one t (pos 0) (refl, (refl, (refl, tt))) },
      ended_one t (ended_between t 1 2 refl, (ended_between t 2 3 refl, tt)),
      record { refused = none_refused t refl refl refl; spent = λ is. tt },
      strands_by (one_strand t (Finished (pos 1 ∷ []) [])) (_, refl, refl) by_default refl refl refl refl refl (before, after, reached p3, did_some, tt),
      tt,
      tt,
      tt,
    )
    (λ w. (
    let (b, a, r, d, stands) = w.done in
    let over = over_at s t b a r 0 (stands.1 0 (omega arith) refl) in
    let e : false ≡ true = sym (ap is_over (wants_more b a r d)) ∙ over in
    absurd (cc e)
    ))
