-- An attempt that is rolled back after it gave up.
use Rattle.std.proofs.Common.{◌≡◌, ℕ, ℤ, zero, suc, List, [], ◌∷◌, map, refl, ap, sym, ◌∙◌, arith, Some, pos}
use Rattle.std.specs.Prelude.{slice_get}
use Rattle.cw_strand.specs.declared.want.Want.TheVariants.{Store}
use Rattle.cw_strand.specs.declared.want.Given.TheVariants.{Nothing, Value, Back as Wrote}
use Rattle.cw_strand.specs.Pasts.{Past, start, answered, joined_of, became}
use Rattle.cw_strand.specs.Strands.{Strands}
use Rattle.cw_tree.specs.declared.node.Node.{Node}
use Rattle.cw_tree.specs.Accesses.{live_accesses, written, cell_value}
use Rattle.cw_tree.specs.Journals.{JournalsEnded}
use Rattle.cw_tree.specs.Shape.{AreStamps}
use Rattle.cw_tree.specs.WorkedRun.{had}
use Rattle.cw_tree.proofs.Worked.Checks.{is_tree, are_stamps, are_refusals}
use Rattle.cw_tree.proofs.Worked.KeptParts.{ended_between, recorded}
use Rattle.cw_job.specs.Room.Strands.{StrandState}
use Rattle.cw_record.specs.declared.record_end.RecordEnd.TheVariants.{Finished}
use Rattle.cw_record.specs.Coherent.{StrandEnded, alone, joined, Follows, EndStands}
use Rattle.cw_record.proofs.WorkedEnds.Parts.{ended_two, follows}
use Rattle.cw_audit.specs.declared.findings.Audit.TheVariants.{Sound, Broken}
use Rattle.cw_audit.specs.Parts.{strands_of_sheet, AccessesHold, RefusalsHold}
use Rattle.cw_audit.specs.Audits.{strands, IsAudit}
use Rattle.cw_audit.specs.Worked.{undone, undone_tree, refused_store}
use Rattle.cw_audit.proofs.Worked.Claims.{broken_row, sound_row, accesses_fit, none_pending, no_fork, reads_of_two, are_cancels, past_in, all_over, strands_by, by_default, left, right}

abbrev s : Strands StrandState
s = strands_of_sheet (undone (pos 101))

abbrev t : List Node
t = undone_tree (pos 101)

-- ## Parts 1 to 4, whatever the first attempt wrote

stamps_of : (v : ℤ) → AreStamps (undone_tree v)
stamps_of v = are_stamps (undone_tree v) refl refl refl refl refl refl refl refl refl

accesses_of : (v : ℤ) → AccessesHold (undone_tree v) (pos 0 ∷ pos 0 ∷ [])
accesses_of v = let u = undone_tree v in record { cells = accesses_fit u 2 refl; reads = reads_of_two u (pos 0) (pos 0) (refl, tt) (refl, (refl, (refl, tt))) }

blocks_of : (v : ℤ) → JournalsEnded (undone_tree v) 2
blocks_of v = let u = undone_tree v in ended_two u tt (ended_between u 12 13 refl, (ended_between u 13 15 refl, tt))

refusals_of : (v : ℤ) (budget : ℕ) (memory outputs : List ℤ) → RefusalsHold (undone_tree v) (refused_store ∷ []) budget (Finished memory outputs)
refusals_of v budget memory outputs =
    let u = undone_tree v in
    record {
      refused = are_refusals u (refused_store ∷ []) refl (recorded u refused_store 4 3 (refl, refl, refl, refl, refl, refl, refl, refl, refl) (refl, refl, refl)) refl refl;
      spent = λ is. tt;
    }

-- ## What strands did

-- the first attempt
abbrev a2 : Past
a2 = answered (right 1) (Value (pos 100))

abbrev a3 : Past
a3 = answered a2 Nothing

abbrev a4 : Past
a4 = answered a3 (Wrote (had 0 (pos 5) ∷ had 7 (pos 5) ∷ []))

-- the second attempt
abbrev b2 : Past
b2 = answered (right 1) (Value (pos 0))

abbrev b3 : Past
b3 = answered b2 Nothing

abbrev b4 : Past
b4 = answered b3 (Wrote (had 1 (pos 0) ∷ []))

abbrev b5 : Past
b5 = answered b4 Nothing

abbrev b6 : Past
b6 = answered b5 Nothing

abbrev both : Past
both = joined_of b6 (left 3)

abbrev before : ℕ → StrandState
before n = became s (past_in (start ∷ start ∷ left 0 ∷ left 0 ∷ left 1 ∷ right 0 ∷ right 0 ∷ right 1 ∷ a2 ∷ a3 ∷ a4 ∷ right 0 ∷ right 1 ∷ b2 ∷ b3 ∷ b4 ∷ []) n)

abbrev after : ℕ → StrandState
after n = became s (past_in (start ∷ both ∷ start ∷ left 3 ∷ left 2 ∷ start ∷ right 0 ∷ a2 ∷ a3 ∷ a4 ∷ a4 ∷ b6 ∷ b2 ∷ b3 ∷ b4 ∷ b5 ∷ []) n)

abbrev reached : ℕ → StrandState
reached n = became s (past_in (both ∷ start ∷ left 3 ∷ left 2 ∷ start ∷ b6 ∷ a4 ∷ start ∷ start ∷ start ∷ start ∷ b5 ∷ []) n)

did : Follows s t before after reached
did =
    follows s t before after reached refl
    ((((((((((((((((tt, (refl, refl)), tt), (refl, refl)), (refl, refl)), tt), (refl, (refl, refl))), (refl, (refl, (refl, (refl, refl))))), tt), tt), tt), tt), (refl, (refl, (refl, (refl, refl))))), tt), tt), tt), tt) (
      tt,
      (
        (refl, (refl, refl)),
        (
          tt,
          (
            (refl, (refl, refl)),
            (
              (refl, refl),
              (
                tt,
                (
                  (refl, refl),
                  (
                    (refl, refl),
                    (
                      (refl, refl),
                      (
                        (refl, refl),
                        (
                          (refl, refl),
                          ((refl, (refl, refl)), ((refl, refl), ((refl, refl), ((refl, refl), ((refl, refl), tt))))),
                        ),
                      ),
                    ),
                  ),
                ),
              ),
            ),
          ),
        ),
      ),
    )
    refl

left_ended : StrandEnded s t before after reached 2
left_ended = alone {x = 2} refl (λ f e. no_fork t 3 f refl e)

right_ended : StrandEnded s t before after reached 5
right_ended = alone {x = 5} refl (λ f e. no_fork t 11 f refl e)

root_ended : StrandEnded s t before after reached 0
root_ended = joined {x = 0} {f = 1} {l = 2} {r = 5} refl refl refl refl left_ended right_ended refl

stands : (memory outputs : List ℤ) → EndStands s t before after reached (Finished memory outputs)
stands memory outputs = (
  none_pending t refl,
  all_over s t before after reached ((((((((((((((((tt, root_ended), tt), left_ended), tt), tt), right_ended), tt), tt), tt), tt), tt), tt), tt), tt), tt), tt),
)

value : (c : ℕ) (v : ℤ) → slice_get (pos 0 ∷ pos 0 ∷ []) c ≡ Some v → slice_get (pos 1 ∷ pos 0 ∷ []) c ≡ Some (cell_value v (map (written t) (live_accesses t c)))
value zero v e = refl
value (suc zero) v e = refl
value (suc (suc c)) v e = absurd (cc e)

-- ## Rows

pub rolled_back : IsAudit (undone (pos 101)) Sound
rolled_back =
    sound_row (undone (pos 101)) (is_tree t (omega arith) refl refl refl refl refl) refl (
      stamps_of (pos 101),
      accesses_of (pos 101),
      blocks_of (pos 101),
      refusals_of (pos 101) _ (pos 1 ∷ pos 0 ∷ []) [],
      strands_by (undone (pos 101)) (_, refl, refl) by_default refl refl refl refl refl (before, after, reached, did, tt),
      record { faulted = tt; memory = record { len = refl; each = value }; done = (before, after, reached, did, stands (pos 1 ∷ pos 0 ∷ []) []) },
      are_cancels t (pos 0 ∷ pos 0 ∷ []) (tt, (tt, (tt, (tt, (tt, (tt, (tt, (tt, (tt, (tt, (tt, (tt, (tt, (tt, (record { block = refl; list = refl }, (tt, tt)))))))))))))))),
      tt,
    )
    refl

-- the first attempt wants to write one more than it read
writes_more : (b a r : ℕ → StrandState) → Follows s (undone_tree (pos 9)) b a r → ⊥
writes_more b a r d =
    let go : StrandState → StrandState = λ x. s.answer x Nothing in
    let at_fork : b 1 ≡ s.start = (d.series 0 (omega arith) refl).0 ∙ d.start in
    let at_right : b 5 ≡ became s (right 0) = (d.fits 1 _ refl).1.1 ∙ ap s.right at_fork in
    let at_block : b 6 ≡ became s (right 0) = (d.series 5 (omega arith) refl).0 ∙ at_right in
    let at_read : b 7 ≡ became s (right 1) = (d.series 6 (omega arith) refl).0 ∙ ap go at_block in
    let at_write : b 8 ≡ became s a2 = (d.series 6 (omega arith) refl).1.0 ∙ (d.fits 7 _ refl).1 ∙ ap (λ x. s.answer x (Value (pos 100))) at_read in
    let z : Store 1 (pos 101) ≡ Store 1 (pos 9) = sym (ap s.want at_write) ∙ (d.fits 8 _ refl).0 in
    absurd (cc z)

pub undone_write : IsAudit (undone (pos 9)) (Broken 5)
undone_write =
    broken_row (undone (pos 9)) strands (stamps_of (pos 9), accesses_of (pos 9), blocks_of (pos 9), refusals_of (pos 9) _ (pos 1 ∷ pos 0 ∷ []) [], tt, tt, tt, tt)
    (λ w. (let (b, a, r, d, stands) = w.done in writes_more b a r d))
