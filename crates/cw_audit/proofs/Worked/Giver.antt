-- A block that gives up.
use Rattle.std.proofs.Common.{◌≡◌, ℕ, ℤ, zero, suc, List, [], ◌∷◌, map, refl, ap, sym, ◌∙◌, arith, Some, pos}
use Rattle.std.specs.Prelude.{slice_get}
use Rattle.cw_code.specs.declared.Back.{Back}
use Rattle.cw_strand.specs.declared.want.Want.TheVariants.{Store}
use Rattle.cw_strand.specs.declared.want.Given.TheVariants.{Nothing, Value, Back as Wrote}
use Rattle.cw_strand.specs.Pasts.{Past, start, answered, became}
use Rattle.cw_strand.specs.Strands.{Strands}
use Rattle.cw_tree.specs.Accesses.{live_accesses, written, cell_value}
use Rattle.cw_tree.specs.Journals.{JournalsEnded}
use Rattle.cw_tree.specs.Shape.{AreStamps}
use Rattle.cw_tree.specs.WorkedRun.{had}
use Rattle.cw_tree.proofs.Worked.Checks.{is_tree, are_stamps}
use Rattle.cw_tree.proofs.Worked.KeptParts.{ended_between}
use Rattle.cw_tree.proofs.Worked.KeptRuns.{ended_one}
use Rattle.cw_job.specs.Room.Strands.{StrandState}
use Rattle.cw_record.specs.declared.record_end.RecordEnd.TheVariants.{Finished}
use Rattle.cw_record.specs.Coherent.{alone, Follows, EndStands}
use Rattle.cw_record.proofs.WorkedEnds.Parts.{follows}
use Rattle.cw_audit.specs.declared.findings.Audit.TheVariants.{Sound, Broken}
use Rattle.cw_audit.specs.Parts.{strands_of_sheet, AccessesHold, RefusalsHold, StrandsHold, EndHolds}
use Rattle.cw_audit.specs.Audits.{accesses, strands, cancels, IsAudit}
use Rattle.cw_audit.specs.Worked.{giver, giver_tree}
use Rattle.cw_audit.proofs.Worked.Claims.{broken_row, sound_row, accesses_fit, none_pending, none_refused, no_fork, reads_of_one, are_cancels, past_in, all_over, strands_by, by_default}

abbrev s : Strands StrandState
s = strands_of_sheet (giver (pos 5) (pos 5) (pos 5))

-- ## Parts 1 to 4, for a strand that sees what was written

module _ (listed v : ℤ) where
  stamps_of : (wrote : ℤ) → AreStamps (giver_tree listed wrote v)
  stamps_of wrote = are_stamps (giver_tree listed wrote v) refl refl refl refl refl refl refl refl refl

  accesses_of : AccessesHold (giver_tree listed v v) (pos 5 ∷ [])
  accesses_of = record { cells = accesses_fit (giver_tree listed v v) 1 refl; reads = reads_of_one (giver_tree listed v v) (pos 5) (refl, (refl, (refl, (refl, tt)))) }

  blocks_of : JournalsEnded (giver_tree listed v v) 1
  blocks_of = let t = giver_tree listed v v in ended_one t (ended_between t 2 3 refl, (ended_between t 3 6 refl, (ended_between t 6 7 refl, tt)))

  refusals_of : (budget : ℕ) (memory outputs : List ℤ) → RefusalsHold (giver_tree listed v v) [] budget (Finished memory outputs)
  refusals_of budget memory outputs = record { refused = none_refused (giver_tree listed v v) refl refl refl; spent = λ is. tt }

-- ## What the strand did, if it writes the value of its list

abbrev c1 : Past
c1 = answered start Nothing

abbrev c2 : Past
c2 = answered c1 Nothing

abbrev c3 : Past
c3 = answered c2 (Value (pos 9))

abbrev c4 : Past
c4 = answered c3 Nothing

abbrev c5 : ℤ → Past
c5 v = answered c4 (Wrote (had 0 v ∷ []))

abbrev c6 : ℤ → Past
c6 v = answered (c5 v) Nothing

abbrev c7 : ℤ → Past
c7 v = answered (c6 v) Nothing

abbrev c8 : ℤ → Past
c8 v = answered (c7 v) (Value v)

abbrev c9 : ℤ → Past
c9 v = answered (c8 v) Nothing

abbrev before : ℤ → ℕ → StrandState
before v n = became s (past_in (start ∷ start ∷ c1 ∷ c2 ∷ c3 ∷ c4 ∷ c5 v ∷ c7 v ∷ c8 v ∷ []) n)

abbrev after : ℤ → ℕ → StrandState
after v n = became s (past_in (start ∷ c7 v ∷ c2 ∷ c3 ∷ c4 ∷ c5 v ∷ c6 v ∷ c8 v ∷ c9 v ∷ []) n)

abbrev reached : ℤ → ℕ → StrandState
reached v n = became s (past_in (c9 v ∷ c6 v ∷ []) n)

did : (v : ℤ) → Follows s (giver_tree v v v) (before v) (after v) (reached v)
did v =
    follows s (giver_tree v v v) (before v) (after v) (reached v) refl
    (((((((((tt, (refl, (refl, (refl, refl)))), (refl, (refl, (refl, (refl, (refl, refl)))))), tt), tt), tt), tt), tt), tt), tt)
    (tt, ((refl, (refl, refl)), ((refl, refl), ((refl, refl), ((refl, refl), ((refl, refl), ((refl, refl), ((refl, refl), ((refl, refl), tt)))))))))
    refl

stands : (v : ℤ) (memory outputs : List ℤ) → EndStands s (giver_tree v v v) (before v) (after v) (reached v) (Finished memory outputs)
stands v memory outputs =
    let t = giver_tree v v v in (
      none_pending t refl,
      all_over s t (before v) (after v) (reached v) (((((((((tt, alone {x = 0} refl (λ f e. no_fork t 8 f refl e)), tt), tt), tt), tt), tt), tt), tt), tt),
    )

value : (x : ℤ) (c : ℕ) (v : ℤ) → slice_get (pos 5 ∷ []) c ≡ Some v → slice_get (x ∷ []) c ≡ Some (cell_value v (map (written (giver_tree x x x)) (live_accesses (giver_tree x x x) c)))
value x zero v e = refl
value x (suc c) v e = absurd (cc e)

strands_hold : (v : ℤ) → StrandsHold (giver v v v)
strands_hold v = strands_by (giver v v v) (_, refl, refl) by_default refl refl refl refl refl (before v, after v, reached v, did v, tt)

end_holds : (v : ℤ) (outputs : List ℤ) → EndHolds s (giver_tree v v v) (pos 5 ∷ []) (Finished (v ∷ []) outputs)
end_holds v outputs = record {
  faulted = tt;
  memory = record { len = refl; each = value v };
  done = (before v, after v, reached v, did v, stands v (v ∷ []) outputs);
}

-- ## Rows

pub given_up : IsAudit (giver (pos 5) (pos 5) (pos 5)) Sound
given_up =
    let t = giver_tree (pos 5) (pos 5) (pos 5) in
    sound_row (giver (pos 5) (pos 5) (pos 5)) (is_tree t (omega arith) refl refl refl refl refl) refl (
      stamps_of (pos 5) (pos 5) (pos 5),
      accesses_of (pos 5) (pos 5),
      blocks_of (pos 5) (pos 5),
      refusals_of (pos 5) (pos 5) _ (pos 5 ∷ []) (pos 9 ∷ pos 5 ∷ []),
      strands_hold (pos 5),
      end_holds (pos 5) (pos 9 ∷ pos 5 ∷ []),
      are_cancels t (pos 5 ∷ []) (tt, (tt, (tt, (tt, (tt, (record { block = refl; list = refl }, (tt, (tt, (tt, tt))))))))),
      tt,
    )
    refl

pub wrong_list : IsAudit (giver (pos 6) (pos 6) (pos 6)) (Broken 7)
wrong_list =
    broken_row (giver (pos 6) (pos 6) (pos 6)) cancels (
      stamps_of (pos 6) (pos 6) (pos 6),
      accesses_of (pos 6) (pos 6),
      blocks_of (pos 6) (pos 6),
      refusals_of (pos 6) (pos 6) _ (pos 6 ∷ []) (pos 9 ∷ pos 6 ∷ []),
      strands_hold (pos 6),
      end_holds (pos 6) (pos 9 ∷ pos 6 ∷ []),
      tt,
      tt,
    )
    (λ w. (let e : pos 6 ∷ [] ≡ pos 5 ∷ [] = ap (map (λ (x : Back). x.value)) (w 5 _ _ refl refl refl).list in absurd (cc e)))

pub written_back : IsAudit (giver (pos 6) (pos 6) (pos 5)) (Broken 2)
written_back =
    broken_row (giver (pos 6) (pos 6) (pos 5)) accesses (stamps_of (pos 6) (pos 5) (pos 6), tt, tt, tt, tt, tt, tt, tt)
    (λ w. (let e : pos 5 ≡ pos 6 = (w.reads 0 (pos 5) refl).1.1.1.0 (pos 5) refl in absurd (cc e)))

-- the strand wants to write back the value of its list
writes_six : (b a r : ℕ → StrandState) → Follows s (giver_tree (pos 6) (pos 5) (pos 5)) b a r → ⊥
writes_six b a r d =
    let go : StrandState → StrandState = λ x. s.answer x Nothing in
    let at_block : b 1 ≡ s.start = (d.series 0 (omega arith) refl).0 ∙ d.start in
    let inside = d.series 1 (omega arith) refl in
    let at_first : b 2 ≡ became s c1 = inside.0 ∙ ap go at_block in
    let at_read : b 3 ≡ became s c2 = inside.1.0 ∙ (d.fits 2 _ refl).1 ∙ ap go at_first in
    let at_out : b 4 ≡ became s c3 = inside.1.1.0 ∙ (d.fits 3 _ refl).1 ∙ ap (λ x. s.answer x (Value (pos 9))) at_read in
    let at_cancel : b 5 ≡ became s c4 = inside.1.1.1.0 ∙ (d.fits 4 _ refl).1 ∙ ap go at_out in
    let at_write : b 6 ≡ became s (c5 (pos 6)) = inside.1.1.1.1.0 ∙ (d.fits 5 _ refl).1 ∙ ap (λ x. s.answer x (Wrote (had 0 (pos 6) ∷ []))) at_cancel in
    let z : Store 0 (pos 6) ≡ Store 0 (pos 5) = sym (ap s.want at_write) ∙ (d.fits 6 _ refl).0 in
    absurd (cc z)

pub other_list : IsAudit (giver (pos 6) (pos 5) (pos 5)) (Broken 5)
other_list =
    broken_row (giver (pos 6) (pos 5) (pos 5)) strands
    (stamps_of (pos 6) (pos 5) (pos 5), accesses_of (pos 6) (pos 5), blocks_of (pos 6) (pos 5), refusals_of (pos 6) (pos 5) _ (pos 5 ∷ []) (pos 9 ∷ pos 5 ∷ []), tt, tt, tt, tt)
    (λ w. (let (b, a, r, d, stands) = w.done in writes_six b a r d))
