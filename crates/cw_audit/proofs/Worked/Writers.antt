-- Two strands that write one cell, the second after it was refused.
use Rattle.std.proofs.Common.{◌≡◌, ℕ, ℤ, zero, suc, ◌<◌, ◌≤◌, List, [], ◌∷◌, map, refl, ap, sym, ◌∙◌, arith, Some, pos, Bool, subst}
use Rattle.cw_tree.proofs.Walks.There.{node_there}
use Rattle.cw_tree.specs.Attempts.{attempt_of}
use Rattle.cw_tree.specs.Nodes.{stamp_of, touches, touches_kind}
use Rattle.std.proofs.lemmas.Bool.{and_from, eq-eqb, eqb-true}
use Rattle.std.specs.Prelude.{slice_get, ◌&&◌, ◌==◌, IsTrue, option_map}
use Rattle.std.proofs.lemmas.List.Elements.{All-head}
use Rattle.std.proofs.lemmas.Option.{same_Some}
use Rattle.cw_code.specs.declared.instruction.Func.{Func}
use Rattle.cw_code.specs.Ranges.{default_limits}
use Rattle.cw_strand.specs.declared.want.Want.TheVariants.{Store}
use Rattle.cw_strand.specs.declared.want.Given.TheVariants.{Nothing}
use Rattle.cw_strand.specs.Pasts.{Past, start, joined_of, became}
use Rattle.cw_strand.specs.Strands.{Strands}
use Rattle.cw_tree.specs.declared.conflict.Conflict.{Conflict}
use Rattle.cw_tree.specs.declared.node.Node.{Node}
use Rattle.cw_tree.specs.Accesses.{live_accesses, written, cell_value}
use Rattle.cw_tree.specs.Cancels.{AreCancels}
use Rattle.cw_tree.specs.Journals.{JournalsEnded}
use Rattle.cw_tree.specs.Refusals.{AreRefusals, IsRecorded, IsRefusal, outermost_apart}
use Rattle.cw_tree.specs.Shape.{IsTree, AreStamps}
use Rattle.cw_tree.specs.Worked.{pending, committed, aborted}
use Rattle.cw_tree.specs.WorkedRun.{refused_write}
use Rattle.cw_tree.proofs.Cancels.{no_cancels}
use Rattle.cw_tree.proofs.Worked.Checks.{is_tree, are_stamps, are_refusals, each_below, implies, implied}
use Rattle.cw_tree.proofs.Worked.KeptParts.{ended_between, recorded}
use Rattle.cw_tree.proofs.Worked.KeptRuns.{ended_one}
use Rattle.cw_job.specs.Room.Strands.{StrandState}
use Rattle.cw_record.specs.declared.record_end.RecordEnd.TheVariants.{Finished, Moves}
use Rattle.cw_record.specs.Coherent.{StrandEnded, alone, joined, Follows, EndStands}
use Rattle.cw_record.proofs.WorkedEnds.Parts.{follows}
use Rattle.cw_audit.specs.declared.findings.Audit.TheVariants.{Sound, Broken}
use Rattle.cw_audit.specs.Parts.{strands_of_sheet, AccessesHold, RefusalsHold, StrandsHold, EndHolds}
use Rattle.cw_audit.specs.Audits.{stamps, accesses, blocks, refusals, strands, ending, IsAudit}
use Rattle.cw_audit.specs.Worked.{writers, writers_tree, writers_run, last_write, in_writers, two_writers, ended_with}
use Rattle.cw_audit.proofs.Worked.Claims.{Before, broken_row, sound_row, order_row, accesses_fit, none_pending, no_fork, reads_of_one, past_in, all_over, strands_by, by_default, left, right}

-- ## What strands did

abbrev s : Strands StrandState
s = strands_of_sheet two_writers

abbrev both : Past
both = joined_of (right 5) (left 3)

abbrev before : ℕ → StrandState
before n = became s (past_in (start ∷ start ∷ left 0 ∷ left 0 ∷ left 1 ∷ right 0 ∷ right 0 ∷ right 1 ∷ right 2 ∷ right 0 ∷ right 1 ∷ right 2 ∷ []) n)

abbrev after : ℕ → StrandState
after n = became s (past_in (start ∷ both ∷ start ∷ left 3 ∷ left 2 ∷ start ∷ right 0 ∷ right 1 ∷ right 2 ∷ right 5 ∷ right 4 ∷ right 3 ∷ []) n)

abbrev reached : ℕ → StrandState
reached n = became s (past_in (both ∷ start ∷ left 3 ∷ left 2 ∷ start ∷ right 5 ∷ right 1 ∷ right 2 ∷ start ∷ right 4 ∷ right 3 ∷ start ∷ []) n)

-- ## The run, whatever the stamp of its fork

abbrev run : ℕ → List Node
run fork = writers_tree fork (committed 2 2 6) (aborted 6 5 7) (last_write 0 (pos 2))

did : (fork : ℕ) → Follows s (run fork) before after reached
did fork =
    follows s (run fork) before after reached refl
    ((((((((((((tt, (refl, refl)), tt), (refl, refl)), (refl, refl)), tt), (refl, (refl, refl))), (refl, refl)), (refl, refl)), tt), (refl, refl)), (refl, refl)), tt)
    (tt, ((refl, (refl, refl)), (tt, ((refl, (refl, refl)), ((refl, refl), (tt, ((refl, refl), ((refl, refl), ((refl, refl), ((refl, (refl, refl)), ((refl, (refl, refl)), ((refl, refl), tt))))))))))))
    refl

left_ended : (fork : ℕ) → StrandEnded s (run fork) before after reached 2
left_ended fork = alone {x = 2} refl (λ f e. no_fork (run fork) 3 f refl e)

right_ended : (fork : ℕ) → StrandEnded s (run fork) before after reached 5
right_ended fork = alone {x = 5} refl (λ f e. no_fork (run fork) 9 f refl e)

root_ended : (fork : ℕ) → StrandEnded s (run fork) before after reached 0
root_ended fork = joined {x = 0} {f = 1} {l = 2} {r = 5} refl refl refl refl (left_ended fork) (right_ended fork) refl

stands : (fork : ℕ) (memory outputs : List ℤ) → EndStands s (run fork) before after reached (Finished memory outputs)
stands fork memory outputs = (
  none_pending (run fork) refl,
  all_over s (run fork) before after reached ((((((((((((tt, root_ended fork), tt), left_ended fork), tt), tt), right_ended fork), tt), tt), tt), tt), tt), tt),
)

tree_of : (fork : ℕ) → IsTree (run fork)
tree_of fork = is_tree (run fork) (omega arith) refl refl refl refl refl

strands_hold : (fork : ℕ) (memory outputs : List ℤ) → StrandsHold (writers (run fork) (refused_write ∷ []) (Finished memory outputs))
strands_hold fork memory outputs = strands_by (writers (run fork) (refused_write ∷ []) (Finished memory outputs)) (_, refl, refl) by_default refl refl refl refl refl (before, after, reached, did fork, tt)

value : (fork c : ℕ) (v : ℤ) → slice_get (pos 0 ∷ []) c ≡ Some v → slice_get (pos 2 ∷ []) c ≡ Some (cell_value v (map (written (run fork)) (live_accesses (run fork) c)))
value fork zero v e = refl
value fork (suc c) v e = absurd (cc e)

end_holds : (fork : ℕ) (outputs : List ℤ) → EndHolds s (run fork) (pos 0 ∷ []) (Finished (pos 2 ∷ []) outputs)
end_holds fork outputs = record {
  faulted = tt;
  memory = record { len = refl; each = value fork };
  done = (before, after, reached, did fork, stands fork (pos 2 ∷ []) outputs);
}

no_cancel : (fork : ℕ) → AreCancels (run fork) (pos 0 ∷ [])
no_cancel fork = no_cancels (run fork) (pos 0 ∷ []) refl

-- ## Parts 1 to 4, whatever the last write

abbrev ran : ℕ → ℤ → List Node
ran c v = writers_tree 1 (committed 2 2 6) (aborted 6 5 7) (last_write c v)

stamps_of : (c : ℕ) (v : ℤ) → AreStamps (ran c v)
stamps_of c v = are_stamps (ran c v) refl refl refl refl refl refl refl refl refl

accesses_of : (v : ℤ) → AccessesHold (ran 0 v) (pos 0 ∷ [])
accesses_of v = record { cells = accesses_fit (ran 0 v) 1 refl; reads = reads_of_one (ran 0 v) (pos 0) (refl, (refl, tt)) }

blocks_of : (v : ℤ) → JournalsEnded (ran 0 v) 1
blocks_of v = ended_one (ran 0 v) (ended_between (ran 0 v) 4 11 refl, tt)

refused_of : (v : ℤ) → AreRefusals (ran 0 v) (refused_write ∷ [])
refused_of v =
    are_refusals (ran 0 v) (refused_write ∷ []) refl (recorded (ran 0 v) refused_write 4 3 (refl, refl, refl, refl, refl, refl, refl, refl, refl) (refl, refl, refl)) refl refl

refusals_of : (budget : ℕ) (v : ℤ) (memory outputs : List ℤ) → RefusalsHold (ran 0 v) (refused_write ∷ []) budget (Finished memory outputs)
refusals_of budget v memory outputs = record { refused = refused_of v; spent = λ is. tt }

-- parts 1 to 7, with these outputs
whole : (outputs : List ℤ) → Before (ended_with (pos 2 ∷ []) outputs) 8
whole outputs =
    (stamps_of 0 (pos 2), accesses_of (pos 2), blocks_of (pos 2), refusals_of _ (pos 2) (pos 2 ∷ []) outputs, strands_hold 1 (pos 2 ∷ []) outputs, end_holds 1 outputs, no_cancel 1, tt)

-- ## Rows

pub finished : IsAudit two_writers Sound
finished = sound_row two_writers (tree_of 1) refl (whole []) refl

pub more_outputs : IsAudit (ended_with (pos 2 ∷ []) (pos 1 ∷ [])) (Broken 8)
more_outputs = order_row (ended_with (pos 2 ∷ []) (pos 1 ∷ [])) (tree_of 1) refl (whole (pos 1 ∷ [])) (λ outs. (let e : pos 1 ∷ [] ≡ [] = outs in absurd (cc e)))

pub late_fork : IsAudit (in_writers (run 14)) Sound
late_fork =
    let t = run 14 in
    sound_row (in_writers t) (tree_of 14) refl (
      are_stamps t refl refl refl refl refl refl refl refl refl,
      record { cells = accesses_fit t 1 refl; reads = reads_of_one t (pos 0) (refl, (refl, tt)) },
      ended_one t (ended_between t 4 11 refl, tt),
      record {
        refused = are_refusals t (refused_write ∷ []) refl (recorded t refused_write 4 3 (refl, refl, refl, refl, refl, refl, refl, refl, refl) (refl, refl, refl)) refl refl;
        spent = λ is. tt;
      },
      strands_hold 14 (pos 2 ∷ []) [],
      end_holds 14 [],
      no_cancel 14,
      tt,
    )
    refl

pub same_stamp : IsAudit (in_writers (writers_tree 1 (committed 2 2 3) (aborted 6 5 7) (last_write 0 (pos 2)))) (Broken 1)
same_stamp = broken_row (in_writers (writers_tree 1 (committed 2 2 3) (aborted 6 5 7) (last_write 0 (pos 2)))) stamps (tt, tt, tt, tt, tt, tt, tt, tt) (λ w. w.apart 3 4 (omega arith) (omega arith) (omega arith) refl)

pub pending_end : IsAudit (in_writers (writers_tree 1 (record (pending 2 2) { end = 6 }) (aborted 6 5 7) (last_write 0 (pos 2)))) (Broken 1)
pending_end = broken_row (in_writers (writers_tree 1 (record (pending 2 2) { end = 6 }) (aborted 6 5 7) (last_write 0 (pos 2)))) stamps (tt, tt, tt, tt, tt, tt, tt, tt) (λ w. (let e : 6 ≡ 0 = w.no_end 3 (omega arith) refl in absurd (omega (arith, e))))

pub no_cell : IsAudit (in_writers (ran 1 (pos 2))) (Broken 2)
no_cell = broken_row (in_writers (ran 1 (pos 2))) accesses (stamps_of 1 (pos 2), tt, tt, tt, tt, tt, tt, tt) (λ w. (let there = w.cells 11 (omega arith) in absurd (cc there)))

pub late_end : IsAudit (in_writers (writers_tree 1 (committed 2 2 14) (aborted 6 5 7) (last_write 0 (pos 2)))) (Broken 3)
late_end =
    let t = writers_tree 1 (committed 2 2 14) (aborted 6 5 7) (last_write 0 (pos 2)) in
    broken_row (in_writers t) blocks
    (are_stamps t refl refl refl refl refl refl refl refl refl, record { cells = accesses_fit t 1 refl; reads = reads_of_one t (pos 0) (refl, (refl, tt)) }, tt, tt, tt, tt, tt, tt)
    (λ w. (let e : 14 < 11 = ((w 0 (omega arith)).0 3 (omega arith) refl).1 in absurd (omega (arith, e))))

pub no_conflict : IsAudit (writers writers_run [] (Finished (pos 2 ∷ []) [])) (Broken 4)
no_conflict = broken_row (writers writers_run [] (Finished (pos 2 ∷ []) [])) refusals (stamps_of 0 (pos 2), accesses_of (pos 2), blocks_of (pos 2), tt, tt, tt, tt, tt) (λ w. (let z = w.refused.each in absurd (cc z)))

pub no_chain : IsAudit (writers writers_run (record refused_write { chain = [] } ∷ []) (Finished (pos 2 ∷ []) [])) (Broken 4)
no_chain =
    let c : Conflict = record refused_write { chain = [] } in
    broken_row (writers writers_run (c ∷ []) (Finished (pos 2 ∷ []) [])) refusals (stamps_of 0 (pos 2), accesses_of (pos 2), blocks_of (pos 2), tt, tt, tt, tt, tt)
    (λ w. (let (u, b, r) = All-head (IsRecorded writers_run) c [] w.refused.recorded in absurd (omega (arith, r.chain_len.0))))

-- a last access with stamp 3 is node 4
is_last : (u : ℕ) → IsTrue (touches writers_run 0 u) → stamp_of writers_run u ≡ 3 → u ≡ 4
is_last u touched stamp =
    let there : u < 12 = node_there (λ x. touches_kind 0 x.kind) writers_run u touched in
    let test : ℕ → Bool = λ n. implies (touches writers_run 0 n && (stamp_of writers_run n == 3)) (n == 4) in
    eqb-true u 4 (implied _ _ (each_below test 12 refl u there) (and_from _ _ touched (eq-eqb _ _ stamp)))

-- the node of its last access
last_of : (c : Conflict) (u b : ℕ) → c.cell ≡ 0 → c.last ≡ 3 → IsRefusal writers_run c u b → u ≡ 4
last_of c u b cell last r =
    let T : ℕ → Type 0 = λ k. IsTrue (touches writers_run k u) in
    is_last u (subst T cell r.last.0) (r.last.1 ∙ last)

-- the sheet with this conflict, which does not fit its tree
lies : (c : Conflict) → (AreRefusals writers_run (c ∷ []) → ⊥) → IsAudit (writers writers_run (c ∷ []) (Finished (pos 2 ∷ []) [])) (Broken 4)
lies c fails =
    broken_row (writers writers_run (c ∷ []) (Finished (pos 2 ∷ []) [])) refusals (stamps_of 0 (pos 2), accesses_of (pos 2), blocks_of (pos 2), tt, tt, tt, tt, tt)
    (λ w. fails w.refused)

pub other_asker : IsAudit (writers writers_run (record refused_write { asker = 7 } ∷ []) (Finished (pos 2 ∷ []) [])) (Broken 4)
other_asker = lies (record refused_write { asker = 7 }) (λ w. (let e : 7 ∷ [] ≡ 8 ∷ [] = w.each in absurd (cc e)))

pub inner_victim : IsAudit (writers writers_run (record refused_write { victim = 5 } ∷ []) (Finished (pos 2 ∷ []) [])) (Broken 4)
inner_victim =
    let c : Conflict = record refused_write { victim = 5 } in
    lies c
    (λ w. (
    let (u, b, r) = All-head (IsRecorded writers_run) c [] w.recorded in
    let P : ℕ → Type 0 = λ n. Some 5 ≡ option_map (stamp_of writers_run) (outermost_apart writers_run n 8) in
    let e : Some 5 ≡ Some 4 = subst P (last_of c u b refl refl r) r.victim in
    absurd (cc e)
    ))

pub other_attempt : IsAudit (writers writers_run (record refused_write { attempt = 2 } ∷ []) (Finished (pos 2 ∷ []) [])) (Broken 4)
other_attempt =
    let c : Conflict = record refused_write { attempt = 2 } in
    lies c
    (λ w. (
    let (u, b, r) = All-head (IsRecorded writers_run) c [] w.recorded in
    let P : ℕ → Type 0 = λ n. 2 ≡ attempt_of writers_run 8 (outermost_apart writers_run n 8) in
    let e : 2 ≡ 1 = subst P (last_of c u b refl refl r) r.attempt in
    absurd (omega (arith, e))
    ))

pub word : IsAudit (record two_writers { words = pos 7 ∷ [] }) (Broken 5)
word =
    broken_row (record two_writers { words = pos 7 ∷ [] }) strands (stamps_of 0 (pos 2), accesses_of (pos 2), blocks_of (pos 2), refusals_of _ (pos 2) (pos 2 ∷ []) [], tt, tt, tt, tt)
    (λ w. (let (f, at, n) = w.words in let e : 0 ≡ 1 = ap (λ (g : Func). g.params) (same_Some _ f at) ∙ n in absurd (omega (arith, e))))

pub no_fuel : IsAudit (record two_writers { limits = record default_limits { fuel = 0 } }) (Broken 5)
no_fuel =
    broken_row (record two_writers { limits = record default_limits { fuel = 0 } }) strands (stamps_of 0 (pos 2), accesses_of (pos 2), blocks_of (pos 2), refusals_of _ (pos 2) (pos 2 ∷ []) [], tt, tt, tt, tt)
    (λ w. (let e : 1 ≤ 0 = w.limits.fuel.0 in absurd (omega (arith, e))))

pub many_strands : IsAudit (record two_writers { limits = record default_limits { strands = 1000001 } }) (Broken 5)
many_strands =
    broken_row (record two_writers { limits = record default_limits { strands = 1000001 } }) strands (stamps_of 0 (pos 2), accesses_of (pos 2), blocks_of (pos 2), refusals_of _ (pos 2) (pos 2 ∷ []) [], tt, tt, tt, tt)
    (λ w. (let e : 1000001 ≤ 1000000 = w.limits.strands.1 in absurd (omega (arith, e))))

pub much_fuel : IsAudit (record two_writers { limits = record default_limits { fuel = 1000000001 } }) (Broken 5)
much_fuel =
    broken_row (record two_writers { limits = record default_limits { fuel = 1000000001 } }) strands (stamps_of 0 (pos 2), accesses_of (pos 2), blocks_of (pos 2), refusals_of _ (pos 2) (pos 2 ∷ []) [], tt, tt, tt, tt)
    (λ w. (let e : 1000000001 ≤ 1000000000 = w.limits.fuel.1 in absurd (omega (arith, e))))

pub large_size : IsAudit (record two_writers { limits = record default_limits { size = 10000001 } }) (Broken 5)
large_size =
    broken_row (record two_writers { limits = record default_limits { size = 10000001 } }) strands (stamps_of 0 (pos 2), accesses_of (pos 2), blocks_of (pos 2), refusals_of _ (pos 2) (pos 2 ∷ []) [], tt, tt, tt, tt)
    (λ w. (let e : 10000001 ≤ 10000000 = w.limits.size.1 in absurd (omega (arith, e))))

pub many_aborts : IsAudit (record two_writers { limits = record default_limits { aborts = 1000000001 } }) (Broken 5)
many_aborts =
    broken_row (record two_writers { limits = record default_limits { aborts = 1000000001 } }) strands (stamps_of 0 (pos 2), accesses_of (pos 2), blocks_of (pos 2), refusals_of _ (pos 2) (pos 2 ∷ []) [], tt, tt, tt, tt)
    (λ w. (let e : 1000000001 ≤ 1000000000 = w.limits.aborts.1 in absurd (omega (arith, e))))

pub many_moves : IsAudit (record two_writers { limits = record default_limits { moves = 1000000001 } }) (Broken 5)
many_moves =
    broken_row (record two_writers { limits = record default_limits { moves = 1000000001 } }) strands (stamps_of 0 (pos 2), accesses_of (pos 2), blocks_of (pos 2), refusals_of _ (pos 2) (pos 2 ∷ []) [], tt, tt, tt, tt)
    (λ w. (let e : 1000000001 ≤ 1000000000 = w.limits.moves.1 in absurd (omega (arith, e))))

pub pending_inside : IsAudit (writers (writers_tree 1 (committed 2 2 6) (pending 6 5) (last_write 0 (pos 2))) (refused_write ∷ []) Moves) (Broken 5)
pending_inside =
    let t = writers_tree 1 (committed 2 2 6) (pending 6 5) (last_write 0 (pos 2)) in
    broken_row (writers t (refused_write ∷ []) Moves) strands (
      are_stamps t refl refl refl refl refl refl refl refl refl,
      record { cells = accesses_fit t 1 refl; reads = reads_of_one t (pos 0) (refl, (refl, tt)) },
      ended_one t (ended_between t 4 11 refl, tt),
      record {
        refused = are_refusals t (refused_write ∷ []) refl (recorded t refused_write 4 3 (refl, refl, refl, refl, refl, refl, refl, refl, refl) (refl, refl, refl)) refl refl;
        spent = λ is. tt;
      },
      tt,
      tt,
      tt,
      tt,
    )
    (λ w. (let e = w.pending_last.around 6 7 (omega arith) (omega arith) refl in absurd (cc e)))

-- the right strand wants to write 2
writes_two : (b a r : ℕ → StrandState) → Follows s (ran 0 (pos 3)) b a r → ⊥
writes_two b a r d =
    let go : StrandState → StrandState = λ x. s.answer x Nothing in
    let at_root : b 0 ≡ s.start = d.start in
    let at_fork : b 1 ≡ s.start = (d.series 0 (omega arith) refl).0 ∙ at_root in
    let at_right : b 5 ≡ s.right s.start = (d.fits 1 _ refl).1.1 ∙ ap s.right at_fork in
    let at_first : b 6 ≡ s.right s.start = (d.series 5 (omega arith) refl).0 ∙ at_right in
    let at_block : b 9 ≡ s.right s.start = (d.series 5 (omega arith) refl).1.0 ∙ (d.fits 6 _ refl).1 ∙ at_first in
    let at_inner : b 10 ≡ go (s.right s.start) = (d.series 9 (omega arith) refl).0 ∙ ap go at_block in
    let at_write : b 11 ≡ go (go (s.right s.start)) = (d.series 10 (omega arith) refl).0 ∙ ap go at_inner in
    let z : Store 0 (pos 2) ≡ Store 0 (pos 3) = sym (ap s.want at_write) ∙ (d.fits 11 _ refl).0 in
    absurd (cc z)

pub other_write : IsAudit (in_writers (ran 0 (pos 3))) (Broken 5)
other_write =
    broken_row (in_writers (ran 0 (pos 3))) strands (stamps_of 0 (pos 3), accesses_of (pos 3), blocks_of (pos 3), refusals_of _ (pos 3) (pos 2 ∷ []) [], tt, tt, tt, tt)
    (λ w. (let (b, a, r, d, stands) = w.done in writes_two b a r d))

-- parts 1 to 5, with this memory
but_memory : (memory : List ℤ) → Before (ended_with memory []) 6
but_memory memory = (stamps_of 0 (pos 2), accesses_of (pos 2), blocks_of (pos 2), refusals_of _ (pos 2) memory [], strands_hold 1 memory [], tt, tt, tt)

pub other_memory : IsAudit (ended_with (pos 3 ∷ []) []) (Broken 6)
other_memory = broken_row (ended_with (pos 3 ∷ []) []) ending (but_memory (pos 3 ∷ [])) (λ w. (let e : Some (pos 3) ≡ Some (pos 2) = w.memory.each 0 (pos 0) refl in absurd (cc e)))

pub more_memory : IsAudit (ended_with (pos 2 ∷ pos 0 ∷ []) []) (Broken 6)
more_memory = broken_row (ended_with (pos 2 ∷ pos 0 ∷ []) []) ending (but_memory (pos 2 ∷ pos 0 ∷ [])) (λ w. (let e : 2 ≡ 1 = w.memory.len in absurd (omega (arith, e))))
