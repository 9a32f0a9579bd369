-- Histories of two strands, stamped as they came and by commits.
use Rattle.std.proofs.Common.{◌≡◌, ℕ, ℤ, zero, suc, ◌<◌, List, [], ◌∷◌, map, refl, arith, Some, pos}
use Rattle.std.specs.Prelude.{slice_get}
use Rattle.cw_strand.specs.declared.want.Given.TheVariants.{Nothing, Value}
use Rattle.cw_strand.specs.Pasts.{Past, start, answered, joined_of, became}
use Rattle.cw_strand.specs.Strands.{Strands}
use Rattle.cw_tree.specs.declared.node.Node.{Node}
use Rattle.cw_tree.specs.Accesses.{live_accesses, written, cell_value}
use Rattle.cw_tree.specs.Worked.{committed}
use Rattle.cw_tree.proofs.Cancels.{no_cancels}
use Rattle.cw_tree.proofs.Worked.Checks.{is_tree, are_stamps}
use Rattle.cw_tree.proofs.Worked.KeptParts.{ended_between}
use Rattle.cw_tree.proofs.Worked.KeptRuns.{ended_one}
use Rattle.cw_job.specs.Room.Strands.{StrandState}
use Rattle.cw_record.specs.declared.record_end.RecordEnd.TheVariants.{Finished}
use Rattle.cw_record.specs.Coherent.{StrandEnded, alone, joined, Follows, EndStands}
use Rattle.cw_record.proofs.WorkedEnds.Parts.{follows}
use Rattle.cw_sheet.specs.Contents.{Contents}
use Rattle.cw_audit.specs.declared.findings.Audit.TheVariants.{Sound, Broken}
use Rattle.cw_audit.specs.Parts.{strands_of_sheet}
use Rattle.cw_audit.specs.Audits.{accesses, blocks, IsAudit}
use Rattle.cw_audit.specs.Worked.{readers, adders}
use Rattle.cw_audit.proofs.Worked.Claims.{broken_row, sound_row, accesses_fit, none_pending, none_refused, no_fork, reads_of_one, past_in, all_over, strands_by, by_default, left, right}

-- ## Two readers that overlapped

abbrev c : Contents
c = readers (committed 2 2 4) 3 (committed 5 5 7) 6

abbrev s : Strands StrandState
s = strands_of_sheet c

abbrev t : List Node
t = c.tree

abbrev l2 : Past
l2 = answered (left 1) (Value (pos 0))

abbrev l3 : Past
l3 = answered l2 Nothing

abbrev r2 : Past
r2 = answered (right 1) (Value (pos 0))

abbrev r3 : Past
r3 = answered r2 Nothing

abbrev both : Past
both = joined_of r3 l3

abbrev before : ℕ → StrandState
before n = became s (past_in (start ∷ start ∷ left 0 ∷ left 0 ∷ left 1 ∷ right 0 ∷ right 0 ∷ right 1 ∷ []) n)

abbrev after : ℕ → StrandState
after n = became s (past_in (start ∷ both ∷ start ∷ l3 ∷ l2 ∷ start ∷ r3 ∷ r2 ∷ []) n)

abbrev reached : ℕ → StrandState
reached n = became s (past_in (both ∷ start ∷ l3 ∷ l2 ∷ start ∷ r3 ∷ r2 ∷ []) n)

did : Follows s t before after reached
did =
    follows s t before after reached refl
    ((((((((tt, (refl, refl)), tt), (refl, refl)), (refl, refl)), tt), (refl, refl)), (refl, refl)), tt)
    (tt, ((refl, (refl, refl)), (tt, ((refl, (refl, refl)), ((refl, refl), (tt, ((refl, (refl, refl)), ((refl, refl), tt))))))))
    refl

left_ended : StrandEnded s t before after reached 2
left_ended = alone {x = 2} refl (λ f e. no_fork t 3 f refl e)

right_ended : StrandEnded s t before after reached 5
right_ended = alone {x = 5} refl (λ f e. no_fork t 6 f refl e)

root_ended : StrandEnded s t before after reached 0
root_ended = joined {x = 0} {f = 1} {l = 2} {r = 5} refl refl refl refl left_ended right_ended refl

stands : EndStands s t before after reached (Finished (pos 0 ∷ []) [])
stands = (none_pending t refl, all_over s t before after reached ((((((((tt, root_ended), tt), left_ended), tt), tt), right_ended), tt), tt))

value : (k : ℕ) (v : ℤ) → slice_get (pos 0 ∷ []) k ≡ Some v → slice_get (pos 0 ∷ []) k ≡ Some (cell_value v (map (written t) (live_accesses t k)))
value zero v e = e
value (suc k) v e = absurd (cc e)

pub by_commits : IsAudit c Sound
by_commits =
    sound_row c (is_tree t (omega arith) refl refl refl refl refl) refl (
      are_stamps t refl refl refl refl refl refl refl refl refl,
      record { cells = accesses_fit t 1 refl; reads = reads_of_one t (pos 0) (refl, (refl, tt)) },
      ended_one t (ended_between t 4 7 refl, tt),
      record { refused = none_refused t refl refl refl; spent = λ is. tt },
      strands_by c (_, refl, refl) by_default refl refl refl refl refl (before, after, reached, did, tt),
      record { faulted = tt; memory = record { len = refl; each = value }; done = (before, after, reached, did, stands) },
      no_cancels t (pos 0 ∷ []) refl,
      tt,
    )
    refl

pub by_clock : IsAudit (readers (committed 2 2 6) 4 (committed 5 3 7) 5) (Broken 3)
by_clock =
    let d : Contents = readers (committed 2 2 6) 4 (committed 5 3 7) 5 in
    broken_row d blocks
    (are_stamps d.tree refl refl refl refl refl refl refl refl refl, record { cells = accesses_fit d.tree 1 refl; reads = reads_of_one d.tree (pos 0) (refl, (refl, tt)) }, tt, tt, tt, tt, tt, tt)
    (λ w. (let e : 6 < 5 = ((w 0 (omega arith)).0 3 (omega arith) refl).1 in absurd (omega (arith, e))))

-- ## A lost update

pub lost_by_commits : IsAudit (adders (committed 2 2 5) 3 4 (committed 6 6 9) 7 8) (Broken 2)
lost_by_commits =
    let d : Contents = adders (committed 2 2 5) 3 4 (committed 6 6 9) 7 8 in
    broken_row d accesses (are_stamps d.tree refl refl refl refl refl refl refl refl refl, tt, tt, tt, tt, tt, tt, tt)
    (λ w. (let e : pos 0 ≡ pos 1 = (w.reads 0 (pos 0) refl).1.1.0 (pos 0) refl in absurd (cc e)))

pub lost_by_clock : IsAudit (adders (committed 2 2 8) 4 6 (committed 6 3 9) 5 7) (Broken 3)
lost_by_clock =
    let d : Contents = adders (committed 2 2 8) 4 6 (committed 6 3 9) 5 7 in
    broken_row d blocks
    (are_stamps d.tree refl refl refl refl refl refl refl refl refl, record { cells = accesses_fit d.tree 1 refl; reads = reads_of_one d.tree (pos 0) (refl, (refl, (refl, (refl, tt)))) }, tt, tt, tt, tt, tt, tt)
    (λ w. (let e : 8 < 5 = ((w 0 (omega arith)).0 3 (omega arith) refl).1 in absurd (omega (arith, e))))
