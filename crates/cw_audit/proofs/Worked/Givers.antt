-- A block with two strands that gives up.
use Rattle.std.proofs.Common.{◌≡◌, ℕ, ℤ, zero, suc, List, [], ◌∷◌, map, refl, arith, Some, pos}
use Rattle.std.specs.Prelude.{slice_get}
use Rattle.cw_strand.specs.declared.want.Given.TheVariants.{Nothing, Back as Wrote}
use Rattle.cw_strand.specs.Pasts.{Past, start, answered, left_of, right_of, joined_of, became}
use Rattle.cw_strand.specs.Strands.{Strands}
use Rattle.cw_tree.specs.declared.node.Node.{Node}
use Rattle.cw_tree.specs.Accesses.{live_accesses, written, cell_value}
use Rattle.cw_tree.specs.WorkedRun.{had}
use Rattle.cw_tree.proofs.Worked.Checks.{is_tree, are_stamps}
use Rattle.cw_tree.proofs.Worked.KeptParts.{ended_between}
use Rattle.cw_job.specs.Room.Strands.{StrandState}
use Rattle.cw_record.specs.declared.record_end.RecordEnd.TheVariants.{Finished}
use Rattle.cw_record.specs.Coherent.{StrandEnded, alone, Follows, EndStands}
use Rattle.cw_record.proofs.WorkedEnds.Parts.{ended_two}
use Rattle.cw_audit.specs.declared.findings.Audit.TheVariants.{Sound}
use Rattle.cw_audit.specs.Parts.{strands_of_sheet}
use Rattle.cw_audit.specs.Audits.{IsAudit}
use Rattle.cw_audit.specs.Worked.{givers_tree, two_givers}
use Rattle.cw_audit.proofs.Worked.Claims.{sound_row, accesses_fit, none_pending, none_refused, no_fork, reads_of_two, are_cancels, past_in, follows_joined, all_over, strands_by, by_default}

abbrev s : Strands StrandState
s = strands_of_sheet two_givers

abbrev t : List Node
t = givers_tree

-- main up to its fork, the two strands, and main behind the fork
abbrev m1 : Past
m1 = answered start Nothing

abbrev l0 : Past
l0 = left_of m1

abbrev l1 : Past
l1 = answered l0 Nothing

abbrev r0 : Past
r0 = right_of m1

abbrev r1 : Past
r1 = answered r0 Nothing

abbrev r2 : Past
r2 = answered r1 Nothing

abbrev r3 : Past
r3 = answered r2 Nothing

abbrev e0 : Past
e0 = joined_of r3 l1

abbrev e1 : Past
e1 = answered e0 (Wrote (had 0 (pos 1) ∷ had 1 (pos 2) ∷ []))

abbrev e2 : Past
e2 = answered e1 Nothing

abbrev e3 : Past
e3 = answered e2 Nothing

abbrev e4 : Past
e4 = answered e3 Nothing

abbrev before : ℕ → StrandState
before n = became s (past_in (start ∷ start ∷ m1 ∷ l0 ∷ l0 ∷ r0 ∷ r0 ∷ r1 ∷ e0 ∷ e1 ∷ e2 ∷ []) n)

abbrev after : ℕ → StrandState
after n = became s (past_in (start ∷ e4 ∷ e0 ∷ start ∷ l1 ∷ start ∷ r3 ∷ r2 ∷ e1 ∷ e2 ∷ e3 ∷ []) n)

abbrev reached : ℕ → StrandState
reached n = became s (past_in (e4 ∷ e3 ∷ start ∷ l1 ∷ start ∷ r3 ∷ r2 ∷ []) n)

left_ended : StrandEnded s t before after reached 3
left_ended = alone {x = 3} refl (λ f e. no_fork t 4 f refl e)

right_ended : StrandEnded s t before after reached 5
right_ended = alone {x = 5} refl (λ f e. no_fork t 6 f refl e)

did : Follows s t before after reached
did =
    follows_joined s t before after reached refl
    (((((((((((tt, (refl, refl)), (refl, (refl, (refl, (refl, refl))))), tt), (refl, refl)), tt), (refl, refl)), (refl, refl)), tt), tt), tt), tt)
    (tt, ((refl, (refl, refl)), ((refl, (refl, refl)), (tt, ((refl, refl), (tt, ((refl, (refl, refl)), ((refl, refl), ((refl, refl), ((refl, refl), ((refl, refl), tt)))))))))))
    (((((((((((tt, tt), tt), record { left = 3; right = 5; strands = refl; left_ended = left_ended; right_ended = right_ended; behind = refl }), tt), tt), tt), tt), tt), tt), tt), tt)

stands : (memory outputs : List ℤ) → EndStands s t before after reached (Finished memory outputs)
stands memory outputs = (
  none_pending t refl,
  all_over s t before after reached (((((((((((tt, alone {x = 0} refl (λ f e. no_fork t 1 f refl e)), tt), tt), left_ended), tt), right_ended), tt), tt), tt), tt), tt),
)

value : (c : ℕ) (v : ℤ) → slice_get (pos 1 ∷ pos 2 ∷ []) c ≡ Some v → slice_get (pos 1 ∷ pos 2 ∷ []) c ≡ Some (cell_value v (map (written t) (live_accesses t c)))
value zero v e = refl
value (suc zero) v e = refl
value (suc (suc c)) v e = absurd (cc e)

pub both_given_up : IsAudit two_givers Sound
both_given_up =
    sound_row two_givers (is_tree t (omega arith) refl refl refl refl refl) refl (
      are_stamps t refl refl refl refl refl refl refl refl refl,
      record { cells = accesses_fit t 2 refl; reads = reads_of_two t (pos 1) (pos 2) (refl, (refl, tt)) (refl, (refl, tt)) },
      ended_two t (ended_between t 4 9 refl, tt) (ended_between t 7 10 refl, tt),
      record { refused = none_refused t refl refl refl; spent = λ is. tt },
      strands_by two_givers (_, refl, refl) by_default refl refl refl refl refl (before, after, reached, did, tt),
      record { faulted = tt; memory = record { len = refl; each = value }; done = (before, after, reached, did, stands (pos 1 ∷ pos 2 ∷ []) []) },
      are_cancels t (pos 1 ∷ pos 2 ∷ []) (tt, (tt, (tt, (tt, (tt, (tt, (tt, (tt, (record { block = refl; list = refl }, (tt, (tt, tt))))))))))),
      tt,
    )
    refl
