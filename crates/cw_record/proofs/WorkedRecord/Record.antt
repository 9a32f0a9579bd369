-- A small record that is coherent: the states of its strands, one by one.
use Rattle.std.proofs.Common.{◌≡◌, ℕ, ℤ, zero, suc, [], ◌∷◌, map, refl, subst, Some, pos}
use Rattle.std.specs.Prelude.{◌&&◌, not, IsTrue, slice_get}
use Rattle.std.proofs.lemmas.Option.{same_Some}
use Rattle.cw_tree.specs.Nodes.{is_strand, is_fork}
use Rattle.cw_tree.specs.Accesses.{is_live, live_accesses, written, cell_value}
use Rattle.cw_tree.specs.WorkedRun.{two_blocks}
use Rattle.cw_tree.proofs.Worked.KeptRuns.{holds}
use Rattle.cw_record.specs.declared.record_end.RecordEnd.TheVariants.{Finished}
use Rattle.cw_record.specs.Coherent.{StrandEnded, alone, joined, Follows, EndStands, IsMemory}
use Rattle.cw_record.specs.WorkedRecord.{Writer, whole, left, right, both, writers, Coherent}
use Rattle.cw_record.proofs.WorkedEnds.Law.{lawful}
use Rattle.cw_record.proofs.WorkedEnds.Parts.{state_in, AllBelow, each, follows}

-- ## The states

abbrev pub before : ℕ → Writer
before = state_in whole (whole ∷ whole ∷ left 0 ∷ left 0 ∷ left 1 ∷ right 0 ∷ right 0 ∷ right 1 ∷ right 2 ∷ right 0 ∷ right 1 ∷ right 2 ∷ [])

abbrev pub after : ℕ → Writer
after = state_in whole (whole ∷ both ∷ whole ∷ left 3 ∷ left 2 ∷ whole ∷ right 0 ∷ right 1 ∷ right 2 ∷ right 5 ∷ right 4 ∷ right 3 ∷ [])

abbrev pub reached : ℕ → Writer
reached = state_in whole (both ∷ whole ∷ left 3 ∷ left 2 ∷ whole ∷ right 5 ∷ right 1 ∷ right 2 ∷ whole ∷ right 4 ∷ right 3 ∷ whole ∷ [])

-- ## The ends

abbrev pub Ended : ℕ → Type 0
Ended = StrandEnded writers two_blocks before after reached

some_not_fork : (c f : ℕ) → IsTrue (not (is_fork two_blocks c)) → Some c ≡ Some f → IsTrue (not (is_fork two_blocks f))
some_not_fork c f h e = let P : ℕ → Type 0 = λ n. IsTrue (not (is_fork two_blocks n)) in subst P (same_Some c f e) h

left_ended : Ended 2
left_ended = alone {x = 2} refl (λ f e. some_not_fork 3 f refl e)

right_ended : Ended 5
right_ended = alone {x = 5} refl (λ f e. some_not_fork 9 f refl e)

root_ended : Ended 0
root_ended = joined {x = 0} {f = 1} {l = 2} {r = 5} refl refl refl refl left_ended right_ended refl

abbrev pub Over : ℕ → Type 0
Over x = IsTrue (is_strand two_blocks x && is_live two_blocks x) → Ended x

over : AllBelow Over 12
over = ((((((((((((tt, λ e. root_ended), λ e. absurd (cc e)), λ e. left_ended), λ e. absurd (cc e)), λ e. absurd (cc e)), λ e. right_ended), λ e. absurd (cc e)), λ e. absurd (cc e)), λ e. absurd (cc e)), λ e. absurd (cc e)), λ e. absurd (cc e)), λ e. absurd (cc e))

did : Follows writers two_blocks before after reached
did =
    follows writers two_blocks before after reached refl
    ((((((((((((tt, (refl, refl)), tt), (refl, refl)), (refl, refl)), tt), (refl, (refl, refl))), (refl, refl)), (refl, refl)), tt), (refl, refl)), (refl, refl)), tt)
    (tt, ((refl, (refl, refl)), (tt, ((refl, (refl, refl)), ((refl, refl), (tt, ((refl, refl), ((refl, refl), ((refl, refl), ((refl, (refl, refl)), ((refl, (refl, refl)), ((refl, refl), tt))))))))))))
    refl

stands : EndStands writers two_blocks before after reached (Finished (pos 2 ∷ []) [])
stands = (holds.none_pending, each Over 12 over)

value : (c : ℕ) (v : ℤ) → slice_get (pos 0 ∷ []) c ≡ Some v → slice_get (pos 2 ∷ []) c ≡ Some (cell_value v (map (written two_blocks) (live_accesses two_blocks c)))
value zero v e = refl
value (suc c) v e = absurd (cc e)

memory : IsMemory two_blocks (pos 0 ∷ []) (pos 2 ∷ [])
memory = record { len = refl; each = value }

one_is_not_two : Some (pos 1) ≡ Some (pos 2) → ⊥
one_is_not_two e = absurd (cc e)

pub coherent : Coherent
coherent = record {
  lawful = lawful;
  holds = record {
    history = holds.history;
    faulted = tt;
    spent = tt;
    memory = memory;
    strands = (before, after, reached, did, stands);
  };
  memory = λ r. one_is_not_two (r.memory.each 0 (pos 0) refl);
  outputs = refl;
  other_outputs = λ e. absurd (cc e);
}
