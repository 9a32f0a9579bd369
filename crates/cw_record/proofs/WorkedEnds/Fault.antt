-- The small record that came to a fault.
use Rattle.std.proofs.Common.{◌≡◌, ap, sym, ◌∙◌, ℕ, List, [], ◌∷◌, refl, arith, pos}
use Rattle.cw_code.specs.declared.FaultKind.TheVariants.{Zero, Overflow}
use Rattle.cw_strand.specs.declared.want.Want.TheVariants.{Load, Store, Begin, End, Fault as Fails}
use Rattle.cw_tree.specs.Worked.{pending}
use Rattle.cw_tree.specs.declared.node.Node.{Node}
use Rattle.cw_tree.specs.Histories.{IsHistory}
use Rattle.cw_tree.proofs.Cancels.{no_cancels}
use Rattle.cw_tree.proofs.Worked.Checks.{each_below, is_tree, are_stamps, pending_last, are_refusals, rolls_back}
use Rattle.cw_tree.proofs.Worked.KeptParts.{are_journals, is_entry, recorded}
use Rattle.cw_record.specs.Coherent.{Follows}
use Rattle.cw_record.specs.Scripts.{Script, done, sync, act, fork, after_answer, right_of, wants_of, scripted}
use Rattle.cw_record.proofs.WorkedEnds.Parts.{state_in, follows, ended_two, no_fork_last}
use Rattle.cw_record.specs.WorkedEnds.{entry, met, divides, divided, refused_in_block, AtFault}

abbrev first_block : Script
first_block = act Begin (act (Store 0 (pos 1)) (act (Store 0 (pos 2)) (act End done)))

abbrev refused_store : Script
refused_store = act (Store 0 (pos 3)) done

abbrev fails : Script
fails = act (Fails Zero) (sync (act End (sync done)))

abbrev in_block : Script
in_block = fork refused_store (act (Load 1) fails)

abbrev t : List Node
t = divided (pending 5 4) (pos 0)

-- nothing is said of a state behind a fork whose strands run
abbrev before : ℕ → Script
before =
    state_in done
    (divides ∷ divides ∷ first_block ∷ first_block ∷ after_answer first_block ∷ act Begin in_block ∷ act Begin in_block ∷ in_block ∷ refused_store ∷ refused_store ∷ act (Load 1) fails ∷ act (Load 1) fails ∷ [])

abbrev after : ℕ → Script
after = state_in done (done ∷ done ∷ done ∷ first_block ∷ act (Store 0 (pos 2)) (act End done) ∷ done ∷ act Begin in_block ∷ done ∷ done ∷ refused_store ∷ done ∷ fails ∷ [])

abbrev reached : ℕ → Script
reached = state_in done (done ∷ done ∷ first_block ∷ act (Store 0 (pos 2)) (act End done) ∷ done ∷ act Begin in_block ∷ done ∷ done ∷ refused_store ∷ done ∷ fails ∷ [])

did : Follows (scripted divides) t before after reached
did =
    follows (scripted divides) t before after reached refl
    ((((((((((((tt, (refl, refl)), tt), (refl, refl)), (refl, refl)), tt), (refl, refl)), (refl, refl)), tt), (refl, refl)), tt), (refl, refl)), tt)
    (tt, ((refl, (refl, refl)), (tt, ((refl, refl), ((refl, refl), (tt, ((refl, refl), ((refl, (refl, refl)), (tt, ((refl, refl), (tt, ((refl, refl), tt))))))))))))
    refl

history : IsHistory t (pos 0 ∷ pos 0 ∷ []) ((entry 3 (pos 1) (pos 0) ∷ []) ∷ (met 6 (pos 0) ∷ []) ∷ []) (refused_in_block ∷ [])
history = record {
  tree = is_tree t (omega arith) refl refl refl refl refl;
  stamps = are_stamps t refl refl refl refl refl refl refl refl refl;
  pending_last = pending_last t refl refl;
  cells = each_below _ 12 refl;
  journals = are_journals t (pos 0 ∷ pos 0 ∷ []) ((entry 3 (pos 1) (pos 0) ∷ []) ∷ (met 6 (pos 0) ∷ []) ∷ [])
      ((is_entry t (pos 0) 4 _ refl refl refl refl refl, tt), ((is_entry t (pos 0) 11 _ refl refl refl refl refl, tt), tt));
  ended = ended_two t tt tt;
  cancels = no_cancels t (pos 0 ∷ pos 0 ∷ []) refl;
  refusals = are_refusals t (refused_in_block ∷ []) refl (recorded t refused_in_block 4 3 (refl, refl, refl, refl, refl, refl, refl, refl, refl) (refl, refl, refl)) refl refl;
  rolls_back = rolls_back t (refused_in_block ∷ []) refl refl;
}

-- the strand that read d stands at this fault alone
at_zero : (b a r : ℕ → Script) → Follows (scripted divides) t b a r → wants_of (r 10) ≡ Fails Zero
at_zero b a r d =
    let at_block : b 6 ≡ act Begin in_block = (d.series 5 (omega arith) refl).0 ∙ (d.fits 1 _ refl).1.1 ∙ ap right_of ((d.series 0 (omega arith) refl).0 ∙ d.start) in
    let at_fork : b 7 ≡ in_block = (d.series 6 (omega arith) refl).0 ∙ ap after_answer at_block in
    let at_read : b 11 ≡ act (Load 1) fails = (d.series 10 (omega arith) refl).0 ∙ (d.fits 7 _ refl).1.1 ∙ ap right_of at_fork in
    ap wants_of (sym (d.series 10 (omega arith) refl).1 ∙ (d.fits 11 _ refl).1 ∙ ap after_answer at_read)

pub at_fault : AtFault
at_fault = record {
  holds = record {
    history = history;
    faulted = refl;
    spent = tt;
    memory = tt;
    strands = (before, after, reached, did, (refl, no_fork_last (scripted divides) t before after reached 10 11 refl refl));
  };
  order = refl;
  rolled_back = λ w. (let live = w.faulted in absurd (cc live));
  no_strand = λ w. (let strand = w.faulted in absurd (cc strand));
  other_kind = λ w. (let (b, a, r, d, stands) = w.strands in let z : Fails Zero ≡ Fails Overflow = sym (at_zero b a r d) ∙ stands.0 in absurd (cc z));
  other_value = λ w. (let z = (w.history.journals.each 1 (pos 0) _ refl refl).0.read (pos 1) refl in absurd (cc z));
}
