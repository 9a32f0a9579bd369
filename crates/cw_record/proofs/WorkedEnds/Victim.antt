-- The small record that spent its budget in a block.
use Rattle.std.proofs.Common.{ℕ, [], ◌∷◌, refl, arith, pos}
use Rattle.cw_strand.specs.declared.want.Want.TheVariants.{Store, Begin, End}
use Rattle.cw_tree.specs.Histories.{IsHistory}
use Rattle.cw_tree.proofs.Cancels.{no_cancels}
use Rattle.cw_tree.proofs.Worked.Checks.{each_below, is_tree, are_stamps, pending_last, are_refusals, rolls_back}
use Rattle.cw_tree.proofs.Worked.KeptParts.{are_journals, is_entry, recorded}
use Rattle.cw_tree.proofs.Worked.KeptRuns.{ended_one}
use Rattle.cw_record.specs.Coherent.{Follows}
use Rattle.cw_record.specs.Scripts.{Script, done, sync, act, fork, after_answer, scripted}
use Rattle.cw_record.proofs.WorkedEnds.Parts.{state_in, follows}
use Rattle.cw_record.specs.WorkedEnds.{entry, refused_in_block, spawns, spawned, AtVictim}

abbrev writes_one : Script
writes_one = act Begin (act (Store 0 (pos 1)) (act End done))

abbrev ends_both : Script
ends_both = sync (act End (sync done))

abbrev spawns_one : Script
spawns_one = fork (act (Store 0 (pos 2)) done) ends_both

abbrev before : ℕ → Script
before =
    state_in done
    (spawns ∷ spawns ∷ writes_one ∷ writes_one ∷ after_answer writes_one ∷ act Begin spawns_one ∷ act Begin spawns_one ∷ spawns_one ∷ act (Store 0 (pos 2)) done ∷ act (Store 0 (pos 2)) done ∷ ends_both ∷ [])

abbrev after : ℕ → Script
after = state_in done (done ∷ done ∷ done ∷ writes_one ∷ act End done ∷ done ∷ act Begin spawns_one ∷ done ∷ done ∷ act (Store 0 (pos 2)) done ∷ [])

abbrev reached : ℕ → Script
reached = state_in done (done ∷ done ∷ writes_one ∷ act End done ∷ done ∷ act Begin spawns_one ∷ done ∷ done ∷ act (Store 0 (pos 2)) done ∷ done ∷ ends_both ∷ [])

did : Follows (scripted spawns) spawned before after reached
did =
    follows (scripted spawns) spawned before after reached refl
    (((((((((((tt, (refl, refl)), tt), (refl, refl)), (refl, refl)), tt), (refl, refl)), (refl, refl)), tt), (refl, refl)), tt), refl)
    (tt, ((refl, (refl, refl)), (tt, ((refl, refl), ((refl, refl), (tt, ((refl, refl), ((refl, (refl, refl)), (tt, ((refl, refl), (tt, tt)))))))))))
    refl

history : IsHistory spawned (pos 0 ∷ []) ((entry 3 (pos 1) (pos 0) ∷ []) ∷ []) (refused_in_block ∷ [])
history = record {
  tree = is_tree spawned (omega arith) refl refl refl refl refl;
  stamps = are_stamps spawned refl refl refl refl refl refl refl refl refl;
  pending_last = pending_last spawned refl refl;
  cells = each_below _ 11 refl;
  journals = are_journals spawned (pos 0 ∷ []) ((entry 3 (pos 1) (pos 0) ∷ []) ∷ []) ((is_entry spawned (pos 0) 4 _ refl refl refl refl refl, tt), tt);
  ended = ended_one spawned tt;
  cancels = no_cancels spawned (pos 0 ∷ []) refl;
  refusals = are_refusals spawned (refused_in_block ∷ []) refl (recorded spawned refused_in_block 4 3 (refl, refl, refl, refl, refl, refl, refl, refl, refl) (refl, refl, refl)) refl refl;
  rolls_back = rolls_back spawned (refused_in_block ∷ []) refl refl;
}

pub at_victim : AtVictim
at_victim = record {
  holds = record {
    history = history;
    faulted = tt;
    spent = record { strand = refl; told = refl };
    memory = tt;
    strands = (before, after, reached, did, tt);
  };
  order = refl;
  other_budget = λ w. (let told = w.spent.told in absurd (cc told));
  asker = λ w. (let told = w.spent.told in absurd (cc told));
}
