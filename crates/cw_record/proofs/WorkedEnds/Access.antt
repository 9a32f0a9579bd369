-- The small record that spent its budget by an access.
use Rattle.std.proofs.Common.{◌≡◌, ℕ, ◌<◌, [], ◌∷◌, refl, sym, ◌∙◌, subst, arith, Bool, true, Some, None, pos, nat_eq}
use Rattle.std.specs.Prelude.{◌&&◌, not, Option, option_map, is_some}
use Rattle.std.proofs.lemmas.Bool.{and_from, eq-eqb, not-true}
use Rattle.std.proofs.lemmas.List.Elements.{All-head}
use Rattle.cw_strand.specs.declared.want.Want.TheVariants.{Store, Begin, End}
use Rattle.cw_tree.specs.Nodes.{stamp_of, touches, touches_kind}
use Rattle.cw_tree.specs.Refusals.{IsRefusal, IsRecorded, victim_of, outermost_apart}
use Rattle.cw_tree.proofs.Walks.There.{node_there}
use Rattle.cw_tree.specs.declared.conflict.Conflict.{Conflict}
use Rattle.cw_tree.specs.Histories.{IsHistory}
use Rattle.cw_tree.proofs.Cancels.{no_cancels}
use Rattle.cw_tree.proofs.Worked.Checks.{each_below, implies, implied, is_tree, are_stamps, pending_last, are_refusals, rolls_back}
use Rattle.cw_tree.proofs.Worked.KeptParts.{are_journals, is_entry, recorded}
use Rattle.cw_tree.proofs.Worked.KeptRuns.{ended_one}
use Rattle.cw_record.specs.Coherent.{Follows}
use Rattle.cw_record.specs.Scripts.{Script, done, sync, act, after_answer, scripted}
use Rattle.cw_record.proofs.WorkedEnds.Parts.{state_in, follows}
use Rattle.cw_record.specs.WorkedEnds.{entry, writes, written, refused_alone, AtAccess}

abbrev writes_one : Script
writes_one = act Begin (act (Store 0 (pos 1)) (act End done))

abbrev store_refused : Script
store_refused = act (Store 0 (pos 2)) (sync (act End done))

abbrev before : ℕ → Script
before = state_in done (writes ∷ writes ∷ after_answer writes ∷ writes_one ∷ writes_one ∷ after_answer writes_one ∷ store_refused ∷ store_refused ∷ [])

abbrev after : ℕ → Script
after = state_in done (done ∷ writes ∷ done ∷ done ∷ writes_one ∷ act End done ∷ done ∷ store_refused ∷ [])

abbrev reached : ℕ → Script
reached = state_in done (writes ∷ done ∷ done ∷ writes_one ∷ act End done ∷ done ∷ store_refused ∷ [])

did : Follows (scripted writes) written before after reached
did =
    follows (scripted writes) written before after reached refl
    ((((((((tt, (refl, refl)), (refl, refl)), tt), (refl, refl)), (refl, refl)), tt), (refl, refl)), tt)
    (tt, ((refl, refl), ((refl, (refl, refl)), (tt, ((refl, refl), ((refl, refl), (tt, ((refl, refl), tt))))))))
    refl

history : IsHistory written (pos 0 ∷ []) ((entry 4 (pos 1) (pos 0) ∷ []) ∷ []) (refused_alone ∷ [])
history = record {
  tree = is_tree written (omega arith) refl refl refl refl refl;
  stamps = are_stamps written refl refl refl refl refl refl refl refl refl;
  pending_last = pending_last written refl refl;
  cells = each_below _ 8 refl;
  journals = are_journals written (pos 0 ∷ []) ((entry 4 (pos 1) (pos 0) ∷ []) ∷ []) ((is_entry written (pos 0) 5 _ refl refl refl refl refl, tt), tt);
  ended = ended_one written tt;
  cancels = no_cancels written (pos 0 ∷ []) refl;
  refusals = are_refusals written (refused_alone ∷ []) refl (recorded written refused_alone 5 4 (refl, refl, refl, refl, refl, refl, refl, refl, refl) (refl, refl, refl)) refl refl;
  rolls_back = rolls_back written (refused_alone ∷ []) refl refl;
}

-- no block above the refused access is not above the last one
abbrev together_test : ℕ → Bool
together_test u = implies (touches written 0 u && nat_eq (stamp_of written u) 4) (not (is_some (outermost_apart written u 7)))

some_mapped : (f : ℕ → ℕ) (v : ℕ) (o : Option ℕ) → Some v ≡ option_map f o → is_some o ≡ true
some_mapped f v None e = absurd (cc e)
some_mapped f v (Some b) e = refl

no_victim : (c : Conflict) (u b : ℕ) → c.cell ≡ 0 → c.last ≡ 4 → c.asker ≡ 7 → victim_of c ≡ Some 1 → IsRefusal written c u b → ⊥
no_victim c u b cell last asker victim r =
    let touched : touches written 0 u ≡ true = (let T : ℕ → Type 0 = λ k. touches written k u ≡ true in subst T cell r.last.0) in
    let there : u < 8 = node_there (λ x. touches_kind 0 x.kind) written u touched in
    let none = not-true _ (implied _ _ (each_below together_test 8 refl u there) (and_from _ _ touched (eq-eqb _ _ (r.last.1 ∙ last)))) in
    let O : ℕ → Type 0 = λ v. Some 1 ≡ option_map (stamp_of written) (outermost_apart written u v) in
    let some = some_mapped (stamp_of written) 1 (outermost_apart written u 7) (subst O asker (sym victim ∙ r.victim)) in
    absurd (cc (none, some))

pub at_access : AtAccess
at_access = record {
  holds = record {
    history = history;
    faulted = tt;
    spent = record { strand = refl; told = refl };
    memory = tt;
    strands = (before, after, reached, did, tt);
  };
  order = refl;
  no_strand = λ w. (let strand = w.spent.strand in absurd (cc strand));
  victim = λ w. (
      let c : Conflict = record refused_alone { victim = 1 } in
      let (u, b, r) = All-head (IsRecorded written) c [] w.history.refusals.recorded in
      no_victim c u b refl refl refl refl r);
}
