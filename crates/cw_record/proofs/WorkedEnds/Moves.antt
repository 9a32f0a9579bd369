-- The small record whose moves were used up.
use Rattle.std.proofs.Common.{◌≡◌, ap, sym, ◌∙◌, ℕ, List, [], ◌∷◌, refl, arith, pos}
use Rattle.std.proofs.lemmas.List.Elements.{All-nil}
use Rattle.cw_strand.specs.declared.want.Want.TheVariants.{Out as Shows, Fork, Done}
use Rattle.cw_tree.specs.Refusals.{IsRecorded}
use Rattle.cw_tree.specs.declared.node.Node.{Node}
use Rattle.cw_tree.specs.Histories.{IsHistory}
use Rattle.cw_tree.proofs.Cancels.{no_cancels}
use Rattle.cw_tree.proofs.Worked.Checks.{each_below, is_tree, are_stamps, pending_last, are_refusals, rolls_back}
use Rattle.cw_tree.proofs.Worked.KeptParts.{are_journals, is_entry, ended_between}
use Rattle.cw_tree.proofs.Worked.KeptRuns.{ended_one}
use Rattle.cw_record.specs.Coherent.{Follows}
use Rattle.cw_record.specs.Scripts.{Script, done, after_answer, wants_of, scripted}
use Rattle.cw_record.proofs.WorkedEnds.Parts.{state_in, follows}
use Rattle.cw_record.specs.WorkedEnds.{entry, met, counts, counted, shown_otherwise, with_fork, AtMoves}

abbrev t : List Node
t = counted (pos 1)

abbrev second : Script
second = after_answer counts

abbrev third : Script
third = after_answer second

abbrev fourth : Script
fourth = after_answer third

abbrev before : ℕ → Script
before = state_in done (counts ∷ counts ∷ second ∷ third ∷ fourth ∷ [])

abbrev after : ℕ → Script
after = state_in done (done ∷ second ∷ third ∷ fourth ∷ done ∷ [])

abbrev reached : ℕ → Script
reached = state_in done []

did : Follows (scripted counts) t before after reached
did =
    follows (scripted counts) t before after reached refl
    (((((tt, (refl, (refl, (refl, (refl, refl))))), tt), tt), tt), tt)
    (tt, ((refl, refl), ((refl, refl), ((refl, refl), ((refl, refl), tt)))))
    refl

history : IsHistory t (pos 0 ∷ []) ((met 1 (pos 0) ∷ entry 2 (pos 1) (pos 0) ∷ met 3 (pos 1) ∷ []) ∷ []) []
history = record {
  tree = is_tree t (omega arith) refl refl refl refl refl;
  stamps = are_stamps t refl refl refl refl refl refl refl refl refl;
  pending_last = pending_last t refl refl;
  cells = each_below _ 5 refl;
  journals = are_journals t (pos 0 ∷ []) ((met 1 (pos 0) ∷ entry 2 (pos 1) (pos 0) ∷ met 3 (pos 1) ∷ []) ∷ [])
      ((is_entry t (pos 0) 1 _ refl refl refl refl refl, (is_entry t (pos 0) 2 _ refl refl refl refl refl, (is_entry t (pos 1) 3 _ refl refl refl refl refl, tt))), tt);
  ended = ended_one t (ended_between t 1 2 refl, (ended_between t 2 3 refl, tt));
  cancels = no_cancels t (pos 0 ∷ []) refl;
  refusals = are_refusals t [] refl (All-nil (IsRecorded t)) refl refl;
  rolls_back = rolls_back t [] refl refl;
}

-- main's state at each node, in any tree that begins as this one
did_count : (b a : ℕ → Script) → b 0 ≡ counts → b 1 ≡ b 0 → a 1 ≡ after_answer (b 1) → b 2 ≡ a 1 → a 2 ≡ after_answer (b 2) → b 3 ≡ a 2 → a 3 ≡ after_answer (b 3) → b 4 ≡ a 3 → b 4 ≡ fourth
did_count b a e0 e1 f1 e2 f2 e3 f3 e4 = e4 ∙ f3 ∙ ap after_answer (e3 ∙ f2 ∙ ap after_answer (e2 ∙ f1 ∙ ap after_answer (e1 ∙ e0)))

no_output : (b a r : ℕ → Script) → Follows (scripted counts) shown_otherwise b a r → ⊥
no_output b a r d =
    let (e1, (e2, (e3, (e4, last)))) = d.series 0 (omega arith) refl in
    let at_end = did_count b a d.start e1 (d.fits 1 _ refl).1 e2 (d.fits 2 _ refl).1 e3 (d.fits 3 _ refl).1 e4 in
    let z : Shows (pos 1) ≡ Shows (pos 2) = sym (ap wants_of at_end) ∙ (d.fits 4 _ refl).0 in
    absurd (cc z)

no_fork : (b a r : ℕ → Script) → Follows (scripted counts) with_fork b a r → ⊥
no_fork b a r d =
    let (e1, (e2, (e3, (e4, (e5, last))))) = d.series 0 (omega arith) refl in
    let at_end = did_count b a d.start e1 (d.fits 1 _ refl).1 e2 (d.fits 2 _ refl).1 e3 (d.fits 3 _ refl).1 e4 in
    let z : Done ≡ Fork = sym (ap wants_of (e5 ∙ (d.fits 4 _ refl).1 ∙ ap after_answer at_end)) ∙ (d.fits 5 _ refl).0 in
    absurd (cc z)

pub at_moves : AtMoves
at_moves = record {
  holds = record {
    history = history;
    faulted = tt;
    spent = tt;
    memory = tt;
    strands = (before, after, reached, did, tt);
  };
  order = refl;
  old_value = λ w. (let z = (w.history.journals.each 0 (pos 0) _ refl refl).1.1.0.read (pos 0) refl in absurd (cc z));
  output = λ w. (let (b, a, r, d, stands) = w.strands in no_output b a r d);
  fork = λ w. (let (b, a, r, d, stands) = w.strands in no_fork b a r d);
}
