-- A roll is a run of the open machine, and keeps what is true of a core.
use Rattle.std.proofs.Common.{◌≡◌, ℕ, zero, suc, ◌<◌, List, [], ◌∷◌, length, map, refl, ap, sym, ◌∙◌, subst, arith, Bool, true, false, inl, inr, nat_lt}
use Rattle.std.specs.Prelude.{not, ℤ, slice_set, filter, max}
use Rattle.std.specs.List.{list_any, list_all}
use Rattle.std.proofs.lemmas.Bool.{and_from, cases_eq, cases_Bool, lt-ltb, not_from_false, false_from_ne_true}
use Rattle.std.proofs.lemmas.List.{length-set}
use Rattle.cw_tree.specs.declared.node.Node.{Node}
use Rattle.cw_tree.specs.declared.node.BlockState.TheVariants.{Aborted}
use Rattle.cw_tree.specs.Nodes.{is_aborted_state, touches_kind, stamp_of, is_block, is_aborted, below, closed}
use Rattle.cw_tree.specs.Walks.{is_above}
use Rattle.cw_tree.specs.Series.{place}
use Rattle.cw_tree.specs.AccessStacks.{access_at}
use Rattle.cw_tree.proofs.Lists.{In, any_from, all_from}
use Rattle.cw_tree.proofs.Members.{in_filter, in_below, below_in, filter_in}
use Rattle.cw_tree.proofs.Walks.There.{node_there}
use Rattle.cw_tree.proofs.NextNodes.Closing.{state_closed, is_above_closed}
use Rattle.cw_open.specs.Machine.{OpenMachine, live, is_running, in_block, rolls_back}
use Rattle.cw_open.specs.Steps.{undoes, aborts, after_all}
use Rattle.cw_open.specs.Runs.{IsRun, IsReachedBy, at_once}
use Rattle.cw_open.proofs.Open.TreeSteps.{rolls_runs}
use Rattle.cw_open.proofs.Laws.Listing.{listed}
use Rattle.cw_open.proofs.Laws.ListSteps.{listed_here, listed_other}
use Rattle.cw_open.proofs.Laws.Named.{access_named, live_tells}
use Rattle.cw_core.specs.declared.event.Event.TheVariants as event
use Rattle.cw_tree.proofs.NodeKinds.{pending_block}
use Rattle.cw_core.specs.State.{CoreState, waits_for_left}
use Rattle.cw_core.specs.Events.{steps_of, after_event, touched, next}
use Rattle.cw_core.specs.Laws.{IsCore}
use Rattle.cw_core.proofs.Events.Complete.{HasAll, none_of}
use Rattle.cw_open.proofs.Runs.More.{run_more, after_more, reached_more}
use Rattle.cw_core.proofs.Events.Going.{well, all_listed, end_stamp, at_place}
use Rattle.cw_core.proofs.Events.Making.{IsKept}
use Rattle.cw_core.proofs.Events.Closing.{pending, closed_forks, closed_left, closed_stands, was_live}

-- ## Lists of which some are filtered

abbrev pub filtered : (ℕ → Bool) → List (List ℕ) → List ℕ → List (List ℕ)
filtered f ls [] = ls
filtered f ls (c ∷ cs) = filtered f (slice_set ls c (filter f (listed ls c))) cs

pub filtered_length : (f : ℕ → Bool) (ls : List (List ℕ)) (cs : List ℕ) → length (filtered f ls cs) ≡ length ls
filtered_length f ls [] = refl
filtered_length f ls (c ∷ cs) = filtered_length f (slice_set ls c (filter f (listed ls c))) cs ∙ length-set ls c (filter f (listed ls c))

-- what is filtered out of no list stays in it, and what is in one was
in_filtered : (f : ℕ → Bool) (ls : List (List ℕ)) (cs : List ℕ) → ((c : ℕ) → In c cs → c < length ls) → (d v : ℕ) → In v (listed ls d) → f v ≡ true → In v (listed (filtered f ls cs) d)
in_filtered f ls [] low d v i e = i
in_filtered f ls (c ∷ cs) low d v i e =
    let next = slice_set ls c (filter f (listed ls c)) in
    let len = length-set ls c (filter f (listed ls c)) in
    let P : List ℕ → Type 0 = λ us. In v us in
    let here : In v (listed next d) = elim (cases_eq d c) [
      | inl q ↦ subst P (sym (ap (listed next) q ∙ listed_here ls c (filter f (listed ls c)) (low c (inl refl)))) (filter_in f v (listed ls c) (let Q : ℕ → Type 0 = λ d. In v (listed ls d) in subst Q q i) e)
      | inr ne ↦ subst P (sym (listed_other ls c d (filter f (listed ls c)) ne)) i
    ] in
    in_filtered f next cs (λ c j. let h = low c (inr j) in omega arith) d v here e

was_listed : (f : ℕ → Bool) (ls : List (List ℕ)) (cs : List ℕ) → ((c : ℕ) → In c cs → c < length ls) → (d v : ℕ) → In v (listed (filtered f ls cs) d) → In v (listed ls d) × (In d cs → f v ≡ true)
was_listed f ls [] low d v i = (i, λ j. absurd j)
was_listed f ls (c ∷ cs) low d v i =
    let next = slice_set ls c (filter f (listed ls c)) in
    let len = length-set ls c (filter f (listed ls c)) in
    let w = was_listed f next cs (λ c j. let h = low c (inr j) in omega arith) d v i in
    let P : List ℕ → Type 0 = λ us. In v us in
    elim (cases_eq d c) [
      | inl q ↦
          (let z = in_filter f v (listed ls c) (subst P (ap (listed next) q ∙ listed_here ls c (filter f (listed ls c)) (low c (inl refl))) w.0) in
          let Q : ℕ → Type 0 = λ d. In v (listed ls d) in
          (subst Q (sym q) z.0, λ j. z.1))
      | inr ne ↦ (subst P (listed_other ls c d (filter f (listed ls c)) ne) w.0, λ j. elim j [ inl e ↦ absurd (ne e) | inr h ↦ w.1 h ])
    ]

all_lists : (f : ℕ → Bool) (ls : List (List ℕ)) → ((d v : ℕ) → In v (listed ls d) → f v ≡ true) → list_all (list_all f) ls ≡ true
all_lists f [] h = refl
all_lists f (l ∷ ls) h = and_from (list_all f l) (list_all (list_all f) ls) (all_from f l (h 0)) (all_lists f ls (λ d. h (suc d)))

-- ## The undos of a roll

module _ (first : List ℤ) (k : CoreState) (core : IsCore first k) (s : ℕ) (rolls : rolls_back k.machine s ≡ true) (ready : waits_for_left k s ≡ false) where
  abbrev t : List Node
  t = k.machine.tree

  abbrev m : OpenMachine
  m = k.machine

  abbrev pub p : ℕ
  p = place t s

  abbrev pub beside : ℕ → Bool
  beside u = not (is_above t p (access_at t u))

  abbrev pub cs : List ℕ
  cs = touched k s

  abbrev pub ls : List (List ℕ)
  ls = filtered beside m.lists cs

  abbrev pub v : List Node
  v = closed t p Aborted (next k)

  pub running : is_running m s ≡ true
  running = (rolls_runs m s rolls).running

  pub within : in_block m s ≡ true
  within = (rolls_runs m s rolls).within

  undone : (xs : List (List ℕ)) (ds : List ℕ) → after_all (record m { lists = xs }) (map (undoes s) ds) ≡ record m { lists = filtered beside xs ds }
  undone xs [] = refl
  undone xs (d ∷ ds) = undone (slice_set xs d (filter beside (listed xs d))) ds

  undo_run : (xs : List (List ℕ)) (ds : List ℕ) → ((d : ℕ) → In d ds → d < length xs) → IsRun at_once (record m { lists = xs }) (map (undoes s) ds)
  undo_run xs [] low = tt
  undo_run xs (d ∷ ds) low = (
    and_from (rolls_back m s) (nat_lt d (length xs)) rolls (lt-ltb d (length xs) (low d (inl refl))),
    undo_run (slice_set xs d (filter beside (listed xs d))) ds (λ c i. let h = low c (inr i) in let len = length-set xs d (filter beside (listed xs d)) in omega arith),
  )

  pub low : (c : ℕ) → In c cs → c < length m.lists
  low c i = in_below c (length m.lists) (in_filter (λ c. list_any (λ u. is_above t p (access_at t u)) (live m c)) c (below (length m.lists)) i).0

  listed_low : (xs : List (List ℕ)) (d u : ℕ) → In u (listed xs d) → d < length xs
  listed_low [] d u i = absurd i
  listed_low (x ∷ xs) zero u i = omega arith
  listed_low (x ∷ xs) (suc d) u i = let h = listed_low xs d u i in omega arith

  pub none_beneath : (d u : ℕ) → In u (listed ls d) → beside u ≡ true
  none_beneath d u i =
      let w = was_listed beside m.lists cs low d u i in
      elim (cases_Bool (is_above t p (access_at t u))) [
        | inr off ↦ not_from_false (is_above t p (access_at t u)) off
        | inl over ↦
            w.1 (filter_in (λ c. list_any (λ u. is_above t p (access_at t u)) (live m c)) d (below (length m.lists)) (below_in d (length m.lists) (listed_low m.lists d u w.0)) (any_from (λ u. is_above t p (access_at t u)) u (live m d) w.0 over))
      ]

  abbrev pub rolled : OpenMachine
  rolled = record m { tree = v; lists = ls; clock = max m.clock (next k) }

  pub machine_is : after_all m (steps_of k (event.Roll s)) ≡ rolled
  machine_is = after_more m (map (undoes s) cs) (aborts s (next k) ∷ []) ∙ ap (λ z. after_all z (aborts s (next k) ∷ [])) (undone m.lists cs)

  run : IsRun at_once m (steps_of k (event.Roll s))
  run =
      let P : OpenMachine → Type 0 = λ z. IsRun at_once z (aborts s (next k) ∷ []) in
      let last : IsRun at_once (record m { lists = ls }) (aborts s (next k) ∷ []) = ((and_from (rolls_back m s) (list_all (list_all beside) ls) rolls (all_lists beside ls none_beneath), end_stamp first k core p (at_place first k core s running ready).there), tt) in
      run_more at_once m (map (undoes s) cs) (aborts s (next k) ∷ []) (undo_run m.lists cs low) (subst P (sym (undone m.lists cs)) last)

  all_left : HasAll v ls
  all_left c n e l =
      let w = was_live first k core s running ready within Aborted refl c n e l in
      let r = (well first k core).sound.tree.rooted in
      let pending_p = pending first k core s running ready within Aborted refl in
      let h = node_there (λ y. touches_kind c y.kind) t n w.0 in
      let shut : is_aborted v p ≡ true = state_closed t p Aborted (next k) is_aborted_state ∙ and_from (is_block t p) true (pending_block t p pending_p) refl in
      let off : is_above t p n ≡ false = false_from_ne_true (is_above t p n) (λ over. absurd (cc (shut, live_tells v n p l (is_above_closed t p Aborted (next k) r p n h ∙ over)))) in
      let P : ℕ → Type 0 = λ u. In u (listed ls c) in
      subst P (sym w.2) (in_filtered beside m.lists cs low c (stamp_of t n) (all_listed first k core c n w.0 w.1) (not_from_false (is_above t p (access_at t (stamp_of t n))) (ap (is_above t p) (access_named t (well first k core).sound.stamps c n w.0) ∙ off)))

  abbrev pub state_with : OpenMachine → CoreState
  state_with z = record (after_event k (event.Roll s)) { machine = z }

  pub keeps_roll : IsKept first k (event.Roll s)
  keeps_roll =
      let P : OpenMachine → Type 0 = λ z. IsCore first (state_with z) in
      let reach = IsReachedBy at_once first in
      record {
        run = run;
        core = subst P (sym machine_is) (record {
          reached = subst reach machine_is (reached_more at_once first m (steps_of k (event.Roll s)) core.reached run);
          complete = none_of rolled all_left;
          joined = closed_forks first k core s running ready within Aborted refl;
          left_first = closed_left first k core s running ready within Aborted refl;
          stands = closed_stands first k core s running ready within Aborted refl;
        });
      }
