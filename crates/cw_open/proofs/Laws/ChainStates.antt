-- In every state that a run leads to the lists are chains, where an access may conflict with the newest one alone.
use Rattle.std.proofs.Common.{◌≡◌, ℕ, ◌<◌, List, [], ◌∷◌, ◌++◌, length, refl, ap, sym, ◌∙◌, subst, true, inl, inr, nat_lt}
use Rattle.std.specs.Prelude.{◌&&◌, not, ℤ, Option, Some, None, slice_set}
use Rattle.std.proofs.lemmas.Bool.{and_parts, not-true, ltb-true, eq-eqb, cases_eq}
use Rattle.std.proofs.lemmas.List.Elements.{All-nil}
use Rattle.cw_tree.specs.declared.node.Node.{Node}
use Rattle.cw_tree.specs.declared.node.BlockState.TheVariants.{Committed, Aborted}
use Rattle.cw_tree.specs.Nodes.{touches_kind, fresh_node}
use Rattle.cw_tree.specs.Series.{place}
use Rattle.cw_tree.specs.Shape.{AreStamps}
use Rattle.cw_tree.specs.Accesses.{HasAccess}
use Rattle.cw_tree.specs.AccessStacks.{access_kind}
use Rattle.cw_tree.specs.Newest.{newest}
use Rattle.cw_open.specs.Machine.{OpenMachine, live, live_value, in_block, is_free, rolls_back}
use Rattle.cw_open.specs.Steps.{Step, forks, begins, accesses, refuses, outputs, cancels, commits, undoes, aborts, finishes, joins, stops, live_beside, after_open_step, first_machine}
use Rattle.cw_open.specs.Runs.{Rules, Allowed, IsReachedBy, meets, at_any_time}
use Rattle.cw_open.proofs.Open.Trees.{stands_well}
use Rattle.cw_open.proofs.Open.TreeSteps.{free_runs, rolls_runs, place_pending}
use Rattle.cw_open.proofs.Laws.Listing.{listed}
use Rattle.cw_open.proofs.Laws.ListSteps.{listed_here, listed_other}
use Rattle.cw_open.proofs.Laws.ChainSteps.{IsChained, chained_grown, chained_closed, chained_undone, chained_more}
use Rattle.cw_open.proofs.Runs.States.{IsState, by_run, state_after, state_opening, empty_lists}

abbrev pub newest_alone : Rules
newest_alone = at_any_time (λ t us w. newest us)

abbrev pub AreChained : OpenMachine → Type 0
AreChained m = (c : ℕ) → IsChained m.tree c (live m c)

-- the list of another cell than the one that was changed, and of that one
by_cell : (m : OpenMachine) (u : List Node) (c : ℕ) (l : List ℕ) → c < length m.lists → IsChained u c l → ((d : ℕ) → IsChained u d (live m d)) → (d : ℕ) → IsChained u d (listed (slice_set m.lists c l) d)
by_cell m u c l there here other d =
    elim (cases_eq d c) [
      | inl q ↦
          (let P : List ℕ → Type 0 = λ us. IsChained u d us in
          let Q : ℕ → Type 0 = λ d. IsChained u d l in
          subst P (sym (ap (listed (slice_set m.lists c l)) q ∙ listed_here m.lists c l there)) (subst Q (sym q) here))
      | inr ne ↦ (let P : List ℕ → Type 0 = λ us. IsChained u d us in subst P (sym (listed_other m.lists c d l ne)) (other d))
    ]

pub access_touched : (c : ℕ) (write : Option ℤ) (v : ℤ) → touches_kind c (access_kind c write v) ≡ true
access_touched c None v = eq-eqb c c refl
access_touched c (Some w) v = eq-eqb c c refl

module _ (first : List ℤ) (m : OpenMachine) (s : IsState first m) (h : AreChained m) where
  abbrev t : List Node
  t = m.tree

  grown : (xs : List Node) → AreStamps (t ++ xs) → (c : ℕ) → IsChained (t ++ xs) c (live m c)
  grown xs su c = chained_grown t s.well.sound.tree.rooted s.well.sound.stamps c (live m c) (s.listed.accesses c) (h c) xs su

  pub chained_after : (e : Step) → Allowed newest_alone m e → IsState first (after_open_step m e) → AreChained (after_open_step m e)
  chained_after (forks x stamp) a z = grown _ z.well.sound.stamps
  chained_after (begins x stamp) a z = grown _ z.well.sound.stamps
  chained_after (accesses x c write stamp) a z =
      let y = and_parts (is_free m x && nat_lt c (length m.lists)) (not (meets t (newest (live m c)) (place t x))) a.0 in
      let q = and_parts (is_free m x) (nat_lt c (length m.lists)) y.0 in
      let node = fresh_node (place t x) (access_kind c write (live_value m c)) stamp in
      by_cell m (t ++ node ∷ []) c (live m c ++ stamp ∷ []) (ltb-true c (length m.lists) q.1)
      (chained_more t s.well.sound.tree.rooted s.well.sound.stamps c (live m c) (s.listed.accesses c) (h c) (s.listed.lives c) node (stands_well m s.well x (free_runs m x q.0)) (access_touched c write (live_value m c)) a.1 (not-true _ y.1) a.2 z.well.sound.stamps)
      (grown (node ∷ []) z.well.sound.stamps)
  chained_after (refuses x c write met) a z = grown _ z.well.sound.stamps
  chained_after (outputs x v stamp) a z = grown _ z.well.sound.stamps
  chained_after (cancels x stamp) a z = grown _ z.well.sound.stamps
  chained_after (commits x stamp) a z =
      let y = and_parts (is_free m x && in_block m x) _ a.0 in
      let q = and_parts (is_free m x) (in_block m x) y.0 in
      λ c. chained_closed t s.well.sound.tree.rooted s.well.sound.stamps c (live m c) (s.listed.accesses c) (h c) (place t x) Committed stamp (place_pending m s.well x (free_runs m x q.0) q.1) refl z.well.sound.stamps
  chained_after (undoes x c) a z =
      let y = and_parts (rolls_back m x) _ a in
      let q = rolls_runs m x y.0 in
      by_cell m t c (live_beside m (place t x) c) (ltb-true c (length m.lists) y.1)
      (chained_undone t s.well.sound.tree.rooted s.well.sound.stamps c (live m c) (s.listed.accesses c) (h c) (place t x) (place_pending m s.well x q.running q.within)) h
  chained_after (aborts x stamp) a z =
      let q = rolls_runs m x (and_parts (rolls_back m x) _ a.0).0 in
      λ c. chained_closed t s.well.sound.tree.rooted s.well.sound.stamps c (live m c) (s.listed.accesses c) (h c) (place t x) Aborted stamp (place_pending m s.well x q.running q.within) refl z.well.sound.stamps
  chained_after (finishes x dead) a z = h
  chained_after (joins f) a z = h
  chained_after (stops x) a z = h

pub chained_opening : (first : List ℤ) → AreChained (first_machine first)
chained_opening first c =
    let P : List ℕ → Type 0 = λ us. IsChained (first_machine first).tree c us in
    subst P (sym (empty_lists first c)) (record { chain = record { accesses = All-nil (HasAccess (first_machine first).tree c); chain = tt }; ended = tt })

pub record IsChainState (first : List ℤ) (m : OpenMachine) : Type 0 where
  pub state : IsState first m
  pub chained : AreChained m

pub chain_states : (first : List ℤ) (m : OpenMachine) → IsReachedBy newest_alone first m → IsChainState first m
chain_states first =
    by_run newest_alone first (IsChainState first) (record { state = state_opening first; chained = chained_opening first })
    (λ m e s a. let z = state_after newest_alone first m e s.state a in record { state = z; chained = chained_after first m s.state s.chained e a z })
