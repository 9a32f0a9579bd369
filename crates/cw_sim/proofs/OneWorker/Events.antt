-- In a core of which no fork is split left strands go first, event by event; so no access is refused.
use Rattle.std.proofs.Common.{◌≡◌, ◌≢◌, ℕ, ◌<◌, List, [], ◌∷◌, ◌++◌, length, map, refl, ap, sym, ◌∙◌, subst, Bool, true, false, cond, nat_lt, inl, inr}
use Rattle.std.specs.Prelude.{◌&&◌, ◌||◌, not, ℤ, is_none, Option}
use Rattle.std.specs.List.{list_any, list_all}
use Rattle.std.proofs.lemmas.Bool.{and_parts, and_from, and_right, not-true, not_from_false, ltb-true, cases_eq, false_from_ne_true, true_from_ne_false}
use Rattle.cw_tree.specs.declared.node.Node.{Node}
use Rattle.cw_tree.specs.declared.closed.Halt.{Halt}
use Rattle.cw_tree.specs.declared.closed.Halt.TheVariants as halt
use Rattle.cw_tree.specs.Nodes.{parent_of, is_strand, is_fork}
use Rattle.cw_tree.specs.Walks.{has, is_ancestor, path}
use Rattle.cw_tree.specs.Series.{children, place}
use Rattle.cw_tree.specs.Names.{strands_on}
use Rattle.cw_tree.specs.Newest.{newest}
use Rattle.cw_tree.specs.Refusals.{is_victim}
use Rattle.cw_tree.specs.Shape.{IsTree}
use Rattle.cw_tree.proofs.Lists.{any_in, all_from, In}
use Rattle.cw_tree.proofs.Members.{in_filter}
use Rattle.cw_tree.proofs.InOrder.DepthFirst.{child_is}
use Rattle.cw_tree.proofs.Walks.Kin.{in_ancestor, fork_child}
use Rattle.cw_tree.proofs.Walks.There.{strand_there}
use Rattle.cw_trace.specs.Stands.{fork_column}
use Rattle.cw_open.specs.Machine.{OpenMachine, has_finished, in_block, is_dying, is_running, is_free, rolls_back}
use Rattle.cw_open.specs.Open.{is_open}
use Rattle.cw_open.specs.Runs.{left_died}
use Rattle.cw_open.specs.Steps.{Met, Step, refuses, accesses, undoes, aborts, after_open_step as step_after, after_all, first_machine}
use Rattle.cw_open.specs.LeftFirst.{makers, left_has_finished, lefts_have_finished, go_left_first}
use Rattle.cw_open.proofs.LeftFirst.Unrefused.{left_first_unrefused, at_once_pending}
use Rattle.cw_open.proofs.Open.Standing.{runs}
use Rattle.cw_open.proofs.Open.TreeSteps.{free_runs}
use Rattle.cw_core.specs.declared.event.Event.{Event}
use Rattle.cw_core.specs.declared.event.Event.TheVariants as event
use Rattle.cw_core.specs.State.{CoreState, start, has_columns, is_split, waits_for_left, spent}
use Rattle.cw_core.specs.Events.{fits, fits_now, is_stop, is_met, met_by, next, touched, stop_steps, steps_of, splits_after, is_early, after_event, all_fit, after_events, steps_of_all}
use Rattle.cw_core.specs.Laws.{IsCore}
use Rattle.cw_core.proofs.Events.Going.{well}
use Rattle.cw_core.proofs.Events.Kept.{free_ready, events, starts, lists}
use Rattle.cw_sim.specs.OneWorker.{UnsplitAreUnrefused}
use Rattle.cw_sim.proofs.Kept.Halves.{strand_open}

-- ## A rollback

-- an undo leaves the tree and what has finished
roll_first : (m : OpenMachine) (s stamp : ℕ) (cs : List ℕ) → lefts_have_finished m s ≡ true → go_left_first m (map (undoes s) cs ++ aborts s stamp ∷ []) ≡ true
roll_first m s stamp [] e = and_from (lefts_have_finished m s && true) true (and_from (lefts_have_finished m s) true e refl) refl
roll_first m s stamp (c ∷ cs) e =
    and_from (lefts_have_finished m s && true) (go_left_first (step_after m (undoes s c)) (map (undoes s) cs ++ aborts s stamp ∷ [])) (and_from (lefts_have_finished m s) true e refl)
    (roll_first (step_after m (undoes s c)) s stamp cs e)

-- ## A strand that may step

module _ (first : List ℤ) (k : CoreState) (core : IsCore first k) (none : k.splits ≡ []) where
  abbrev m : OpenMachine
  m = k.machine

  abbrev t : List Node
  t = m.tree

  tree : IsTree t
  tree = (well first k core).sound.tree

  not_split : (f : ℕ) → is_split k f ≡ false
  not_split f = ap (λ cs. has_columns k f && has cs (fork_column t f)) none ∙ and_right (has_columns k f) false refl

  -- its own left strand has finished
  own_left : (s : ℕ) → waits_for_left k s ≡ false → left_has_finished m s ≡ true
  own_left s ready =
      let unfinished = list_any (λ l. nat_lt l s && not (has_finished m l)) (children t (parent_of t s)) in
      not_from_false unfinished (sym (ap (λ b. not b && unfinished) (not_split (parent_of t s))) ∙ ready)

  module _ (s : ℕ) (strand : is_strand t s ≡ true) where
    there : s < length t
    there = strand_there t s strand

    -- and so has that of each strand around it, since something was made beneath
    module _ (q : ℕ) (some : 0 < q) (outer : is_strand t q ≡ true) (over : is_ancestor t q s ≡ true) (apart : s ≢ q) where
      fork : is_fork t (parent_of t q) ≡ true
      fork = tree.strands q (strand_there t q outer) some outer

      left_done : (l : ℕ) → In l (children t (parent_of t q)) → l < q → has_finished m l ≡ true
      left_done l i less =
          let c = child_is t (parent_of t q) l i in
          let P : ℕ → Type 0 = λ g. is_fork t g ≡ true in
          let left : is_strand t l ≡ true = fork_child t tree l c.some c.there (subst P (sym c.parent) fork) in
          let shut : is_open m l ≡ false = core.left_first l q s c.some less (strand_there t q outer) c.parent fork (inr (ap (λ cs. has cs (fork_column t (parent_of t q))) none)) there over apart in
          true_from_ne_false (has_finished m l) (λ e. absurd (let unshut = strand_open m l left e in cc (unshut, shut)))

      outer_left : left_has_finished m q ≡ true
      outer_left =
          let test : ℕ → Bool = λ l. nat_lt l q && not (has_finished m l) in
          not_from_false (list_any test (children t (parent_of t q))) (false_from_ne_true (list_any test (children t (parent_of t q))) (λ e.
          let (l, i, h) = any_in test (children t (parent_of t q)) e in
          let z = and_parts (nat_lt l q) (not (has_finished m l)) h in
          let done = left_done l i (ltb-true l q z.0) in
          absurd (cc (done, not-true (has_finished m l) z.1))))

    pub lefts_of : waits_for_left k s ≡ false → lefts_have_finished m s ≡ true
    lefts_of ready = all_from (left_has_finished m) (strands_on t s) (λ q i.
        let z = in_filter (λ n. nat_lt 0 n && is_strand t n) q (path t s) i in
        let y = and_parts (nat_lt 0 q) (is_strand t q) z.1 in
        let P : ℕ → Type 0 = λ n. left_has_finished m n ≡ true in
        elim (cases_eq s q) [
          | inl e ↦ subst P e (own_left s ready)
          | inr ne ↦ outer_left q (ltb-true 0 q y.0) y.1 (in_ancestor t q s z.0) ne
        ])

  pub running_lefts : (s : ℕ) → is_running m s ≡ true → waits_for_left k s ≡ false → lefts_have_finished m s ≡ true
  running_lefts s e ready = lefts_of s (runs m tree (well first k core).nested s e).strand ready

  free_lefts : (s : ℕ) → (is_free m s && not (waits_for_left k s)) ≡ true → lefts_have_finished m s ≡ true
  free_lefts s e = let z = free_ready first k core s e in running_lefts s (free_runs m s z.0) z.1

  -- ## The steps of an event

  one : (s : ℕ) → lefts_have_finished m s ≡ true → (list_all (lefts_have_finished m) (s ∷ []) && true) ≡ true
  one s e = and_from (lefts_have_finished m s && true) true (and_from (lefts_have_finished m s) true e refl) refl

  access_first : (s c : ℕ) (w : Option ℤ) (met : Met) (stamp : ℕ) → lefts_have_finished m s ≡ true → (b : Bool) → go_left_first m (cond b (refuses s c w met) (accesses s c w stamp) ∷ []) ≡ true
  access_first s c w met stamp e true = one s e
  access_first s c w met stamp e false = one s e

  stop_first : (h : Halt) → go_left_first m (stop_steps h) ≡ true
  stop_first (halt.Fault s kind) = refl
  stop_first (halt.Budget s) = refl
  stop_first halt.Memory = refl

  event_first : (e : Event) → fits_now k e ≡ true → go_left_first m (steps_of k e) ≡ true
  event_first (event.Fork s) e = one s (free_lefts s e)
  event_first (event.Begin s) e = one s (free_lefts s e)
  event_first (event.Access s c w) e =
      access_first s c w (met_by k s c) (next k) (free_lefts s (and_parts (is_free m s && not (waits_for_left k s)) (nat_lt c (length m.lists)) e).0) (is_met k s c)
  event_first (event.Out s v) e = one s (free_lefts s e)
  event_first (event.Cancel s) e = one s (free_lefts s (and_parts (is_free m s && not (waits_for_left k s)) (in_block m s) e).0)
  event_first (event.Commit s) e =
      let x = and_parts (is_free m s && not (waits_for_left k s) && in_block m s) (not (is_victim t m.conflicts (place t s))) e in
      one s (free_lefts s (and_parts (is_free m s && not (waits_for_left k s)) (in_block m s) x.0).0)
  event_first (event.Roll s) e =
      let z = and_parts (rolls_back m s) (not (waits_for_left k s)) e in
      roll_first m s (next k) (touched k s) (running_lefts s (rolls_running s z.0) (not-true (waits_for_left k s) z.1)) where
        rolls_running : (s : ℕ) → rolls_back m s ≡ true → is_running m s ≡ true
        rolls_running s e = let x = and_parts (is_running m s && in_block m s) _ e in (and_parts (is_running m s) (in_block m s) x.0).0
  event_first (event.Finish s dead) e =
      let x = and_parts (is_running m s && not (waits_for_left k s) && not (in_block m s)) (cond (is_dying m s) dead (not dead || left_died m s)) e in
      let y = and_parts (is_running m s && not (waits_for_left k s)) (not (in_block m s)) x.0 in
      let z = and_parts (is_running m s) (not (waits_for_left k s)) y.0 in
      one s (running_lefts s z.0 (not-true (waits_for_left k s) z.1))
  event_first (event.Split f) e = refl
  event_first (event.Join f) e = refl
  event_first (event.Stop h) e = stop_first h

-- ## Events one after another

first_more : (m : OpenMachine) (es fs : List Step) → go_left_first m es ≡ true → go_left_first (after_all m es) fs ≡ true → go_left_first m (es ++ fs) ≡ true
first_more m [] fs a b = b
first_more m (e ∷ es) fs a b =
    let z = and_parts (list_all (lefts_have_finished m) (makers e)) (go_left_first (step_after m e) es) a in
    and_from (list_all (lefts_have_finished m) (makers e)) (go_left_first (step_after m e) (es ++ fs)) z.0 (first_more (step_after m e) es fs z.1 b)

-- forks that were split stay so
split_before : (b : Bool) (c : ℕ) (cs : List ℕ) → cond b (c ∷ cs) cs ≡ [] → cs ≡ []
split_before true c cs e = absurd (cc e)
split_before false c cs e = e

none_before : (k : CoreState) (e : Event) → splits_after k e ≡ [] → k.splits ≡ []
none_before k (event.Split f) e = split_before (is_none (is_early k f)) (fork_column k.machine.tree f) k.splits e
none_before k (event.Fork s) e = e
none_before k (event.Begin s) e = e
none_before k (event.Access s c w) e = e
none_before k (event.Out s v) e = e
none_before k (event.Cancel s) e = e
none_before k (event.Commit s) e = e
none_before k (event.Roll s) e = e
none_before k (event.Finish s dead) e = e
none_before k (event.Join f) e = e
none_before k (event.Stop h) e = e

none_at_first : (k : CoreState) (es : List Event) → (after_events k es).splits ≡ [] → k.splits ≡ []
none_at_first k [] e = e
none_at_first k (x ∷ es) e = none_before k x (none_at_first (after_event k x) es e)

all_first : (first : List ℤ) (k : CoreState) (es : List Event) → IsCore first k → all_fit k es ≡ true → (after_events k es).splits ≡ [] → go_left_first k.machine (steps_of_all k es) ≡ true
all_first first k [] core fit none = refl
all_first first k (e ∷ es) core fit none =
    let z = and_parts (fits k e) (all_fit (after_event k e) es) fit in
    let now = (and_parts (is_none k.halt && (is_none (spent k) || is_stop e)) (fits_now k e) z.0).1 in
    first_more k.machine (steps_of k e) (steps_of_all (after_event k e) es)
    (event_first first k core (none_at_first k (e ∷ es) none) e now)
    (all_first first (after_event k e) es (events first k e core z.0).1 z.1 none)

pub unsplit_unrefused : UnsplitAreUnrefused
unsplit_unrefused first room budget k some comes none =
    let from = start first room budget in
    let steps = steps_of_all from comes.events in
    let go : go_left_first (first_machine first) steps ≡ true = all_first first from comes.events (starts first room budget some) comes.fit (ap (λ (k : CoreState). k.splits) comes.there ∙ none) in
    let w = lists first room budget comes.events some comes.fit in
    let clean = left_first_unrefused (λ t us w. newest us) first steps (at_once_pending first steps w.0) go in (
      record { events = comes.events; fit = comes.fit; there = comes.there; left_first = go },
      sym (ap (λ (k : CoreState). k.machine.conflicts) comes.there) ∙ ap (λ (m : OpenMachine). m.conflicts) w.1 ∙ clean,
    )
