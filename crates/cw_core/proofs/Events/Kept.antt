-- Every event that fits is a run, and so is every list of them.
use Rattle.std.proofs.Common.{◌≡◌, ℕ, zero, suc, List, [], ◌∷◌, length, refl, ap, sym, ◌∙◌, subst, arith, true, false, Option, Some, None, nat_eq, nat_lt}
use Rattle.std.specs.Prelude.{◌&&◌, ◌||◌, not, ℤ, is_none, slice_index, replicate}
use Rattle.std.specs.List.{list_all}
use Rattle.std.specs.Option.{option_map, option_map_or}
use Rattle.std.proofs.lemmas.Bool.{and_parts, not-true, eqb-true}
use Rattle.cw_tree.specs.declared.node.Node.{Node}
use Rattle.cw_tree.specs.declared.closed.Halt.{Halt}
use Rattle.cw_tree.specs.declared.closed.Halt.TheVariants as halt
use Rattle.cw_tree.specs.declared.conflict.Conflict.{Conflict}
use Rattle.cw_tree.specs.Nodes.{is_strand, is_fork, is_pending}
use Rattle.cw_tree.specs.Walks.{has}
use Rattle.cw_tree.specs.Series.{strand_of, children, place}
use Rattle.cw_tree.specs.Refusals.{is_victim, refused_node}
use Rattle.cw_trace.specs.Columns.{used}
use Rattle.cw_trace.proofs.Keeps.GoingOn.{goes_on}
use Rattle.cw_trace.specs.Stands.{GoesOn, fork_column}
use Rattle.cw_trace.proofs.Keeps.TierLaws.{start}
use Rattle.cw_open.specs.Machine.{OpenMachine, has_finished, in_block, is_free, rolls_back}
use Rattle.cw_open.specs.Steps.{after_all, first_machine}
use Rattle.cw_open.specs.Runs.{IsRun, at_once}
use Rattle.cw_open.specs.Open.{is_open}
use Rattle.cw_open.proofs.Runs.LawsHold.{same_list, any_time}
use Rattle.cw_open.proofs.Laws.Named.{strand_is}
use Rattle.cw_open.proofs.Runs.States.{states, by_rules}
use Rattle.cw_open.proofs.Laws.ChainStates.{newest_alone, chain_states}
use Rattle.cw_core.specs.declared.event.Event.{Event}
use Rattle.cw_core.specs.declared.event.Event.TheVariants as event
use Rattle.cw_core.specs.State.{CoreState, joined_columns, start as begin_with, waits_for_left, has_columns, is_split, spent, last_refusal}
use Rattle.cw_core.specs.Events.{fits, fits_now, is_stop, is_unstarted, may_stop, after_event, steps_of, all_fit, after_events, steps_of_all}
use Rattle.cw_core.specs.Laws.{IsCore, StartsAreCores, EventsAreRuns, ListsAreRuns, CellsAreChains, StrandsGoOn}
use Rattle.cw_open.proofs.Runs.More.{run_more, after_more}
use Rattle.cw_core.proofs.Events.Going.{well, column_place, in_order, goes}
use Rattle.cw_core.proofs.Events.Making.{IsKept, keeps_out, keeps_cancel, keeps_begin, keeps_fork}
use Rattle.cw_core.proofs.Events.Closing.{keeps_commit, keeps_finish, keeps_stop}
use Rattle.cw_core.proofs.Events.Forks.{keeps_split, keeps_join}
use Rattle.cw_core.proofs.Events.Accessing.{keeps_access}
use Rattle.cw_core.proofs.Events.Rolling.{keeps_roll}

-- ## Stops

spent_strand : (t : List Node) → is_strand t 0 ≡ true → (s : ℕ) (o : Option Conflict) → option_map_or (λ x. nat_eq x s) (option_map (λ c. strand_of t (refused_node t c)) o) false ≡ true → is_strand t s ≡ true
spent_strand t root s None e = absurd (cc e)
spent_strand t root s (Some c) e = let P : ℕ → Type 0 = λ x. is_strand t x ≡ true in subst P (eqb-true (strand_of t (refused_node t c)) s e) (strand_is t root (refused_node t c))

stop_run : (k : CoreState) → is_strand k.machine.tree 0 ≡ true → (h : Halt) → may_stop k h ≡ true → IsRun at_once k.machine (steps_of k (event.Stop h))
stop_run k root (halt.Fault s kind) e = (e, tt)
stop_run k root (halt.Budget s) e = (spent_strand k.machine.tree root s (last_refusal k) e, tt)
stop_run k root halt.Memory e = tt

-- ## Each event

module _ (first : List ℤ) (k : CoreState) (core : IsCore first k) where
  abbrev m : OpenMachine
  m = k.machine

  pub free_ready : (s : ℕ) → (is_free m s && not (waits_for_left k s)) ≡ true → (is_free m s ≡ true) × (waits_for_left k s ≡ false)
  free_ready s e = let z = and_parts (is_free m s) (not (waits_for_left k s)) e in (z.0, not-true (waits_for_left k s) z.1)

  pub keeps : (e : Event) → fits_now k e ≡ true → IsKept first k e
  keeps (event.Fork s) e = let z = free_ready s e in keeps_fork first k core s z.0 z.1
  keeps (event.Begin s) e = let z = free_ready s e in keeps_begin first k core s z.0 z.1
  keeps (event.Access s c w) e =
      let y = and_parts (is_free m s && not (waits_for_left k s)) (nat_lt c (length m.lists)) e in
      let z = free_ready s y.0 in
      keeps_access first k core s c w z.0 z.1 y.1
  keeps (event.Out s v) e = let z = free_ready s e in keeps_out first k core s z.0 z.1 v
  keeps (event.Cancel s) e =
      let y = and_parts (is_free m s && not (waits_for_left k s)) (in_block m s) e in
      let z = free_ready s y.0 in
      keeps_cancel first k core s z.0 z.1 y.1
  keeps (event.Commit s) e =
      let x = and_parts (is_free m s && not (waits_for_left k s) && in_block m s) (not (is_victim m.tree m.conflicts (place m.tree s))) e in
      let y = and_parts (is_free m s && not (waits_for_left k s)) (in_block m s) x.0 in
      let z = free_ready s y.0 in
      keeps_commit first k core s z.0 z.1 y.1 (not-true _ x.1)
  keeps (event.Roll s) e = let z = and_parts (rolls_back m s) (not (waits_for_left k s)) e in keeps_roll first k core s z.0 (not-true (waits_for_left k s) z.1)
  keeps (event.Finish s dead) e = keeps_finish first k core s dead e
  keeps (event.Split f) e =
      let x = and_parts (is_fork m.tree f && has_columns k f && not (is_split k f) && not (has m.joined f)) (is_unstarted k f) e in
      let y = and_parts (is_fork m.tree f && has_columns k f && not (is_split k f)) (not (has m.joined f)) x.0 in
      let z = and_parts (is_fork m.tree f && has_columns k f) (not (is_split k f)) y.0 in
      let w = and_parts (is_fork m.tree f) (has_columns k f) z.0 in
      keeps_split first k core f w.0 (not-true (has m.joined f) y.1) w.1 (uncut f w.1 (not-true (is_split k f) z.1)) x.1 where
        uncut : (f : ℕ) → has_columns k f ≡ true → is_split k f ≡ false → has k.splits (fork_column m.tree f) ≡ false
        uncut f a b = sym (ap (λ q. q && has k.splits (fork_column m.tree f)) a) ∙ b
  keeps (event.Join f) e =
      let x = and_parts (is_fork m.tree f && not (has m.joined f)) (list_all (has_finished m) (children m.tree f)) e in
      let y = and_parts (is_fork m.tree f) (not (has m.joined f)) x.0 in
      keeps_join first k core f y.0 (not-true (has m.joined f) y.1) x.1
  keeps (event.Stop h) e = keeps_stop first k core h (stop_run k (well first k core).sound.tree.root h e)

pub events : EventsAreRuns
events first k e core fit = let w = keeps first k core e (and_parts (is_none k.halt && (is_none (spent k) || is_stop e)) (fits_now k e) fit).1 in (w.run, w.core)

-- ## The start

abbrev zeros : ℕ → List ℕ
zeros n = replicate n 0

all_zero : (n g : ℕ) → slice_index (zeros n) g ≡ 0
all_zero zero g = refl
all_zero (suc n) zero = refl
all_zero (suc n) (suc g) = all_zero n g

length_zeros : (n : ℕ) → length (zeros n) ≡ n
length_zeros zero = refl
length_zeros (suc n) = ap suc (length_zeros n)

pub starts : StartsAreCores
starts first room budget some = record {
  reached = record { steps = []; run = tt; there = refl };
  complete = λ b c n pending over e l. absurd (cc (pending, none_pending b));
  joined = λ f e. absurd (cc e);
  left_first = λ l r n pos less h same fork w hn over ne. absurd (omega arith);
  stands = start room (zeros room) some (omega (arith, length_zeros room)) (all_zero room);
} where
  none_pending : (b : ℕ) → is_pending (first_machine first).tree b ≡ false
  none_pending zero = refl
  none_pending (suc b) = refl

-- ## Lists of events

pub record IsListKept (first : List ℤ) (k : CoreState) (es : List Event) : Type 0 where
  pub run : IsRun at_once k.machine (steps_of_all k es)
  pub there : (after_events k es).machine ≡ after_all k.machine (steps_of_all k es)
  pub core : IsCore first (after_events k es)

lists_kept : (first : List ℤ) (k : CoreState) (es : List Event) → IsCore first k → all_fit k es ≡ true → IsListKept first k es
lists_kept first k [] core e = record { run = tt; there = refl; core = core }
lists_kept first k (x ∷ es) core e =
    let z = and_parts (fits k x) (all_fit (after_event k x) es) e in
    let w = events first k x core z.0 in
    let more = lists_kept first (after_event k x) es w.1 z.1 in
    record {
      run = run_more at_once k.machine (steps_of k x) (steps_of_all (after_event k x) es) w.0 more.run;
      there = more.there ∙ sym (after_more k.machine (steps_of k x) (steps_of_all (after_event k x) es));
      core = more.core;
    }

pub lists : ListsAreRuns
lists first room budget es some e = let w = lists_kept first (begin_with first room budget) es (starts first room budget some) e in (w.run, w.there, w.core)

-- ## What follows

pub cells : CellsAreChains
cells first k core c =
    let s = states at_once first k.machine core.reached in
    (same_list first k.machine s core.complete c, ((chain_states first k.machine (by_rules at_once newest_alone first any_time k.machine core.reached)).chained c).chain)

pub strands : StrandsGoOn
strands first k s core running ready =
    let w = well first k core in
    let P : ℕ → Type 0 = λ i. GoesOn k.tier k.machine.tree i (place k.machine.tree s) in
    subst P (column_place first k core s (used k.tier) running)
    (goes_on k.tier k.words k.machine.tree k.splits (joined_columns k) w.sound.tree core.stands (is_open k.machine) (in_order first k core s running ready) (place k.machine.tree s) (goes first k core s running ready))
