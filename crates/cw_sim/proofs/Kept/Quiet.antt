-- Events that leave strands and forks as they are: all workers stay where they were.
use Rattle.std.proofs.Common.{◌≡◌, ℕ, ◌<◌, List, [], ◌∷◌, ◌++◌, length, refl, ap, sym, ◌∙◌, subst, Bool, true, false, cond, Option, Some, None, nat_eq}
use Rattle.std.specs.Prelude.{ℤ}
use Rattle.std.specs.List.{list_any}
use Rattle.cw_tree.specs.declared.node.Node.{Node}
use Rattle.cw_tree.specs.declared.node.Kind.TheVariants.{Block, Out, Cancel, Tried}
use Rattle.cw_tree.specs.declared.node.BlockState.TheVariants.{Committed, Aborted}
use Rattle.cw_tree.specs.Nodes.{is_strand_kind, is_fork_kind, is_fork, fresh_node}
use Rattle.cw_tree.specs.Walks.{has}
use Rattle.cw_tree.specs.Series.{children, place}
use Rattle.cw_tree.specs.Shape.{IsTree}
use Rattle.cw_tree.specs.AccessStacks.{access_kind}
use Rattle.cw_tree.proofs.NextNodes.Trees.{no_fork}
use Rattle.cw_open.specs.Machine.{OpenMachine, has_finished, is_running, rolls_back, live_value}
use Rattle.cw_open.specs.Steps.{refuses, accesses, puts_back, after_all}
use Rattle.cw_open.proofs.Open.Standing.{runs}
use Rattle.cw_core.specs.declared.event.Event.{Event}
use Rattle.cw_core.specs.declared.event.Event.TheVariants as event
use Rattle.cw_tree.proofs.Walks.There.{fork_there, strand_there}
use Rattle.cw_core.specs.State.{CoreState, has_columns, waits_for_left, spent}
use Rattle.cw_core.specs.Events.{fits, after_event, is_met, met_by, next}
use Rattle.cw_core.specs.Laws.{IsCore}
use Rattle.cw_core.proofs.Events.Going.{well, at_place}
use Rattle.cw_core.proofs.Events.Kept.{events}
use Rattle.cw_core.proofs.Kept.PartsGrow.{none_spent}
use Rattle.cw_core.proofs.Events.Rolling.{machine_is}
use Rattle.cw_sim.specs.Workers.{Worker, right_node, worker_in}
use Rattle.cw_sim.specs.Kept.{Fits, AreWorkers, CoreGoesOn}
use Rattle.cw_sim.proofs.Kept.After.{joined_after, finished_after, stopped_after}
use Rattle.cw_sim.proofs.Kept.Around.{waits_around}
use Rattle.cw_sim.proofs.Kept.Going.{goes_on, still_runs}
use Rattle.cw_sim.proofs.Kept.Leaves.{IsMore, more_ways, more_columns, more_forks, more_runs}
use Rattle.cw_sim.proofs.Kept.Same.{SameWays}
use Rattle.cw_sim.proofs.Kept.Shuts.{IsShut, shut_ways, shut_columns, shut_forks, shut_runs}
use Rattle.cw_sim.proofs.Kept.Workers.{has_parts}

-- strands and forks are the same in core z, and run, wait and have finished as in core k
pub record IsQuiet (k z : CoreState) : Type 0 where
  pub ways : SameWays k z
  pub columns : (f : ℕ) → f < length k.machine.tree → has_columns z f ≡ has_columns k f
  pub forks : (f : ℕ) → is_fork z.machine.tree f ≡ true → (is_fork k.machine.tree f ≡ true) × (children z.machine.tree f ≡ children k.machine.tree f)
  pub runs : (s : ℕ) → s < length k.machine.tree → is_running z.machine s ≡ is_running k.machine s
  pub joined : z.machine.joined ≡ k.machine.joined
  pub finished : z.machine.finished ≡ k.machine.finished
  pub stopped : z.machine.stopped ≡ k.machine.stopped

pub more_quiet : (k z : CoreState) → IsTree k.machine.tree → (x : Node) → IsMore k z x → IsQuiet k z
more_quiet k z tree x is = record {
  ways = more_ways k z tree x is;
  columns = more_columns k z tree x is;
  forks = more_forks k z tree x is;
  runs = more_runs k z tree x is;
  joined = is.joined;
  finished = is.finished;
  stopped = is.stopped;
}

pub shut_quiet : (k z : CoreState) → IsTree k.machine.tree → (b : ℕ) (state : Rattle.cw_tree.specs.declared.node.BlockState.BlockState) (end : ℕ) → IsShut k z b state end → IsQuiet k z
shut_quiet k z tree b state end is = record {
  ways = shut_ways k z tree b state end is;
  columns = shut_columns k z tree b state end is;
  forks = shut_forks k z tree b state end is;
  runs = λ s h. shut_runs k z tree b state end is s;
  joined = is.joined;
  finished = is.finished;
  stopped = is.stopped;
}

-- what of a core goes on
module _ (first : List ℤ) (k z : CoreState) (on : CoreGoesOn first k) (core : IsCore first z) (quiet : IsQuiet k z) (halt : z.halt ≡ None) (unspent : spent z ≡ None) where
  abbrev t : List Node
  t = k.machine.tree

  tree : IsTree t
  tree = (well first k on.core).sound.tree

  pub quiet_goes : CoreGoesOn first z
  quiet_goes = goes_on first k z on core quiet.ways quiet.forks (λ f e. sym (ap (λ js. has js f) quiet.joined) ∙ e) halt unspent (quiet.stopped ∙ on.stopped)

  finished_same : (s : ℕ) → has_finished z.machine s ≡ has_finished k.machine s
  finished_same s = ap (λ fs. list_any (λ f. nat_eq f.0 s) fs) quiet.finished

  by_run : (w : Worker) (r : Option ℕ) → Fits k w r → Fits z w r
  by_run w None idle = idle
  by_run w (Some y) at =
      let here = runs k.machine tree (well first k on.core).nested y at.running in
      let low : (f : ℕ) → has (w.deque ++ w.inline) f ≡ true → f < length t = λ f e. (let p = has_parts (w.deque ++ w.inline) f e in fork_there t f (waits_around k tree on.forks y here.strand p.0 p.1 f (sym at.forks ∙ p.2)).fork) in
      still_runs first k z on core quiet.ways quiet_goes.forks (λ s e. finished_same s ∙ e) quiet.columns w y at (quiet.runs y (strand_there t y here.strand) ∙ at.running) low (λ f e. finished_same (right_node f) ∙ at.to_come f e)

  pub quiet_workers : (ws : List Worker) → AreWorkers k ws → AreWorkers z ws
  quiet_workers ws old = record { fit = λ w. by_run (worker_in ws w) (worker_in ws w).runs (old.fit w); apart = old.apart; once = old.once }

-- ## The events of a running strand

module _ (first : List ℤ) (k : CoreState) (on : CoreGoesOn first k) (x : ℕ) (running : is_running k.machine x ≡ true) (ready : waits_for_left k x ≡ false) where
  abbrev m : OpenMachine
  m = k.machine

  abbrev p : ℕ
  p = place m.tree x

  trees : IsTree m.tree
  trees = (well first k on.core).sound.tree

  there : p < length m.tree
  there = (at_place first k on.core x running ready).there

  under : is_fork m.tree p ≡ false
  under = no_fork m.tree p (at_place first k on.core x running ready).holds

  pub out_more : (v : ℤ) → IsMore k (after_event k (event.Out x v)) (fresh_node p (Out v) (next k))
  out_more v = record { tree = refl; there = there; under = under; strand = refl; fork = refl; room = refl; splits = refl; joined = refl; finished = refl; stopped = refl }

  pub cancel_more : IsMore k (after_event k (event.Cancel x)) (fresh_node p (Cancel (puts_back m x (next k))) (next k))
  cancel_more = record { tree = refl; there = there; under = under; strand = refl; fork = refl; room = refl; splits = refl; joined = refl; finished = refl; stopped = refl }

  pub begin_more : IsMore k (after_event k (event.Begin x)) (fresh_node p Block (next k))
  begin_more = record { tree = refl; there = there; under = under; strand = refl; fork = refl; room = refl; splits = refl; joined = refl; finished = refl; stopped = refl }

  kind_plain : (c : ℕ) (w : Option ℤ) (v : ℤ) → (is_strand_kind (access_kind c w v) ≡ false) × (is_fork_kind (access_kind c w v) ≡ false)
  kind_plain c None v = (refl, refl)
  kind_plain c (Some a) v = (refl, refl)

  abbrev met : (c : ℕ) → Option ℤ → Bool → OpenMachine
  met c w b = after_all m (cond b (refuses x c w (met_by k x c)) (accesses x c w (next k)) ∷ [])

  -- an access that is made
  pub access_more : (c : ℕ) (w : Option ℤ) → is_met k x c ≡ false → IsMore k (after_event k (event.Access x c w)) (fresh_node p (access_kind c w (live_value m c)) (next k))
  access_more c w e = record {
    tree = ap (λ b. (met c w b).tree) e;
    there = there;
    under = under;
    strand = (kind_plain c w (live_value m c)).0;
    fork = (kind_plain c w (live_value m c)).1;
    room = refl;
    splits = refl;
    joined = joined_after k (event.Access x c w) refl refl;
    finished = finished_after k (event.Access x c w) refl refl;
    stopped = stopped_after k (event.Access x c w) refl;
  }

  -- and one that is refused
  pub refused_more : (c : ℕ) (w : Option ℤ) → is_met k x c ≡ true → IsMore k (after_event k (event.Access x c w)) (fresh_node p (Tried c) 0)
  refused_more c w e = record {
    tree = ap (λ b. (met c w b).tree) e;
    there = there;
    under = under;
    strand = refl;
    fork = refl;
    room = refl;
    splits = refl;
    joined = joined_after k (event.Access x c w) refl refl;
    finished = finished_after k (event.Access x c w) refl refl;
    stopped = stopped_after k (event.Access x c w) refl;
  }

  pub commit_shut : IsShut k (after_event k (event.Commit x)) p Committed (next k)
  commit_shut = record { tree = refl; room = refl; splits = refl; joined = refl; finished = refl; stopped = refl }

  pub roll_shut : rolls_back m x ≡ true → IsShut k (after_event k (event.Roll x)) p Aborted (next k)
  roll_shut rolls = record {
    tree = ap (λ y. y.tree) (machine_is first k on.core x rolls ready);
    room = refl;
    splits = refl;
    joined = joined_after k (event.Roll x) refl refl;
    finished = finished_after k (event.Roll x) refl refl;
    stopped = stopped_after k (event.Roll x) refl;
  }

  -- with such an event that adds no conflict, the core goes on and all workers fit it
  pub record Keeps (z : CoreState) (ws : List Worker) : Type 0 where
    pub goes : CoreGoesOn first z
    pub workers : AreWorkers z ws

  pub keeps_by : (e : Event) (ws : List Worker) → AreWorkers k ws → fits k e ≡ true → IsQuiet k (after_event k e) → (after_event k e).halt ≡ None → spent (after_event k e) ≡ None → Keeps (after_event k e) ws
  keeps_by e ws old fit quiet halt unspent =
      let core = (events first k e on.core fit).1 in
      record { goes = quiet_goes first k (after_event k e) on core quiet halt unspent; workers = quiet_workers first k (after_event k e) on core quiet halt unspent ws old }

  still_unspent : (e : Event) → (after_event k e).machine.conflicts ≡ m.conflicts → spent (after_event k e) ≡ None
  still_unspent e same = none_spent k (after_event k e) (ap Rattle.std.specs.Prelude.is_none on.spent) same refl ∙ on.spent

  pub keeps_out : (v : ℤ) (ws : List Worker) → AreWorkers k ws → fits k (event.Out x v) ≡ true → Keeps (after_event k (event.Out x v)) ws
  keeps_out v ws old fit = keeps_by (event.Out x v) ws old fit (more_quiet k (after_event k (event.Out x v)) trees (fresh_node p (Out v) (next k)) (out_more v)) on.halt (still_unspent (event.Out x v) refl)

  pub keeps_cancel : (ws : List Worker) → AreWorkers k ws → fits k (event.Cancel x) ≡ true → Keeps (after_event k (event.Cancel x)) ws
  keeps_cancel ws old fit = keeps_by (event.Cancel x) ws old fit (more_quiet k (after_event k (event.Cancel x)) trees (fresh_node p (Cancel (puts_back m x (next k))) (next k)) cancel_more) on.halt (still_unspent (event.Cancel x) refl)

  pub keeps_begin : (ws : List Worker) → AreWorkers k ws → fits k (event.Begin x) ≡ true → Keeps (after_event k (event.Begin x)) ws
  keeps_begin ws old fit = keeps_by (event.Begin x) ws old fit (more_quiet k (after_event k (event.Begin x)) trees (fresh_node p Block (next k)) begin_more) on.halt (still_unspent (event.Begin x) refl)

  pub keeps_access : (c : ℕ) (w : Option ℤ) (ws : List Worker) → AreWorkers k ws → fits k (event.Access x c w) ≡ true → is_met k x c ≡ false → Keeps (after_event k (event.Access x c w)) ws
  keeps_access c w ws old fit e =
      let P : Bool → Type 0 = λ b. (met c w b).conflicts ≡ m.conflicts in
      keeps_by (event.Access x c w) ws old fit (more_quiet k (after_event k (event.Access x c w)) trees (fresh_node p (access_kind c w (live_value m c)) (next k)) (access_more c w e)) on.halt
      (still_unspent (event.Access x c w) (subst P (sym e) refl))

  -- a refused access, where its budget is not spent
  pub keeps_refused : (c : ℕ) (w : Option ℤ) (ws : List Worker) → AreWorkers k ws → fits k (event.Access x c w) ≡ true → is_met k x c ≡ true → spent (after_event k (event.Access x c w)) ≡ None → Keeps (after_event k (event.Access x c w)) ws
  keeps_refused c w ws old fit e unspent = keeps_by (event.Access x c w) ws old fit (more_quiet k (after_event k (event.Access x c w)) trees (fresh_node p (Tried c) 0) (refused_more c w e)) on.halt unspent

  pub keeps_commit : (ws : List Worker) → AreWorkers k ws → fits k (event.Commit x) ≡ true → Keeps (after_event k (event.Commit x)) ws
  keeps_commit ws old fit = keeps_by (event.Commit x) ws old fit (shut_quiet k (after_event k (event.Commit x)) trees p Committed (next k) commit_shut) on.halt (still_unspent (event.Commit x) refl)

  pub keeps_roll : (ws : List Worker) → AreWorkers k ws → fits k (event.Roll x) ≡ true → rolls_back m x ≡ true → Keeps (after_event k (event.Roll x)) ws
  keeps_roll ws old fit rolls =
      keeps_by (event.Roll x) ws old fit (shut_quiet k (after_event k (event.Roll x)) trees p Aborted (next k) (roll_shut rolls)) on.halt
      (still_unspent (event.Roll x) (Rattle.cw_sim.proofs.Kept.After.conflicts_after k (event.Roll x) refl refl))
