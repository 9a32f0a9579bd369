-- Where left strands go first, no access is refused.
use Rattle.std.proofs.Common.{◌≡◌, ℕ, List, [], ◌∷◌, ◌++◌, length, refl, sym, subst, arith, true}
use Rattle.std.specs.Prelude.{◌&&◌, not, nat_lt, nat_eq, ℤ, Option}
use Rattle.std.specs.List.{list_all}
use Rattle.std.proofs.lemmas.Bool.{and_parts, and_from, or_right, not-true}
use Rattle.cw_tree.specs.declared.node.Node.{Node}
use Rattle.cw_tree.specs.declared.node.Kind.TheVariants.{Block, Out, Cancel, Tried}
use Rattle.cw_tree.specs.declared.node.BlockState.TheVariants.{Committed, Aborted}
use Rattle.cw_tree.specs.Nodes.{is_pending, fresh_node}
use Rattle.cw_tree.specs.Walks.{is_ancestor, is_above}
use Rattle.cw_tree.specs.Series.{place}
use Rattle.cw_tree.specs.AccessStacks.{access_kind, access_at}
use Rattle.cw_tree.specs.NextNodes.{fork_nodes}
use Rattle.cw_tree.specs.Newest.{newest}
use Rattle.cw_open.specs.Machine.{OpenMachine, live_value, has_finished, is_running, in_block, is_free}
use Rattle.cw_open.specs.Steps.{Step, forks, begins, accesses, refuses, outputs, cancels, commits, undoes, aborts, finishes, joins, stops, puts_back, after_open_step, after_all, first_machine}
use Rattle.cw_open.specs.Runs.{Rules, Allowed, IsRun, at_once}
use Rattle.cw_open.specs.LeftFirst.{makers, lefts_have_finished, go_left_first, while_pending, AtOnceIsWhilePending, LeftFirstIsUnrefused}
use Rattle.cw_open.proofs.Open.Trees.{IsWell, stands_well}
use Rattle.cw_open.proofs.Open.TreeSteps.{free_runs, well_after}
use Rattle.cw_open.proofs.Runs.States.{state_opening}
use Rattle.cw_open.proofs.LeftFirst.Sides.{LeftDone, RightsWait, rights_more, rights_fork, rights_closed, rights_later}
use Rattle.cw_open.proofs.LeftFirst.Meeting.{left_here, none_met}

-- ## Each state of such a run

record IsUnrefused (m : OpenMachine) : Type 0 where
  well : IsWell m
  waits : RightsWait m.tree (has_finished m)
  none : m.conflicts ≡ []

-- the one strand that makes a step
pub one_left : (m : OpenMachine) (s : ℕ) → list_all (lefts_have_finished m) (s ∷ []) ≡ true → lefts_have_finished m s ≡ true
one_left m s e = (and_parts (lefts_have_finished m s) true e).0

module _ (m : OpenMachine) (w : IsWell m) (waits : RightsWait m.tree (has_finished m)) where
  module _ (s : ℕ) (running : is_running m s ≡ true) (clear : lefts_have_finished m s ≡ true) where
    -- a node more, at the place of a strand
    waits_more : (x : Node) → x.parent ≡ place m.tree s → RightsWait (m.tree ++ x ∷ []) (has_finished m)
    waits_more x up =
        let there = (stands_well m w s running).there in
        let P : ℕ → Type 0 = λ q. LeftDone m.tree (has_finished m) q in
        rights_more m.tree w.sound.tree.rooted (has_finished m) x (omega (arith, up)) waits (subst P (sym up) (left_here m w s running clear))

    waits_fork : (stamp : ℕ) → RightsWait (m.tree ++ fork_nodes (length m.tree) (place m.tree s) stamp) (has_finished m)
    waits_fork stamp =
        let at = stands_well m w s running in
        rights_fork m.tree w.sound.tree (has_finished m) (place m.tree s) stamp at.there at.holds waits (left_here m w s running clear)

  -- the nodes that a step brings leave the right strands waiting
  pub waits_after : (r : Rules) (e : Step) → Allowed r m e → list_all (lefts_have_finished m) (makers e) ≡ true → RightsWait (after_open_step m e).tree (has_finished (after_open_step m e))
  waits_after r (forks s stamp) a first = waits_fork s (free_runs m s a.0) (one_left m s first) stamp
  waits_after r (begins s stamp) a first = waits_more s (free_runs m s a.0) (one_left m s first) (fresh_node (place m.tree s) Block stamp) refl
  waits_after r (accesses s c write stamp) a first =
      let z = and_parts (is_free m s && nat_lt c (length m.lists)) _ a.0 in
      let free = (and_parts (is_free m s) (nat_lt c (length m.lists)) z.0).0 in
      waits_more s (free_runs m s free) (one_left m s first) (fresh_node (place m.tree s) (access_kind c write (live_value m c)) stamp) refl
  waits_after r (refuses s c write met) a first =
      let free = (and_parts (is_free m s) (nat_lt c (length m.lists)) a.0).0 in
      waits_more s (free_runs m s free) (one_left m s first) (fresh_node (place m.tree s) (Tried c) 0) refl
  waits_after r (outputs s v stamp) a first = waits_more s (free_runs m s a.0) (one_left m s first) (fresh_node (place m.tree s) (Out v) stamp) refl
  waits_after r (cancels s stamp) a first = waits_more s (free_runs m s (and_parts (is_free m s) (in_block m s) a.0).0) (one_left m s first) (fresh_node (place m.tree s) (Cancel (puts_back m s stamp)) stamp) refl
  waits_after r (commits s stamp) a first = rights_closed m.tree (has_finished m) (place m.tree s) Committed stamp waits
  waits_after r (undoes s c) a first = waits
  waits_after r (aborts s stamp) a first = rights_closed m.tree (has_finished m) (place m.tree s) Aborted stamp waits
  waits_after r (finishes s dead) a first = rights_later m.tree (has_finished m) (has_finished (after_open_step m (finishes s dead))) (λ n e. or_right (nat_eq s n) (has_finished m n) e) waits
  waits_after r (joins f) a first = waits
  waits_after r (stops s) a first = waits

pub waits_opening : (first : List ℤ) → RightsWait (first_machine first).tree (has_finished (first_machine first))
waits_opening first k some h = absurd (omega arith)

module _ (asked : List Node → List ℕ → Option ℤ → List ℕ) where
  abbrev r : Rules
  r = while_pending asked

  -- and none of them is a refusal
  none_after : (m : OpenMachine) (e : Step) → IsUnrefused m → Allowed r m e → list_all (lefts_have_finished m) (makers e) ≡ true → (after_open_step m e).conflicts ≡ []
  none_after m (refuses s c write met) u a first =
      let free = (and_parts (is_free m s) (nat_lt c (length m.lists)) a.0).0 in
      let (b, e) = a.1 in
      let z = and_parts (is_pending m.tree b) (not (is_ancestor m.tree b (place m.tree s))) e in
      absurd (none_met m u.well s (free_runs m s free) (one_left m s first) u.waits b z.0 (not-true (is_ancestor m.tree b (place m.tree s)) z.1))
  none_after m (forks s stamp) u a first = u.none
  none_after m (begins s stamp) u a first = u.none
  none_after m (accesses s c write stamp) u a first = u.none
  none_after m (outputs s v stamp) u a first = u.none
  none_after m (cancels s stamp) u a first = u.none
  none_after m (commits s stamp) u a first = u.none
  none_after m (undoes s c) u a first = u.none
  none_after m (aborts s stamp) u a first = u.none
  none_after m (finishes s dead) u a first = u.none
  none_after m (joins f) u a first = u.none
  none_after m (stops s) u a first = u.none

  unrefused_run : (m : OpenMachine) (es : List Step) → IsUnrefused m → IsRun r m es → go_left_first m es ≡ true → (after_all m es).conflicts ≡ []
  unrefused_run m [] u run first = u.none
  unrefused_run m (e ∷ es) u run first =
      let z = and_parts (list_all (lefts_have_finished m) (makers e)) (go_left_first (after_open_step m e) es) first in
      unrefused_run (after_open_step m e) es (record { well = well_after r m e u.well run.0; waits = waits_after m u.well u.waits r e run.0 z.0; none = none_after m e u run.0 z.0 }) run.1 z.1

opening : (first : List ℤ) → IsUnrefused (first_machine first)
opening first = record { well = (state_opening first).well; waits = waits_opening first; none = refl }

pub left_first_unrefused : LeftFirstIsUnrefused
left_first_unrefused asked first es run go = unrefused_run asked (first_machine first) es (opening first) run go

-- ## Where an access is refused as soon as it conflicts

pending_step : (m : OpenMachine) (e : Step) → Allowed at_once m e → Allowed (while_pending (λ t us w. newest us)) m e
pending_step m (forks s stamp) a = a
pending_step m (begins s stamp) a = a
pending_step m (accesses s c w stamp) a = a
pending_step m (refuses s c w met) a =
    let (b, e, stamp) = a.1.block in
    let z = and_parts (is_pending m.tree b && is_above m.tree b (access_at m.tree met.last)) (not (is_ancestor m.tree b (place m.tree s))) e in
    let pending = (and_parts (is_pending m.tree b) (is_above m.tree b (access_at m.tree met.last)) z.0).0 in
    (a.0, (b, and_from (is_pending m.tree b) (not (is_ancestor m.tree b (place m.tree s))) pending z.1))
pending_step m (outputs s v stamp) a = a
pending_step m (cancels s stamp) a = a
pending_step m (commits s stamp) a = a
pending_step m (undoes s c) a = a
pending_step m (aborts s stamp) a = a
pending_step m (finishes s dead) a = a
pending_step m (joins f) a = a
pending_step m (stops s) a = a

pending_run : (m : OpenMachine) (es : List Step) → IsRun at_once m es → IsRun (while_pending (λ t us w. newest us)) m es
pending_run m [] run = tt
pending_run m (e ∷ es) run = (pending_step m e run.0, pending_run (after_open_step m e) es run.1)

pub at_once_pending : AtOnceIsWhilePending
at_once_pending first es run = pending_run (first_machine first) es run
