-- Each step keeps what was rolled back so for its victim, and what dying strands leave the last of its place.
use Rattle.std.proofs.Common.{◌≡◌, ℕ, zero, suc, List, [], ◌∷◌, ◌++◌, length, refl, true, false, cond, nat_lt}
use Rattle.std.specs.Prelude.{◌&&◌, ◌||◌, not, ℤ}
use Rattle.std.proofs.lemmas.Bool.{and_parts, not-true}
use Rattle.cw_tree.specs.declared.node.Kind.{Kind}
use Rattle.cw_tree.specs.declared.node.Kind.TheVariants.{Cancel, Block, Out}
use Rattle.cw_tree.specs.Nodes.{is_committed, is_aborted, fresh_node}
use Rattle.cw_tree.specs.Series.{place}
use Rattle.cw_tree.specs.Refusals.{is_victim}
use Rattle.cw_tree.specs.AccessStacks.{access_kind}
use Rattle.cw_tree.specs.NextNodes.{IsPlace, fork_nodes}
use Rattle.cw_tree.proofs.NextNodes.Pending.{end_of_place}
use Rattle.cw_open.specs.Machine.{OpenMachine, live_value, has_finished, finished_dead, is_running, in_block, is_dying, is_free, rolls_back}
use Rattle.cw_open.specs.Steps.{puts_back, Step, forks, begins, accesses, refuses, outputs, cancels, commits, undoes, aborts, finishes, joins, stops, after_open_step, first_machine}
use Rattle.cw_open.specs.Runs.{Rules, Allowed, IsReachedBy, left_died}
use Rattle.cw_open.proofs.Open.Trees.{stands_well}
use Rattle.cw_open.proofs.Open.TreeSteps.{free_runs, rolls_runs}
use Rattle.cw_open.proofs.Runs.States.{by_run}
use Rattle.cw_open.proofs.Refused.Victims.{IsToldState, told_opening, told_state_after}
use Rattle.cw_open.proofs.Open.Growth.{growth_leaf, growth_fork}
use Rattle.cw_open.proofs.Refused.Backing.{GoesBack, AllDied}
use Rattle.cw_open.proofs.Refused.BackedSteps.{committed, aborted, finished}
use Rattle.cw_open.proofs.Refused.Backed.{IsBacked, come, refused_come}

module _ (first : List ℤ) (m : OpenMachine) (w : IsToldState first m) (k : IsBacked m) where
  -- what a strand needs to go on, taken apart
  lives_free : (s : ℕ) → is_free m s ≡ true → is_dying m s ≡ false
  lives_free s free = not-true (is_dying m s) (and_parts (is_running m s) (not (is_dying m s)) free).1

  module _ (s : ℕ) (free : is_free m s ≡ true) where
    abbrev p : ℕ
    p = place m.tree s

    abbrev running : is_running m s ≡ true
    running = free_runs m s free

    at : IsPlace m.tree p
    at = stands_well m w.state.well s running

    leaf : (kind : Kind) (stamp : ℕ) → GoesBack (m.tree ++ fresh_node p kind stamp ∷ []) m.conflicts × AllDied (m.tree ++ fresh_node p kind stamp ∷ []) m.conflicts (has_finished m) (finished_dead m)
    leaf kind stamp = come first m w k s running (lives_free s free) (m.tree ++ fresh_node p kind stamp ∷ []) stamp (growth_leaf m.tree w.state.well.sound.tree.rooted p (end_of_place m.tree p at) kind stamp)

    fork : (stamp : ℕ) → GoesBack (m.tree ++ fork_nodes (length m.tree) p stamp) m.conflicts × AllDied (m.tree ++ fork_nodes (length m.tree) p stamp) m.conflicts (has_finished m) (finished_dead m)
    fork stamp = come first m w k s running (lives_free s free) (m.tree ++ fork_nodes (length m.tree) p stamp) stamp (growth_fork m.tree w.state.well.sound.tree p at stamp)

  pub backed_after : (rules : Rules) (e : Step) → Allowed rules m e → IsBacked (after_open_step m e)
  backed_after rules (forks s stamp) a = let z = fork s a.0 stamp in record { back = z.0; died = z.1 }
  backed_after rules (begins s stamp) a = let z = leaf s a.0 Block stamp in record { back = z.0; died = z.1 }
  backed_after rules (accesses s c write stamp) a =
      let y = and_parts (is_free m s && nat_lt c (length m.lists)) _ a.0 in
      let free = (and_parts (is_free m s) (nat_lt c (length m.lists)) y.0).0 in
      let z = leaf s free (access_kind c write (live_value m c)) stamp in
      record { back = z.0; died = z.1 }
  backed_after rules (refuses s c write met) a =
      let free = (and_parts (is_free m s) (nat_lt c (length m.lists)) a.0).0 in
      let z = refused_come first m w k s (free_runs m s free) (lives_free s free) c met in
      record { back = z.0; died = z.1 }
  backed_after rules (outputs s v stamp) a = let z = leaf s a.0 (Out v) stamp in record { back = z.0; died = z.1 }
  backed_after rules (cancels s stamp) a = let z = leaf s (and_parts (is_free m s) (in_block m s) a.0).0 (Cancel (puts_back m s stamp)) stamp in record { back = z.0; died = z.1 }
  backed_after rules (commits s stamp) a =
      let y = and_parts (is_free m s && in_block m s) (not (is_victim m.tree m.conflicts (place m.tree s))) a.0 in
      let x = and_parts (is_free m s) (in_block m s) y.0 in
      let z = committed first m w k s (free_runs m s x.0) x.1 stamp (lives_free s x.0) (not-true (is_victim m.tree m.conflicts (place m.tree s)) y.1) in
      record { back = z.0; died = z.1 }
  backed_after rules (undoes s c) a = record { back = k.back; died = k.died }
  backed_after rules (aborts s stamp) a =
      let back = (and_parts (rolls_back m s) _ a.0).0 in
      let x = rolls_runs m s back in
      let z = aborted first m w k s x.running x.within stamp back in
      record { back = z.0; died = z.1 }
  backed_after rules (finishes s dead) a =
      let y = and_parts (is_running m s && not (in_block m s)) (cond (is_dying m s) dead (not dead || left_died m s)) a in
      let x = and_parts (is_running m s) (not (in_block m s)) y.0 in
      finished first m w k s dead x.0 (not-true (in_block m s) x.1) y.1
  backed_after rules (joins f) a = record { back = k.back; died = k.died }
  backed_after rules (stops s) a = record { back = k.back; died = k.died }

-- ## Every state

pub record IsBackedState (first : List ℤ) (m : OpenMachine) : Type 0 where
  pub told : IsToldState first m
  pub backed : IsBacked m

none_closed : (first : List ℤ) (n : ℕ) → (is_aborted (first_machine first).tree n ≡ false) × (is_committed (first_machine first).tree n ≡ false)
none_closed first zero = (refl, refl)
none_closed first (suc n) = (refl, refl)

backed_opening : (first : List ℤ) → IsBacked (first_machine first)
backed_opening first = record {
  back = record {
    aborted = λ b e. absurd (cc (e, (none_closed first b).0));
    committed = λ b e. absurd (cc (e, (none_closed first b).1));
    tried = λ n some h e. absurd (cc e);
    gone = λ n e none. absurd (cc (e, (none_closed first n).0));
  };
  died = λ x some e. absurd (cc e);
}

pub backed_states : (r : Rules) (first : List ℤ) (m : OpenMachine) → IsReachedBy r first m → IsBackedState first m
backed_states r first =
    by_run r first (IsBackedState first) (record { told = told_opening first; backed = backed_opening first })
    (λ m e w a. record { told = told_state_after r first m e w.told a; backed = backed_after first m w.told w.backed r e a })
