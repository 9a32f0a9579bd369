-- Each conflict is a recorded one, in every state to which a run leads whose stamps were drawn in time.
use Rattle.std.proofs.Common.{◌≡◌, ℕ, zero, suc, ◌<◌, ◌≤◌, List, [], ◌∷◌, ◌++◌, length, refl, ap, sym, subst, arith, true, false, Option, nat_lt}
use Rattle.std.specs.Prelude.{◌&&◌, ℤ, All}
use Rattle.std.proofs.lemmas.Bool.{and_parts, false_from_ne_true}
use Rattle.std.proofs.lemmas.List.Elements.{All-nil, All-cons, All-append, All-weaker}
use Rattle.cw_tree.specs.declared.node.Node.{Node}
use Rattle.cw_tree.specs.declared.node.Kind.TheVariants.{Cancel, Block, Out, Tried}
use Rattle.cw_tree.specs.declared.node.BlockState.{BlockState}
use Rattle.cw_tree.specs.declared.node.BlockState.TheVariants.{Committed, Aborted}
use Rattle.cw_tree.specs.declared.conflict.Conflict.{Conflict}
use Rattle.cw_tree.specs.Nodes.{is_block_kind, is_pending_state, parent_of, stamp_of, end_of, is_fork, is_block, is_pending, closed, fresh_node}
use Rattle.cw_tree.specs.Series.{place, is_before}
use Rattle.cw_tree.specs.AccessStacks.{access_kind}
use Rattle.cw_tree.specs.Refusals.{IsRecorded}
use Rattle.cw_tree.specs.NextNodes.{is_before_at}
use Rattle.cw_tree.proofs.Walks.There.{node_there}
use Rattle.cw_tree.proofs.NextNodes.Growing.{length_more, number_new}
use Rattle.cw_tree.proofs.NextNodes.Pending.{end_of_place}
use Rattle.cw_tree.proofs.Walks.Kin.{fork_child}
use Rattle.cw_tree.proofs.NodeKinds.{strand_no_block, block_some}
use Rattle.cw_open.specs.Machine.{OpenMachine, live_value, is_running, in_block, is_free, rolls_back}
use Rattle.cw_open.specs.Steps.{puts_back, Step, forks, begins, accesses, refuses, outputs, cancels, commits, undoes, aborts, finishes, joins, stops, refusal, after_open_step, after_all, first_machine}
use Rattle.cw_open.specs.Runs.{Allowed, IsRun}
use Rattle.cw_open.specs.Times.{times_after, IsTimely, AreTimely}
use Rattle.cw_open.specs.Refused.{as_told, ConflictsAreRecorded}
use Rattle.cw_open.proofs.Open.Trees.{IsWell, stands_well}
use Rattle.cw_open.proofs.Open.TreeSteps.{free_runs, rolls_runs, place_pending}
use Rattle.cw_open.proofs.Refused.Victims.{IsToldState, told_opening, told_state_after}
use Rattle.cw_open.proofs.Open.Growth.{IsGrowth, growth_leaf, growth_fork}
use Rattle.cw_open.proofs.Refused.Onward.{GoesOn, AreTimes, IsKept, times_on, kept_on}
use Rattle.cw_open.proofs.Refused.OnwardSteps.{goes_grown, goes_closed, goes_same, times_same, times_new, times_shut}
use Rattle.cw_open.proofs.Refused.Refusing.{kept_new}

pub record IsRecordedState (first : List ℤ) (times : ℕ → ℕ) (m : OpenMachine) : Type 0 where
  pub told : IsToldState first m
  pub are : AreTimes times m.clock m.tree
  pub kept : All (IsKept times m.tree) m.conflicts

-- the times and the conflicts of a machine, of a tree and a clock
record Keeping (times : ℕ → ℕ) (clock : ℕ) (t : List Node) (cs : List Conflict) : Type 0 where
  pub are : AreTimes times clock t
  pub kept : All (IsKept times t) cs

module _ (first : List ℤ) (times : ℕ → ℕ) (m : OpenMachine) (w : IsRecordedState first times m) (e : Step) where
  abbrev t : List Node
  t = m.tree

  abbrev z : ℕ → ℕ
  z = times_after times m e

  abbrev k : OpenMachine
  k = after_open_step m e

  abbrev well : IsWell m
  well = w.told.state.well

  -- a block's parent is no fork
  no_fork_over : (b : ℕ) → is_block t b ≡ true → is_fork t (parent_of t b) ≡ false
  no_fork_over b e =
      let tree = well.sound.tree in
      false_from_ne_true (is_fork t (parent_of t b)) (λ f. absurd (cc (e, strand_no_block t b (fork_child t tree b (block_some t tree.root b e) (node_there (λ y. is_block_kind y.kind) t b e) f))))

  abbrev Latest : Type 0
  Latest = (n : ℕ) → n < length k.tree → (stamp_of k.tree n ≤ k.clock) × (end_of k.tree n ≤ k.clock)

  on : (u : List Node) → GoesOn times z k.clock t u → m.clock ≤ k.clock → Keeping z k.clock u m.conflicts
  on u g le = record {
    are = times_on times z m.clock k.clock t u g well.sound.pending_last le w.are;
    kept = All-weaker (IsKept times t) (IsKept z u) (λ c q. kept_on times z m.clock k.clock t u g well.sound.pending_last le c q no_fork_over) m.conflicts w.kept;
  }

-- ## Steps

module _ (first : List ℤ) (times : ℕ → ℕ) (m : OpenMachine) (w : IsRecordedState first times m) where
  -- nodes come
  came : (e : Step) (s stamp : ℕ) → is_running m s ≡ true → IsGrowth m.tree (after_open_step m e).tree (place m.tree s) stamp
      → ((n j : ℕ) → n < length m.tree → length m.tree ≤ j → j < length (after_open_step m e).tree → 0 < stamp_of (after_open_step m e).tree j → is_before_at m.tree n (place m.tree s) ≡ true → times n < stamp)
      → Latest first times m w e → m.clock ≤ (after_open_step m e).clock → Keeping (times_after times m e) (after_open_step m e).clock (after_open_step m e).tree m.conflicts
  came e s stamp running g drawn latest le =
      let well = w.told.state.well in
      on first times m w e (after_open_step m e).tree
      (goes_grown m.tree (after_open_step m e).tree (place m.tree s) stamp well.sound.tree.rooted g times (times_after times m e) (after_open_step m e).clock (stands_well m well s running) well.sound.pending_last drawn (times_same times m e) (times_new times m e) latest) le

  -- a block is closed
  shut : (e : Step) (s : ℕ) (state : BlockState) (end : ℕ) → (after_open_step m e).tree ≡ closed m.tree (place m.tree s) state end → is_running m s ≡ true → in_block m s ≡ true → is_pending_state state ≡ false → Latest first times m w e → m.clock ≤ (after_open_step m e).clock
      → Keeping (times_after times m e) (after_open_step m e).clock (after_open_step m e).tree m.conflicts
  shut e s state end is running within done latest le =
      let well = w.told.state.well in
      let z = times_after times m e in
      let G : List Node → Type 0 = λ u. ((n : ℕ) → n < length m.tree → is_pending m.tree n ≡ is_pending u n → z n ≡ times n)
      → ((n : ℕ) → is_pending m.tree n ≡ true → is_pending u n ≡ false → z n ≡ (after_open_step m e).clock) → ((n : ℕ) → n < length u → (stamp_of u n ≤ (after_open_step m e).clock) × (end_of u n ≤ (after_open_step m e).clock)) → GoesOn times z (after_open_step m e).clock m.tree u in
      on first times m w e (after_open_step m e).tree
      (subst G (sym is)
      (λ same gone low. goes_closed m.tree well.sound.tree.rooted (place m.tree s) state end (place_pending m well s running within) done times z (after_open_step m e).clock same (times_new times m e) gone low)
      (times_same times m e) (times_shut times m e) latest) le

  -- nothing changes
  stays : (e : Step) → (after_open_step m e).tree ≡ m.tree → Latest first times m w e → m.clock ≤ (after_open_step m e).clock → Keeping (times_after times m e) (after_open_step m e).clock (after_open_step m e).tree m.conflicts
  stays e is latest le =
      let well = w.told.state.well in
      let z = times_after times m e in
      let G : List Node → Type 0 = λ u. ((n : ℕ) → n < length m.tree → is_pending m.tree n ≡ is_pending u n → z n ≡ times n) → ((n : ℕ) → n < length u → (stamp_of u n ≤ (after_open_step m e).clock) × (end_of u n ≤ (after_open_step m e).clock)) → GoesOn times z (after_open_step m e).clock m.tree u in
      on first times m w e (after_open_step m e).tree
      (subst G (sym is) (λ same low. goes_same m.tree well.sound.tree.rooted times z (after_open_step m e).clock (λ n h. same n h refl) (times_new times m e) low) (times_same times m e) latest) le

keep : (asked : List Node → List ℕ → Option ℤ → List ℕ) (first : List ℤ) (times : ℕ → ℕ) (m : OpenMachine) (w : IsRecordedState first times m) (e : Step) → Latest first times m w e → Allowed (as_told asked) m e → IsTimely times m e
    → Keeping (times_after times m e) (after_open_step m e).clock (after_open_step m e).tree (after_open_step m e).conflicts
keep asked first times m w (forks s stamp) latest a d =
    let well = w.told.state.well in
    let running = free_runs m s a.0 in
    came first times m w (forks s stamp) s stamp running (growth_fork m.tree well.sound.tree (place m.tree s) (stands_well m well s running) stamp) (λ n j h le l some e. d n h e) latest (omega arith)
keep asked first times m w (begins s stamp) latest a d =
    let well = w.told.state.well in
    let running = free_runs m s a.0 in
    came first times m w (begins s stamp) s stamp running (growth_leaf m.tree well.sound.tree.rooted (place m.tree s) (end_of_place m.tree (place m.tree s) (stands_well m well s running)) Block stamp) (λ n j h le l some e. d n h e) latest (omega arith)
keep asked first times m w (accesses s c write stamp) latest a d =
    let well = w.told.state.well in
    let y = and_parts (is_free m s && nat_lt c (length m.lists)) _ a.0 in
    let running = free_runs m s (and_parts (is_free m s) (nat_lt c (length m.lists)) y.0).0 in
    came first times m w (accesses s c write stamp) s stamp running
    (growth_leaf m.tree well.sound.tree.rooted (place m.tree s) (end_of_place m.tree (place m.tree s) (stands_well m well s running)) (access_kind c write (live_value m c)) stamp) (λ n j h le l some e. d n h e) latest (omega arith)
keep asked first times m w (refuses s c write met) latest a d =
    let well = w.told.state.well in
    let running = free_runs m s (and_parts (is_free m s) (nat_lt c (length m.lists)) a.0).0 in
    let e = refuses s c write met in
    let x = fresh_node (place m.tree s) (Tried c) 0 in
    let q = came first times m w e s 0 running (growth_leaf m.tree well.sound.tree.rooted (place m.tree s) (end_of_place m.tree (place m.tree s) (stands_well m well s running)) (Tried c) 0)
    (λ n j h le l some f. absurd (let same : j ≡ length m.tree = omega (arith, length_more m.tree x) in omega (arith, ap (stamp_of (m.tree ++ x ∷ [])) same, number_new m.tree x (λ y. y.stamp)))) latest (omega arith) in
    let z = times_after times m e in
    record {
      are = q.are;
      kept = All-append (IsKept z (after_open_step m e).tree) m.conflicts (refusal m (place m.tree s) c met ∷ []) q.kept
          (All-cons (IsKept z (after_open_step m e).tree) (refusal m (place m.tree s) c met) [] (kept_new m well s running c write met a.1.0 a.1.1 times d w.are) (All-nil (IsKept z (after_open_step m e).tree)));
    }
keep asked first times m w (outputs s v stamp) latest a d =
    let well = w.told.state.well in
    let running = free_runs m s a.0 in
    came first times m w (outputs s v stamp) s stamp running (growth_leaf m.tree well.sound.tree.rooted (place m.tree s) (end_of_place m.tree (place m.tree s) (stands_well m well s running)) (Out v) stamp) (λ n j h le l some e. d n h e) latest (omega arith)
keep asked first times m w (cancels s stamp) latest a d =
    let well = w.told.state.well in
    let running = free_runs m s (and_parts (is_free m s) (in_block m s) a.0).0 in
    came first times m w (cancels s stamp) s stamp running (growth_leaf m.tree well.sound.tree.rooted (place m.tree s) (end_of_place m.tree (place m.tree s) (stands_well m well s running)) (Cancel (puts_back m s stamp)) stamp) (λ n j h le l some e. d n h e) latest (omega arith)
keep asked first times m w (commits s stamp) latest a d =
    let y = and_parts (is_free m s && in_block m s) _ a.0 in
    let x = and_parts (is_free m s) (in_block m s) y.0 in
    shut first times m w (commits s stamp) s Committed stamp refl (free_runs m s x.0) x.1 refl latest (omega arith)
keep asked first times m w (undoes s c) latest a d = stays first times m w (undoes s c) refl latest (omega arith)
keep asked first times m w (aborts s stamp) latest a d =
    let x = rolls_runs m s (and_parts (rolls_back m s) _ a.0).0 in
    shut first times m w (aborts s stamp) s Aborted stamp refl x.running x.within refl latest (omega arith)
keep asked first times m w (finishes s dead) latest a d = stays first times m w (finishes s dead) refl latest (omega arith)
keep asked first times m w (joins f) latest a d = stays first times m w (joins f) refl latest (omega arith)
keep asked first times m w (stops s) latest a d = stays first times m w (stops s) refl latest (omega arith)

recorded_after : (asked : List Node → List ℕ → Option ℤ → List ℕ) (first : List ℤ) (times : ℕ → ℕ) (m : OpenMachine) (e : Step) → IsRecordedState first times m → Allowed (as_told asked) m e → IsTimely times m e → IsRecordedState first (times_after times m e) (after_open_step m e)
recorded_after asked first times m e w a d =
    let told = told_state_after (as_told asked) first m e w.told a in
    let q = keep asked first times m w e told.state.well.clock a d in
    record { told = told; are = q.are; kept = q.kept }

none_before : (first : List ℤ) (n k : ℕ) → n < 1 → k < 1 → is_before (first_machine first).tree n k ≡ false
none_before first zero zero h l = refl
none_before first zero (suc k) h l = absurd (omega arith)
none_before first (suc n) k h l = absurd (omega arith)

recorded_opening : (first : List ℤ) → IsRecordedState first (λ n. 0) (first_machine first)
recorded_opening first = record {
  told = told_opening first;
  are = record { low = λ n h. omega arith; later = λ n k hn hk e some. absurd (cc (e, none_before first n k hn hk)) };
  kept = All-nil (IsKept (λ n. 0) (first_machine first).tree);
}

pub recorded_all : (asked : List Node → List ℕ → Option ℤ → List ℕ) (first : List ℤ) (times : ℕ → ℕ) (m : OpenMachine) (es : List Step) → IsRecordedState first times m → IsRun (as_told asked) m es → AreTimely times m es
    → (after : ℕ → ℕ) × IsRecordedState first after (after_all m es)
recorded_all asked first times m [] w run d = (times, w)
recorded_all asked first times m (e ∷ es) w run d = recorded_all asked first (times_after times m e) (after_open_step m e) es (recorded_after asked first times m e w run.0 d.0) run.1 d.1

pub conflicts_recorded : ConflictsAreRecorded
conflicts_recorded asked first m reached =
    let (times, w) = recorded_all asked first (λ n. 0) (first_machine first) reached.steps (recorded_opening first) reached.run reached.timely in
    let P : OpenMachine → Type 0 = λ m. All (IsRecorded m.tree) m.conflicts in
    let end = after_all (first_machine first) reached.steps in
    subst P reached.there (All-weaker (IsKept times end.tree) (IsRecorded end.tree) (λ c k. (k.access, k.block, k.refusal)) end.conflicts w.kept)
