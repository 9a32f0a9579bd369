-- Which strands have bodies, which go back, and which blocks are pending, as a running strand makes a step that leaves all strands and forks.
use Rattle.std.proofs.Common.{◌≡◌, ◌≢◌, ℕ, zero, suc, ◌<◌, List, [], ◌∷◌, ◌++◌, length, refl, ap, sym, ◌∙◌, subst, arith, Bool, true, false, inl, inr}
use Rattle.std.specs.Prelude.{◌&&◌, not, ℤ}
use Rattle.std.specs.List.{list_any}
use Rattle.std.proofs.lemmas.Bool.{and_parts, and_from, or_cases, or_left, or_right, not_from_false, not-true, false_from_ne_true, or_parts, or_from}
use Rattle.cw_tree.specs.declared.node.Node.{Node}
use Rattle.cw_tree.specs.declared.node.BlockState.{BlockState}
use Rattle.cw_tree.specs.declared.node.BlockState.TheVariants.{Committed, Aborted}
use Rattle.cw_tree.specs.declared.conflict.Conflict.{Conflict}
use Rattle.cw_tree.specs.Nodes.{is_block_kind, is_pending_state, parent_of, is_strand, is_pending}
use Rattle.cw_tree.specs.Newest.{newest}
use Rattle.cw_tree.specs.Refusals.{is_victim}
use Rattle.cw_tree.specs.Series.{place}
use Rattle.cw_tree.specs.Shape.{IsTree}
use Rattle.cw_tree.specs.Walks.{has}
use Rattle.cw_tree.proofs.NextNodes.Pending.{pending_closed, pending_stays}
use Rattle.cw_open.specs.Machine.{OpenMachine, finished_dead, waits, is_running, is_dying, is_free, in_block, rolls_back}
use Rattle.cw_open.specs.Open.{is_open, AreNested}
use Rattle.cw_open.specs.Runs.{at_once}
use Rattle.cw_open.proofs.Refused.Backed.{dead_finished}
use Rattle.cw_open.proofs.Refused.Fell.{names, names_block, one_names}
use Rattle.cw_open.proofs.Runs.LawsHold.{at_any}
use Rattle.cw_open.proofs.Open.TreeSteps.{place_pending}
use Rattle.cw_open.proofs.Refused.Victims.{IsTold, IsToldState, told_states, free_are_safe}
use Rattle.cw_core.specs.declared.event.Event.{Event}
use Rattle.cw_core.specs.declared.event.Event.TheVariants as event
use Rattle.cw_tree.proofs.Walks.There.{strand_there}
use Rattle.cw_core.specs.State.{CoreState, waits_for_left}
use Rattle.cw_core.specs.Events.{fits, after_event, next}
use Rattle.cw_core.proofs.Events.Kept.{events}
use Rattle.cw_sim.specs.Kept.{CoreGoesOn, is_current}
use Rattle.cw_sim.specs.Inside.{HasOneOpenFork, goes_back}
use Rattle.cw_sim.specs.InMemory.{has_body}
use Rattle.cw_sim.proofs.Kept.After.{conflicts_after}
use Rattle.cw_sim.proofs.Inside.Dying.{Dies, dies_on, not_its_block}
use Rattle.cw_sim.proofs.Inside.Kept.{dying_same, more_left, shut_left, pending_more, more_pending}
use Rattle.cw_sim.proofs.Inside.Quiet.{IsLeft, dead_as}
use Rattle.cw_sim.proofs.Inside.Waits.{going, running_stands}
use Rattle.cw_sim.proofs.Kept.Leaves.{IsMore}
use Rattle.cw_sim.proofs.Kept.Quiet.{commit_shut, roll_shut}
use Rattle.cw_sim.proofs.Kept.Shuts.{IsShut}

-- ## Bodies

module _ (k z : CoreState) (left : IsLeft k.machine z.machine) where
  current_was : (x : ℕ) → is_current z x ≡ true → is_current k x ≡ true
  current_was zero e = refl
  current_was (suc x) e =
      let (strand, apart) = and_parts (is_strand z.machine.tree (suc x)) (not (has z.machine.joined (parent_of z.machine.tree (suc x)))) e in
      let low = left.strands (suc x) strand in
      and_from (is_strand k.machine.tree (suc x)) (not (has k.machine.joined (parent_of k.machine.tree (suc x)))) (sym (left.stays.strands (suc x) low) ∙ strand)
      (ap (λ p. not (has k.machine.joined p)) (sym (left.stays.parents (suc x) low)) ∙ ap (λ js. not (has js (parent_of z.machine.tree (suc x)))) (sym left.joined) ∙ apart)

  current_stays : (x : ℕ) → is_current k x ≡ true → is_current z x ≡ true
  current_stays zero e = refl
  current_stays (suc x) e =
      let (strand, apart) = and_parts (is_strand k.machine.tree (suc x)) (not (has k.machine.joined (parent_of k.machine.tree (suc x)))) e in
      let low = strand_there k.machine.tree (suc x) strand in
      and_from (is_strand z.machine.tree (suc x)) (not (has z.machine.joined (parent_of z.machine.tree (suc x)))) (left.stays.strands (suc x) low ∙ strand)
      (ap (λ js. not (has js (parent_of z.machine.tree (suc x)))) left.joined ∙ ap (λ p. not (has k.machine.joined p)) (left.stays.parents (suc x) low) ∙ apart)

  -- no strand gets a body
  pub body_was : (x : ℕ) → has_body z x ≡ true → has_body k x ≡ true
  body_was x e =
      let (current, alone) = and_parts (is_current z x) (not (waits z.machine x)) e in
      and_from (is_current k x) (not (waits k.machine x)) (current_was x current) (ap not (sym (left.waits x)) ∙ alone)

  -- and none loses its own
  pub body_stays : (x : ℕ) → has_body k x ≡ true → has_body z x ≡ true
  body_stays x e =
      let (current, alone) = and_parts (is_current k x) (not (waits k.machine x)) e in
      and_from (is_current z x) (not (waits z.machine x)) (current_stays x current) (ap not (left.waits x) ∙ alone)

-- ## Strands that go back

module _ (m z : OpenMachine) (left : IsLeft m z) where
  -- a strand that goes back still does, while it is dying if it was
  pub back_was : (x : ℕ) → (is_dying z x ≡ false → is_dying m x ≡ false) → goes_back z x ≡ false → goes_back m x ≡ false
  back_was x dying e =
      let (live, undead) = or_parts (is_dying z x) (finished_dead z x) e in
      or_from (is_dying m x) (finished_dead m x) (dying live) (sym (dead_as m z left x) ∙ undead)

  pub back_stays : (x : ℕ) → is_dying z x ≡ is_dying m x → goes_back m x ≡ false → goes_back z x ≡ false
  back_stays x dying e =
      let (live, undead) = or_parts (is_dying m x) (finished_dead m x) e in
      or_from (is_dying z x) (finished_dead z x) (dying ∙ live) (dead_as m z left x ∙ undead)

-- a running strand goes back where it is dying
pub running_back : (m : OpenMachine) (x : ℕ) → is_running m x ≡ true → is_dying m x ≡ false → goes_back m x ≡ false
running_back m x running free =
    or_from (is_dying m x) (finished_dead m x) free
    (false_from_ne_true (finished_dead m x) (λ e. absurd (let d = dead_finished m x e in let g = (going m x running).unfinished in cc (d, g))))

-- ## The events of a running strand

module _ (first : List ℤ) (k : CoreState) (on : CoreGoesOn first k) where
  abbrev m : OpenMachine
  m = k.machine

  told : IsToldState first m
  told = told_states at_once first m on.core.reached

  pub whole : IsTree m.tree
  whole = told.state.well.sound.tree

  -- a running strand that stands in a block stands in a pending one
  pub within_pending : (x : ℕ) → is_running m x ≡ true → in_block m x ≡ true → is_pending m.tree (place m.tree x) ≡ true
  within_pending = place_pending m told.state.well

  nested : AreNested m.tree (is_open m)
  nested = told.state.well.nested

  current_of : (x : ℕ) → HasOneOpenFork m x → is_current k x ≡ true
  current_of zero st = refl
  current_of (suc x) st = and_from (is_strand m.tree (suc x)) (not (has m.joined (parent_of m.tree (suc x)))) st.strand (not_from_false (has m.joined (parent_of m.tree (suc x))) (st.apart (omega arith)))

  -- a running strand has a body
  pub running_body : (x : ℕ) → is_running m x ≡ true → has_body k x ≡ true
  running_body x running =
      let st = running_stands m whole nested x running in
      and_from (is_current k x) (not (waits m x)) (current_of x st) (not_from_false (waits m x) st.alone)

  -- one with a body stands
  pub body_stands : (x : ℕ) → has_body k x ≡ true → HasOneOpenFork m x
  body_stands x e =
      let (current, alone) = and_parts (is_current k x) (not (waits m x)) e in
      by x current (not-true (waits m x) alone) where
        by : (x : ℕ) → is_current k x ≡ true → waits m x ≡ false → HasOneOpenFork m x
        by zero e alone = record { strand = whole.root; apart = λ some. absurd (omega (arith, some)); alone = alone }
        by (suc x) e alone =
            let (strand, apart) = and_parts (is_strand m.tree (suc x)) (not (has m.joined (parent_of m.tree (suc x)))) e in
            record { strand = strand; apart = λ some. not-true (has m.joined (parent_of m.tree (suc x))) apart; alone = alone }

  module _ (e : Event) (fit : fits k e ≡ true) where
    abbrev z : CoreState
    z = after_event k e

    now : IsToldState first z.machine
    now = told_states at_once first z.machine (events first k e on.core fit).1.reached

    -- a node came; no other block is pending that was not, and without a new conflict the same strands are dying
    module _ (node : Node) (is : IsMore k z node) where
      left : IsLeft m z.machine
      left = more_left k z whole node is

      old_block : (b : ℕ) → b < length m.tree → is_pending z.machine.tree b ≡ true → is_pending m.tree b ≡ true
      old_block b low f = elim (pending_more k z node is b f) [ inl w ↦ w.1 | inr w ↦ absurd (let q = w.0 in omega (arith, q)) ]

      -- where it is no block
      pub plain_more : (is_block_kind node.kind && is_pending_state node.state) ≡ false → (b : ℕ) → is_pending z.machine.tree b ≡ true → is_pending m.tree b ≡ true
      plain_more plain b f = elim (pending_more k z node is b f) [ inl w ↦ w.1 | inr w ↦ absurd (let q = w.1 in cc (q, plain)) ]

      pub dying_more : z.machine.conflicts ≡ m.conflicts → (y : ℕ) → is_dying z.machine y ≡ is_dying m y
      dying_more same y = dying_same first m z.machine told now left.stays old_block y (λ c b t among d. more_pending k z node is b d.pending) same

      any_more : (q : Conflict → Bool) (cs : List Conflict) (d : Conflict) → list_any q cs ≡ true → list_any q (cs ++ d ∷ []) ≡ true
      any_more q [] d f = absurd (cc f)
      any_more q (c ∷ cs) d f = elim (or_cases (q c) (list_any q cs) f) [
        | inl g ↦ or_left (q c) (list_any q (cs ++ d ∷ [])) g
        | inr g ↦ or_right (q c) (list_any q (cs ++ d ∷ [])) (any_more q cs d g)
      ]

      -- with one, those that were dying still are
      pub dying_refused : (d : Conflict) → z.machine.conflicts ≡ m.conflicts ++ d ∷ [] → (y : ℕ) → is_dying z.machine y ≡ false → is_dying m y ≡ false
      dying_refused d same y free =
          false_from_ne_true (is_dying m y)
          (λ f. absurd (
          let still = dies_on m z.machine told.told left.stays y (λ q g. ap (list_any q) same ∙ any_more q m.conflicts d g) (λ c b t among g. more_pending k z node is b g.pending) f in
          cc (still, free)))

    -- a block was closed
    module _ (p : ℕ) (state : BlockState) (closes : is_pending_state state ≡ false) (is : IsShut k z p state (next k)) (conflicts : z.machine.conflicts ≡ m.conflicts) where
      pub shut_fewer : (b : ℕ) → is_pending z.machine.tree b ≡ true → (b ≢ p) × (is_pending m.tree b ≡ true)
      shut_fewer b f = pending_closed m.tree p state (next k) closes b (sym (ap (λ v. is_pending v b) is.tree) ∙ f)

      pub dying_shut : (y : ℕ) → ((c : Conflict) (b : ℕ) → IsTold m.tree c → ((q : Conflict → Bool) → q c ≡ true → list_any q m.conflicts ≡ true) → Dies m y c b → b ≢ p)
          → is_dying z.machine y ≡ is_dying m y
      dying_shut y off =
          dying_same first m z.machine told now (shut_left k z whole p state (next k) is).stays (λ b low f. (shut_fewer b f).1) y
          (λ c b t among d. ap (λ v. is_pending v b) is.tree ∙ pending_stays m.tree p state (next k) b (off c b t among d) ∙ d.pending) conflicts

  module _ (x : ℕ) (running : is_running m x ≡ true) (ready : waits_for_left k x ≡ false) where
    abbrev p : ℕ
    p = place m.tree x

    -- ends a block, and no strand is dying for that
    pub dying_commit : fits k (event.Commit x) ≡ true → is_dying m x ≡ false → in_block m x ≡ true → (y : ℕ) → is_dying (after_event k (event.Commit x)).machine y ≡ is_dying m y
    dying_commit fit free within y =
        let safe = free_are_safe (λ t us w. newest us) first m (at_any first m on.core.reached) x (and_from (is_free m x) (in_block m x) (and_from (is_running m x) (not (is_dying m x)) running (not_from_false (is_dying m x) free)) within) in
        dying_shut (event.Commit x) fit p Committed refl (commit_shut first k on x running ready) refl y (λ c b t among d q.
        let P : ℕ → Type 0 = λ v. is_victim m.tree (c ∷ []) v ≡ true in
        let v = subst P q d.victim in
        let one = one_names m.tree m.conflicts p (names_block m.tree c p v) (among (λ c. names m.tree c p) v) in
        cc (one, safe))

    -- rolls one back, and others stay dying that stand
    pub dying_roll : fits k (event.Roll x) ≡ true → rolls_back m x ≡ true → (y : ℕ) → HasOneOpenFork m y → y ≢ x → is_dying (after_event k (event.Roll x)).machine y ≡ is_dying m y
    dying_roll fit rolls y st ne =
        dying_shut (event.Roll x) fit p Aborted refl (roll_shut first k on x running ready rolls) (conflicts_after k (event.Roll x) refl refl) y
        (λ c b t among d. not_its_block first m told x running y st ne c b t d)
