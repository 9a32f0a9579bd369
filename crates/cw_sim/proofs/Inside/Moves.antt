-- Strands stay inside their blocks along the moves of a simulation; and what a strand has that rolls a block back.
use Rattle.std.proofs.Common.{◌≡◌, ◌≢◌, ℕ, ◌<◌, List, [], ◌∷◌, ◌++◌, length, refl, ap, sym, ◌∙◌, subst, arith, Bool, true, false, cond, Option, Some, None, inl, inr}
use Rattle.std.specs.Prelude.{◌&&◌, not, ℤ}
use Rattle.std.specs.List.{list_any}
use Rattle.std.proofs.lemmas.Bool.{cases_lt, and_from, not_from_false, false_from_ne_true}
use Rattle.cw_strand.specs.declared.want.Want.TheVariants.{Begin, End, Fork as ForkWant}
use Rattle.cw_strand.specs.declared.want.Given.{Given}
use Rattle.cw_strand.specs.declared.want.Given.TheVariants.{Nothing, Back}
use Rattle.cw_strand.specs.Strands.{Strands, IsAnswer}
use Rattle.cw_tree.specs.declared.node.Node.{Node}
use Rattle.cw_tree.specs.declared.node.Kind.TheVariants.{Block, Out, Cancel, Tried}
use Rattle.cw_tree.specs.declared.conflict.Conflict.{Conflict}
use Rattle.cw_tree.specs.declared.node.BlockState.{BlockState}
use Rattle.cw_tree.specs.declared.node.BlockState.TheVariants.{Committed, Aborted}
use Rattle.cw_tree.specs.Nodes.{is_block_kind, is_pending_state, is_fork, is_pending, fresh_node}
use Rattle.cw_tree.specs.Walks.{has, is_ancestor, is_above}
use Rattle.cw_tree.specs.Newest.{newest}
use Rattle.cw_tree.specs.Refusals.{is_victim}
use Rattle.cw_tree.specs.Series.{strand_of, place}
use Rattle.cw_tree.specs.Shape.{IsTree}
use Rattle.cw_tree.specs.AccessStacks.{access_kind}
use Rattle.cw_tree.proofs.NextNodes.Growing.{above_new, strand_of_new}
use Rattle.cw_tree.proofs.NextNodes.Pending.{pending_closed, pending_stays}
use Rattle.cw_open.specs.Machine.{OpenMachine, has_finished, finished_dead, is_running, is_dying, is_free, in_block, rolls_back, live_value}
use Rattle.cw_open.specs.Open.{is_open, AreNested}
use Rattle.cw_open.specs.Runs.{at_once}
use Rattle.cw_open.specs.Steps.{refuses, accesses, refusal, puts_back, after_all}
use Rattle.cw_open.proofs.Refused.BackedStates.{backed_states}
use Rattle.cw_open.proofs.Refused.Fell.{names, names_block, one_names}
use Rattle.cw_open.proofs.Runs.LawsHold.{at_any}
use Rattle.cw_open.proofs.Open.Standing.{stands}
use Rattle.cw_open.proofs.Open.TreeSteps.{place_pending}
use Rattle.cw_open.proofs.Refused.Victims.{IsTold, IsToldState, told_states, free_are_safe}
use Rattle.cw_core.specs.declared.event.Event.{Event}
use Rattle.cw_core.specs.declared.event.Event.TheVariants as event
use Rattle.cw_core.specs.State.{CoreState, waits_for_left}
use Rattle.cw_core.specs.Events.{fits, after_event, is_met, met_by, next}
use Rattle.cw_core.specs.Laws.{IsCore}
use Rattle.cw_core.proofs.Events.Kept.{events}
use Rattle.cw_sim.specs.Workers.{Simulation, left_node, right_node, changed_at, with_strand}
use Rattle.cw_sim.specs.Moves.{does, answer_want, begin_block, give_up}
use Rattle.cw_sim.specs.Kept.{CoreGoesOn}
use Rattle.cw_sim.proofs.Kept.After.{conflicts_after}
use Rattle.cw_sim.specs.Inside.{IsRightOf, GoesBackIn, AreInside, HasInside}
use Rattle.cw_sim.proofs.Inside.Acts as acts
use Rattle.cw_sim.proofs.Inside.Dying.{Dies, died_by, not_its_block}
use Rattle.cw_sim.proofs.Inside.Ends.{finished}
use Rattle.cw_sim.proofs.Inside.Joins.{both_joined}
use Rattle.cw_sim.proofs.Inside.Forks.{forked}
use Rattle.cw_sim.proofs.Inside.Kept.{dying_same, dying_beside, more_left, shut_left, pending_more, more_pending}
use Rattle.cw_sim.proofs.Inside.Law.{goes_on, goes_out}
use Rattle.cw_sim.proofs.Inside.Quiet.{IsLeft}
use Rattle.cw_sim.proofs.Inside.Waits.{running_stands, over_waits}
use Rattle.cw_sim.proofs.Kept.Leaves.{IsMore}
use Rattle.cw_sim.proofs.Kept.Quiet.{out_more, cancel_more, begin_more, access_more, refused_more, commit_shut, roll_shut}
use Rattle.cw_sim.proofs.Kept.Shuts.{IsShut}

module _ {A : Type 0} (s : Strands A) (first : List ℤ) (m : Simulation A) (on : CoreGoesOn first m.core) (there : ℕ → A) (old : HasInside s m there) where
  abbrev k : CoreState
  k = m.core

  abbrev mm : OpenMachine
  mm = k.machine

  told : IsToldState first mm
  told = told_states at_once first mm on.core.reached

  tree : IsTree mm.tree
  tree = told.state.well.sound.tree

  nested : AreNested mm.tree (is_open mm)
  nested = told.state.well.nested

  module _ (x : ℕ) (running : is_running mm x ≡ true) (ready : waits_for_left k x ≡ false) where
    abbrev p : ℕ
    p = place mm.tree x

    own : strand_of mm.tree p ≡ x
    own = (stands mm tree nested x running).strand

    here_right : IsRightOf mm.tree 0 x (strand_of mm.tree p)
    here_right = sym own

    -- what a dying strand has that rolls its innermost block back
    pub may_go_back : is_dying mm x ≡ true → in_block mm x ≡ true → GoesBackIn s (m.saved p) (there x)
    may_go_back dying within = old.back x p 0 (running_stands mm tree nested x running) (Rattle.std.proofs.lemmas.Bool.or_left (is_dying mm x) (finished_dead mm x) dying) (place_pending mm told.state.well x running within) here_right

    -- ## A node that is no block

    module _ (e : Event) (fit : fits k e ≡ true) (node : Node) (is : IsMore k (after_event k e) node) where
      abbrev z : CoreState
      z = after_event k e

      core : IsCore first z
      core = (events first k e on.core fit).1

      left : IsLeft mm z.machine
      left = more_left k z tree node is

      now : IsToldState first z.machine
      now = told_states at_once first z.machine core.reached

      module _ (plain : (is_block_kind node.kind && is_pending_state node.state) ≡ false) where
        fewer : (b : ℕ) → is_pending z.machine.tree b ≡ true → is_pending mm.tree b ≡ true
        fewer b f = elim (pending_more k z node is b f) [ inl w ↦ w.1 | inr w ↦ absurd (let q = w.1 in cc (q, plain)) ]

        pub leaf : z.machine.conflicts ≡ mm.conflicts → is_dying mm x ≡ false → (given : Given) → IsAnswer s.elements (s.want (m.at x)) given → (s.want (m.at x) ≡ End → ⊥)
            → AreInside s z.machine (changed_at x (s.answer (m.at x) given) m.at) m.saved (changed_at x (s.answer (m.at x) given) there)
        leaf conflicts free given answer off =
            let same : (y : ℕ) → is_dying z.machine y ≡ is_dying mm y = λ y. dying_same first mm z.machine told now left.stays (λ b low f. fewer b f) y (λ c b t among d. more_pending k z node is b d.pending) conflicts in
            acts.answered s first k z on core left x running m.at m.saved there old fewer (λ y st ne. same y) given free (same x ∙ free)
            (λ b n pending right. (let h = acts.x_inside s first k z on core left x running m.at m.saved there old free b n (fewer b pending) right in
            goes_on s (m.saved b) n h.0 (m.at x) given h.1 answer off))

    -- an output
    pub out_inside : (v : ℤ) → fits k (event.Out x v) ≡ true → is_dying mm x ≡ false → IsAnswer s.elements (s.want (m.at x)) Nothing → (s.want (m.at x) ≡ End → ⊥)
        → HasInside s (answer_want s x Nothing (does (event.Out x v) m)) (changed_at x (s.answer (m.at x) Nothing) there)
    out_inside v fit free answer off = leaf (event.Out x v) fit (fresh_node p (Out v) (next k)) (out_more first k on x running ready v) refl refl free Nothing answer off

    -- a block is given up
    pub cancel_inside : fits k (event.Cancel x) ≡ true → is_dying mm x ≡ false → IsAnswer s.elements (s.want (m.at x)) (Back (puts_back mm x (next k))) → (s.want (m.at x) ≡ End → ⊥)
        → HasInside s (give_up s x m) (changed_at x (s.answer (m.at x) (Back (puts_back mm x (next k)))) there)
    cancel_inside fit free answer off =
        leaf (event.Cancel x) fit (fresh_node p (Cancel (puts_back mm x (next k))) (next k)) (cancel_more first k on x running ready) refl refl free (Back (puts_back mm x (next k))) answer off

    access_plain : (c : ℕ) (w : Option ℤ) (v : ℤ) → is_block_kind (access_kind c w v) ≡ false
    access_plain c None v = refl
    access_plain c (Some a) v = refl

    -- an access that is made
    pub access_inside : (c : ℕ) (w : Option ℤ) (given : Given) → fits k (event.Access x c w) ≡ true → is_met k x c ≡ false → (after_event k (event.Access x c w)).machine.conflicts ≡ mm.conflicts
        → is_dying mm x ≡ false → IsAnswer s.elements (s.want (m.at x)) given → (s.want (m.at x) ≡ End → ⊥)
        → HasInside s (answer_want s x given (does (event.Access x c w) m)) (changed_at x (s.answer (m.at x) given) there)
    access_inside c w given fit met conflicts free answer off =
        leaf (event.Access x c w) fit (fresh_node p (access_kind c w (live_value mm c)) (next k)) (access_more first k on x running ready c w met)
        (Rattle.std.proofs.lemmas.Bool.and_left (is_block_kind (access_kind c w (live_value mm c))) _ (access_plain c w (live_value mm c))) conflicts free given answer off

    -- a refused access
    pub refused_inside : (c : ℕ) (w : Option ℤ) → fits k (event.Access x c w) ≡ true → is_met k x c ≡ true → is_dying mm x ≡ false → (s.want (m.at x) ≡ End → ⊥) → HasInside s (does (event.Access x c w) m) there
    refused_inside c w fit met free off =
        let e = event.Access x c w in
        let node = fresh_node p (Tried c) 0 in
        let is = refused_more first k on x running ready c w met in
        let core = (events first k e on.core fit).1 in
        let z = after_event k e in
        let left = more_left k z tree node is in
        let now = told_states at_once first z.machine core.reached in
        let d = refusal mm p c (met_by k x c) in
        let conflicts : z.machine.conflicts ≡ mm.conflicts ++ d ∷ [] = ap (λ b. (after_all mm (cond b (refuses x c w (met_by k x c)) (accesses x c w (next k)) ∷ [])).conflicts) met in
        let fewer : (b : ℕ) → is_pending z.machine.tree b ≡ true → is_pending mm.tree b ≡ true = λ b f. elim (pending_more k z node is b f) [ inl w ↦ w.1 | inr w ↦ absurd (let q = w.1 in cc q) ] in
        acts.refused s first k z on core left x running m.at m.saved there old fewer
        (λ y st ne. dying_beside first mm z.machine told now left.stays (λ b low f. fewer b f) y (λ c b t among d. more_pending k z node is b d.pending) d conflicts (λ f.
        let (v, dies) = died_by z.machine y d f in
        let here = stands mm tree nested x running in
        let over : is_ancestor mm.tree y p ≡ true = sym (ap (λ ns. has ns y) (above_new mm.tree node tree.rooted here.there)) ∙ sym (ap (λ u. is_above u y (length mm.tree)) is.tree) ∙ dies.over in
        let w = over_waits mm tree nested x running p y here.there here.strand st.strand over ne in
        let alone = st.alone in
        cc (w, alone))) free off

    -- a block begins
    pub begin_inside : fits k (event.Begin x) ≡ true → is_dying mm x ≡ false → s.want (m.at x) ≡ Begin → HasInside s (begin_block s x m) (changed_at x (s.answer (m.at x) Nothing) there)
    begin_inside fit free wants =
        let e = event.Begin x in
        let node = fresh_node p Block (next k) in
        let is = begin_more first k on x running ready in
        let core = (events first k e on.core fit).1 in
        let z = after_event k e in
        let left = more_left k z tree node is in
        let now = told_states at_once first z.machine core.reached in
        let here = stands mm tree nested x running in
        let old_block : (b : ℕ) → b < length mm.tree → is_pending z.machine.tree b ≡ true → is_pending mm.tree b ≡ true = λ b low f. elim (pending_more k z node is b f) [ inl w ↦ w.1 | inr w ↦ absurd (let q = w.0 in omega (arith, q)) ] in
        acts.begins_in s first k z on core left x running m.at m.saved there old (length mm.tree) refl (strand_of_new mm.tree node tree.rooted here.there ∙ here.strand) wants
        (λ b f. elim (pending_more k z node is b f) [ inl w ↦ inl w | inr w ↦ inr w.0 ])
        (λ y. dying_same first mm z.machine told now left.stays old_block y (λ c b t among d. more_pending k z node is b d.pending) refl) free

    -- ## A block is closed

    module _ (e : Event) (fit : fits k e ≡ true) (state : BlockState) (closes : is_pending_state state ≡ false) (is : IsShut k (after_event k e) p state (next k)) (conflicts : (after_event k e).machine.conflicts ≡ mm.conflicts) where
      abbrev zc : CoreState
      zc = after_event k e

      shut_core : IsCore first zc
      shut_core = (events first k e on.core fit).1

      shut_is : IsLeft mm zc.machine
      shut_is = shut_left k zc tree p state (next k) is

      shut_fewer : (b : ℕ) → is_pending zc.machine.tree b ≡ true → (b ≢ p) × (is_pending mm.tree b ≡ true)
      shut_fewer b f = pending_closed mm.tree p state (next k) closes b (sym (ap (λ v. is_pending v b) is.tree) ∙ f)

      shut_more : (b : ℕ) → b ≢ p → is_pending mm.tree b ≡ true → is_pending zc.machine.tree b ≡ true
      shut_more b ne f = ap (λ v. is_pending v b) is.tree ∙ pending_stays mm.tree p state (next k) b ne ∙ f

      shut_same : (y : ℕ) → ((c : Conflict) (b : ℕ) → IsTold mm.tree c → ((q : Conflict → Bool) → q c ≡ true → list_any q mm.conflicts ≡ true) → Dies mm y c b → b ≢ p) → is_dying zc.machine y ≡ is_dying mm y
      shut_same y off =
          dying_same first mm zc.machine told (told_states at_once first zc.machine shut_core.reached) shut_is.stays (λ b low f. (shut_fewer b f).1) y
          (λ c b t among d. shut_more b (off c b t among d) d.pending) conflicts

    -- the end of its block
    pub commit_inside : fits k (event.Commit x) ≡ true → is_dying mm x ≡ false → in_block mm x ≡ true → s.want (m.at x) ≡ End → IsAnswer s.elements (s.want (m.at x)) Nothing
        → HasInside s (answer_want s x Nothing (does (event.Commit x) m)) (changed_at x (s.answer (m.at x) Nothing) there)
    commit_inside fit free within wants answer =
        let e = event.Commit x in
        let is = commit_shut first k on x running ready in
        let pend_p = place_pending mm told.state.well x running within in
        let safe = free_are_safe (λ t us w. newest us) first mm (at_any first mm on.core.reached) x (and_from (is_free mm x) (in_block mm x) (and_from (is_running mm x) (not (is_dying mm x)) running (not_from_false (is_dying mm x) free)) within) in
        let off : (y : ℕ) (c : Conflict) (b : ℕ) → IsTold mm.tree c → ((q : Conflict → Bool) → q c ≡ true → list_any q mm.conflicts ≡ true) → Dies mm y c b → b ≢ p = λ y c b t among d q.
        (let P : ℕ → Type 0 = λ v. is_victim mm.tree (c ∷ []) v ≡ true in
        let v = subst P q d.victim in
        let one = one_names mm.tree mm.conflicts p (names_block mm.tree c p v) (among (λ c. names mm.tree c p) v) in
        cc (one, safe)) in
        let same : (y : ℕ) → is_dying (after_event k e).machine y ≡ is_dying mm y = λ y. shut_same e fit Committed refl is refl y (off y) in
        acts.answered s first k (after_event k e) on (shut_core e fit Committed refl is refl) (shut_is e fit Committed refl is refl) x running m.at m.saved there old (λ b f. (shut_fewer e fit Committed refl is refl b f).1) (λ y st ne. same y) Nothing free (same x ∙ free)
        (λ b n pending right.
        let few = shut_fewer e fit Committed refl is refl b pending in
        let P : ℕ → Type 0 = λ c. IsRightOf mm.tree n c (strand_of mm.tree b) in
        let h = acts.x_inside s first k (after_event k e) on (shut_core e fit Committed refl is refl) (shut_is e fit Committed refl is refl) x running m.at m.saved there old free p 0 pend_p here_right in
        let o = old.blocks p b n pend_p few.1 (subst P (sym own) right) (λ z. own_before b n few.0 few.1 right z) in
        goes_out s (m.saved b) (m.saved p) n o.0 o.1 (old.begins p pend_p) h.0 (m.at x) Nothing h.1 answer wants) where
          own_before : (b n : ℕ) → b ≢ p → is_pending mm.tree b ≡ true → IsRightOf mm.tree n x (strand_of mm.tree b) → n ≡ 0 → b < p
          own_before b n ne pending right z =
              let Q : ℕ → Type 0 = λ j. IsRightOf mm.tree j x (strand_of mm.tree b) in
              let same : x ≡ strand_of mm.tree b = subst Q z right in
              elim (cases_lt b p) [ inl less ↦ less | inr le ↦ absurd ((stands mm tree nested x running).last b (omega (arith, le, ne)) pending (sym same)) ]

    -- it rolls its innermost block back
    pub roll_inside : fits k (event.Roll x) ≡ true → rolls_back mm x ≡ true → in_block mm x ≡ true → HasInside s (with_strand x (m.saved p) (does (event.Roll x) m)) (changed_at x (m.saved p) there)
    roll_inside fit rolls within =
        let e = event.Roll x in
        let is = roll_shut first k on x running ready rolls in
        let conf = conflicts_after k e refl refl in
        acts.rolled s first k (after_event k e) on (shut_core e fit Aborted refl is conf) (shut_is e fit Aborted refl is conf) x running m.at m.saved there old (λ b f. (shut_fewer e fit Aborted refl is conf b f).1)
        (λ y st ne. shut_same e fit Aborted refl is conf y (λ c b t among d. not_its_block first mm told x running y st ne c b t d))
        (place_pending mm told.state.well x running within)
        (false_from_ne_true (is_pending (after_event k e).machine.tree p) (λ f. absurd ((shut_fewer e fit Aborted refl is conf p f).0 refl)))

    -- it forks
    pub fork_inside : fits k (event.Fork x) ≡ true → is_dying mm x ≡ false → s.want (m.at x) ≡ ForkWant
        → let n = length mm.tree in
        HasInside s (with_strand (left_node n) (s.left (m.at x)) (with_strand (right_node n) (s.right (m.at x)) (does (event.Fork x) m))) (changed_at (left_node n) (s.left (m.at x)) (changed_at (right_node n) (s.right (m.at x)) there))
    fork_inside fit free wants = forked s first k on x running (events first k (event.Fork x) on.core fit).1 m.at m.saved there old free wants

  -- a strand finishes, live or dead
  pub finish_inside : (x : ℕ) (dead : Bool) → is_running mm x ≡ true → (is_dying mm x ≡ false → s.want (m.at x) ≡ End → ⊥) → HasInside s (does (event.Finish x dead) m) there
  finish_inside x dead running off = finished s mm tree nested x dead running m.at m.saved there old off

  -- the strands of a fork are joined: where the strand that forked is dying, it stands where the right one stood
  pub join_inside : (f : ℕ) → is_fork mm.tree f ≡ true → has mm.joined f ≡ false → has_finished mm (right_node f) ≡ true → (here : A)
      → (is_dying mm (strand_of mm.tree f) ≡ true → here ≡ there (right_node f)) → (is_dying mm (strand_of mm.tree f) ≡ false → here ≡ s.joined (m.at (right_node f)) (m.at (left_node f)))
      → HasInside s (with_strand (strand_of mm.tree f) (s.joined (m.at (right_node f)) (m.at (left_node f))) (does (event.Join f) m)) (changed_at (strand_of mm.tree f) here there)
  join_inside f fork apart done here goes joined = both_joined s first mm (backed_states at_once first mm on.core.reached) on.forks f fork apart done m.at m.saved there old here goes joined
