-- A strand that comes to a fault in a run of one worker has all to its left behind it.
use Rattle.std.proofs.Common.{◌≡◌, ℕ, zero, suc, ◌<◌, List, [], ◌∷◌, length, refl, ap, sym, ◌∙◌, subst, arith, Bool, true, false, cond, Option, Some, None, nat_eq}
use Rattle.std.specs.Prelude.{◌&&◌, not, ℤ, is_some}
use Rattle.std.specs.Option.{option_map_or}
use Rattle.std.proofs.lemmas.Bool.{or_parts}
use Rattle.cw_code.specs.declared.FaultKind.{FaultKind}
use Rattle.cw_tree.specs.declared.closed.Halt.{Halt}
use Rattle.cw_tree.specs.declared.closed.Halt.TheVariants as halt
use Rattle.cw_tree.specs.Nodes.{parent_of}
use Rattle.cw_tree.specs.Series.{place}
use Rattle.cw_strand.specs.declared.want.Want.{Want}
use Rattle.cw_strand.specs.declared.want.Want.TheVariants.{Load, Store, Out, Begin, End, Cancel, Fork, Sync, Done, Fault}
use Rattle.cw_strand.specs.Strands.{Strands}
use Rattle.cw_open.specs.Machine.{has_finished, in_block, is_dying}
use Rattle.cw_open.specs.LeftFirst.{lefts_have_finished}
use Rattle.cw_core.specs.declared.event.Event.TheVariants as event
use Rattle.cw_core.specs.declared.event.Reply.{Reply}
use Rattle.cw_core.specs.declared.event.Reply.TheVariants as reply
use Rattle.cw_core.specs.State.{is_split, spent}
use Rattle.cw_core.specs.Events.{reply_to, after_event}
use Rattle.cw_sim.specs.Workers.{Simulation, left_node, right_node, tree, worker, with_strand}
use Rattle.cw_sim.specs.Moves.{is_run_over, does, others, steal, take_fork, go_to_right, join_or_idle, finish_strand, follow_up, die, meets_cell, stop_if_spent, do_want, move, after_moves}
use Rattle.cw_sim.specs.Kept.{Fits, Runs, IsKept}
use Rattle.cw_sim.specs.Laws.{AreStrands}
use Rattle.cw_sim.proofs.Laws.MoveNumbers.{move_number}
use Rattle.cw_sim.proofs.Runs.Closing.{moves_fit}
use Rattle.cw_sim.proofs.Runs.Whole.{stays_over}
use Rattle.cw_sim.proofs.OneWorker.Events.{running_lefts}
use Rattle.cw_sim.proofs.OneWorker.Splits.{one_splits_none}

module _ {A : Type 0} (s : Strands A) where
  abbrev stopped : Simulation A → Option Halt
  stopped m = m.core.halt

  -- ## What stops nothing

  steals_on : (w : ℕ) (vs : List ℕ) (m : Simulation A) → stopped (steal w vs m) ≡ stopped m
  steals_on w [] m = refl
  steals_on w (v ∷ vs) m = by (worker m v).deque (steals_on w vs m) where
    by : (fs : List ℕ) → stopped (steal w vs m) ≡ stopped m → stopped (elim fs [ [] ↦ steal w vs m | f ∷ fs ↦ take_fork w v f fs m ]) ≡ stopped m
    by [] e = e
    by (f ∷ fs) e = refl

  turns_on : (w f : ℕ) (dead : Bool) (m : Simulation A) → stopped (go_to_right s w f dead m) ≡ stopped m
  turns_on w f false m = refl
  turns_on w f true m = refl

  meets_on : (w f : ℕ) (both : Bool) (m : Simulation A) → stopped (join_or_idle s w f both m) ≡ stopped m
  meets_on w f false m = refl
  meets_on w f true m = refl

  follows_on : (w x : ℕ) (dead : Bool) (m : Simulation A) → stopped (follow_up s w x dead m) ≡ stopped m
  follows_on w zero dead m = refl
  follows_on w (suc x) dead m = by (nat_eq (suc x) (left_node f) && not (is_split m.core f)) where
    f : ℕ
    f = parent_of (tree m) (suc x)

    both : Bool
    both = has_finished m.core.machine (left_node f) && has_finished m.core.machine (right_node f)

    by : (b : Bool) → stopped (cond b (go_to_right s w f dead m) (join_or_idle s w f both m)) ≡ stopped m
    by true = turns_on w f dead m
    by false = meets_on w f both m

  dies_on : (w x : ℕ) (m : Simulation A) → stopped (die s w x m) ≡ stopped m
  dies_on w x m = by (in_block m.core.machine x) where
    by : (b : Bool) → stopped (cond b (with_strand x (m.saved (place (tree m) x)) (does (event.Roll x) m)) (finish_strand s w x true m)) ≡ stopped m
    by true = refl
    by false = follows_on w x true (does (event.Finish x true) m)

  -- ## A move that comes to a fault

  -- worker w runs the strand, which may go on, and the core takes the fault
  pub record Faults (w : ℕ) (m z : Simulation A) (y : ℕ) (kind : FaultKind) : Type 0 where
    pub runs : (worker m w).runs ≡ Some y
    pub core : z.core ≡ after_event m.core (event.Stop (halt.Fault y kind))

  module _ (m : Simulation A) (on : stopped m ≡ None) (y : ℕ) (kind : FaultKind) where
    abbrev Stops : Simulation A → Type 0
    Stops z = stopped z ≡ Some (halt.Fault y kind)

    goes_on : (z : Simulation A) → stopped z ≡ stopped m → Stops z → ⊥
    goes_on z same e = absurd (cc (same, on, e))

    stops_not : (z : Simulation A) → stopped z ≡ stopped m → Stops (stop_if_spent s z) → ⊥
    stops_not z same = by (spent z.core) where
      by : (o : Option ℕ) → Stops (option_map_or (λ x. does (event.Stop (halt.Budget x)) z) o z) → ⊥
      by None e = goes_on z same e
      by (Some x) e = absurd (cc e)

    cell_not : (x : ℕ) (write : Option ℤ) (r : Reply) (z : Simulation A) → stopped z ≡ stopped m → Stops (meets_cell s x write r z) → ⊥
    cell_not x write (reply.Value v) z same e = goes_on z same e
    cell_not x write r z same e = stops_not z same e

    acts_fault : (w x : ℕ) (want : Want) → (worker m w).runs ≡ Some x → Stops (do_want s w x want m) → Faults w m (do_want s w x want m) y kind
    acts_fault w x (Load c) q e = absurd (cell_not x None (reply_to m.core (event.Access x c None)) (does (event.Access x c None) m) refl e)
    acts_fault w x (Store c v) q e = absurd (cell_not x (Some v) (reply_to m.core (event.Access x c (Some v))) (does (event.Access x c (Some v)) m) refl e)
    acts_fault w x (Out v) q e = absurd (cc (on, e))
    acts_fault w x Begin q e = absurd (cc (on, e))
    acts_fault w x End q e = absurd (cc (on, e))
    acts_fault w x Cancel q e = absurd (cc (on, e))
    acts_fault w x Fork q e = absurd (cc (on, e))
    acts_fault w x Sync q e = absurd (goes_on (do_want s w x Sync m) (follows_on w x false (does (event.Finish x false) m)) e)
    acts_fault w x Done q e = absurd (goes_on (do_want s w x Done m) (follows_on w x false (does (event.Finish x false) m)) e)
    acts_fault w x (Fault k) q e =
        let same : x ≡ y = cc e in
        let like : k ≡ kind = cc e in
        record { runs = q ∙ ap Some same; core = ap (λ z. after_event m.core (event.Stop (halt.Fault z k))) same ∙ ap (λ k. after_event m.core (event.Stop (halt.Fault y k))) like }

    pub move_fault : (w : ℕ) → Stops (move s w m) → Faults w m (move s w m) y kind
    move_fault w = by (worker m w).runs refl where
      runs : (x : ℕ) → (worker m w).runs ≡ Some x → (b : Bool) → Stops (cond b (die s w x m) (do_want s w x (s.want (m.at x)) m)) → Faults w m (cond b (die s w x m) (do_want s w x (s.want (m.at x)) m)) y kind
      runs x q true e = absurd (goes_on (die s w x m) (dies_on w x m) e)
      runs x q false e = acts_fault w x (s.want (m.at x)) q e

      by : (o : Option ℕ) → (worker m w).runs ≡ o → Stops (elim o [ None ↦ steal w (others m w) m | Some x ↦ cond (is_dying m.core.machine x) (die s w x m) (do_want s w x (s.want (m.at x)) m) ])
          → Faults w m (elim o [ None ↦ steal w (others m w) m | Some x ↦ cond (is_dying m.core.machine x) (die s w x m) (do_want s w x (s.want (m.at x)) m) ]) y kind
      by None q e = absurd (goes_on (steal w (others m w) m) (steals_on w (others m w) m) e)
      by (Some x) q e = runs x q (is_dying m.core.machine x) e

  -- ## Moves one after another

  none_of : (o : Option Halt) → is_some o ≡ false → o ≡ None
  none_of None e = refl
  none_of (Some h) e = absurd (cc e)

  -- a worker that runs this strand stands where it may go on
  runs_ready : (m : Simulation A) (o : Option ℕ) (w y : ℕ) → Fits m.core (worker m w) o → o ≡ Some y → Runs m.core (worker m w) y
  runs_ready m None w y f e = absurd (cc e)
  runs_ready m (Some x) w y f e = let same : x ≡ y = cc e in let P : ℕ → Type 0 = λ z. Runs m.core (worker m w) z in subst P same f

  -- where the strand came to that fault, all to its left has finished
  abbrev LeftAt : ℕ → FaultKind → Simulation A → Type 0
  LeftAt y kind z = stopped z ≡ Some (halt.Fault y kind) → lefts_have_finished z.core.machine y ≡ true

  module _ (first : List ℤ) (are : AreStrands s (length first)) (turn : ℕ → ℕ) (turns : (n : ℕ) → turn n < 1) where
    pub faults_left : (k n : ℕ) (m : Simulation A) → IsKept s first m → length m.workers ≡ 1 → m.core.splits ≡ [] → is_run_over m ≡ false → (y : ℕ) (kind : FaultKind)
        → (after_moves s turn k n m).core.halt ≡ Some (halt.Fault y kind) → lefts_have_finished (after_moves s turn k n m).core.machine y ≡ true
    faults_left zero n m kept one none off y kind e = let on = none_of m.core.halt (or_parts (is_some m.core.halt) (has_finished m.core.machine 0) off).0 in absurd (cc (on, e))
    faults_left (suc k) n m kept one none off y kind e =
        let P : Bool → Type 0 = λ b. LeftAt y kind (elim b [ true ↦ m | false ↦ after_moves s turn k (suc n) (move s (turn n) m) ]) in
        let l = turns n in
        let low : turn n < length m.workers = omega (arith, one) in
        subst P (sym off)
        (by (is_run_over (move s (turn n) m)) refl
        (λ over. faults_left k (suc n) (move s (turn n) m) ((moves_fit s first m (turn n) are low kept off).1 over) (move_number s (turn n) m ∙ one) (one_splits_none s m (turn n) one ∙ none) over y kind)) e where
          last : stopped (move s (turn n) m) ≡ Some (halt.Fault y kind) → lefts_have_finished (move s (turn n) m).core.machine y ≡ true
          last e =
              let on = none_of m.core.halt (or_parts (is_some m.core.halt) (has_finished m.core.machine 0) off).0 in
              let z = move_fault m on y kind (turn n) e in
              let at = runs_ready m (worker m (turn n)).runs (turn n) y (kept.workers.fit (turn n)) z.runs in
              ap (λ k. lefts_have_finished k.machine y) z.core ∙ running_lefts first m.core kept.core.core none y at.running at.ready

          by : (b : Bool) → is_run_over (move s (turn n) m) ≡ b → (is_run_over (move s (turn n) m) ≡ false → LeftAt y kind (after_moves s turn k (suc n) (move s (turn n) m))) → LeftAt y kind (after_moves s turn k (suc n) (move s (turn n) m))
          by true over more = let P : Simulation A → Type 0 = λ z. LeftAt y kind z in subst P (sym (stays_over s turn k (suc n) (move s (turn n) m) over)) last
          by false over more = more over
