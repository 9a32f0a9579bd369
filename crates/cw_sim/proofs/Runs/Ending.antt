-- How a move ends a run: at a fault of the strand that moves, by a budget that is spent, or at the end of main, which is not dead.
use Rattle.std.proofs.Common.{◌≡◌, ℕ, zero, suc, ◌<◌, List, [], ◌∷◌, refl, ap, sym, ◌∙◌, subst, arith, Bool, true, false, cond, Option, Some, None, inl, inr, nat_eq}
use Rattle.std.specs.Prelude.{◌⊎◌, ◌&&◌, ◌||◌, not, ℤ, is_some, unwrap_or}
use Rattle.std.specs.List.{list_any}
use Rattle.std.specs.Option.{option_map_or}
use Rattle.std.proofs.lemmas.Bool.{and_from, and_left, or_parts, or_from, ne_eqb, not_from_false}
use Rattle.cw_code.specs.declared.FaultKind.{FaultKind}
use Rattle.cw_tree.specs.declared.closed.Halt.{Halt}
use Rattle.cw_tree.specs.declared.closed.Halt.TheVariants as halt
use Rattle.cw_tree.specs.Nodes.{parent_of}
use Rattle.cw_tree.specs.Series.{place}
use Rattle.cw_strand.specs.declared.want.Want.{Want}
use Rattle.cw_strand.specs.declared.want.Want.TheVariants as want
use Rattle.cw_strand.specs.Strands.{Strands}
use Rattle.cw_open.specs.Machine.{has_finished, finished_dead, is_running, is_dying, in_block, is_free, live_value}
use Rattle.cw_open.specs.Steps.{refusal}
use Rattle.cw_open.specs.Spent.{HasSpent}
use Rattle.cw_core.specs.declared.event.Event.{Event}
use Rattle.cw_core.specs.declared.event.Event.TheVariants as event
use Rattle.cw_core.specs.declared.event.Reply.TheVariants as reply
use Rattle.cw_core.specs.State.{CoreState, is_split, waits_for_left, spent}
use Rattle.cw_core.specs.Events.{is_stop, is_met, met_by, after_event}
use Rattle.cw_core.proofs.Kept.RefusedTold.{after_refused}
use Rattle.cw_record.specs.ClosedRun.{EndsSo}
use Rattle.cw_sim.specs.Workers.{Simulation, left_node, right_node, tree, worker, with_strand}
use Rattle.cw_sim.specs.Moves.{does, is_run_over, others, take_fork, steal, go_to_right, join_or_idle, follow_up, finish_strand, die, stop_if_spent, meets_cell, access_cell, do_want, move}
use Rattle.cw_sim.specs.Kept.{Fits, is_current, CoreGoesOn, AreStanding}
use Rattle.cw_sim.proofs.Kept.After.{is_finish, halt_after, finished_after}
use Rattle.cw_sim.proofs.Runs.EndingMain.{main_lives, waits_for_none, is_there}
use Rattle.cw_sim.proofs.Runs.EndingSpent.{has_spent}

-- ## Events that end no run

abbrev pub over : CoreState → Bool
over k = is_some k.halt || has_finished k.machine 0

-- neither a stop nor a strand that finishes
still : (k : CoreState) (e : Event) → is_stop e ≡ false → is_finish e ≡ false → over (after_event k e) ≡ over k
still k e a b = ap (λ h. is_some h || has_finished (after_event k e).machine 0) (halt_after k e a) ∙ ap (λ fs. is_some k.halt || list_any (λ f. nat_eq f.0 0) fs) (finished_after k e a b)

-- another strand than main
other : (k : CoreState) (y : ℕ) (dead : Bool) → 0 < y → over (after_event k (event.Finish y dead)) ≡ over k
other k y dead some = ap (λ b. is_some k.halt || (b || has_finished k.machine 0)) (ne_eqb y 0 (λ q. absurd (omega (arith, q, some))))

-- a strand that has not finished did not finish dead
none_dead : (fs : List (ℕ × Bool)) (x : ℕ) → list_any (λ f. nat_eq f.0 x) fs ≡ false → list_any (λ f. nat_eq f.0 x && f.1) fs ≡ false
none_dead [] x e = refl
none_dead (f ∷ fs) x e =
    let z = or_parts (nat_eq f.0 x) (list_any (λ f. nat_eq f.0 x) fs) e in
    or_from (nat_eq f.0 x && f.1) (list_any (λ f. nat_eq f.0 x && f.1) fs) (and_left (nat_eq f.0 x) f.1 z.0) (none_dead fs x z.1)

-- a stop leaves the strands that are current
still_current : (k : CoreState) (y : ℕ) (kind : FaultKind) (x : ℕ) → is_current k x ≡ true → is_current (after_event k (event.Stop (halt.Fault y kind))) x ≡ true
still_current k y kind zero e = refl
still_current k y kind (suc x) e = e

steal_still : {A : Type 0} (w : ℕ) (vs : List ℕ) (m : Simulation A) → is_run_over (steal w vs m) ≡ is_run_over m
steal_still w [] m = refl
steal_still w (v ∷ vs) m = by (worker m v).deque (steal_still w vs m) where
  by : (ds : List ℕ) → is_run_over (steal w vs m) ≡ is_run_over m → is_run_over (elim ds [ [] ↦ steal w vs m | f ∷ fs ↦ take_fork w v f fs m ]) ≡ is_run_over m
  by [] more = more
  by (f ∷ fs) more = still m.core (event.Split f) refl refl

module _ {A : Type 0} (s : Strands A) where
  -- it has ended as a closed run ends, wherever its strands stand
  abbrev pub Ends : Simulation A → Type 0
  Ends z = (before after reached : ℕ → A) → AreStanding s z before after reached → EndsSo s z.core.machine before after reached z.core.budget z.core.halt false

  abbrev pub GoesOrEnds : Simulation A → Type 0
  GoesOrEnds z = (is_run_over z ≡ false) ⊎ Ends z

  -- what follows another strand than main
  follow : (w x : ℕ) (dead : Bool) (n : Simulation A) → is_run_over (follow_up s w (suc x) dead n) ≡ is_run_over n
  follow w x dead n =
      by ((nat_eq (suc x) (left_node f)) && not (is_split n.core f)) (has_finished n.core.machine (left_node f) && has_finished n.core.machine (right_node f)) dead where
        f : ℕ
        f = parent_of (tree n) (suc x)

        by : (a b d : Bool) → is_run_over (cond a (go_to_right s w f d n) (join_or_idle s w f b n)) ≡ is_run_over n
        by true b false = refl
        by true b true = still (after_event n.core (event.Finish (right_node f) true)) (event.Join f) refl refl ∙ other n.core (right_node f) true (omega arith)
        by false false d = refl
        by false true d = still n.core (event.Join f) refl refl

  module _ (first : List ℤ) (m : Simulation A) (on : CoreGoesOn first m.core) (off : is_run_over m ≡ false) where
    -- main comes to its end
    main_ends : (w : ℕ) → Ends (finish_strand s w 0 false m)
    main_ends w before after reached at =
        let z = Rattle.cw_core.specs.Events.after_event m.core (event.Finish 0 false) in
        let P : Option Halt → Type 0 = λ h. EndsSo s z.machine before after reached z.budget h false in
        let lives = none_dead m.core.machine.finished 0 (or_parts (is_some m.core.halt) (has_finished m.core.machine 0) off).1 in
        subst P (sym on.halt) (and_from (has_finished z.machine 0) (not (finished_dead z.machine 0)) refl (not_from_false (finished_dead z.machine 0) lives))

    finish : (w x : ℕ) (dead : Bool) → (x ≡ 0 → dead ≡ false) → GoesOrEnds (finish_strand s w x dead m)
    finish w zero true lives = absurd (let e = lives refl in cc e)
    finish w zero false lives = inr (main_ends w)
    finish w (suc x) dead lives = inl (follow w x dead (does (event.Finish (suc x) dead) m) ∙ other m.core (suc x) dead (omega arith) ∙ off)

    module _ (x : ℕ) (running : is_running m.core.machine x ≡ true) (ready : waits_for_left m.core x ≡ false) where
      -- a dying strand rolls back, or finishes, and is not main then
      died : (w : ℕ) → is_dying m.core.machine x ≡ true → GoesOrEnds (die s w x m)
      died w dying = by (in_block m.core.machine x) refl where
        by : (b : Bool) → in_block m.core.machine x ≡ b → GoesOrEnds (cond b (with_strand x (m.saved (place (tree m) x)) (does (event.Roll x) m)) (finish_strand s w x true m))
        by true e = inl (still m.core (event.Roll x) refl refl ∙ off)
        by false e =
            finish w x true (λ q.
            let R : ℕ → Type 0 = λ y. is_running m.core.machine y ≡ true in
            let B : ℕ → Type 0 = λ y. in_block m.core.machine y ≡ false in
            let lives = main_lives first m.core on.core (subst R q running) (subst B q e) in
            absurd (cc (lives, dying, q)))

      module _ (free : is_free m.core.machine x ≡ true) where
        -- it stands at the fault that it wants
        fault : (kind : FaultKind) → s.want (m.at x) ≡ want.Fault kind → Ends (does (event.Stop (halt.Fault x kind)) m)
        fault kind e before after reached at = (
          ap (λ ss. is_free (record m.core.machine { stopped = ss }) x) (sym on.stopped) ∙ free,
          ap s.want (at.strands x (still_current m.core x kind x (is_there first m.core on.core x running)) (waits_for_none first m.core on.core x running)) ∙ e,
        )

        -- a refused access spends a budget, or none
        refuse : (c : ℕ) (write : Option ℤ) → is_met m.core x c ≡ true → GoesOrEnds (stop_if_spent s (does (event.Access x c write) m))
        refuse c write e = by (spent z) refl where
          z : CoreState
          z = after_event m.core (event.Access x c write)

          by : (o : Option ℕ) → spent z ≡ o → GoesOrEnds (option_map_or (λ y. does (event.Stop (halt.Budget y)) (does (event.Access x c write) m)) o (does (event.Access x c write) m))
          by None q = inl (still m.core (event.Access x c write) refl refl ∙ off)
          by (Some y) q = inr (λ before after reached at.
              let P : CoreState → Type 0 = λ k. spent k ≡ Some y → HasSpent (record k.machine { stopped = y ∷ k.machine.stopped }) k.budget y in
              subst P (sym (after_refused m.core x c write e)) (λ r. has_spent first m.core on.core x free ready c on.spent y r (y ∷ m.core.machine.stopped)) q)

        access : (c : ℕ) (write : Option ℤ) → GoesOrEnds (access_cell s x c write m)
        access c write = by (is_met m.core x c) refl where
          by : (b : Bool) → is_met m.core x c ≡ b
              → GoesOrEnds (meets_cell s x write (cond b (reply.Conflict (refusal m.core.machine (place m.core.machine.tree x) c (met_by m.core x c))) (reply.Value (unwrap_or write (live_value m.core.machine c)))) (does (event.Access x c write) m))
          by true e = refuse c write e
          by false e = inl (still m.core (event.Access x c write) refl refl ∙ off)

        act : (w : ℕ) (q : Want) → s.want (m.at x) ≡ q → GoesOrEnds (do_want s w x q m)
        act w (want.Load c) e = access c None
        act w (want.Store c v) e = access c (Some v)
        act w (want.Out v) e = inl (still m.core (event.Out x v) refl refl ∙ off)
        act w want.Begin e = inl (still m.core (event.Begin x) refl refl ∙ off)
        act w want.End e = inl (still m.core (event.Commit x) refl refl ∙ off)
        act w want.Cancel e = inl (still m.core (event.Cancel x) refl refl ∙ off)
        act w want.Fork e = inl (still m.core (event.Fork x) refl refl ∙ off)
        act w want.Sync e = finish w x false (λ q. refl)
        act w want.Done e = finish w x false (λ q. refl)
        act w (want.Fault kind) e = inr (fault kind e)

    -- a move from where all is kept
    pub moved : (w : ℕ) → Fits m.core (worker m w) (worker m w).runs → GoesOrEnds (move s w m)
    moved w = by_run (worker m w).runs where
      by_run : (r : Option ℕ) → Fits m.core (worker m w) r → GoesOrEnds (elim r [ None ↦ steal w (others m w) m | Some x ↦ cond (is_dying m.core.machine x) (die s w x m) (do_want s w x (s.want (m.at x)) m) ])
      by_run None idle = inl (steal_still w (others m w) m ∙ off)
      by_run (Some x) at = by (is_dying m.core.machine x) refl where
        by : (b : Bool) → is_dying m.core.machine x ≡ b → GoesOrEnds (cond b (die s w x m) (do_want s w x (s.want (m.at x)) m))
        by true e = died x at.running at.ready w e
        by false e = act x at.running at.ready (and_from (is_running m.core.machine x) (not (is_dying m.core.machine x)) at.running (not_from_false (is_dying m.core.machine x) e)) w (s.want (m.at x)) refl
