-- The states of nodes are kept by every move, also by the one that ends the run.
use Rattle.std.proofs.Common.{◌≡◌, ℕ, List, length, refl, ap, subst, Bool, true, false, cond, Option, Some, None}
use Rattle.std.specs.Prelude.{ℤ}
use Rattle.cw_strand.specs.declared.want.Want.{Want}
use Rattle.cw_strand.specs.declared.want.Want.TheVariants as want
use Rattle.cw_strand.specs.Strands.{Strands, is_over}
use Rattle.cw_tree.specs.declared.closed.Halt.TheVariants as halt
use Rattle.cw_tree.specs.Series.{place}
use Rattle.cw_open.specs.Machine.{in_block, is_dying, is_free}
use Rattle.cw_core.specs.declared.event.Event.TheVariants as event
use Rattle.cw_sim.specs.Workers.{Simulation, tree, worker, worker_in, with_strand}
use Rattle.cw_sim.specs.Moves.{does, others, steal, die, do_want, finish_strand, move}
use Rattle.cw_sim.specs.Kept.{Runs, Fits, HasStates, IsKept}
use Rattle.cw_sim.proofs.Laws.Fits.{free}
use Rattle.cw_sim.specs.HasWants.{HasWants}
use Rattle.cw_sim.proofs.Kept.StatesFollows.{finish_states}
use Rattle.cw_sim.proofs.Kept.StatesMoves.{stop_states, steal_states, out_states, cancel_states, begin_states, load_states, store_states, fork_states, commit_states, roll_states}

module _ {A : Type 0} (s : Strands A) (first : List ℤ) (m : Simulation A) (kept : IsKept s first m) (wants : HasWants s (length first) m) (w o : ℕ) (at : Runs m.core (worker m w) o) where
  -- a strand that is dying
  die_states : is_dying m.core.machine o ≡ true → HasStates s (die s w o m)
  die_states dying = by (in_block m.core.machine o) refl where
    by : (b : Bool) → in_block m.core.machine o ≡ b → HasStates s (cond b (with_strand o (m.saved (place (tree m) o)) (does (event.Roll o) m)) (finish_strand s w o true m))
    by true within = roll_states s first m kept.core kept.states o at.running at.ready within dying
    by false out = finish_states s first m kept.core kept.states w o at true dying out (λ e. absurd (cc e))

  -- and one that does what it wants
  module _ (alive : is_dying m.core.machine o ≡ false) where
    is_free_here : is_free m.core.machine o ≡ true
    is_free_here = free first m.core kept.core o at.running at.ready alive

    over_states : is_over (s.want (m.at o)) ≡ true → HasStates s (finish_strand s w o false m)
    over_states ended = finish_states s first m kept.core kept.states w o at false alive (wants.over o is_free_here ended) (λ e. ended)

    act_states : (want : Want) → s.want (m.at o) ≡ want → HasStates s (do_want s w o want m)
    act_states (want.Load c) e = load_states s first m kept.core kept.states o at.running at.ready c e
    act_states (want.Store c v) e = store_states s first m kept.core kept.states o at.running at.ready c v e
    act_states (want.Out v) e = out_states s first m kept.core kept.states o at.running at.ready v e
    act_states want.Begin e = begin_states s first m kept.core kept.states o at.running at.ready e
    act_states want.End e = commit_states s first m kept.core kept.states o at.running at.ready (wants.ends o is_free_here e) e
    act_states want.Cancel e = cancel_states s first m kept.core kept.states o at.running at.ready e
    act_states want.Fork e = fork_states s first m kept.core kept.states o at.running at.ready w e
    act_states want.Sync e = over_states (ap is_over e)
    act_states want.Done e = over_states (ap is_over e)
    act_states (want.Fault kind) e = stop_states s m (halt.Fault o kind) kept.states

-- what worker w runs fits the core
runs_there : {A : Type 0} (s : Strands A) (first : List ℤ) (m : Simulation A) → IsKept s first m → (w o : ℕ) → (worker m w).runs ≡ Some o → Runs m.core (worker m w) o
runs_there s first m kept w o e = let P : Option ℕ → Type 0 = λ r. Fits m.core (worker_in m.workers w) r in subst P e (kept.workers.fit w)

pub states_after : {A : Type 0} (s : Strands A) (first : List ℤ) (m : Simulation A) (w : ℕ) → IsKept s first m → HasWants s (length first) m → HasStates s (move s w m)
states_after s first m w kept wants = by (worker m w).runs refl where
  acting : (o : ℕ) → Runs m.core (worker m w) o → (b : Bool) → is_dying m.core.machine o ≡ b → HasStates s (cond b (die s w o m) (do_want s w o (s.want (m.at o)) m))
  acting o at true dying = die_states s first m kept wants w o at dying
  acting o at false alive = act_states s first m kept wants w o at alive (s.want (m.at o)) refl

  by : (r : Option ℕ) → (worker m w).runs ≡ r → HasStates s (elim r [ None ↦ steal w (others m w) m | Some x ↦ cond (is_dying m.core.machine x) (die s w x m) (do_want s w x (s.want (m.at x)) m) ])
  by None e = steal_states s m w kept.states (others m w)
  by (Some o) e = acting o (runs_there s first m kept w o e) (is_dying m.core.machine o) refl
