-- Every event that a move makes fits where it comes, and while the run is not over the core and the workers are kept.
use Rattle.std.proofs.Common.{◌≡◌, ℕ, ◌<◌, List, length, refl, Bool, true, false, cond, Option, Some, None}
use Rattle.std.specs.Prelude.{ℤ}
use Rattle.cw_strand.specs.Strands.{Strands}
use Rattle.cw_open.specs.Machine.{is_dying}
use Rattle.cw_sim.specs.Workers.{Simulation, worker}
use Rattle.cw_sim.specs.Moves.{is_run_over, others, steal, die, do_want, move}
use Rattle.cw_sim.specs.Kept.{AreWorkers, CoreGoesOn}
use Rattle.cw_sim.specs.Laws.{AreStrands, ComesByEvents}
use Rattle.cw_sim.specs.HasWants.{HasWants}
use Rattle.cw_sim.proofs.Laws.MoveActs.{dies_to, acts_to}
use Rattle.cw_sim.proofs.Laws.MoveSteals.{steals_to}
use Rattle.cw_sim.proofs.Laws.Moving.{GoesTo}

module _ {A : Type 0} (s : Strands A) (first : List ℤ) (m : Simulation A) (w : ℕ) (low : w < length m.workers) (on : CoreGoesOn first m.core) (old : AreWorkers m.core m.workers) (wants : HasWants s (length first) m) where
  runs_to : (x : ℕ) → (worker m w).runs ≡ Some x → (b : Bool) → is_dying m.core.machine x ≡ b → GoesTo first m.core (cond b (die s w x m) (do_want s w x (s.want (m.at x)) m))
  runs_to x e true q = dies_to s first m w low on old x e q
  runs_to x e false q = acts_to s first m w low on old x e q wants (s.want (m.at x)) refl

  moves_by : (o : Option ℕ) → (worker m w).runs ≡ o → GoesTo first m.core (elim o [ None ↦ steal w (others m w) m | Some x ↦ cond (is_dying m.core.machine x) (die s w x m) (do_want s w x (s.want (m.at x)) m) ])
  moves_by None e = steals_to first m w low on old e (others m w)
  moves_by (Some x) e = runs_to x e (is_dying m.core.machine x) refl

  pub moves_to : GoesTo first m.core (move s w m)
  moves_to = moves_by (worker m w).runs refl

pub moves_keep : {A : Type 0} (s : Strands A) (first : List ℤ) (m : Simulation A) (w : ℕ) → AreStrands s (length first) → w < length m.workers → CoreGoesOn first m.core → AreWorkers m.core m.workers → HasWants s (length first) m → is_run_over m ≡ false
    → ComesByEvents m.core (move s w m).core × (is_run_over (move s w m) ≡ false → CoreGoesOn first (move s w m).core × AreWorkers (move s w m).core (move s w m).workers)
moves_keep s first m w strands low on old wants going = let to = moves_to s first m w low on old wants in (to.comes, to.kept)
