-- A simulation in memory stands for what it stood for, while its core moves and begins of blocks come and go, and no body is concerned.
use Rattle.std.proofs.Common.{◌≡◌, ℕ, List, subst, true, false, Option, Some, ap, sym, ◌∙◌, None}
use Rattle.std.specs.Option.{option_map_or}
use Rattle.cw_tree.specs.declared.closed.Halt.{Halt}
use Rattle.cw_tree.specs.declared.closed.Halt.TheVariants as halt
use Rattle.cw_tree.specs.Nodes.{is_pending}
use Rattle.cw_strand.specs.Strands.{Strands}
use Rattle.cw_strand.specs.Saving.{Kept}
use Rattle.cw_open.specs.Machine.{OpenMachine}
use Rattle.cw_core.specs.State.{CoreState, spent}
use Rattle.cw_core.specs.Events.{after_event}
use Rattle.cw_core.specs.Laws.{IsCore}
use Rattle.cw_core.specs.declared.event.Event.TheVariants as event
use Rattle.cw_job.specs.Room.Strands.{StrandState}
use Rattle.cw_job.specs.Room.Saves.{IsSavedOf}
use Rattle.cw_sim.specs.Workers.{Simulation, tree}
use Rattle.cw_sim.specs.Moves.{does, stop_if_spent}
use Rattle.cw_sim.specs.Inside as inside
use Rattle.cw_sim.specs.ThingsInMemory.{thing_at}
use Rattle.cw_sim.specs.InMemory.{Seen, StandsFor, has_body, law_of}
use Rattle.cw_sim.specs.declared.moves.Driver.{Driver}

-- ## The core moves

module _ (c : Driver) (k : CoreState) (z : Seen) (new : CoreState) (old : StandsFor c z) (is : k ≡ new) (core : IsCore k.machine.first k)
    (bodies : (x : ℕ) → has_body new x ≡ true → has_body z.m.core x ≡ true)
    (back : (x : ℕ) → inside.goes_back new.machine x ≡ false → inside.goes_back z.m.core.machine x ≡ false) where
  core_now : IsCore new.machine.first new
  core_now = let P : CoreState → Type 0 = λ s. IsCore s.machine.first s in subst P is core

  -- No strand has a body that had none, strands that went back still do, and of each pending block what its strand needs is kept.
  pub moved_stands : (kept : List (Option Kept)) (saved : ℕ → StrandState)
      → ((b : ℕ) → is_pending new.machine.tree b ≡ true → (s : Kept) × (thing_at kept b ≡ Some s) × IsSavedOf z.job.program s (saved b))
      → StandsFor (record c { core = k; saved = kept }) (record z { m = record z.m { core = new; saved = saved } })
  moved_stands kept saved pending = record {
    job = old.job;
    core = is;
    is_core = core_now;
    workers = old.workers;
    bodies = λ x has.
        let b = old.bodies x (bodies x has) in
        (b.0, b.1, record { program = b.2.program; at = λ alive. b.2.at (back x alive); like = b.2.like });
    saved = pending;
  }

  -- no block is pending that was not
  pub still_stands : ((b : ℕ) → is_pending new.machine.tree b ≡ true → is_pending (tree z.m) b ≡ true) → StandsFor (record c { core = k }) (record z { m = record z.m { core = new } })
  still_stands pending = moved_stands c.saved z.m.saved (λ b e. old.saved b (pending b e))

-- ## The run stops

-- a halt stops the run, and moves no strand
pub stop_stands : (c : Driver) (k : CoreState) (z : Seen) (h : Halt) → StandsFor c z → k ≡ after_event z.m.core (event.Stop h) → IsCore k.machine.first k
    → StandsFor (record c { core = k }) (record z { m = does (event.Stop h) z.m })
stop_stands c k z (halt.Fault x kind) old e core = still_stands c k z (after_event z.m.core (event.Stop (halt.Fault x kind))) old e core (λ n h. h) (λ n h. h) (λ n h. h)
stop_stands c k z (halt.Budget x) old e core = still_stands c k z (after_event z.m.core (event.Stop (halt.Budget x))) old e core (λ n h. h) (λ n h. h) (λ n h. h)
stop_stands c k z halt.Memory old e core = still_stands c k z (after_event z.m.core (event.Stop halt.Memory)) old e core (λ n h. h) (λ n h. h) (λ n h. h)

-- where no budget is spent it goes on
pub unspent_stands : (c : Driver) (z : Seen) → StandsFor c z → spent c.core ≡ None → StandsFor c (record z { m = stop_if_spent (law_of z) z.m })
unspent_stands c z old none =
    let P : Option ℕ → Type 0 = λ o. StandsFor c (record z { m = option_map_or (λ x. does (event.Stop (halt.Budget x)) z.m) o z.m }) in
    subst P (sym (ap spent (sym old.core) ∙ none)) old

module _ {A : Type 0} (s : Strands A) where
  -- which strands stopped makes no difference to where they stand
  stopped_inside : (m : OpenMachine) (xs : List ℕ) (at saved there : ℕ → A) → inside.AreInside s m at saved there → inside.AreInside s (record m { stopped = xs }) at saved there
  stopped_inside m xs at saved there old = record {
    same = λ y st. old.same y (was y st);
    lives = λ y b n st. old.lives y b n (was y st);
    back = λ y b n st. old.back y b n (was y st);
    blocks = old.blocks;
    begins = old.begins;
  } where
    was : (y : ℕ) → inside.HasOneOpenFork (record m { stopped = xs }) y → inside.HasOneOpenFork m y
    was y st = record { strand = st.strand; apart = st.apart; alone = st.alone }

  -- so a halt leaves all strands inside their blocks
  pub stop_inside : (m : Simulation A) (h : Halt) (there : ℕ → A) → inside.HasInside s m there → inside.HasInside s (does (event.Stop h) m) there
  stop_inside m (halt.Fault x kind) there old = stopped_inside m.core.machine _ m.at m.saved there old
  stop_inside m (halt.Budget x) there old = stopped_inside m.core.machine _ m.at m.saved there old
  stop_inside m halt.Memory there old = old
