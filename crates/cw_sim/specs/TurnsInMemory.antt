-- Turns in memory.
use Rattle.std.specs.Prelude.{◌≡◌, ℕ, ◌<◌}
use Rattle.cw_io.specs.declared.schedule.Schedule.{Schedule}
use Rattle.cw_io.specs.declared.schedule.Schedule.TheVariants.{List as Listed, Seeded}
use Rattle.cw_sim.specs.Turns.{ListsWorkers, state_after}
use Rattle.cw_sim.specs.declared.turns.Turns.{Turns}

-- the state of a seed's generator after n draws, while it still draws
abbrev pub IsGeneratorAfter : Schedule → (state n : ℕ) → Type 0
IsGeneratorAfter (Listed list) state n = Unit {0}
IsGeneratorAfter (Seeded seed) state n = n < 100000 → state ≡ state_after n seed

-- The turns are before move n.
pub record AreAt (t : Turns) (n : ℕ) : Type 0 where
  pub workers : 0 < t.workers
  pub listed : ListsWorkers t.schedule.now t.workers
  pub drawn : IsGeneratorAfter t.schedule.now t.drawing n
