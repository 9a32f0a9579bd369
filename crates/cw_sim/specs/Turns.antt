-- Who makes which move.
use Rattle.std.specs.Prelude.{ℕ, zero, suc, ◌<◌, ◌-◌, ◌%◌, nat_lt, length, slice_index, if◌then◌else◌}
use Rattle.cw_io.specs.declared.schedule.Schedule.{Schedule}
use Rattle.cw_io.specs.declared.schedule.Schedule.TheVariants.{List as Listed, Seeded}
use Rattle.cw_io.specs.Lcg.{next_state, drawn}

-- the state of a generator after n draws
abbrev pub state_after : (n seed : ℕ) → ℕ
state_after zero seed = seed
state_after (suc n) seed = next_state (state_after n seed)

-- The worker that makes move n, of `workers` workers. First come the listed ones in order, or 100,000 that are drawn. After them
-- workers take turns from 0 on, going round.
abbrev pub worker_at : Schedule → (workers n : ℕ) → ℕ
worker_at (Listed list) workers n = if nat_lt n (length list) then slice_index list n else (n - length list) % workers
worker_at (Seeded seed) workers n = if nat_lt n 100000 then drawn (state_after (suc n) seed) % workers else (n - 100000) % workers

-- The listed workers are all there.
abbrev pub ListsWorkers : Schedule → (workers : ℕ) → Type 0
ListsWorkers (Listed list) workers = (n : ℕ) → n < length list → slice_index list n < workers
ListsWorkers (Seeded seed) workers = Unit {0}
