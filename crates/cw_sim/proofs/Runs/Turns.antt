-- The worker that makes a move is one of those that are there.
use Rattle.std.proofs.Common.{◌≡◌, ℕ, suc, ◌-◌, ◌%◌, ◌<◌, length, refl, Bool, true, false, cond}
use Rattle.std.specs.Prelude.{nat_lt, slice_index}
use Rattle.std.proofs.lemmas.Bool.{ltb-true}
use Rattle.std.proofs.lemmas.Nat.{mod_below}
use Rattle.cw_io.specs.declared.schedule.Schedule.{Schedule}
use Rattle.cw_io.specs.declared.schedule.Schedule.TheVariants.{List as Listed, Seeded}
use Rattle.cw_io.specs.Lcg.{drawn}
use Rattle.cw_sim.specs.Turns.{state_after, worker_at, ListsWorkers}

-- whichever of two numbers below k is taken is below k
either : (b : Bool) (x y k : ℕ) → (b ≡ true → x < k) → y < k → cond b x y < k
either true x y k f h = f refl
either false x y k f h = h

pub worker_there : (schedule : Schedule) (workers n : ℕ) → 0 < workers → ListsWorkers schedule workers → worker_at schedule workers n < workers
worker_there (Listed list) workers n some all =
    either (nat_lt n (length list)) (slice_index list n) ((n - length list) % workers) workers (λ e. all n (ltb-true n (length list) e)) (mod_below (n - length list) workers some)
worker_there (Seeded seed) workers n some all =
    either (nat_lt n 100000) (drawn (state_after (suc n) seed) % workers) ((n - 100000) % workers) workers (λ e. mod_below (drawn (state_after (suc n) seed)) workers some) (mod_below (n - 100000) workers some)
