-- Status 7 of a simulation comes only of a source that has a `spawn`.
use Rattle.std.proofs.Common.{◌≡◌, ℕ, List, Option, Some, None, IfSome, IsSomeAnd}
use Rattle.cw_record.specs.declared.record.Record.{Record}
use Rattle.cw_record.specs.Records.{IsCoherentRun}
use Rattle.cw_replay.proofs.Spawning.ForksSpawned.{forks_need_spawns}
use Rattle.cw_words.specs.declared.command.Command.{Command}
use Rattle.cw_words.specs.declared.command.Command.TheVariants.{Run, Sim, Load, Keep, Races, Check}
use Rattle.cw_top.specs.declared.outcome.Note.{Note}
use Rattle.cw_top.specs.Outcome.{IsStatus}
use Rattle.cw_top.specs.OverSource.{Spawns}
use Rattle.cw_top.specs.Refusals.{Spells}
use Rattle.cw_top.specs.Runs.{IsDoneAs, IsRunOf}
use Rattle.cw_top.specs.Spent.{IsSpentBy, IsSpentOn, SpentItsBudget}
use Rattle.cw_top.proofs.Budgets.{spends}

of_source : (l : ℕ) (left : Option (List ℕ)) (r : Record) → IfSome left (λ bytes. Spells l bytes r.program) → IsCoherentRun r → SpentItsBudget r → IfSome left (Spawns l)
of_source l None r spelled coherent spent = tt
of_source l (Some bytes) r spells coherent spent =
    let (source, (spelled, is)) = spells in
    let (f, fork) = spent.forks in
    (source, spelled, forks_need_spawns source.items r is coherent f fork)

by_kept : (command : Option Command) (left : Option (List ℕ)) (kept : Option Record) → IfSome kept (IsRunOf command left) → IfSome kept (IsDoneAs command) → IsSomeAnd kept (IsSpentBy command) → IsSpentOn command left
by_kept command left None run done spent = absurd spent
by_kept None left (Some r) run done spent = absurd run
by_kept (Some (Run ws ls w p)) left (Some r) run done spent = tt
by_kept (Some (Load tr w)) left (Some r) run done spent = tt
by_kept (Some (Keep ws ls w)) left (Some r) run done spent = tt
by_kept (Some (Races ws ls)) left (Some r) run done spent = spent
by_kept (Some Check) left (Some r) run done spent = spent
by_kept (Some (Sim ws ls w s p)) left (Some r) run done spent = of_source 2 left r run.program done.coherent spent

pub spawned : (command : Option Command) (kept : Option Record) (status : ℕ) (n : Note) (left : Option (List ℕ)) → IsStatus command kept status n → IfSome kept (IsRunOf command left) → IfSome kept (IsDoneAs command) → status ≡ 7 → IsSpentOn command left
spawned command kept status n left is run done seven = by_kept command left kept run done (spends command kept status n left is run done seven)
