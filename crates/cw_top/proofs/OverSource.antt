-- A run of what the source spells is a run of its syntax tree.
use Rattle.std.proofs.Common.{ℕ, ℤ, List, length, Option, Some, None, subst}
use Rattle.std.specs.Prelude.{IfSome}
use Rattle.cw_code.specs.declared.Limits.{Limits}
use Rattle.cw_strand.specs.Names.{cells_of, first_memory}
use Rattle.cw_strand.specs.Meaning.{MainTakes, strands_of_syntax}
use Rattle.cw_job.proofs.Room.Lawful.{source_takes}
use Rattle.cw_record.specs.declared.record.Record.{Record}
use Rattle.cw_record.specs.Records.{IsReplayed}
use Rattle.cw_record.specs.Replay.{Replays}
use Rattle.cw_replay.proofs.OverSource.OverSource.{over_source}
use Rattle.cw_text.specs.Syntax.{Declaration}
use Rattle.cw_strand.specs.Programs.{IsProgramOf}
use Rattle.cw_gen.specs.Load.{load_tree}
use Rattle.cw_words.specs.declared.command.Command.{Command}
use Rattle.cw_words.specs.declared.command.Command.TheVariants.{Run, Sim, Load, Keep, Races, Check}
use Rattle.cw_top.specs.Runs.{IsRunBy, IsRunOf}
use Rattle.cw_top.specs.OverSource.{IsRunOfSource, IsRunOfSyntax, IsRunOfDeclarations}
use Rattle.cw_top.specs.Refusals.{Spells, newest_language}
use Rattle.cw_words.specs.Words.{limits_of, words_of}

of_tree : (co : Command) (left : Option (List ℕ)) (ds : List Declaration) (r : Record) → IsProgramOf ds r.program → IsRunBy co left r → IsReplayed r → IsRunOfDeclarations (words_of co) (limits_of co) ds r
of_tree co left ds r is run same =
    let takes : MainTakes ds (length r.words) = source_takes ds r.program is (length r.words) run.takes in
    let replays = (over_source ds r is takes).0 same in
    let P : List ℤ → Limits → Type 0 = λ ws ls. Replays (strands_of_syntax ds ws ls) (first_memory (cells_of ds)) ls.aborts r.tree r.conflicts r.order r.end in
    record {
      named = is.named;
      takes = subst (λ (ws : List ℤ). MainTakes ds (length ws)) run.words takes;
      cells = is.cells;
      replays = subst (P (words_of co)) run.limits (subst (λ ws. P ws r.limits) run.words replays);
    }

of_syntax : (co : Command) (bytes : List ℕ) (r : Record) → Spells (newest_language co) bytes r.program → IsRunBy co (Some bytes) r → IsReplayed r → IsRunOfSyntax (newest_language co) (words_of co) (limits_of co) bytes r
of_syntax co bytes r (source, (spelled, is)) run same = (source, spelled, of_tree co (Some bytes) source.items r is run same)

pub of_source : (command : Option Command) (left : Option (List ℕ)) (kept : Option Record) → IfSome kept (IsRunOf command left) → IfSome kept IsReplayed → IfSome kept (IsRunOfSource command left)
of_source command left None run same = tt
of_source None left (Some r) run same = run
of_source (Some (Run ws ls w p)) None (Some r) run same = tt
of_source (Some (Run ws ls w p)) (Some bytes) (Some r) run same = of_syntax (Run ws ls w p) bytes r run.program run same
of_source (Some (Sim ws ls w s p)) None (Some r) run same = tt
of_source (Some (Sim ws ls w s p)) (Some bytes) (Some r) run same = of_syntax (Sim ws ls w s p) bytes r run.program run same
of_source (Some (Keep ws ls w)) None (Some r) run same = tt
of_source (Some (Keep ws ls w)) (Some bytes) (Some r) run same = of_syntax (Keep ws ls w) bytes r run.program run same
of_source (Some (Races ws ls)) None (Some r) run same = tt
of_source (Some Check) None (Some r) run same = tt
of_source (Some Check) (Some bytes) (Some r) run same = of_syntax Check bytes r run.program run same
of_source (Some (Races ws ls)) (Some bytes) (Some r) run same = of_syntax (Races ws ls) bytes r run.program run same
of_source (Some (Load tr w)) left (Some r) run same = of_tree (Load tr w) left (load_tree tr) r run.program run same
