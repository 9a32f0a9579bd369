-- A record of a compiled program replays over the syntax of its source exactly where it replays over the code.
use Rattle.std.proofs.Common.{◌≡◌, ℕ, List, sym, subst, arith}
use Rattle.cw_code.specs.declared.CellInfo.{CellInfo}
use Rattle.cw_code.specs.declared.instruction.Code.{Code}
use Rattle.cw_strand.specs.Names.{cells_of, first_memory}
use Rattle.cw_strand.specs.Meaning as meaning
use Rattle.cw_strand.specs.Coded as coded
use Rattle.cw_strand.specs.Compilation.{code_of, main_function}
use Rattle.cw_strand.specs.Laws.{IsFaultless, compiled}
use Rattle.cw_strand.proofs.Lawful.{lawful}
use Rattle.cw_strand.proofs.CodeLaws.{code_is_lawful, wants_of_the_source}
use Rattle.cw_job.specs.Room.Strands.{strands_of_job}
use Rattle.cw_record.specs.declared.record.Record.{Record}
use Rattle.cw_record.specs.Replay.{Replays}
use Rattle.cw_replay.specs.OverSource.{RecordsReplayOverSource}
use Rattle.cw_replay.proofs.SameMachines.SameMachines.{same_replays}

module _ (r : Record) where
  -- the record replays over this code, from this function, with these cells
  abbrev OverCode : Code → ℕ → List CellInfo → Type 0
  OverCode code main cells = Replays (coded.strands_of_code code main r.words r.limits) (first_memory cells) r.limits.aborts r.tree r.conflicts r.order r.end

  same_code : (code other_code : Code) (main other_main : ℕ) (cells other_cells : List CellInfo) → code ≡ other_code → main ≡ other_main → cells ≡ other_cells → OverCode code main cells → OverCode other_code other_main other_cells
  same_code code other_code main other_main cells other_cells e f g h =
      subst (OverCode other_code other_main) g (subst (λ m. OverCode other_code m cells) f (subst (λ c. OverCode c main cells) e h))

pub over_source : RecordsReplayOverSource
unfolding strands_of_job
over_source ds r is takes =
    let p = r.program in
    let faultless : IsFaultless ds r.words = record { named = is.named; takes = takes } in
    let (to_code, to_source) = same_replays (meaning.strands_of_syntax ds r.words r.limits) (compiled ds r.words r.limits) (lawful ds r.words r.limits faultless).deep (code_is_lawful ds r.words r.limits faultless).deep
    (wants_of_the_source ds r.words r.limits faultless) (first_memory (cells_of ds)) r.limits.aborts r.tree r.conflicts r.order r.end (omega arith) in (
      λ h. to_source (same_code r p.code (code_of ds) p.main (main_function ds) p.cells (cells_of ds) is.code is.main is.cells h),
      λ h. same_code r (code_of ds) p.code (main_function ds) p.main (cells_of ds) p.cells (sym is.code) (sym is.main) (sym is.cells) (to_code h),
    )
