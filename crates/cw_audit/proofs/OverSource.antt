-- A sound sheet replays over the syntax tree of its source.
use Rattle.std.proofs.Common.{◌≡◌, List, [], length, refl}
use Rattle.std.specs.Prelude.{None}
use Rattle.cw_text.specs.Syntax.{Declaration}
use Rattle.cw_code.specs.declared.program.Program.{Program}
use Rattle.cw_compile.proofs.Programs.{is_program}
use Rattle.cw_strand.specs.Names.{naming_fault, cells_of}
use Rattle.cw_strand.specs.Compilation.{code_of, main_function}
use Rattle.cw_strand.specs.Programs.{IsProgramOf}
use Rattle.cw_strand.proofs.Unbroken.Functions.{breaks_no_rule}
use Rattle.cw_job.specs.Room.Strands.{strands_of_job}
use Rattle.cw_job.proofs.Room.Lawful.{source_takes}
use Rattle.cw_record.specs.declared.record.Record.{Record}
use Rattle.cw_record.specs.Order.{order_of}
use Rattle.cw_replay.proofs.OverSource.OverSource.{over_source}
use Rattle.cw_sheet.specs.Contents.{Contents}
use Rattle.cw_audit.specs.Audits.{strands, order}
use Rattle.cw_audit.specs.Laws.{SoundOverSource}

-- the program of a source without a naming fault
program_of : (ds : List Declaration) → naming_fault ds ≡ None → Program
program_of ds named = record { code = code_of ds; cells = cells_of ds; main = main_function ds; sound = breaks_no_rule ds named; whole = ∣ is_program ds named ∣₁ }

program_is : (ds : List Declaration) (named : naming_fault ds ≡ None) → IsProgramOf ds (program_of ds named)
unfolding program_of
program_is ds named = record { named = named; code = refl; cells = refl; main = refl }

-- the record of a sheet, without journals, at which a replay does not look
record_of : (c : Contents) → naming_fault c.source.items ≡ None → Record
record_of c named = record {
  program = program_of c.source.items named;
  words = c.words;
  limits = c.limits;
  tree = c.tree;
  journals = [];
  conflicts = c.conflicts;
  order = order_of c.tree c.conflicts c.limits.aborts c.end;
  end = c.end;
}

pub sound_over_source : SoundOverSource
unfolding program_of record_of strands_of_job
sound_over_source c named a =
    let ds = c.source.items in
    let is = program_is ds named in
    (over_source ds (record_of c named) is (source_takes ds (program_of ds named) is (length c.words) (a strands).words)).0 (a order)
