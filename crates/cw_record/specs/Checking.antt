-- What a check of a record says: it agrees exactly if the record replays, and otherwise tells what differs first between the kept end
-- and the end of the replay: a cell, an output, or the ends themselves.
use Rattle.std.specs.Prelude.{◌≡◌, ℕ, ℤ, pos, ◌==◌, not, List, length, zip, Option, Some, None, option_map, option_and_then, unwrap_or, if◌then◌else◌}
use Rattle.std.specs.List.{position_from}
use Rattle.std.specs.Ordering.{int_eq}
use Rattle.std.specs.Option.{option_or, option_map_or}
use Rattle.cw_strand.specs.Names.{first_memory}
use Rattle.cw_serial.specs.declared.ends.SerialEnd.{SerialEnd}
use Rattle.cw_serial.specs.declared.ends.SerialEnd.TheVariants as last
use Rattle.cw_job.specs.Memory.{value_at}
use Rattle.cw_serial.specs.MachineOf.{end_under}
use Rattle.cw_record.specs.declared.record_end.RecordEnd.{RecordEnd}
use Rattle.cw_record.specs.declared.record_end.RecordEnd.TheVariants.{Finished, Fault, Budget, Moves}
use Rattle.cw_record.specs.declared.record.Record.{Record}
use Rattle.cw_record.specs.declared.disagreement.Disagreement.{Disagreement}
use Rattle.cw_record.specs.declared.disagreement.Disagreement.TheVariants.{Cell, Output, End}
use Rattle.cw_record.specs.declared.disagreement.EndKind.{EndKind}
use Rattle.cw_record.specs.declared.disagreement.EndKind.TheVariants as kind
use Rattle.cw_record.specs.declared.checking.Checked.{Checked}
use Rattle.cw_record.specs.declared.checking.Checked.TheVariants.{Agrees, Disagree}
use Rattle.cw_record.specs.Records.{IsReplayed, job_of_record}

-- the first position at which two lists differ, among those that both have
abbrev pub first_difference : (kept replayed : List ℤ) → Option ℕ
first_difference kept replayed = position_from (λ x. not (int_eq x.0 x.1)) 0 (zip kept replayed)

-- the first cell at which the memories of two finished ends differ, with its values
abbrev pub differing_cell : RecordEnd → SerialEnd → Option Disagreement
differing_cell (Finished memory outputs) (last.Finished values shown) =
    option_map (λ i. Cell i (value_at memory i) (value_at values i)) (first_difference memory values)
differing_cell kept e = None

-- the first place at which the outputs of two finished ends differ, with the outputs there
abbrev pub differing_output : RecordEnd → SerialEnd → Option Disagreement
differing_output (Finished memory outputs) (last.Finished values shown) =
    option_map (λ i. Output i (value_at outputs i) (value_at shown i)) (first_difference outputs shown)
differing_output kept e = None

-- the variant of an end
abbrev pub end_kind : RecordEnd → EndKind
end_kind (Finished memory outputs) = kind.Finished
end_kind (Fault strand k) = kind.Fault
end_kind (Budget strand) = kind.Budget
end_kind Moves = kind.Moves

-- the number of a variant, in the order of the variants
abbrev pub end_number : EndKind → ℕ
end_number kind.Finished = 0
end_number kind.Fault = 1
end_number kind.Budget = 2
end_number kind.Moves = 3

-- the variant of a record's end that means the same; none if a pick was stuck
abbrev pub replayed_kind : SerialEnd → Option EndKind
replayed_kind (last.Finished memory outputs) = Some kind.Finished
replayed_kind (last.Fault name k) = Some kind.Fault
replayed_kind (last.At name) = Some kind.Budget
replayed_kind (last.Stuck place) = None

-- the variant of the replay's end if it is another than that of the kept end
abbrev pub other_than : (kept replayed : EndKind) → Option EndKind
other_than kept replayed = if end_number kept == end_number replayed then None else Some replayed

-- The variant of the replay's end if it tells something. It tells nothing if it is that of the kept end, or if the moves were used up.
abbrev pub other_kind : RecordEnd → SerialEnd → Option EndKind
other_kind Moves e = None
other_kind kept e = option_and_then (other_than (end_kind kept)) (replayed_kind e)

-- what differs first between the kept end and the end of the replay: a cell, otherwise an output, otherwise the ends
abbrev pub first_disagreement : RecordEnd → SerialEnd → Disagreement
first_disagreement kept e = unwrap_or (option_or (differing_cell kept e) (differing_output kept e)) (End (end_kind kept) (other_kind kept e))

-- The answer that tells a disagreement in three numbers, for a memory of `cells` cells. If no cell differs, the first is the number
-- of cells. If the variant of the replay's end tells nothing, the last is 4, the number of no variant.
abbrev pub answer_of : (cells : ℕ) → Disagreement → Checked
answer_of cells (Cell cell kept replayed) = Disagree cell kept replayed
answer_of cells (Output place kept replayed) = Disagree cells kept replayed
answer_of cells (End kept replayed) = Disagree cells (pos (end_number kept)) (option_map_or (λ k. pos (end_number k)) replayed (pos 4))

-- what a check may say of a record
abbrev pub IsCheckOf : Record → Checked → Type 0
IsCheckOf r Agrees = IsReplayed r
IsCheckOf r (Disagree cell kept replayed) =
    (IsReplayed r → ⊥) × (Disagree cell kept replayed ≡ answer_of (length (first_memory r.program.cells)) (first_disagreement r.end (end_under (job_of_record r) r.order)))
