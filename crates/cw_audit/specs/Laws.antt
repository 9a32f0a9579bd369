-- What the parts say together: parts 1 to 7 are coherence, and part 8 is then about the outputs alone.
use Rattle.std.specs.Prelude.{◌≡◌, ◌↔◌, ℤ, List, None}
use Rattle.cw_text.specs.Syntax.{Source}
use Rattle.cw_strand.specs.Names.{first_memory, naming_fault}
use Rattle.cw_strand.specs.Programs.{IsProgramOf}
use Rattle.cw_strand.specs.Meaning.{strands_of_syntax}
use Rattle.cw_tree.specs.Shape.{IsTree}
use Rattle.cw_tree.specs.Journals.{AreJournals}
use Rattle.cw_record.specs.declared.record.Record.{Record}
use Rattle.cw_record.specs.declared.record_end.RecordEnd.TheVariants.{Finished}
use Rattle.cw_record.specs.Coherent.{IsCoherent, HasOutputs}
use Rattle.cw_record.specs.Order.{order_of}
use Rattle.cw_record.specs.Records.{IsCoherentRecord, HasItsOutputs}
use Rattle.cw_record.specs.Replay.{Replays}
use Rattle.cw_sheet.specs.Contents.{Contents}
use Rattle.cw_audit.specs.declared.findings.Audit.{Audit}
use Rattle.cw_audit.specs.declared.findings.Audit.TheVariants.{Sound, Broken}
use Rattle.cw_audit.specs.Journals.{journals_told}
use Rattle.cw_audit.specs.Parts.{first_values, strands_of_sheet, TakesItsWords, AreInRange}
use Rattle.cw_audit.specs.Audits.{order, PartHolds, HoldBefore, IsAudit}

-- parts 1 to 7 hold
abbrev pub HoldsButOrder : Contents → Type 0
HoldsButOrder c = HoldBefore c 8

-- ## Coherence

-- A sheet tells a coherent run of its program, with the journals that its tree tells. Its words and limits are as they may be.
pub record TellsCoherent (c : Contents) : Type 0 where
  pub words : TakesItsWords c
  pub limits : AreInRange c.limits
  pub coherent : IsCoherent (strands_of_sheet c) (first_values c) c.limits.aborts c.tree (journals_told c.tree (first_values c)) c.conflicts c.end

-- Parts 1 to 7 hold exactly if the sheet tells a coherent run.
abbrev pub PartsAreCoherence : Type 0
PartsAreCoherence = (c : Contents) → IsTree c.tree → HoldsButOrder c ↔ TellsCoherent c

-- ## Records

-- the sheet of a record whose program has this source
abbrev pub sheet_of : Source → Record → Contents
sheet_of source r = record { source = source; words = r.words; limits = r.limits; tree = r.tree; conflicts = r.conflicts; end = r.end }

-- Parts 1 to 7 hold of a record's sheet exactly if the record is coherent and its limits are in range, if its journals are those of its
-- tree.
abbrev pub RecordsByParts : Type 0
RecordsByParts =
    (source : Source) (r : Record) → IsProgramOf source.items r.program → IsTree r.tree → AreJournals r.tree (first_memory r.program.cells) r.journals
    → HoldsButOrder (sheet_of source r) ↔ (IsCoherentRecord r × AreInRange r.limits)

-- The sheet of a coherent record that has its outputs is sound.
abbrev pub CoherentAreSound : Type 0
CoherentAreSound =
    (source : Source) (r : Record) → IsProgramOf source.items r.program → IsCoherentRecord r → HasItsOutputs r → AreInRange r.limits
    → IsAudit (sheet_of source r) Sound

-- ## The order

-- Once parts 1 to 7 hold, part 8 holds exactly if the outputs of a run that finished are those of its output nodes, in its order.
abbrev pub OrderIsOutputs : Type 0
OrderIsOutputs =
    (c : Contents) → IsTree c.tree → naming_fault c.source.items ≡ None → HoldsButOrder c
    → PartHolds c order ↔ HasOutputs c.tree c.conflicts c.limits.aborts c.end

-- A sheet is sound exactly if it tells a coherent run and has the outputs of its output nodes.
abbrev pub SoundIsCoherence : Type 0
SoundIsCoherence =
    (c : Contents) → IsTree c.tree → naming_fault c.source.items ≡ None
    → IsAudit c Sound ↔ (TellsCoherent c × HasOutputs c.tree c.conflicts c.limits.aborts c.end)

-- One memory does all that the sheet says and finishes with the sheet's memory, but with other outputs.
pub record OutputsDiffer (c : Contents) : Type 0 where
  pub memory : List ℤ
  pub outputs : List ℤ
  pub finished : c.end ≡ Finished memory outputs
  -- what one memory puts out
  pub shown : List ℤ
  pub replays : Replays (strands_of_sheet c) (first_values c) c.limits.aborts c.tree c.conflicts (order_of c.tree c.conflicts c.limits.aborts c.end) (Finished memory shown)
  pub differ : outputs ≡ shown → ⊥

-- Part 8 is the first that does not hold only if the outputs differ from those of one memory.
abbrev pub OnlyOutputsBreakOrder : Type 0
OnlyOutputsBreakOrder = (c : Contents) → IsTree c.tree → naming_fault c.source.items ≡ None → IsAudit c (Broken 8) → OutputsDiffer c

-- ## One answer

-- No sheet has two answers.
abbrev pub AuditsAreOne : Type 0
AuditsAreOne = (c : Contents) (a b : Audit) → IsAudit c a → IsAudit c b → a ≡ b

-- ## The source

-- One memory that runs the strands of the source's syntax tree, in the order of a sound sheet, does what the sheet says and ends as it
-- ends.
abbrev pub SoundOverSource : Type 0
SoundOverSource =
    (c : Contents) → naming_fault c.source.items ≡ None → IsAudit c Sound
    → Replays (strands_of_syntax c.source.items c.words c.limits) (first_values c) c.limits.aborts c.tree c.conflicts (order_of c.tree c.conflicts c.limits.aborts c.end) c.end
