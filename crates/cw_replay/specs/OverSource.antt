-- Records of compiled programs, over the syntax of their sources.
use Rattle.std.specs.Prelude.{◌↔◌, ℕ, IsTrue, List, length}
use Rattle.cw_text.specs.Syntax.{Declaration}
use Rattle.cw_strand.specs.Names.{cells_of, first_memory}
use Rattle.cw_strand.specs.Meaning.{MainTakes, strands_of_syntax}
use Rattle.cw_strand.specs.Programs.{IsProgramOf}
use Rattle.cw_tree.specs.Nodes.{is_fork}
use Rattle.cw_record.specs.declared.record.Record.{Record}
use Rattle.cw_record.specs.Replay.{Replays}
use Rattle.cw_record.specs.Records.{IsCoherentRun, IsReplayed}
use Rattle.cw_replay.specs.Spawning.{any_spawns}

-- One memory that runs the strands of this syntax tree, in the order of the record, does what the record says, and ends as it ends.
abbrev pub IsReplayedOver : List Declaration → Record → Type 0
IsReplayedOver ds r = Replays (strands_of_syntax ds r.words r.limits) (first_memory (cells_of ds)) r.limits.aborts r.tree r.conflicts r.order r.end

-- If its program is the compilation of a syntax tree, and it has as many words as main has parameters there, a record replays over
-- the code exactly if it replays over the tree.
abbrev pub RecordsReplayOverSource : Type 0
RecordsReplayOverSource = (ds : List Declaration) (r : Record) → IsProgramOf ds r.program → MainTakes ds (length r.words) → IsReplayed r ↔ IsReplayedOver ds r

-- A coherent record of a compiled program has a fork only if the source has a `spawn`.
abbrev pub ForksNeedSpawns : Type 0
ForksNeedSpawns = (ds : List Declaration) (r : Record) → IsProgramOf ds r.program → IsCoherentRun r → (f : ℕ) → IsTrue (is_fork r.tree f) → IsTrue (any_spawns ds)
