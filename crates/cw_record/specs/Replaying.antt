-- What a check finds of a record whose order is the right one, step by step.
use Rattle.std.specs.Prelude.{List, Option, Some, None, IsSomeAnd}
use Rattle.cw_strand.specs.declared.want.Want.{Want}
use Rattle.cw_tree.specs.declared.conflict.Conflict.{Conflict}
use Rattle.cw_tree.specs.Refusals.{telling}
use Rattle.cw_serial.specs.Machine.{Machine}
use Rattle.cw_job.specs.Room.Strands.{StrandState, strands_of_job}
use Rattle.cw_serial.specs.MachineOf.{machine_of}
use Rattle.cw_record.specs.Records.{job_of_record}
use Rattle.cw_record.specs.declared.record_end.RecordEnd.{RecordEnd}
use Rattle.cw_record.specs.declared.record_end.RecordEnd.TheVariants.{Budget}
use Rattle.cw_record.specs.declared.record.Record.{Record}
use Rattle.cw_record.specs.declared.items.OrderItem.{OrderItem}
use Rattle.cw_record.specs.Items.{items}
use Rattle.cw_record.specs.Replay.{DoesAll, WantsAgain, IsSpent}

-- from machine m on, the items are done, and then a strand that spent its budget is at what was refused
abbrev pub DoesFrom : Record → Machine StrandState → List OrderItem → Type 0
DoesFrom r m is =
    (n : Machine StrandState)
    × DoesAll (strands_of_job (job_of_record r)) r.tree m is n
    × IsSpent (strands_of_job (job_of_record r)) r.tree r.conflicts r.limits.aborts r.end n

abbrev pub ItemsAreDone : Record → Type 0
ItemsAreDone r = DoesFrom r (machine_of (job_of_record r)) (items r.tree r.conflicts r.limits.aborts r.end)

abbrev pub WantsTold : Option Conflict → Option Want → Type 0
WantsTold None w = ⊥
WantsTold (Some c) w = IsSomeAnd w (WantsAgain c)

-- a strand that spent its budget, and wants w, wants what was refused
abbrev pub WantsRefused : Record → RecordEnd → Option Want → Type 0
WantsRefused r (Budget x) w = WantsTold (telling r.tree r.conflicts r.limits.aborts x) w
WantsRefused r e w = Unit {0}
