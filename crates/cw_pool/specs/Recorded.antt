-- What the record of a run is.
use Rattle.std.specs.Prelude.{◌≡◌, false, List, [], length, Option}
use Rattle.cw_strand.specs.Names.{first_memory}
use Rattle.cw_tree.specs.declared.closed.Closed.{Closed}
use Rattle.cw_job.specs.Room.Strands.{strands_of_job}
use Rattle.cw_log.specs.declared.log.Log.{Log}
use Rattle.cw_log.specs.declared.token.Stop.{Stop}
use Rattle.cw_record.specs.declared.record.Record.{Record}
use Rattle.cw_record.specs.Built.{end_left}
use Rattle.cw_record.specs.Order.{order_of}
use Rattle.cw_record.specs.Records.{job_of_record, BlocksEnded, HasEnded, IsCoherentRun, IsDepthFirst, IsReplayed}
use Rattle.cw_course.specs.Closings.{AreWorked, IsClosing, IsPutTogether}
use Rattle.cw_board.specs.Boards.{AreOfCells}

-- A run of one worker has no refusals. Its record is coherent and goes depth first.
pub record IsOfOneWorker (r : Record) : Type 0 where
  pub conflicts : r.conflicts ≡ []
  pub ended : HasEnded r.end
  pub coherent : IsCoherentRun r
  pub depth_first : IsDepthFirst r
  pub replays : IsReplayed r
  pub blocks : BlocksEnded r.tree r.end

-- The record of a run on a board is put together of logs and of one journal for each cell. Apart from their conflicts, the logs are
-- what the strands of the program did, from main on: each strand once, and no others, to its end or to the record's halt. If what
-- was closed is what a closed board owes (`IsClosing`), the record is coherent.
pub record IsOfBoard (r : Record) : Type 0 where
  pub logs : List Log
  pub stop : Option Stop
  pub closed : Closed
  pub worked : AreWorked (strands_of_job (job_of_record r)) logs stop
  pub together : IsPutTogether logs stop closed
  pub tree : r.tree ≡ closed.tree
  pub journals : r.journals ≡ closed.journals
  pub cells : AreOfCells (length (first_memory r.program.cells)) r.journals
  pub conflicts : r.conflicts ≡ closed.conflicts
  pub order : r.order ≡ order_of r.tree r.conflicts r.limits.aborts r.end
  pub end : r.end ≡ end_left (first_memory r.program.cells) r.limits.aborts closed false
  pub coherent : IsClosing (first_memory r.program.cells) r.limits.aborts logs stop closed → IsCoherentRun r
