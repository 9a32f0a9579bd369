-- What goes from thread to thread, and what threads share: a type at a time, since a search that goes down through all of them runs out of
-- steps.
use denote.RattleType.{RattleType}
use denote.Ref.{NamedLft}
use denote.Param.Send.{IsSend, IsSync, sendable}
use Rattle.std.proofs.Crossing.{crosses}
use Rattle.std.proofs.sync.OnceLock.TheSendSync as once
use Rattle.cw_base.proofs.stack.Stack.TheSendSync as stack
use Rattle.cw_code.proofs.program.Program.TheSendSync as program
use Rattle.cw_strand.proofs.strand.saving.Saved.TheSendSync as saved
use Rattle.cw_job.proofs.standing.Standing.TheSendSync as standing
use Rattle.cw_deck.proofs.deck.Deck.TheSendSync as deck
use Rattle.cw_deck.proofs.deck.Thief.TheSendSync as thief
use Rattle.cw_pair.proofs.pairs.Half.TheSendSync as half
use Rattle.cw_pair.proofs.pairs.Pairs.TheSendSync as pairs
use Rattle.cw_pair.proofs.pairs.Source.TheSendSync as source
use Rattle.cw_pair.specs.declared.pairs.TableName as TableName
use Rattle.cw_body.specs.contracts.begin.Begin as Begin
use Rattle.cw_body.specs.contracts.body.Body as Body
use Rattle.cw_body.specs.contracts.body.Body.TheInside as InBody
use Rattle.cw_log.specs.declared.board.SharedBoard as SharedBoard
use Rattle.cw_pool.specs.declared.naming.RunName as RunName
use Rattle.cw_pool.specs.contracts.task.Below as Below
use Rattle.cw_pool.specs.contracts.task.Base as Base
use Rattle.cw_pool.specs.contracts.task.Running as Running
use Rattle.cw_pool.specs.contracts.boxes.Room as Room
use Rattle.cw_pool.specs.contracts.boxes.Boxes as Boxes
use Rattle.cw_pool.specs.contracts.frames.Row as Row
use Rattle.cw_pool.specs.contracts.frames.Frames as Frames
use Rattle.cw_pool.specs.contracts.scene.Scene as Scene
use Rattle.cw_pool.specs.contracts.worker.Worker as Worker
use Rattle.cw_pool.specs.contracts.worker.Common as Common
use Rattle.cw_pool.proofs.task.Mode.TheSendSync as mode
use Rattle.cw_pool.proofs.last.Ended.TheSendSync as ended

-- ## A body

begin_send : IsSend Begin.the_field.row
begin_send = search (crosses, sendable, saved.the_send) depth 20

in_body_send : IsSend InBody.the_row
in_body_send = search (crosses, sendable, stack.the_send, standing.the_field_send, begin_send) depth 20

body_row_send : IsSend Body.the_row
body_row_send = let a = in_body_send in search sendable depth 20

body_send : IsSend Body.the_field.row
body_send = let a = body_row_send in search sendable depth 20

-- ## Parts of a task

module _ (B J T : RattleType) (b : SharedBoard.Ghosts B.Denot T.Denot) (j : RunName.Ghosts J.Denot) (p : TableName.Ghosts J.Denot) (token : IsSend T) where
  below_send : IsSend (Below.the_field T J p).row
  below_send = let c = body_send in search (crosses, sendable, half.the_send) depth 20

  base_send : IsSend (Base.the_field T J p).row
  base_send = search (crosses, sendable, half.the_send) depth 20

  running_send : IsSend (Running.the_field B J T b j p).row
  running_send = let w = below_send in let l = base_send in let c = body_send in search (crosses, sendable, mode.the_field_send) depth 20

  room_send : IsSend (Room.the_field B J T b j p).row
  room_send = let r = running_send in search (crosses, sendable) depth 20

  -- ## A worker, and what all workers share

  boxes_send : IsSend (Boxes.the_field B J T b j p).row
  boxes_send = let r = room_send in search (crosses, sendable, deck.the_send) depth 20

  pub worker_send : IsSend (Worker.the_field B J T b j p).row
  worker_send = let r = room_send in let x = boxes_send in search (crosses, sendable, thief.the_send, source.the_send) depth 20

  row_send : IsSend (Row.the_field B J T b j p).row
  row_send = let r = room_send in search (crosses, sendable) depth 20

  row_sync : IsSync (Row.the_field B J T b j p).row
  row_sync = let r = room_send in search (crosses, sendable) depth 20

  frames_sync : IsSync (Frames.the_field B J T b j p).row
  frames_sync = let x = row_sync in let y = row_send in search (crosses, sendable, once.the_sync) depth 20

  scene_sync : (a : NamedLft) → IsSync B → IsSync (Scene.the_field a B J T b j p).row
  scene_sync a board = search (crosses, sendable, pairs.the_field_sync, program.the_field_sync) depth 20

  pub common_sync : (a : NamedLft) (G : RattleType) → IsSync B → IsSync G → IsSync (Common.the_field a B J G T b j p).row
  common_sync a G board gate = let f = frames_sync in let x = scene_sync a board in search (crosses, sendable, ended.the_send) depth 20
