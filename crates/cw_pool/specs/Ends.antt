-- When a strand may end, and how the strand that forked goes on behind both its strands.
use Rattle.std.specs.Prelude.{◌≡◌, ℕ, min, true, false, List, map, None}
use Rattle.cw_strand.specs.Strands.{is_over}
use Rattle.cw_job.specs.Jobs.{Job}
use Rattle.cw_job.specs.Room.Strands.{strands_of_job}
use Rattle.cw_log.specs.declared.token.Token.{Token}
use Rattle.cw_log.specs.Tokens.{IsOn, MayMerge, logs, merged}
use Rattle.cw_course.specs.Courses.{Course, Stops, logs_of}
use Rattle.cw_course.specs.Closings.{Ends, bare_log}
use Rattle.cw_body.specs.declared.stage.Stage.TheVariants as stage
use Rattle.cw_body.specs.Bodies.{InBlocks, HasNoBlock, gave_up, joined_body, want_of}
use Rattle.cw_pool.specs.declared.task.Mode.{Mode}
use Rattle.cw_pool.specs.declared.task.Mode.TheVariants as mode
use Rattle.cw_pool.specs.declared.task.Below.{Below}
use Rattle.cw_pool.specs.declared.task.Base.{Base}
use Rattle.cw_pool.specs.Blocks.{begin_at}
use Rattle.cw_pool.specs.Tasks.{IsRunning}

-- the strand has come to its end, or goes back and has no block of its own, or was stopped
abbrev pub MayEnd : Mode → Token → InBlocks → Type 0
MayEnd mode.Goes x body = is_over (want_of body) ≡ true
MayEnd (mode.Dies to) x body = begin_at x.own.nodes x.place ≡ None
MayEnd mode.Stopped x body = Unit {0}
MayEnd mode.Waits x body = ⊥

-- ## Both strands of a fork

abbrev pub dies_beside : (to : ℕ) → Mode → Mode
dies_beside to mode.Stopped = mode.Stopped
dies_beside to (mode.Dies other) = mode.Dies (min to other)
dies_beside to how = mode.Dies to

-- The mode of the strand that forked, given the modes of its two strands. It stops if one of them was stopped. Otherwise, if one
-- died, it goes back to the victim, to the outer one of two: that began first.
abbrev pub mode_of_both : (left right : Mode) → Mode
mode_of_both mode.Stopped right = mode.Stopped
mode_of_both (mode.Dies to) right = dies_beside to right
mode_of_both mode.Goes right = right
mode_of_both mode.Waits right = right

-- what the split of a fork parted may be merged, and is merged, unless a strand was stopped
abbrev pub IsToMerge : (budget : ℕ) → Mode → Token → (fork : ℕ) → Type 0
IsToMerge budget mode.Stopped x fork = Unit {0}
IsToMerge budget how x fork = IsOn budget x × MayMerge x fork

abbrev pub IsMerged : Mode → (x y : Token) → Type 0
IsMerged mode.Stopped x y = y ≡ x
IsMerged how x y = y ≡ merged x

-- a right strand at its end, to whose body the left one's may be joined
pub record MayJoin (job : Job) (right : InBlocks) : Type 0 where
  pub goes : right.stage ≡ stage.Goes
  pub program : right.program ≡ job.program
  pub over : is_over (want_of right) ≡ true
  pub blocks : HasNoBlock right

-- How the strand that forked goes on with this token, which has the logs of both its strands, once its body is made from theirs. If
-- both came to their ends, the bodies are joined. If one died, the right one's body gives up.
abbrev pub IsBehind : {T J : Type 0} → Job → (T → Token) → Mode → Token → (right left : InBlocks) → List (Below T J) → Base T J → Type 0
IsBehind job of mode.Goes x right left bs b = MayJoin job right × IsRunning job of x (joined_body (strands_of_job job) right left) mode.Goes bs b
IsBehind job of (mode.Dies to) x right left bs b = (right.stage ≡ stage.Lost → ⊥) × IsRunning job of x (gave_up right) (mode.Dies to) bs b
IsBehind job of mode.Stopped x right left bs b = IsRunning job of x right mode.Stopped bs b
IsBehind job of mode.Waits x right left bs b = ⊥

-- ## The end of a run

-- The logs of the root's token are what the strands of the job did, from main on: each strand once, and no others. They went to the
-- job's end, or stopped as the token's halt tells, unless the token has learnt of a halt that none of its logs has.
pub record IsWorked (job : Job) (x : Token) : Type 0 where
  pub course : Course
  pub written : map bare_log (logs x) ≡ logs_of course 0 0 0
  pub did : Stops (strands_of_job job) (strands_of_job job).start course
  pub ends : (x.stop ≡ None → x.told ≡ false) → Ends (strands_of_job job) x.stop course
