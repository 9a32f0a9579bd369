-- What a simulation in memory represents, and what its rules require.
use Rattle.std.specs.Prelude.{◌≡◌, ℕ, ℤ, ◌<◌, ◌&&◌, Bool, true, false, not, length, Option, Some, None}
use Rattle.cw_io.specs.declared.schedule.Schedule.{Schedule}
use Rattle.cw_tree.specs.Nodes.{parent_of, is_pending, is_fork, is_strand}
use Rattle.cw_tree.specs.Walks.{has}
use Rattle.cw_strand.specs.Names.{first_memory}
use Rattle.cw_strand.specs.declared.want.Given.{Given}
use Rattle.cw_strand.specs.declared.want.Want.{Want}
use Rattle.cw_strand.specs.declared.want.Want.TheVariants.{Load, Store, End, Fork}
use Rattle.cw_strand.specs.Strands.{Strands}
use Rattle.cw_strand.specs.Saving.{Kept}
use Rattle.cw_open.specs.Machine.{has_finished, waits, is_running, is_dying, in_block}
use Rattle.cw_core.specs.declared.event.Event.TheVariants as event
use Rattle.cw_core.specs.Events.{fits}
use Rattle.cw_core.specs.Laws.{IsCore}
use Rattle.cw_core.specs.State.{CoreState, is_split, waits_for_left}
use Rattle.cw_job.specs.declared.standing.Standing.{Standing}
use Rattle.cw_job.specs.Jobs.{Job, job_of_task}
use Rattle.cw_job.specs.Room.Strands.{StrandState, strands_of_job, state_of, IsOf}
use Rattle.cw_job.specs.Room.Saves.{IsSavedOf, StandsAs}
use Rattle.cw_sim.specs.Workers.{Simulation, left_node, right_node, tree, worker, changed_at, first_simulation}
use Rattle.cw_sim.specs.Moves.{answer_want}
use Rattle.cw_sim.specs.Runs.{simulation_of}
use Rattle.cw_sim.specs.Kept.{is_current, AreWorkers, CoreGoesOn}
use Rattle.cw_sim.specs.HasWants.{HasWants}
use Rattle.cw_sim.specs.Inside.{HasInside, goes_back}
use Rattle.cw_sim.specs.ThingsInMemory.{thing_at}
use Rattle.cw_sim.specs.WorkersInMemory.{workers_of, IsLast}
use Rattle.cw_sim.specs.declared.moves.Driver.{Driver}

-- ## What it represents

-- A simulation of the strands of a job. A strand that goes back does not go on: its body is where it was refused.
pub record Seen : Type 0 where
  pub job : Job
  pub m : Simulation StrandState
  -- the state of each strand's body
  pub there : ℕ → StrandState

abbrev pub law_of : Seen → Strands StrandState
law_of z = strands_of_job z.job

-- a strand has a body while its own fork is not joined, except while it waits for a fork that it made
abbrev pub has_body : CoreState → ℕ → Bool
has_body k x = is_current k x && not (waits k.machine x)

-- This is the body of strand x: it is in the state that `there` says, apart from what it spent and counted. If the strand does not
-- go back, it is the strand itself.
pub record IsBody (z : Seen) (x : ℕ) (body : Standing) : Type 0 where
  pub program : IsOf z.job.program body
  pub at : goes_back z.m.core.machine x ≡ false → state_of body ≡ z.m.at x
  pub like : StandsAs (state_of body) (z.there x)

pub record StandsFor (c : Driver) (z : Seen) : Type 0 where
  pub job : job_of_task c.task ≡ z.job
  pub core : c.core ≡ z.m.core
  pub is_core : IsCore z.m.core.machine.first z.m.core
  pub workers : workers_of c.workers.items ≡ z.m.workers
  pub bodies : (x : ℕ) → has_body z.m.core x ≡ true → (body : Standing) × (thing_at c.bodies x ≡ Some body) × IsBody z x body
  -- for each pending block, what its strand needs to go back to the begin is kept
  pub saved : (b : ℕ) → is_pending (tree z.m) b ≡ true → (kept : Kept) × (thing_at c.saved b ≡ Some kept) × IsSavedOf z.job.program kept (z.m.saved b)

-- the driver now represents simulation m of the same job, and the bodies are somewhere inside their blocks
abbrev pub Comes : Driver → Seen → Simulation StrandState → Type 0
Comes c z m = (there : ℕ → StrandState) × (StandsFor c (record z { m = m; there = there }) × HasInside (law_of z) m there)

-- ## What the rules require

-- between any two events of a move
pub record IsSteady (c : Driver) (z : Seen) : Type 0 where
  pub stands : StandsFor c z
  pub core : CoreGoesOn z.m.core.machine.first z.m.core
  pub inside : HasInside (law_of z) z.m z.there

-- between two moves; worker w is there
pub record MayMove (c : Driver) (w : ℕ) (z : Seen) : Type 0 where
  pub steady : IsSteady c z
  pub there : w < length z.m.workers
  pub workers : AreWorkers z.m.core z.m.workers
  pub wants : HasWants (law_of z) (length z.m.core.machine.first) z.m

-- worker w may take the oldest fork of worker v, which has one
pub record MayTake (c : Driver) (w v : ℕ) (z : Seen) : Type 0 where
  pub may : MayMove c w z
  pub there : v < length z.m.workers
  pub some : 0 < length (worker z.m v).deque

-- ## A strand that runs

-- strand x has this want
abbrev pub Wants : Seen → ℕ → Want → Type 0
Wants z x want = (law_of z).want (z.m.at x) ≡ want

-- the want of an access
abbrev pub access_of : ℕ → Option ℤ → Want
access_of cell None = Load cell
access_of cell (Some value) = Store cell value

-- strand x may make a step
pub record MayStep (c : Driver) (x : ℕ) (z : Seen) : Type 0 where
  pub steady : IsSteady c z
  pub wants : HasWants (law_of z) (length z.m.core.machine.first) z.m
  pub running : is_running z.m.core.machine x ≡ true
  pub ready : waits_for_left z.m.core x ≡ false

-- strand x may do what it wants
pub record MayDo (c : Driver) (x : ℕ) (want : Want) (z : Seen) : Type 0 where
  pub step : MayStep c x z
  pub alive : is_dying z.m.core.machine x ≡ false
  pub wanted : Wants z x want

-- strand x has to roll back its innermost block
pub record MayRoll (c : Driver) (x : ℕ) (z : Seen) : Type 0 where
  pub step : MayStep c x z
  pub dying : is_dying z.m.core.machine x ≡ true
  pub within : in_block z.m.core.machine x ≡ true

-- the want of strand x was met, and its body has yet to be told
pub record MayAnswer (c : Driver) (x : ℕ) (z : Seen) : Type 0 where
  pub stands : StandsFor c z
  pub body : has_body z.m.core x ≡ true
  pub alive : goes_back z.m.core.machine x ≡ false

abbrev pub answered : ℕ → Given → Seen → Seen
answered x given z = record z { m = answer_want (law_of z) x given z.m; there = changed_at x ((law_of z).answer (z.m.at x) given) z.there }

-- worker w runs strand x, which may fork
pub record MayFork (c : Driver) (w x : ℕ) (z : Seen) : Type 0 where
  pub fork : MayDo c x Fork z
  pub there : w < length z.m.workers

-- worker w runs strand x, which has this want
pub record MayAct (c : Driver) (w x : ℕ) (want : Want) (z : Seen) : Type 0 where
  pub may : MayMove c w z
  pub runs : (worker z.m w).runs ≡ Some x
  pub alive : is_dying z.m.core.machine x ≡ false
  pub wanted : Wants z x want

-- worker w runs strand x, which is dying
pub record MayDie (c : Driver) (w x : ℕ) (z : Seen) : Type 0 where
  pub may : MayMove c w z
  pub runs : (worker z.m w).runs ≡ Some x
  pub dying : is_dying z.m.core.machine x ≡ true

-- worker w runs strand x, which has no block to end, and finishes, dead or not
pub record MayFinish (c : Driver) (w x : ℕ) (dead : Bool) (z : Seen) : Type 0 where
  pub may : MayMove c w z
  pub runs : (worker z.m w).runs ≡ Some x
  pub dies : is_dying z.m.core.machine x ≡ dead
  pub over : in_block z.m.core.machine x ≡ false

-- ## A strand that has finished

-- worker w had a strand of fork f, which is not joined yet
pub record MayMeet (c : Driver) (w f : ℕ) (z : Seen) : Type 0 where
  pub steady : IsSteady c z
  pub there : w < length z.m.workers
  pub fork : is_fork (tree z.m) f ≡ true
  pub joined : has z.m.core.machine.joined f ≡ false

-- both strands of fork f have finished
pub record MayJoin (c : Driver) (w f : ℕ) (z : Seen) : Type 0 where
  pub meet : MayMeet c w f z
  pub left : has_finished z.m.core.machine (left_node f) ≡ true
  pub right : has_finished z.m.core.machine (right_node f) ≡ true

-- the left strand has finished dead; so may the right one, which has made no step
pub record IsDead (z : Seen) (f : ℕ) : Type 0 where
  pub left : has_finished z.m.core.machine (left_node f) ≡ true
  pub fits : fits z.m.core (event.Finish (right_node f) true) ≡ true
  pub stays : Wants z (right_node f) End → ⊥

-- the left strand has finished, dead or not, and worker w has yet to start the right one
pub record MayTurn (c : Driver) (w f : ℕ) (dead : Bool) (z : Seen) : Type 0 where
  pub meet : MayMeet c w f z
  pub last : IsLast (worker z.m w) f
  pub died : dead ≡ true → IsDead z f

-- strand x of worker w has finished, dead or not
pub record HasFinished (c : Driver) (w x : ℕ) (dead : Bool) (z : Seen) : Type 0 where
  pub steady : IsSteady c z
  pub there : w < length z.m.workers
  pub strand : is_strand (tree z.m) x ≡ true
  pub meet : 0 < x → MayMeet c w (parent_of (tree z.m) x) z
  pub turn : 0 < x → x ≡ left_node (parent_of (tree z.m) x) → is_split z.m.core (parent_of (tree z.m) x) ≡ false → MayTurn c w (parent_of (tree z.m) x) dead z

-- ## The run

-- before the first move
abbrev pub opened : Job → ℕ → Seen
opened job workers =
    let start = (strands_of_job job).start in
    record { job = job; m = first_simulation (first_memory job.program.cells) job.limits.strands job.limits.aborts workers start; there = λ x. start }

-- the driver represents what the moves of `workers` workers lead to
abbrev pub Ends : Driver → Job → (workers : ℕ) → Schedule → Type 0
Ends c job workers schedule = (there : ℕ → StrandState) × StandsFor c (record { job = job; m = simulation_of job workers schedule; there = there })
