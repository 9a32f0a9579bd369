-- What one worker holds in memory, and what its steps do to it.
use Rattle.std.specs.Prelude.{◌≡◌, ℕ, List, [], ◌∷◌, All}
use Rattle.cw_strand.specs.declared.want.Want.{Want}
use Rattle.cw_strand.specs.declared.want.Want.TheVariants.{Cancel}
use Rattle.cw_strand.specs.Strands.{Strands}
use Rattle.cw_serial.specs.Wants.{Since, memory_after, outputs_after}
use Rattle.cw_serial.specs.InMemory.{AreSince, BlocksFollow}
use Rattle.cw_job.specs.Jobs.{job_of_task}
use Rattle.cw_job.specs.Room.Strands.{StrandState, IsOf, state_of, strands_of_job}
use Rattle.cw_code.specs.declared.program.Program.{Program}
use Rattle.cw_record.specs.declared.worker.Branch.{Branch}
use Rattle.cw_record.specs.declared.worker.Branch.TheVariants.{Left, Right}
use Rattle.cw_record.specs.declared.worker.SoleWorker.{SoleWorker}
use Rattle.cw_record.specs.Drawn.{drawn, drawn_after}

-- the law of the strands that the worker runs
abbrev pub law_of_worker : SoleWorker → Strands StrandState
law_of_worker w = strands_of_job (job_of_task w.task)

-- what its running strand wants
abbrev pub want_of_worker : SoleWorker → Want
want_of_worker w = (law_of_worker w).want (state_of w.strand)

-- The worker switches to another strand: its task, memory, outputs and begun blocks stay.
pub record SwitchesStrand (old new : SoleWorker) : Type 0 where
  pub task : new.task ≡ old.task
  pub memory : new.memory ≡ old.memory
  pub outputs : new.outputs ≡ old.outputs
  pub undo : new.undo ≡ old.undo

-- what its begun blocks may put back
abbrev pub MayPutBack : SoleWorker → List Since → Type 0
MayPutBack w since = AreSince w.undo w.memory.items since

-- `since` is that, if its strand gives up its block; no other want looks at it
abbrev pub LooksRight : SoleWorker → List Since → Type 0
LooksRight w since = want_of_worker w ≡ Cancel → MayPutBack w since

-- Only its begun blocks change, with what they may put back: they become those after what its strand wants, all as blocks of strand
-- 0.
pub record FollowsBlocks (old new : SoleWorker) : Type 0 where
  pub same : new ≡ record old { undo = new.undo }
  pub blocks : BlocksFollow (want_of_worker old) 0 old.memory.items old.undo new.undo

-- The worker did what its strand wants, in memory, outputs and drawing. Its task, its begun blocks and its waiting strands stay.
pub record DoesItsWant (old new : SoleWorker) : Type 0 where
  pub task : new.task ≡ old.task
  pub branches : new.branches ≡ old.branches
  pub memory : new.memory.items ≡ memory_after (want_of_worker old) old.memory.items
  pub outputs : new.outputs.items ≡ outputs_after (want_of_worker old) old.outputs.items
  pub undo : new.undo ≡ old.undo
  pub drawing : (since : List Since) → LooksRight old since → drawn new.drawing ≡ drawn_after (want_of_worker old) old.memory.items since (drawn old.drawing)

-- there is one more fork, with this node, whose right strand has this state and has yet to start
abbrev pub WaitsOnLeft : (old new : List Branch) → (node : ℕ) → StrandState → Type 0
WaitsOnLeft old (Left f right ∷ rest) node state = (f ≡ node) × (rest ≡ old) × (state_of right ≡ state)
WaitsOnLeft old new node state = ⊥

-- the nodes of the forks whose right strands have yet to start, innermost first
abbrev pub unstarted : List Branch → List ℕ
unstarted [] = []
unstarted (Left f right ∷ rest) = f ∷ unstarted rest
unstarted (Right f left ∷ rest) = unstarted rest

-- ## Strands of the program

-- the strand that waits in a branch is one of the program
abbrev pub BranchStands : Program → Branch → Type 0
BranchStands p (Left f right) = IsOf p right
BranchStands p (Right f left) = IsOf p left

abbrev pub AllBranchesStand : Program → List Branch → Type 0
AllBranchesStand p branches = All (BranchStands p) branches

-- all strands of the worker are those of its program
pub record AllStand (w : SoleWorker) : Type 0 where
  pub strand : IsOf w.task.program.now w.strand
  pub branches : AllBranchesStand w.task.program.now w.branches
