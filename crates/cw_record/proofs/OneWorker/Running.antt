-- One worker in memory goes depth first through a run, and draws its tree.
use Rattle.std.proofs.Common.{◌≡◌, ℕ, ◌+◌, List, [], ◌∷◌, ◌++◌, length, refl, ap, sym, ◌∙◌, subst}
use Rattle.std.specs.Prelude.{All}
use Rattle.cw_strand.specs.Names.{first_memory}
use Rattle.cw_strand.specs.Strands.{Strands}
use Rattle.cw_tree.specs.Series.{strand_of}
use Rattle.cw_tree.specs.Names.{name_of}
use Rattle.cw_tree.specs.Shape.{AreStamps}
use Rattle.cw_tree.specs.Cancels.{AreCancels}
use Rattle.cw_tree.specs.Journals.{FitsCells}
use Rattle.cw_tree.proofs.ChainLaws.CellJournals.{HasJournals}
use Rattle.cw_job.specs.Jobs.{Job, job_of_task}
use Rattle.cw_job.specs.Room.Strands.{StrandState, state_of, strands_of_job}
use Rattle.cw_serial.specs.InMemory.{AreSince}
use Rattle.cw_serial.specs.MachineOf.{machine_of}
use Rattle.cw_serial.proofs.Branches.{Branch, on_left, on_right, turn_at, blocks_at, way}
use Rattle.cw_serial.proofs.Working.{WorkerState, machine_at, IsAtWork}
use Rattle.cw_record.specs.declared.worker.Branch.{Branch as Held}
use Rattle.cw_record.specs.declared.worker.Branch.TheVariants.{Left, Right}
use Rattle.cw_record.specs.declared.worker.SoleWorker.{SoleWorker}
use Rattle.cw_record.specs.Drawn.{Drawn, drawn}
use Rattle.cw_record.specs.OneWorker.{law_of_worker, unstarted, want_of_worker}
use Rattle.cw_record.proofs.OneWorker.Building.{IsBuilt, open_items}
use Rattle.cw_record.proofs.OneWorker.Descending.{Crossing, way_of, Descends}
use Rattle.cw_record.proofs.OneWorker.GrowingWays.{strand_down}
use Rattle.cw_record.proofs.OneWorker.KnownStates.{Known}
use Rattle.cw_record.proofs.OneWorker.Later.{IsRising}
use Rattle.cw_record.proofs.OneWorker.Playing.{Plays}
use Rattle.cw_record.proofs.OneWorker.PuttingBack.{Keeps}
use Rattle.cw_record.proofs.OneWorker.Shaped.{IsShaped}
use Rattle.cw_serial.proofs.Weights.{weight}

-- the strands that wait on the way down, in memory, are these
abbrev pub HoldsBranches : List Held → List (Branch StrandState) → Type 0
HoldsBranches [] [] = Unit {0}
HoldsBranches (Left f right ∷ xs) (on_left k b r ∷ c) = (state_of right ≡ r) × HoldsBranches xs c
HoldsBranches (Right f left ∷ xs) (on_right k b n l ∷ c) = (state_of left ≡ l) × HoldsBranches xs c
HoldsBranches xs c = ⊥

abbrev pub fork_at : Held → ℕ
fork_at (Left f right) = f
fork_at (Right f left) = f

-- the forks on the way, with their nodes
abbrev pub crossings : List Held → List (Branch StrandState) → List Crossing
crossings (x ∷ xs) (y ∷ c) = record { node = fork_at x; turn = turn_at y; blocks = blocks_at y } ∷ crossings xs c
crossings xs c = []

pub way_is : (xs : List Held) (c : List (Branch StrandState)) → HoldsBranches xs c → way_of (crossings xs c) ≡ way c
way_is [] [] h = refl
way_is (Left f right ∷ xs) (on_left k b r ∷ c) h = ap (λ p. p ++ turn_at (on_left k b r) ∷ []) (way_is xs c h.1)
way_is (Right f left ∷ xs) (on_right k b n l ∷ c) h = ap (λ p. p ++ turn_at (on_right k b n l) ∷ []) (way_is xs c h.1)
way_is _ _ h = absurd h

-- how much is left of strands that are still to come, and how many forks are on the way
abbrev pub weights : Strands StrandState → List Held → ℕ
weights s [] = 0
weights s (Left f right ∷ xs) = weight (s.depth (state_of right)) + 2 + weights s xs
weights s (Right f left ∷ xs) = 1 + weights s xs

abbrev pub left_to_do : SoleWorker → ℕ
left_to_do w = weight ((law_of_worker w).depth (state_of w.strand)) + weights (law_of_worker w) w.branches

-- What is drawn is this run so far, where the strands on the way down are these.
pub record Draws (job : Job) (d : Drawn) (xs : List Held) (w : WorkerState StrandState) : Type 0 where
  pub built : IsBuilt d.tree d.place d.clock
  pub shape : IsShaped d.tree (unstarted xs)
  pub stamps : AreStamps d.tree
  pub rising : IsRising d.tree
  pub cells : FitsCells d.tree (length (first_memory job.program.cells))
  pub branches : HoldsBranches xs w.branches
  pub place : Descends d.tree d.place (crossings xs w.branches) w.blocks w.forks
  pub journals : HasJournals d.tree (first_memory job.program.cells) w.memory d.journals
  pub cancels : AreCancels d.tree (first_memory job.program.cells)
  pub since : Keeps d.tree (first_memory job.program.cells) d.place (crossings xs w.branches) w.blocks w.since
  pub states : Known (strands_of_job job) d.tree d.place xs w.strand
  pub played : Plays (strands_of_job job) d.tree (machine_of job) (open_items d.tree d.place) (machine_at (strands_of_job job) w)

-- the same, by equations
pub draws_by : {job : Job} {d e : Drawn} {xs ys : List Held} {w : WorkerState StrandState} → e ≡ d → ys ≡ xs → Draws job d xs w → Draws job e ys w
draws_by {job} {d} {e} {xs} {ys} {w} drawing branches h =
    let D : Drawn → Type 0 = λ x. Draws job x xs w in
    let B : List Held → Type 0 = λ x. Draws job e x w in
    subst B (sym branches) (subst D (sym drawing) h)

-- The worker in memory is this one, and what it drew is the run so far.
pub record Runs (job : Job) (code : SoleWorker) (w : WorkerState StrandState) : Type 0 where
  pub job_is : job_of_task code.task ≡ job
  pub memory : code.memory.items ≡ w.memory
  pub outputs : code.outputs.items ≡ w.outputs
  -- its begun blocks are recorded as those of strand 0
  pub undo : AreSince code.undo code.memory.items w.since
  pub one_strand : All (λ b. b.strand ≡ 0) code.undo.begun
  pub strand : state_of code.strand ≡ w.strand
  pub work : IsAtWork (strands_of_job job) w
  pub draws : Draws job (drawn code.drawing) code.branches w

-- the strand that is run has the name of the way to it
pub runs_name : (job : Job) (code : SoleWorker) (w : WorkerState StrandState) → Runs job code w → name_of code.drawing.tree (strand_of code.drawing.tree code.drawing.place) ≡ way w.branches
runs_name job code w r = (strand_down code.drawing.tree code.drawing.place code.drawing.clock r.draws.built (crossings code.branches w.branches) w.blocks w.forks r.draws.place).0 ∙ way_is code.branches w.branches r.draws.branches

module _ (job : Job) (code : SoleWorker) (w : WorkerState StrandState) (r : Runs job code w) where
  -- the strand in memory wants what this one wants
  pub wants_same : want_of_worker code ≡ (strands_of_job job).want w.strand
  wants_same = ap (λ j. (strands_of_job j).want (state_of code.strand)) r.job_is ∙ ap (strands_of_job job).want r.strand

  pub law_same : law_of_worker code ≡ strands_of_job job
  law_same = ap strands_of_job r.job_is
