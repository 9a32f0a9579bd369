-- The steps of one worker through a job, whatever the forks on the way down are, and what it answers.
use Rattle.std.proofs.Common.{◌≡◌, ℕ, ◌<◌, List, [], ◌∷◌, length, refl, ap, sym, ◌∙◌, subst, true}
use Rattle.cw_strand.specs.declared.want.Want.{Want}
use Rattle.cw_strand.specs.declared.want.Want.TheVariants as want
use Rattle.cw_strand.specs.Strands.{Closes, IsDeep, MayWant, is_over, takes_answer}
use Rattle.cw_tree.specs.Nodes.{is_block}
use Rattle.std.specs.Option.{IsSome}
use Rattle.std.specs.Prelude.{All, IfOk, IsTrue, Result, Ok, Err}
use Rattle.cw_base.specs.declared.memory.OutOfMemory.{OutOfMemory}
use Rattle.cw_code.specs.declared.FaultKind.{FaultKind}
use Rattle.cw_tree.specs.declared.access.Entry.{Entry}
use Rattle.cw_tree.specs.Series.{strand_of}
use Rattle.std.proofs.lemmas.List.Elements.{All-head}
use Rattle.cw_job.specs.Jobs.{Job}
use Rattle.cw_job.specs.declared.standing.Standing.{Standing as Written}
use Rattle.cw_job.specs.Room.Strands.{StrandState, IsOf, state_of, strands_of_job}
use Rattle.cw_serial.proofs.Branches.{Branch, on_left, on_right}
use Rattle.cw_job.proofs.Room.Lawful.{deep_of}
use Rattle.cw_serial.specs.InMemory.{begun_after}
use Rattle.cw_serial.proofs.Working.{WorkerState, own_in, reached, after_act, after_fork as worker_after_fork}
use Rattle.cw_record.specs.declared.worker.Branch.{Branch as Held}
use Rattle.cw_record.specs.declared.worker.Branch.TheVariants.{Left, Right}
use Rattle.cw_record.specs.declared.worker.SoleWorker.{SoleWorker}
use Rattle.cw_record.specs.declared.worker.Run.{Run}
use Rattle.cw_record.specs.declared.drawing.Drawing.{Drawing}
use Rattle.cw_record.specs.declared.record_end.RecordEnd.{RecordEnd}
use Rattle.cw_record.specs.OneWorker.{FollowsBlocks, SwitchesStrand, WaitsOnLeft, law_of_worker, unstarted, want_of_worker}
use Rattle.cw_record.proofs.OneWorker.AccessesThere.{AccessesThere}
use Rattle.cw_record.proofs.OneWorker.Acting.{Acted, acts_on, act_leaves_less, end_blocks, follows_there}
use Rattle.cw_record.proofs.OneWorker.Descending.{Descends}
use Rattle.cw_record.proofs.OneWorker.Unstarted.{with_strands}
use Rattle.cw_record.specs.Drawn.{after_fork, after_join, after_start, drawn}
use Rattle.cw_record.specs.Records.{IsWorkerRun}
use Rattle.cw_record.specs.declared.record_end.RecordEnd.TheVariants.{Finished, Fault}
use Rattle.cw_record.proofs.OneWorker.Going.{forks_on, turns_on, joins_on}
use Rattle.cw_record.proofs.OneWorker.GrowingWays.{crossings_there, way_block}
use Rattle.cw_record.proofs.OneWorker.Leaving.{finished_run, fault_run}
use Rattle.cw_record.proofs.OneWorker.Running.{HoldsBranches, crossings, fork_at, Runs, wants_same, left_to_do}

-- the job is still run, and less of it is left
abbrev pub StillRuns : Job → (code new : SoleWorker) → Type 0
StillRuns job code new = ((v : WorkerState StrandState) × Runs job new v) × (left_to_do new < left_to_do code)

-- a worker that can do what its strand wants, behind the blocks that were followed
pub record IsReady (w : SoleWorker) : Type 0 where
  pub there : w.drawing.place < length w.drawing.tree
  pub answered : takes_answer (want_of_worker w) ≡ true
  pub block : want_of_worker w ≡ want.End → IsTrue (is_block w.drawing.tree w.drawing.place)
  pub stands : IsOf w.task.program.now w.strand

module _ {job : Job} {code : SoleWorker} {w : WorkerState StrandState} (r : Runs job code w) where
  -- the same with other branches
  abbrev RunsWith : List (Branch StrandState) → Type 0
  RunsWith bs = Runs job code (let v : WorkerState StrandState = record { memory = w.memory; outputs = w.outputs; branches = bs; forks = w.forks; blocks = w.blocks; since = w.since; strand = w.strand } in v)

  held : (x : Held) (rest : List Held) → code.branches ≡ x ∷ rest → HoldsBranches (x ∷ rest) w.branches
  held x rest was = let P : List Held → Type 0 = λ xs. HoldsBranches xs w.branches in subst P was r.draws.branches

  -- the node of the first fork is there
  first_there : (x : Held) (rest : List Held) → code.branches ≡ x ∷ rest → fork_at x < length code.drawing.tree
  first_there x rest was =
      let n = length code.drawing.tree in
      let all = crossings_there code.drawing.tree code.drawing.place code.drawing.clock r.draws.built (crossings code.branches w.branches) w.blocks w.forks r.draws.place in
      let P : List Held → Type 0 = λ xs. All (λ y. y.node < n) (crossings xs w.branches) in
      by w.branches (held x rest was) (subst P was all) where
        by : (c : List (Branch StrandState)) → HoldsBranches (x ∷ rest) c → All (λ y. y.node < length code.drawing.tree) (crossings (x ∷ rest) c) → fork_at x < length code.drawing.tree
        by [] h all = absurd (none x h) where
          none : (x : Held) → HoldsBranches (x ∷ rest) [] → ⊥
          none (Left f right) h = h
          none (Right f left) h = h
        by (y ∷ c) h all = All-head (λ z. z.node < length code.drawing.tree) _ (crossings rest c) all

  pub first_fork_there : {x y : Held} {rest : List Held} → code.branches ≡ x ∷ rest → x ≡ y → fork_at y < length code.drawing.tree
  first_fork_there {y = y} {rest} was is = first_there y rest (was ∙ ap (λ b. b ∷ rest) is)

  -- where blocks close, and strands want only elements that are there
  module _ (closes : Closes (strands_of_job job)) (there : AccessesThere job) where
    deep : IsDeep (strands_of_job job)
    deep = deep_of job

    -- the blocks can be followed
    pub follow_run : takes_answer (want_of_worker code) ≡ true → IsSome (begun_after (want_of_worker code) 0 code.undo)
    follow_run answered = follows_there job closes there code w r answered

    -- ## A step

    pub act_run : (followed new : SoleWorker) → takes_answer (want_of_worker code) ≡ true → Acted code followed new → StillRuns job code new
    act_run followed new answered acted =
        ((after_act (strands_of_job job) w, acts_on job closes there code followed new w r answered acted), act_leaves_less job closes there deep code followed new w r answered acted)

    pub fork_run : {new : SoleWorker} → SwitchesStrand code new → want_of_worker code ≡ want.Fork → drawn new.drawing ≡ after_fork (drawn code.drawing) → state_of new.strand ≡ (law_of_worker code).left (state_of code.strand)
        → WaitsOnLeft code.branches new.branches (length code.drawing.tree) ((law_of_worker code).right (state_of code.strand)) → StillRuns job code new
    fork_run {new} stays wanted drawing left right =
        let (runs, less) = forks_on job deep closes code new w r stays wanted drawing left right in
        ((worker_after_fork (strands_of_job job) w, runs), less)

    -- from the end of a strand to the branch that was taken
    module _ {x : Held} {rest : List Held} (taken : code.branches ≡ x ∷ rest) {new : SoleWorker} (over : is_over (want_of_worker code) ≡ true) (keeps : SwitchesStrand (record code { branches = rest }) new) where
      stays : SwitchesStrand code new
      stays = record { task = keeps.task; memory = keeps.memory; outputs = keeps.outputs; undo = keeps.undo }

      pub turn_run : {f : ℕ} {right : Written} → x ≡ Left f right → drawn new.drawing ≡ after_start f (drawn code.drawing) → new.strand ≡ right → new.branches ≡ Right f code.strand ∷ rest → StillRuns job code new
      turn_run {f} {right} is drawing strand branches = by w.branches refl (held (Left f right) rest was) where
        was : code.branches ≡ Left f right ∷ rest
        was = taken ∙ ap (λ b. b ∷ rest) is

        by : (c : List (Branch StrandState)) → w.branches ≡ c → HoldsBranches (Left f right ∷ rest) c → StillRuns job code new
        by (on_left k n s ∷ c) e h = turns_on job deep closes code new w.memory w.outputs w.since c k n w.forks w.blocks w.strand over stays f rest right s was (subst RunsWith e r) drawing strand branches
        by _ e h = absurd h

      pub join_run : {f : ℕ} {left : Written} → x ≡ Right f left → drawn new.drawing ≡ after_join f (drawn code.drawing) → new.branches ≡ rest
          → state_of new.strand ≡ (law_of_worker code).joined (state_of code.strand) (state_of left) → StillRuns job code new
      join_run {f} {left} is drawing branches strand = by w.branches refl (held (Right f left) rest was) where
        was : code.branches ≡ Right f left ∷ rest
        was = taken ∙ ap (λ b. b ∷ rest) is

        by : (c : List (Branch StrandState)) → w.branches ≡ c → HoldsBranches (Right f left ∷ rest) c → StillRuns job code new
        by (on_right k n o l ∷ c) e h = joins_on job deep closes code new w.memory w.outputs w.since c k n w.forks w.blocks w.strand over stays f rest left o l was (subst RunsWith e r) drawing branches strand
        by _ e h = absurd h

    -- a block is ended where the place is in it
    pub end_at_block : want_of_worker code ≡ want.End → IsTrue (is_block code.drawing.tree code.drawing.place)
    end_at_block e =
        let wanted : (strands_of_job job).want w.strand ≡ want.End = sym (wants_same job code w r) ∙ e in
        let (n, is) = end_blocks w.branches w.blocks (subst (λ (v : Want). MayWant v (own_in w.branches w.blocks)) wanted (closes _ _ (reached (strands_of_job job) r.work))) in
        let P : ℕ → Type 0 = λ b. Descends code.drawing.tree code.drawing.place (crossings code.branches w.branches) b w.forks in
        way_block code.drawing.tree code.drawing.place (crossings code.branches w.branches) n w.forks (subst P is r.draws.place)

    -- behind the blocks that were followed it is as it was
    pub act_ready : (followed : SoleWorker) → FollowsBlocks code followed → takes_answer (want_of_worker code) ≡ true → IsOf code.task.program.now code.strand → IsReady followed
    act_ready followed follows answered stands =
        let old : IsReady (record code { undo = followed.undo }) = record { there = r.draws.built.there; answered = answered; block = end_at_block; stands = stands } in
        subst IsReady (sym follows.same) old

    -- ## What is answered

    pub finish_answer : is_over (want_of_worker code) ≡ true → code.branches ≡ [] → (run : Run) → run.drawing ≡ code.drawing → run.end ≡ Finished code.memory.items code.outputs.items
        → IsWorkerRun job run.drawing.tree run.drawing.journals.items run.end
    finish_answer over none run drawing end =
        let all = finished_run job closes code w.memory w.outputs w.branches w.forks w.blocks w.since w.strand r over none in
        let D : Drawing → Type 0 = λ d. IsWorkerRun job d.tree d.journals.items (Finished code.memory.items code.outputs.items) in
        let E : RecordEnd → Type 0 = λ e. IsWorkerRun job run.drawing.tree run.drawing.journals.items e in
        subst E (sym end) (subst D (sym drawing) all)

    pub fault_answer : (kind : FaultKind) → want_of_worker code ≡ want.Fault kind → (result : Result Run OutOfMemory)
        → IfOk result (λ x. x.drawing.tree ≡ with_strands code.drawing.tree (unstarted code.branches)) → IfOk result (λ x. x.drawing.journals.items ≡ code.drawing.journals.items)
        → IfOk result (λ x. x.end ≡ Fault (strand_of code.drawing.tree code.drawing.place) kind) → IfOk result (λ x. IsWorkerRun job x.drawing.tree x.drawing.journals.items x.end)
    fault_answer kind is (Ok x) tree journals end =
        let all = fault_run job closes code w r kind is x.drawing.tree tree in
        let J : List (List Entry) → Type 0 = λ es. IsWorkerRun job x.drawing.tree es (Fault (strand_of code.drawing.tree code.drawing.place) kind) in
        let E : RecordEnd → Type 0 = λ e. IsWorkerRun job x.drawing.tree x.drawing.journals.items e in
        subst E (sym end) (subst J (sym journals) all)
    fault_answer kind is (Err e) tree journals end = tt
