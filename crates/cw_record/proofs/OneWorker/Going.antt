-- A worker goes from strand to strand.
use Rattle.std.proofs.Common.{◌≡◌, ℕ, ℤ, suc, ◌+◌, ◌<◌, ◌≤◌, List, [], ◌∷◌, length, refl, ap, sym, ◌∙◌, subst, arith, true, false}
use Rattle.std.specs.Prelude.{All}
use Rattle.cw_strand.specs.declared.want.Want.TheVariants as want
use Rattle.cw_strand.specs.Names.{first_memory}
use Rattle.cw_strand.specs.Strands.{Closes, IsDeep, is_over}
use Rattle.cw_tree.specs.declared.node.Node.{Node}
use Rattle.cw_tree.specs.declared.node.Kind.TheVariants.{Strand, Fork}
use Rattle.cw_tree.specs.Nodes.{parent_of, is_fork, fresh_node}
use Rattle.cw_tree.proofs.NextNodes.Growing.{rooted_more, length_more, number_grown, number_new}
use Rattle.cw_job.specs.Jobs.{Job, job_of_task}
use Rattle.cw_job.specs.declared.standing.Standing.{Standing as Written}
use Rattle.cw_serial.specs.declared.undo.Undo.{Undo}
use Rattle.cw_serial.specs.InMemory.{AreSince}
use Rattle.cw_serial.specs.Machine.{Machine}
use Rattle.cw_job.specs.Room.Strands.{StrandState, state_of, strands_of_job}
use Rattle.cw_serial.specs.MachineOf.{machine_of}
use Rattle.cw_serial.proofs.Branches.{Branch, on_left, on_right}
use Rattle.cw_serial.proofs.Weights.{weight, weight_falls, weight_le}
use Rattle.cw_serial.specs.Wants.{Since}
use Rattle.cw_serial.proofs.Working.{WorkerState, machine_at, IsAtWork, after_fork as worker_after_fork, forks_off, fork_stays, none_begun, after_turn, turns_right, turn_stays, after_join as worker_after_join, joins_up, join_stays}
use Rattle.cw_record.specs.declared.items.OrderItem.{OrderItem}
use Rattle.cw_record.specs.declared.worker.Branch.{Branch as Held}
use Rattle.cw_record.specs.declared.worker.Branch.TheVariants.{Left, Right}
use Rattle.cw_record.specs.declared.worker.SoleWorker.{SoleWorker}
use Rattle.cw_record.specs.Drawn.{added, after_fork, after_join, after_start, drawn, added_fork}
use Rattle.cw_record.specs.OneWorker.{SwitchesStrand, WaitsOnLeft, law_of_worker, unstarted, want_of_worker}
use Rattle.cw_record.proofs.OneWorker.Building.{IsBuilt, open_items}
use Rattle.cw_record.proofs.OneWorker.Descending.{Descends, Crossing}
use Rattle.cw_record.proofs.OneWorker.Doers.{doers_beside, doers_forked}
use Rattle.cw_record.proofs.OneWorker.GrowingItems.{fork_built, fork_items, turn_built, turn_items, join_built, join_items}
use Rattle.cw_record.proofs.OneWorker.GrowingCancels.{cancels_plain}
use Rattle.cw_record.proofs.OneWorker.GrowingJournals.{has_beside, has_forked, same_more}
use Rattle.cw_record.proofs.OneWorker.GrowingWays.{way_fork, way_turn, way_join, crossed_some, crossed_there, crossed_parent, crossed_strand, crossed_fork}
use Rattle.cw_record.proofs.OneWorker.KeptCells.{fits_more}
use Rattle.cw_record.proofs.OneWorker.KnownStates.{Known}
use Rattle.cw_record.proofs.OneWorker.EndStates.{states_turn, states_join}
use Rattle.cw_record.proofs.OneWorker.StepStates.{states_fork}
use Rattle.cw_tree.specs.Series.{children}
use Rattle.cw_record.proofs.OneWorker.Later.{rising_forked, rising_strand}
use Rattle.cw_record.proofs.OneWorker.NoneAborted.{not_aborted}
use Rattle.cw_record.proofs.OneWorker.PuttingBack.{Keeps, keeps_forked, keeps_turned}
use Rattle.cw_record.proofs.OneWorker.Playing.{SameDoers, Plays, plays_kept}
use Rattle.cw_record.proofs.OneWorker.Running.{Draws, HoldsBranches, Runs, crossings, draws_by, wants_same, law_same, left_to_do, weights}
use Rattle.cw_record.proofs.OneWorker.Shaped.{IsShaped, shaped_strand, shaped_forked}
use Rattle.cw_record.proofs.OneWorker.Stamped.{stamped_strand, stamped_forked}

module _ (job : Job) where
  -- the worker in memory, from what was drawn
  runs_from : (code new : SoleWorker) (w u : WorkerState StrandState) → Runs job code w → SwitchesStrand code new → u.memory ≡ w.memory → u.outputs ≡ w.outputs → u.since ≡ w.since → IsAtWork (strands_of_job job) u → state_of new.strand ≡ u.strand
      → Draws job (drawn new.drawing) new.branches u → Runs job new u
  runs_from code new w u r stays memory outputs since work strand draws = record {
    job_is = ap job_of_task stays.task ∙ r.job_is;
    memory = ap (λ v. v.items) stays.memory ∙ (r.memory ∙ sym memory);
    outputs = ap (λ v. v.items) stays.outputs ∙ (r.outputs ∙ sym outputs);
    undo = (
        let U : Undo → Type 0 = λ undo. AreSince undo new.memory.items u.since in
        let M : List ℤ → Type 0 = λ memory. AreSince code.undo memory u.since in
        let S : List Since → Type 0 = λ xs. AreSince code.undo code.memory.items xs in
        subst U (sym stays.undo) (subst M (sym (ap (λ v. v.items) stays.memory)) (subst S (sym since) r.undo)));
    one_strand = (let U : Undo → Type 0 = λ undo. All (λ b. b.strand ≡ 0) undo.begun in subst U (sym stays.undo) r.one_strand);
    strand = strand;
    work = work;
    draws = draws;
  }

  -- the machine that was played to is the same one
  same_played : (t u : List Node) (m n : Machine StrandState) (is js : List OrderItem) → SameDoers t u → js ≡ is → n ≡ m → Plays (strands_of_job job) t (machine_of job) is m → Plays (strands_of_job job) u (machine_of job) js n
  same_played t u m n is js same items machine h =
      let P : List OrderItem → Type 0 = λ xs. Plays (strands_of_job job) u (machine_of job) xs n in
      let Q : Machine StrandState → Type 0 = λ x. Plays (strands_of_job job) u (machine_of job) is x in
      subst P (sym items) (subst Q (sym machine) (plays_kept (strands_of_job job) t u same (machine_of job) m is h))

  module _ (deep : IsDeep (strands_of_job job)) (closes : Closes (strands_of_job job)) where
    -- ## A fork

    fork_drawn : (code : SoleWorker) (w : WorkerState StrandState) (r : Runs job code w) → (f : (strands_of_job job).want w.strand ≡ want.Fork) → (right : Written) → state_of right ≡ (strands_of_job job).right w.strand
        → Draws job (record (after_fork (drawn code.drawing)) { place = suc (length code.drawing.tree) }) (Left (length code.drawing.tree) right ∷ code.branches) (worker_after_fork (strands_of_job job) w)
    fork_drawn code w r f right stands =
        let t = code.drawing.tree in
        let at = code.drawing.place in
        let st = code.drawing.clock + 1 in
        let later : code.drawing.clock < st = omega arith in
        record {
          built = fork_built t at code.drawing.clock r.draws.built st later;
          shape = shaped_forked t (unstarted code.branches) r.draws.shape at r.draws.built.there r.draws.built.place st;
          stamps = stamped_forked t at code.drawing.clock r.draws.built r.draws.stamps st later;
          rising = rising_forked t at code.drawing.clock r.draws.built r.draws.rising st later (rooted_more t (fresh_node at Fork st) r.draws.built.rooted r.draws.built.there);
          cells = fits_more (added t at Fork st) (length (first_memory job.program.cells)) (fits_more t (length (first_memory job.program.cells)) r.draws.cells at Fork st refl) (length t) Strand 0 refl;
          branches = (stands, r.draws.branches);
          place = way_fork t at code.drawing.clock r.draws.built st (crossings code.branches w.branches) w.blocks w.forks r.draws.place;
          journals = has_forked t at code.drawing.clock r.draws.built (first_memory job.program.cells) w.memory code.drawing.journals.items r.draws.journals st;
          cancels = (
              let none = not_aborted t at code.drawing.clock r.draws.built in
              let u = added t at Fork st in
              let once = cancels_plain t r.draws.built.rooted none (first_memory job.program.cells) r.draws.cancels at Fork st (λ c. refl) (λ back e. absurd (cc e)) in
              cancels_plain u (rooted_more t (fresh_node at Fork st) r.draws.built.rooted r.draws.built.there) (same_more t none at Fork st).none_too (first_memory job.program.cells) once (length t) Strand 0 (λ c. refl) (λ back e. absurd (cc e)));
          since = keeps_forked t at code.drawing.clock r.draws.built (first_memory job.program.cells) (crossings code.branches w.branches) w.blocks w.forks r.draws.place w.since r.draws.since st
              (number_grown (added t at Fork st) (fresh_node (length t) Strand 0 ∷ []) (λ x. x.parent) (length t) (omega (arith, length_more t (fresh_node at Fork st))) ∙ number_new t (fresh_node at Fork st) (λ x. x.parent));
          states = states_fork (strands_of_job job) t at code.drawing.clock r.draws.built code.branches w.strand r.draws.states.0 r.draws.states.1 st f right stands;
          played = same_played t (added_fork t at st) (machine_at (strands_of_job job) w) (machine_at (strands_of_job job) (worker_after_fork (strands_of_job job) w)) (open_items t at) _ (doers_forked t at code.drawing.clock r.draws.built st)
              (fork_items t at code.drawing.clock r.draws.built st later) (fork_stays (strands_of_job job) closes deep w f) r.draws.played;
        }

    forked_branches : (old new : List Held) (n : ℕ) (state : StrandState) → WaitsOnLeft old new n state → (right : Written) × (new ≡ Left n right ∷ old) × (state_of right ≡ state)
    forked_branches old (Left f right ∷ rest) n state h = (right, ap (λ g. Left g right ∷ rest) h.0 ∙ ap (λ xs. Left n right ∷ xs) h.1, h.2)
    forked_branches old _ n state h = absurd h

    fork_leaves_less : (code new : SoleWorker) (w : WorkerState StrandState) → Runs job code w → SwitchesStrand code new → (strands_of_job job).want w.strand ≡ want.Fork → (right : Written) (n : ℕ) → new.branches ≡ Left n right ∷ code.branches
        → state_of new.strand ≡ (strands_of_job job).left w.strand → state_of right ≡ (strands_of_job job).right w.strand → left_to_do new < left_to_do code
    fork_leaves_less code new w r stays f right n is left goes =
        let s = strands_of_job job in
        let same : law_of_worker code ≡ s = law_same job code w r in
        let now : law_of_worker new ≡ s = ap (λ i. strands_of_job (job_of_task i)) stays.task ∙ same in
        let falls = weight_falls (s.depth (s.left w.strand)) (s.depth (s.right w.strand)) (s.depth w.strand) (deep.left w.strand f) (deep.right w.strand f) in
        let todo : left_to_do new ≡ weight (s.depth (s.left w.strand)) + (weight (s.depth (s.right w.strand)) + 2 + weights s code.branches) = (rw (now, is, left, goes) refl) in
        let was : left_to_do code ≡ weight (s.depth w.strand) + weights s code.branches = ap (λ l. weight (l.depth (state_of code.strand)) + weights l code.branches) same ∙ ap (λ a. weight (s.depth a) + weights s code.branches) r.strand in
        omega arith

    pub forks_on : (code new : SoleWorker) (w : WorkerState StrandState) (r : Runs job code w) → SwitchesStrand code new → want_of_worker code ≡ want.Fork → drawn new.drawing ≡ after_fork (drawn code.drawing) → state_of new.strand ≡ (law_of_worker code).left (state_of code.strand)
        → WaitsOnLeft code.branches new.branches (length code.drawing.tree) ((law_of_worker code).right (state_of code.strand)) → Runs job new (worker_after_fork (strands_of_job job) w) × (left_to_do new < left_to_do code)
    forks_on code new w r stays f drawing left right =
        let s = strands_of_job job in
        let (other, is, stands) = forked_branches code.branches new.branches (length code.drawing.tree) _ right in
        let wanted : s.want w.strand ≡ want.Fork = sym (wants_same job code w r) ∙ f in
        let goes_left : state_of new.strand ≡ s.left w.strand = left ∙ (ap (λ l. l.left (state_of code.strand)) (law_same job code w r) ∙ ap s.left r.strand) in
        let goes_right : state_of other ≡ s.right w.strand = stands ∙ (ap (λ l. l.right (state_of code.strand)) (law_same job code w r) ∙ ap s.right r.strand) in
        let next : length code.drawing.tree + 1 ≡ suc (length code.drawing.tree) = omega arith in
        let placed = drawing ∙ ap (λ p. record (after_fork (drawn code.drawing)) { place = p }) next in (
          runs_from code new w (worker_after_fork s w) r stays refl refl refl (forks_off s closes w r.work wanted) goes_left (draws_by placed is (fork_drawn code w r wanted other goes_right)),
          fork_leaves_less code new w r stays wanted other (length code.drawing.tree) is goes_left goes_right,
        )

    -- ## The end of a strand

    module _ (code new : SoleWorker) (memory outputs : List ℤ) (since : List Since) (c : List (Branch StrandState)) (k n m b : ℕ) (a : StrandState) (over : is_over (want_of_worker code) ≡ true) (stays : SwitchesStrand code new) (f : ℕ) (rest : List Held) where
      is_at_end : (w : WorkerState StrandState) → Runs job code w → is_over ((strands_of_job job).want w.strand) ≡ true
      is_at_end w r = ap is_over (sym (wants_same job code w r)) ∙ over

      now_law : (w : WorkerState StrandState) → Runs job code w → law_of_worker new ≡ strands_of_job job
      now_law w r = ap (λ i. strands_of_job (job_of_task i)) stays.task ∙ law_same job code w r

      pub turns_on : (right : Written) (r : StrandState) → code.branches ≡ Left f right ∷ rest
          → Runs job code (let w : WorkerState StrandState = record { memory = memory; outputs = outputs; branches = on_left k n r ∷ c; forks = m; blocks = b; since = since; strand = a } in w)
          → drawn new.drawing ≡ after_start f (drawn code.drawing) → new.strand ≡ right → new.branches ≡ Right f code.strand ∷ rest
          → ((w : WorkerState StrandState) × Runs job new w) × (left_to_do new < left_to_do code)
      turns_on right r was h drawing strand branches =
          let t = code.drawing.tree in
          let at = code.drawing.place in
          let x : WorkerState StrandState = record { memory = memory; outputs = outputs; branches = on_left k n r ∷ c; forks = m; blocks = b; since = since; strand = a } in
          let o = is_at_end x h in
          let u = after_turn (strands_of_job job) closes memory outputs since c k n m b a o r in
          let cross : Crossing = record { node = f; turn = record { fork = k; right = false }; blocks = n } in
          let held : HoldsBranches (Left f right ∷ rest) (on_left k n r ∷ c) = (let P : List Held → Type 0 = λ xs. HoldsBranches xs (on_left k n r ∷ c) in subst P was h.draws.branches) in
          let none : b ≡ 0 = none_begun (strands_of_job job) closes x h.work o in
          let down : Descends t at (cross ∷ crossings rest c) 0 m =
          (let P : List Held → Type 0 = λ xs. Descends t at (crossings xs (on_left k n r ∷ c)) b m in
          let Q : ℕ → Type 0 = λ j. Descends t at (cross ∷ crossings rest c) j m in
          subst Q none (subst P was h.draws.place)) in
          let kept : Keeps t (first_memory job.program.cells) at (cross ∷ crossings rest c) 0 since =
          (let P : List Held → Type 0 = λ xs. Keeps t (first_memory job.program.cells) at (crossings xs (on_left k n r ∷ c)) b since in
          let Q : ℕ → Type 0 = λ j. Keeps t (first_memory job.program.cells) at (cross ∷ crossings rest c) j since in
          subst Q none (subst P was h.draws.since)) in
          let up : parent_of t at ≡ f = crossed_parent t at code.drawing.clock h.draws.built cross (crossings rest c) m down in
          let on_strand = crossed_strand t at code.drawing.clock h.draws.built cross (crossings rest c) m down in
          let at_fork = crossed_fork t at code.drawing.clock h.draws.built cross (crossings rest c) m down in
          let there : f < length t = crossed_there t at code.drawing.clock h.draws.built cross (crossings rest c) m down in
          let I : ℕ → Type 0 = λ g. IsBuilt (added t g Strand 0) (length t) code.drawing.clock in
          let O : ℕ → Type 0 = λ g. open_items (added t g Strand 0) (length t) ≡ open_items t at in
          let F : List Held → Type 0 = λ xs. IsShaped t (unstarted xs) in
          let KN : List Held → Type 0 = λ xs. Known (strands_of_job job) t at xs a in
          let known : Known (strands_of_job job) t at (Left f right ∷ rest) a = subst KN was h.draws.states in
          let KT : StrandState → Type 0 = λ y. Known (strands_of_job job) (added t f Strand 0) (length t) (Right f code.strand ∷ rest) y in
          let draws : Draws job (after_start f (drawn code.drawing)) (Right f code.strand ∷ rest) u = record {
            built = subst I up (turn_built t at code.drawing.clock h.draws.built on_strand at_fork);
            shape = shaped_strand t f (unstarted rest) (subst F was h.draws.shape);
            stamps = stamped_strand t h.draws.built.rooted h.draws.stamps f there;
            rising = rising_strand t h.draws.built.rooted h.draws.rising f;
            cells = fits_more t (length (first_memory job.program.cells)) h.draws.cells f Strand 0 refl;
            branches = (h.strand, held.1);
            place = way_turn t at code.drawing.clock h.draws.built cross (crossings rest c) m down;
            journals = has_beside t at code.drawing.clock h.draws.built (first_memory job.program.cells) memory code.drawing.journals.items h.draws.journals f Strand 0 (λ e. refl);
            cancels = cancels_plain t h.draws.built.rooted (not_aborted t at code.drawing.clock h.draws.built) (first_memory job.program.cells) h.draws.cancels f Strand 0 (λ e. refl) (λ back e. absurd (cc e));
            since = keeps_turned t at code.drawing.clock h.draws.built (first_memory job.program.cells) cross (crossings rest c) m down since kept;
            states = subst KT held.0 (states_turn (strands_of_job job) t at code.drawing.clock h.draws.built f rest a known.0 on_strand (ap (is_fork t) (sym up) ∙ at_fork) (crossed_some t at code.drawing.clock h.draws.built cross (crossings rest c) m down) up o right code.strand known.1 h.strand);
            played = same_played t (added t f Strand 0) (machine_at (strands_of_job job) x) (machine_at (strands_of_job job) u) (open_items t at) (open_items (added t f Strand 0) (length t)) (doers_beside t h.draws.built.rooted f Strand 0 there refl)
                (subst O up (turn_items t at code.drawing.clock h.draws.built on_strand at_fork)) (turn_stays (strands_of_job job) closes memory outputs since c k n m b a o r h.work) h.draws.played;
          } in
          let same = law_same job code x h in
          let now = now_law x h in
          let s = strands_of_job job in
          let todo : left_to_do new ≡ weight (s.depth (state_of right)) + (1 + weights s rest) = (rw (now, strand, branches) refl) in
          let left : left_to_do code ≡ weight (s.depth (state_of code.strand)) + (weight (s.depth (state_of right)) + 2 + weights s rest) = (rw (same, was) refl) in (
            (
              u,
              runs_from code new x u h stays refl refl refl (turns_right (strands_of_job job) closes memory outputs since c k n m b a o r h.work) (ap state_of strand ∙ held.0)
                  (draws_by drawing branches draws),
            ),
            omega arith,
          )

      pub joins_on : (left : Written) (o : ℕ) (l : StrandState) → code.branches ≡ Right f left ∷ rest
          → Runs job code (let w : WorkerState StrandState = record { memory = memory; outputs = outputs; branches = on_right k n o l ∷ c; forks = m; blocks = b; since = since; strand = a } in w)
          → drawn new.drawing ≡ after_join f (drawn code.drawing) → new.branches ≡ rest
          → state_of new.strand ≡ (law_of_worker code).joined (state_of code.strand) (state_of left)
          → ((w : WorkerState StrandState) × Runs job new w) × (left_to_do new < left_to_do code)
      joins_on left o l was h drawing branches strand =
          let t = code.drawing.tree in
          let at = code.drawing.place in
          let x : WorkerState StrandState = record { memory = memory; outputs = outputs; branches = on_right k n o l ∷ c; forks = m; blocks = b; since = since; strand = a } in
          let v = is_at_end x h in
          let u = worker_after_join (strands_of_job job) closes memory outputs since c k n m b a v l in
          let cross : Crossing = record { node = f; turn = record { fork = k; right = true }; blocks = n } in
          let held : HoldsBranches (Right f left ∷ rest) (on_right k n o l ∷ c) = (let P : List Held → Type 0 = λ xs. HoldsBranches xs (on_right k n o l ∷ c) in subst P was h.draws.branches) in
          let none : b ≡ 0 = none_begun (strands_of_job job) closes x h.work v in
          let down : Descends t at (cross ∷ crossings rest c) 0 m =
          (let P : List Held → Type 0 = λ xs. Descends t at (crossings xs (on_right k n o l ∷ c)) b m in
          let Q : ℕ → Type 0 = λ j. Descends t at (cross ∷ crossings rest c) j m in
          subst Q none (subst P was h.draws.place)) in
          let up : parent_of t at ≡ f = crossed_parent t at code.drawing.clock h.draws.built cross (crossings rest c) m down in
          let on_strand = crossed_strand t at code.drawing.clock h.draws.built cross (crossings rest c) m down in
          let at_fork = crossed_fork t at code.drawing.clock h.draws.built cross (crossings rest c) m down in
          let kept : Keeps t (first_memory job.program.cells) at (cross ∷ crossings rest c) 0 since =
          (let P : List Held → Type 0 = λ xs. Keeps t (first_memory job.program.cells) at (crossings xs (on_right k n o l ∷ c)) b since in
          let Q : ℕ → Type 0 = λ j. Keeps t (first_memory job.program.cells) at (cross ∷ crossings rest c) j since in
          subst Q none (subst P was h.draws.since)) in
          let I : ℕ → Type 0 = λ g. IsBuilt t (parent_of t g) code.drawing.clock in
          let O : ℕ → Type 0 = λ g. open_items t (parent_of t g) ≡ open_items t at in
          let F : List Held → Type 0 = λ xs. IsShaped t (unstarted xs) in
          let s = strands_of_job job in
          let same = law_same job code x h in
          let now = now_law x h in
          let becomes : state_of new.strand ≡ s.joined a l =
          strand ∙ (ap (λ y. y.joined (state_of code.strand) (state_of left)) same ∙ (ap (λ y. s.joined y (state_of left)) h.strand ∙ ap (s.joined a) held.0)) in
          let low = weight_le (s.depth (s.joined a l)) (s.depth a) (deep.joined a l) in
          let todo : left_to_do new ≡ weight (s.depth (s.joined a l)) + weights s rest = (rw (now, becomes, branches) refl) in
          let before : left_to_do code ≡ weight (s.depth a) + (1 + weights s rest) = (rw (same, was, h.strand) refl) in
          let KN : List Held → Type 0 = λ xs. Known (strands_of_job job) t at xs a in
          let known : Known (strands_of_job job) t at (Right f left ∷ rest) a = subst KN was h.draws.states in
          let few : (g : ℕ) → is_fork t g ≡ true → length (children t g) ≤ 2 = (λ g e. (let two = h.draws.shape.forks g e in omega arith)) in
          let KJ : StrandState → Type 0 = λ y. Known (strands_of_job job) t (parent_of t f) rest ((strands_of_job job).joined a y) in
          let draws : Draws job (after_join f (drawn code.drawing)) rest u = record {
            built = subst I up (join_built t at code.drawing.clock h.draws.built on_strand at_fork);
            shape = subst F was h.draws.shape;
            stamps = h.draws.stamps;
            rising = h.draws.rising;
            cells = h.draws.cells;
            branches = held.1;
            place = way_join t at code.drawing.clock h.draws.built cross (crossings rest c) m down;
            journals = h.draws.journals;
            cancels = h.draws.cancels;
            since = kept;
            states = subst KJ held.0 (states_join (strands_of_job job) t at code.drawing.clock h.draws.built f rest a known.0 on_strand (ap (is_fork t) (sym up) ∙ at_fork) (crossed_some t at code.drawing.clock h.draws.built cross (crossings rest c) m down) up v left known.1 (few f (ap (is_fork t) (sym up) ∙ at_fork)));
            played = same_played t t (machine_at (strands_of_job job) x) (machine_at (strands_of_job job) u) (open_items t at) (open_items t (parent_of t f)) (record { longer = omega arith; doers = λ i j. refl; kinds = λ i j. refl })
                (subst O up (join_items t at code.drawing.clock h.draws.built on_strand at_fork)) (join_stays (strands_of_job job) closes memory outputs since c k n m b a v o l h.work) h.draws.played;
          } in (
            (
              u,
              runs_from code new x u h stays refl refl refl (joins_up (strands_of_job job) closes memory outputs since c k n m b a v o l h.work) becomes
                  (draws_by drawing branches draws),
            ),
            omega arith,
          )
