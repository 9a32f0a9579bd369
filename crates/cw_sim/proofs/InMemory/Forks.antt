-- A strand forks: what a simulation in memory stands for then.
use Rattle.std.proofs.Common.{◌≡◌, ◌≢◌, ℕ, ◌+◌, ◌<◌, List, length, refl, ap, sym, ◌∙◌, subst, arith, Bool, true, false, cond, Option, Some, None, inl, inr}
use Rattle.std.specs.Prelude.{IsSome, slice_set}
use Rattle.std.proofs.lemmas.Bool.{or_from, false_from_ne_true}
use Rattle.std.proofs.lemmas.List.{length-map, length-set}
use Rattle.cw_strand.specs.declared.want.Want.TheVariants.{Fork}
use Rattle.cw_tree.specs.Shape.{IsTree}
use Rattle.cw_open.specs.Machine.{OpenMachine, finished_dead, is_dying}
use Rattle.cw_open.proofs.Refused.Backed.{dead_finished}
use Rattle.cw_core.specs.declared.event.Event.TheVariants as event
use Rattle.cw_core.specs.declared.event.Reply.{Reply}
use Rattle.cw_core.specs.declared.event.Reply.TheVariants as reply
use Rattle.cw_core.specs.State.{CoreState}
use Rattle.cw_core.specs.Events.{fits, after_event, reply_to, may_fork}
use Rattle.cw_core.specs.Laws.{IsCore}
use Rattle.cw_core.proofs.Events.Going.{well}
use Rattle.cw_core.proofs.Events.Kept.{events}
use Rattle.cw_code.specs.declared.program.Program.{Program}
use Rattle.cw_job.specs.declared.standing.Standing.{Standing}
use Rattle.cw_job.specs.Jobs.{Job, bare_job, job_of_task}
use Rattle.cw_job.specs.Room.Strands.{StrandState, IsOf, state_of, strands_of_job}
use Rattle.cw_job.specs.Room.Saves.{StandsAs}
use Rattle.cw_job.proofs.Room.Backs.{stands_as_it}
use Rattle.cw_job.proofs.Room.Wants.{same_want}
use Rattle.cw_sim.specs.Workers.{Worker, left_node, right_node, changed_at, with_fork, worker_in}
use Rattle.cw_sim.specs.Moves.{fork_strand}
use Rattle.cw_sim.specs.Kept.{CoreGoesOn}
use Rattle.cw_sim.specs.Inside.{goes_back, HasInside}
use Rattle.cw_sim.specs.InMemory.{Seen, law_of, has_body, IsBody, StandsFor, Comes, MayStep, MayFork}
use Rattle.cw_sim.specs.ThingsInMemory.{thing_at, Puts}
use Rattle.cw_sim.specs.WorkersInMemory.{worker_of, workers_of}
use Rattle.cw_sim.specs.declared.worker.WorkerInMemory.{WorkerInMemory}
use Rattle.cw_sim.specs.declared.moves.Driver.{Driver}
use Rattle.cw_sim.proofs.Laws.Fits.{fork_fits}
use Rattle.cw_sim.proofs.InMemory.Sides.{body_stands, stands_body}
use Rattle.cw_sim.proofs.Inside.Forks as inside
use Rattle.cw_sim.proofs.Inside.Moves.{fork_inside}
use Rattle.cw_sim.proofs.Inside.Waits.{going, running_stands}
use Rattle.cw_sim.proofs.InMemory.PutThings.{put_here, put_other, some_here, same_thing}
use Rattle.cw_sim.proofs.Kept.Workers.{set_run}

module _ (c : Driver) (w x : ℕ) (z : Seen) (may : MayFork c w x z) where
  abbrev k : CoreState
  k = z.m.core

  abbrev m : OpenMachine
  m = k.machine

  -- the fork
  abbrev n : ℕ
  n = length m.tree

  -- where its strand stands
  abbrev a : StrandState
  a = z.m.at x

  abbrev left : StrandState
  left = (law_of z).left a

  abbrev right : StrandState
  right = (law_of z).right a

  step : MayStep c x z
  step = may.fork.step

  on : CoreGoesOn m.first k
  on = step.steady.core

  held : StandsFor c z
  held = step.steady.stands

  tree : IsTree m.tree
  tree = (well m.first k on.core).sound.tree

  fit : fits k (event.Fork x) ≡ true
  fit = fork_fits m.first k on x step.running step.ready may.fork.alive

  core : IsCore m.first (after_event k (event.Fork x))
  core = (events m.first k (event.Fork x) on.core fit).1

  -- ## What the calls ask

  pub fits_here : fits c.core (event.Fork x) ≡ true
  fits_here = ap (λ k. fits k (event.Fork x)) held.core ∙ fit

  here : (body : Standing) × (thing_at c.bodies x ≡ Some body) × IsBody z x body
  here = held.bodies x (stands_body k x (running_stands m tree (well m.first k on.core).nested x step.running))

  pub body_there : IsSome (thing_at c.bodies x)
  body_there = some_here (thing_at c.bodies x) here.0 here.1

  lives : goes_back m x ≡ false
  lives = or_from (is_dying m x) (finished_dead m x) may.fork.alive (false_from_ne_true (finished_dead m x) (λ e. absurd (let d = dead_finished m x e in let g = (going m x step.running).unfinished in cc (d, g))))

  program_is : c.task.program.now ≡ z.job.program
  program_is = ap (λ j. j.program) held.job

  -- what was taken is the body of the strand
  module _ (body : Standing) (at : thing_at c.bodies x ≡ Some body) where
    is_body : IsBody z x body
    is_body = let P : Standing → Type 0 = λ b. IsBody z x b in subst P (same_thing (thing_at c.bodies x) here.0 body here.1 at) here.2

    stood : state_of body ≡ a
    stood = is_body.at lives

    pub body_stands_there : IsOf c.task.program.now body
    body_stands_there = let P : Program → Type 0 = λ p. IsOf p body in subst P (sym program_is) is_body.program

    pub body_forks : (strands_of_job (bare_job c.task.program.now)).want (state_of body) ≡ Fork
    body_forks = same_want (bare_job c.task.program.now) z.job (state_of body) ∙ ap (law_of z).want stood ∙ may.fork.wanted

    pub is_left : (b : Standing) → ((job : Job) → job.program ≡ c.task.program.now → state_of b ≡ (strands_of_job job).left (state_of body)) → state_of b ≡ left
    is_left b e = e z.job (sym program_is) ∙ ap (law_of z).left stood

    pub is_right : (b : Standing) → ((job : Job) → job.program ≡ c.task.program.now → state_of b ≡ (strands_of_job job).right (state_of body)) → state_of b ≡ right
    is_right b e = e z.job (sym program_is) ∙ ap (law_of z).right stood

  -- the answer says whether the fork has columns
  forked_by : (b : Bool) (l r f : ℕ) (e : Reply) → e ≡ cond b (reply.Forked l r f) (reply.Inline l r) → ((i j g : ℕ) → e ≡ reply.Forked i j g → b ≡ true) × ((e ≡ reply.Forked l r f → ⊥) → b ≡ false)
  forked_by true l r f e is = (λ i j g q. refl, λ off. absurd (off is))
  forked_by false l r f e is = (λ i j g q. absurd (cc (is, q)), λ off. refl)

  pub columns_by : (e : Reply) → e ≡ reply_to c.core (event.Fork x) → ((i j g : ℕ) → e ≡ reply.Forked i j g → may_fork k ≡ true) × (((i j g : ℕ) → e ≡ reply.Forked i j g → ⊥) → may_fork k ≡ false)
  columns_by e is =
      let by = forked_by (may_fork k) (n + 1) (n + 2) n e (is ∙ ap (λ k. reply_to k (event.Fork x)) held.core) in
      (by.0, λ off. by.1 (off (n + 1) (n + 2) n))

  -- and the worker is among those that are left
  pub workers_there : (ws : List WorkerInMemory) (y : Worker) → workers_of ws ≡ slice_set (workers_of c.workers.items) w y → w < length ws
  workers_there ws y e =
      let low = may.there in
      let same : length ws ≡ length z.m.workers = sym (length-map ws worker_of) ∙ ap length e ∙ length-set (workers_of c.workers.items) w y ∙ ap length held.workers in
      omega arith

  -- ## After the fork

  module _ (new : Driver) (l r : Standing) (task : new.task ≡ c.task) (forked : new.core ≡ after_event c.core (event.Fork x)) (saved : new.saved ≡ c.saved)
      (fork : ℕ) (is_fork : fork ≡ length c.core.machine.tree) (first second : List (Option Standing))
      (takes : Puts c.bodies x None first) (puts_left : Puts first (left_node fork) (Some l) second) (puts_right : Puts second (right_node fork) (Some r) new.bodies)
      (left_at : state_of l ≡ left) (right_at : state_of r ≡ right) (left_of_program : IsOf c.task.program.now l) (right_of_program : IsOf c.task.program.now r) where
    abbrev at : ℕ → StrandState
    at = changed_at (left_node n) left (changed_at (right_node n) right z.m.at)

    abbrev there : ℕ → StrandState
    there = changed_at (left_node n) left (changed_at (right_node n) right z.there)

    abbrev after_it : Seen
    after_it = record z { m = fork_strand (law_of z) w x z.m; there = there }

    fork_is : fork ≡ n
    fork_is = is_fork ∙ ap (λ k. length k.machine.tree) held.core

    -- a new strand
    new_body : (y : ℕ) (b : Standing) (s : StrandState) → state_of b ≡ s → IsOf c.task.program.now b → at y ≡ s → there y ≡ s → IsBody after_it y b
    new_body y b s e stands at_y there_y =
        let P : Program → Type 0 = λ p. IsOf p b in
        let Q : StrandState → Type 0 = λ t. StandsAs (state_of b) t in
        record { program = subst P program_is stands; at = λ f. e ∙ sym at_y; like = subst Q (e ∙ sym there_y) (stands_as_it (state_of b)) }

    -- another strand has the body that it had
    old_body : (y : ℕ) → y < n → (b : Standing) → IsBody z y b → IsBody after_it y b
    old_body y low b h =
        let same = inside.back_old (law_of z) m.first k on x step.running core z.m.at z.m.saved z.there step.steady.inside may.fork.alive may.fork.wanted y in
        let set : (f : ℕ → StrandState) → changed_at (left_node n) left (changed_at (right_node n) right f) y ≡ f y = λ f. inside.set_old (law_of z) m.first k on x step.running core z.m.at z.m.saved z.there step.steady.inside may.fork.alive may.fork.wanted f y low in
        let P : StrandState → Type 0 = λ t. StandsAs (state_of b) t in
        record { program = h.program; at = λ e. h.at (sym same ∙ e) ∙ sym (set z.m.at); like = subst P (sym (set z.there)) h.like }

    old_place : (y : ℕ) → y < n → y ≢ x → thing_at new.bodies y ≡ thing_at c.bodies y
    old_place y low ne =
        put_other second new.bodies (right_node fork) (Some r) puts_right y (λ e. omega (arith, e, low, fork_is))
        ∙ put_other first second (left_node fork) (Some l) puts_left y (λ e. omega (arith, e, low, fork_is))
        ∙ put_other c.bodies first x None takes y ne

    left_place : thing_at new.bodies (left_node n) ≡ Some l
    left_place =
        ap (λ f. thing_at new.bodies (left_node f)) (sym fork_is)
        ∙ put_other second new.bodies (right_node fork) (Some r) puts_right (left_node fork) (λ e. omega (arith, e))
        ∙ put_here first second (left_node fork) (Some l) puts_left

    right_place : thing_at new.bodies (right_node n) ≡ Some r
    right_place = ap (λ f. thing_at new.bodies (right_node f)) (sym fork_is) ∙ put_here second new.bodies (right_node fork) (Some r) puts_right

    set_left : (f : ℕ → StrandState) → changed_at (left_node n) left (changed_at (right_node n) right f) (left_node n) ≡ left
    set_left f = inside.set_left (law_of z) m.first k on x step.running core z.m.at z.m.saved z.there step.steady.inside may.fork.alive may.fork.wanted f

    set_right : (f : ℕ → StrandState) → changed_at (left_node n) left (changed_at (right_node n) right f) (right_node n) ≡ right
    set_right f = inside.set_right (law_of z) m.first k on x step.running core z.m.at z.m.saved z.there step.steady.inside may.fork.alive may.fork.wanted f

    bodies_after : (y : ℕ) → has_body (after_event k (event.Fork x)) y ≡ true → (b : Standing) × (thing_at new.bodies y ≡ Some b) × IsBody after_it y b
    bodies_after y has =
        let st = body_stands (after_event k (event.Fork x)) (well m.first (after_event k (event.Fork x)) core).sound.tree.root y has in
        let P : ℕ → Type 0 = λ v. (b : Standing) × (thing_at new.bodies v ≡ Some b) × IsBody after_it v b in
        elim (inside.which (law_of z) m.first k on x step.running core z.m.at z.m.saved z.there step.steady.inside may.fork.alive may.fork.wanted y st) [
          | inl (low, ne) ↦
              (let was = inside.was (law_of z) m.first k on x step.running core z.m.at z.m.saved z.there step.steady.inside may.fork.alive may.fork.wanted y low ne st in
              let h = held.bodies y (stands_body k y was) in
              (h.0, old_place y low ne ∙ h.1, old_body y low h.0 h.2))
          | inr side ↦ elim side [
            | inl e ↦ subst P (sym e) (l, left_place, new_body (left_node n) l left left_at left_of_program (set_left z.m.at) (set_left z.there))
            | inr e ↦ subst P (sym e) (r, right_place, new_body (right_node n) r right right_at right_of_program (set_right z.m.at) (set_right z.there))
          ]
        ]

    module _ (columns : Bool) (has_columns : columns ≡ may_fork k) (middle : List Worker)
        (forks_in : middle ≡ slice_set (workers_of c.workers.items) w (with_fork columns fork (worker_in (workers_of c.workers.items) w)))
        (runs_in : workers_of new.workers.items ≡ slice_set middle w (record (worker_in middle w) { runs = Some (left_node fork) })) where
      workers_after : workers_of new.workers.items ≡ slice_set z.m.workers w (record (with_fork (may_fork k) n (worker_in z.m.workers w)) { runs = Some (left_node n) })
      workers_after =
          let low : w < length (workers_of c.workers.items) = (let P : List Worker → Type 0 = λ ws. w < length ws in subst P (sym held.workers) may.there) in
          runs_in
          ∙ ap (λ ws. slice_set ws w (record (worker_in ws w) { runs = Some (left_node fork) })) forks_in
          ∙ set_run (workers_of c.workers.items) w (with_fork columns fork (worker_in (workers_of c.workers.items) w)) (Some (left_node fork)) low
          ∙ ap (λ ws. slice_set ws w (record (with_fork columns fork (worker_in ws w)) { runs = Some (left_node fork) })) held.workers
          ∙ ap (λ f. slice_set z.m.workers w (record (with_fork columns f (worker_in z.m.workers w)) { runs = Some (left_node f) })) fork_is
          ∙ ap (λ b. slice_set z.m.workers w (record (with_fork b n (worker_in z.m.workers w)) { runs = Some (left_node n) })) has_columns

      stands_after : StandsFor new after_it
      stands_after = record {
        job = ap job_of_task task ∙ held.job;
        core = forked ∙ ap (λ k. after_event k (event.Fork x)) held.core;
        is_core = core;
        workers = workers_after;
        bodies = bodies_after;
        saved = λ b pending.
            (let old = inside.pending_old (law_of z) m.first k on x step.running core z.m.at z.m.saved z.there step.steady.inside may.fork.alive may.fork.wanted b pending in
            let h = held.saved b old.1 in
            (h.0, ap (λ things. thing_at things b) saved ∙ h.1, h.2));
      }

      inside_after : HasInside (law_of z) (fork_strand (law_of z) w x z.m) there
      inside_after = fork_inside (law_of z) m.first z.m on z.there step.steady.inside x step.running step.ready fit may.fork.alive may.fork.wanted

      -- the two strands stand where they begin, and worker w goes on with the left one
      pub forks_come : Comes new z (fork_strand (law_of z) w x z.m)
      forks_come = (there, (stands_after, inside_after))
