-- The strands of a fork are joined: what a simulation in memory stands for then.
use Rattle.std.proofs.Common.{◌≡◌, ◌≢◌, ℕ, ◌<◌, List, length, refl, ap, sym, ◌∙◌, subst, arith, true, false, Option, Some, None, inl, inr}
use Rattle.std.specs.Prelude.{IsSome, slice_set}
use Rattle.std.proofs.lemmas.Bool.{cases_eq, or_parts}
use Rattle.cw_code.specs.declared.program.Program.{Program}
use Rattle.cw_tree.specs.declared.node.Node.{Node}
use Rattle.cw_tree.specs.Series.{strand_of}
use Rattle.cw_tree.specs.Shape.{IsTree}
use Rattle.cw_open.specs.Machine.{has_finished, finished_dead, is_running, is_dying}
use Rattle.cw_core.specs.declared.event.Event.TheVariants as event
use Rattle.cw_tree.proofs.InOrder.DepthFirst.{IsChild}
use Rattle.cw_core.specs.State.{CoreState}
use Rattle.cw_core.specs.Events.{fits, after_event}
use Rattle.cw_core.proofs.Events.Going.{well}
use Rattle.cw_job.specs.declared.standing.Standing.{Standing}
use Rattle.cw_job.specs.Jobs.{Job, job_of_task}
use Rattle.cw_job.specs.Room.Strands.{StrandState, IsOf, state_of, strands_of_job}
use Rattle.cw_job.specs.Room.Saves.{StandsAs}
use Rattle.cw_job.proofs.Room.Backs.{stands_as_it}
use Rattle.cw_sim.specs.Workers.{left_node, right_node, changed_at, worker_in}
use Rattle.cw_sim.specs.Moves.{join_strands}
use Rattle.cw_sim.specs.Kept.{CoreGoesOn}
use Rattle.cw_sim.specs.Inside.{HasInside}
use Rattle.cw_sim.specs.InMemory.{Seen, law_of, has_body, IsBody, StandsFor, Comes, MayJoin}
use Rattle.cw_sim.specs.ThingsInMemory.{thing_at, Puts}
use Rattle.cw_sim.specs.WorkersInMemory.{workers_of}
use Rattle.cw_sim.specs.declared.moves.Driver.{Driver}
use Rattle.cw_sim.proofs.Laws.Fits.{join_fits}
use Rattle.cw_sim.proofs.Kept.Halves.{left_child, right_child}
use Rattle.cw_sim.proofs.InMemory.Sides.{side_body, side_lives, side_gone, was_body}
use Rattle.cw_sim.proofs.Inside.Kept.{changed_here, changed_other}
use Rattle.cw_sim.proofs.Inside.Moves.{join_inside}
use Rattle.cw_sim.proofs.Kept.Joining.{goes, parent_runs}
use Rattle.cw_sim.proofs.InMemory.PutThings.{put_here, put_other, some_here, same_thing}

module _ (c : Driver) (w f : ℕ) (z : Seen) (may : MayJoin c w f z) where
  abbrev k : CoreState
  k = z.m.core

  abbrev t : List Node
  t = k.machine.tree

  -- the strand that forked
  abbrev p : ℕ
  p = strand_of t f

  -- where it stands once they are joined
  abbrev joined : StrandState
  joined = (law_of z).joined (z.m.at (right_node f)) (z.m.at (left_node f))

  on : CoreGoesOn k.machine.first k
  on = may.meet.steady.core

  held : StandsFor c z
  held = may.meet.steady.stands

  tree : IsTree t
  tree = (well k.machine.first k on.core).sound.tree

  left : IsChild t f (left_node f)
  left = left_child t tree on.forks f may.meet.fork

  right : IsChild t f (right_node f)
  right = right_child t tree on.forks f may.meet.fork

  fit : fits k (event.Join f) ≡ true
  fit = join_fits k.machine.first k on f may.meet.fork may.meet.joined may.left may.right

  -- ## What the calls ask

  pub nodes_there : right_node f < length c.core.machine.tree
  nodes_there = let h = right.there in omega (arith, ap (λ k. length k.machine.tree) held.core)

  -- each of its strands that has finished has a body
  side_has : (y : ℕ) → IsChild t f y → has_finished k.machine y ≡ true → (body : Standing) × (thing_at c.bodies y ≡ Some body) × IsBody z y body
  side_has y child done = held.bodies y (side_body k.machine.first k on f may.meet.fork may.meet.joined y child done)

  pub left_has : IsSome (thing_at c.bodies (left_node f))
  left_has = let b = side_has (left_node f) left may.left in some_here (thing_at c.bodies (left_node f)) b.0 b.1

  -- that of the right one is there still once that of the left one is taken
  right_other : (b : List (Option Standing)) → Puts c.bodies (left_node f) None b → thing_at b (right_node f) ≡ thing_at c.bodies (right_node f)
  right_other b put = put_other c.bodies b (left_node f) None put (right_node f) (λ e. omega (arith, e))

  pub right_has : (b : List (Option Standing)) → Puts c.bodies (left_node f) None b → IsSome (thing_at b (right_node f))
  right_has b put = let h = side_has (right_node f) right may.right in some_here (thing_at b (right_node f)) h.0 (right_other b put ∙ h.1)

  pub fits_here : fits c.core (event.Join f) ≡ true
  fits_here = ap (λ k. fits k (event.Join f)) held.core ∙ fit

  parent_is : (parent : ℕ) → parent ≡ strand_of c.core.machine.tree f → parent ≡ p
  parent_is parent e = e ∙ ap (λ k. strand_of k.machine.tree f) held.core

  core_is : (new : CoreState) → new ≡ after_event c.core (event.Join f) → new ≡ after_event k (event.Join f)
  core_is new e = e ∙ ap (λ k. after_event k (event.Join f)) held.core

  pub parent_running : (new : CoreState) → new ≡ after_event c.core (event.Join f) → (parent : ℕ) → parent ≡ strand_of c.core.machine.tree f → is_running new.machine parent ≡ true
  parent_running new e parent q =
      ap (λ k. is_running k.machine parent) (core_is new e) ∙ ap (is_running (after_event k (event.Join f)).machine) (parent_is parent q)
      ∙ parent_runs k.machine.first k on f may.meet.fork may.meet.joined fit

  -- whether it is dying is as it was before
  pub parent_dying : (new : CoreState) → new ≡ after_event c.core (event.Join f) → (parent : ℕ) → parent ≡ strand_of c.core.machine.tree f → is_dying new.machine parent ≡ is_dying k.machine p
  parent_dying new e parent q = ap (λ k. is_dying k.machine parent) (core_is new e) ∙ ap (is_dying k.machine) (parent_is parent q)

  -- ## The body of the strand that forked

  -- it stands there
  pub record IsParent (body : Standing) : Type 0 where
    pub here : StrandState
    pub program : IsOf z.job.program body
    pub at : is_dying k.machine p ≡ false → state_of body ≡ joined
    pub like : StandsAs (state_of body) here
    pub goes : is_dying k.machine p ≡ true → here ≡ z.there (right_node f)
    pub lives : is_dying k.machine p ≡ false → here ≡ joined

  program_is : c.task.program.now ≡ z.job.program
  program_is = ap (λ j. j.program) held.job

  -- what was taken are the bodies of the two strands
  module _ (a b : Standing) (bodies : List (Option Standing)) (at_left : thing_at c.bodies (left_node f) ≡ Some a) (takes : Puts c.bodies (left_node f) None bodies) (at_right : thing_at bodies (right_node f) ≡ Some b) where
    is_left : IsBody z (left_node f) a
    is_left =
        let h = side_has (left_node f) left may.left in
        let P : Standing → Type 0 = λ x. IsBody z (left_node f) x in
        subst P (same_thing (thing_at c.bodies (left_node f)) h.0 a h.1 at_left) h.2

    is_right : IsBody z (right_node f) b
    is_right =
        let h = side_has (right_node f) right may.right in
        let P : Standing → Type 0 = λ x. IsBody z (right_node f) x in
        subst P (same_thing (thing_at bodies (right_node f)) h.0 b (right_other bodies takes ∙ h.1) at_right) h.2

    pub right_stands : IsOf c.task.program.now b
    right_stands = let P : Program → Type 0 = λ x. IsOf x b in subst P (sym program_is) is_right.program

    -- where it is dying it is the right one's
    pub given_up : is_dying k.machine p ≡ true → IsParent b
    given_up dying = record {
      here = z.there (right_node f);
      program = is_right.program;
      at = λ e. absurd (cc (e, dying));
      like = is_right.like;
      goes = λ e. refl;
      lives = λ e. absurd (cc (e, dying));
    }

    -- and else what the two become
    pub lives_on : (body : Standing) → is_dying k.machine p ≡ false → ((job : Job) → job.program ≡ c.task.program.now → state_of body ≡ (strands_of_job job).joined (state_of b) (state_of a)) → IsOf c.task.program.now body → IsParent body
    lives_on body free is stands =
        let at : state_of body ≡ joined =
        is z.job (sym program_is)
        ∙ ap (λ x. (law_of z).joined x (state_of a)) (is_right.at (side_lives k.machine.first k on f may.meet.fork may.meet.joined (right_node f) right free))
        ∙ ap (λ x. (law_of z).joined (z.m.at (right_node f)) x) (is_left.at (side_lives k.machine.first k on f may.meet.fork may.meet.joined (left_node f) left free)) in
        let P : Program → Type 0 = λ x. IsOf x body in
        let Q : StrandState → Type 0 = λ x. StandsAs x joined in
        record {
          here = joined;
          program = subst P program_is stands;
          at = λ e. at;
          like = subst Q (sym at) (stands_as_it joined);
          goes = λ e. absurd (cc (e, free));
          lives = λ e. refl;
        }

  -- ## After the join

  module _ (new : Driver) (body : Standing) (is : IsParent body) (task : new.task ≡ c.task) (core : new.core ≡ after_event c.core (event.Join f)) (saved : new.saved ≡ c.saved)
      (parent : ℕ) (forked : parent ≡ strand_of c.core.machine.tree f) (first second : List (Option Standing))
      (takes_left : Puts c.bodies (left_node f) None first) (takes_right : Puts first (right_node f) None second) (puts : Puts second parent (Some body) new.bodies)
      (workers : workers_of new.workers.items ≡ slice_set (workers_of c.workers.items) w (record (worker_in (workers_of c.workers.items) w) { runs = Some parent })) where
    abbrev there : ℕ → StrandState
    there = changed_at p is.here z.there

    abbrev after_it : Seen
    after_it = record z { m = join_strands (law_of z) w f z.m; there = there }

    parent_body : IsBody after_it p body
    parent_body =
        let P : StrandState → Type 0 = λ x. StandsAs (state_of body) x in
        record {
          program = is.program;
          at = λ e. is.at (or_parts (is_dying k.machine p) (finished_dead k.machine p) e).0 ∙ sym (changed_here p joined z.m.at);
          like = subst P (sym (changed_here p is.here z.there)) is.like;
        }

    -- another strand has the body that it had
    same_body : (x : ℕ) → x ≢ p → (b : Standing) → IsBody z x b → IsBody after_it x b
    same_body x ne b h =
        let P : StrandState → Type 0 = λ a. StandsAs (state_of b) a in
        record {
          program = h.program;
          at = λ e. h.at e ∙ sym (changed_other p joined z.m.at x ne);
          like = subst P (sym (changed_other p is.here z.there x ne)) h.like;
        }

    same_place : (x : ℕ) → x ≢ p → has_body (after_event k (event.Join f)) x ≡ true → thing_at new.bodies x ≡ thing_at c.bodies x
    same_place x ne has =
        let off : (y : ℕ) → IsChild t f y → x ≢ y = λ y child e. side_gone k.machine.first k on f may.meet.fork may.meet.joined y child (sym (ap (has_body (after_event k (event.Join f))) e) ∙ has) in
        put_other second new.bodies parent (Some body) puts x (λ e. ne (e ∙ parent_is parent forked))
        ∙ put_other first second (right_node f) None takes_right x (off (right_node f) right)
        ∙ put_other c.bodies first (left_node f) None takes_left x (off (left_node f) left)

    bodies_after : (x : ℕ) → has_body (after_event k (event.Join f)) x ≡ true → (b : Standing) × (thing_at new.bodies x ≡ Some b) × IsBody after_it x b
    bodies_after x has = elim (cases_eq x p) [
      | inl e ↦
          (let P : ℕ → Type 0 = λ x. (b : Standing) × (thing_at new.bodies x ≡ Some b) × IsBody after_it x b in
          subst P (sym e) (body, ap (thing_at new.bodies) (sym (parent_is parent forked)) ∙ put_here second new.bodies parent (Some body) puts, parent_body))
      | inr ne ↦
          (let h = held.bodies x (was_body k.machine.first k on f may.meet.fork may.meet.joined x ne has) in
          (h.0, same_place x ne has ∙ h.1, same_body x ne h.0 h.2))
    ]

    stands_after : StandsFor new after_it
    stands_after = record {
      job = ap job_of_task task ∙ held.job;
      core = core_is new.core core;
      is_core = (goes k.machine.first k on f may.meet.fork may.meet.joined fit).core;
      workers = workers ∙ ap (λ ws. slice_set ws w (record (worker_in ws w) { runs = Some parent })) held.workers
          ∙ ap (λ x. slice_set z.m.workers w (record (worker_in z.m.workers w) { runs = Some x })) (parent_is parent forked);
      bodies = bodies_after;
      saved = λ b pending. (let h = held.saved b pending in (h.0, ap (λ things. thing_at things b) saved ∙ h.1, h.2));
    }

    inside_after : HasInside (law_of z) (join_strands (law_of z) w f z.m) there
    inside_after = join_inside (law_of z) k.machine.first z.m on z.there may.meet.steady.inside f may.meet.fork may.meet.joined may.right is.here is.goes is.lives

    -- they are joined, and worker w goes on with the strand that forked
    pub joins_come : Comes new z (join_strands (law_of z) w f z.m)
    joins_come = (there, (stands_after, inside_after))
