-- The left strand of a fork that was not split has finished: what comes of its right one.
use Rattle.std.proofs.Common.{◌≡◌, ℕ, ap, sym, ◌∙◌, subst, arith, Bool, true, false, Some, nat_eq}
use Rattle.std.specs.Prelude.{slice_set}
use Rattle.std.proofs.lemmas.Bool.{or_right}
use Rattle.std.proofs.lemmas.List.{length-set}
use Rattle.cw_open.specs.Machine.{has_finished}
use Rattle.cw_core.specs.declared.event.Event.TheVariants as event
use Rattle.cw_core.specs.State.{CoreState}
use Rattle.cw_core.specs.Events.{after_event}
use Rattle.cw_sim.specs.Workers.{left_node, right_node, worker, worker_in}
use Rattle.cw_sim.specs.Moves.{does, takes_back, join_strands, go_to_right}
use Rattle.cw_sim.specs.InMemory.{Seen, law_of, Comes, IsSteady, MayJoin, MayTurn}
use Rattle.cw_sim.specs.WorkersInMemory.{workers_of, without_waiting}
use Rattle.cw_sim.specs.declared.moves.Driver.{Driver}
use Rattle.cw_sim.proofs.InMemory.Finished.{finish_done, finish_steady}
use Rattle.cw_sim.proofs.InMemory.Working.{run_stands, back_stands}

module _ (c : Driver) (w f : ℕ) (dead : Bool) (z : Seen) (may : MayTurn c w f dead z) (took : Driver)
    (takes : workers_of took.workers.items ≡ slice_set (workers_of c.workers.items) w (without_waiting f (worker_in (workers_of c.workers.items) w))) where
  abbrev k : CoreState
  k = z.m.core

  abbrev back : Driver
  back = record c { workers = took.workers }

  abbrev y : Seen
  y = record z { m = takes_back w f z.m }

  back_steady : IsSteady back y
  back_steady = record { stands = back_stands c z may.meet.steady.stands took w f takes; core = may.meet.steady.core; inside = may.meet.steady.inside }

  -- a live one: the worker goes on with the right one
  pub turned : dead ≡ false → (new : Driver) → workers_of new.workers.items ≡ slice_set (workers_of took.workers.items) w (record (worker_in (workers_of took.workers.items) w) { runs = Some (right_node f) })
      → Comes (record c { workers = new.workers }) z (go_to_right (law_of z) w f dead z.m)
  turned e new workers =
      let P : Bool → Type 0 = λ b. Comes (record c { workers = new.workers }) z (go_to_right (law_of z) w f b z.m) in
      subst P (sym e) (z.there, (run_stands back y back_steady.stands new w (Some (right_node f)) workers, may.meet.steady.inside))

  -- a dead one: the right one finishes dead, too
  module _ (is : dead ≡ true) where
    abbrev x : Seen
    x = record y { m = does (event.Finish (right_node f) true) y.m }

    module _ (new : CoreState) (core : new ≡ after_event c.core (event.Finish (right_node f) dead)) where
      abbrev d : Driver
      d = record back { core = new }

      -- both have finished then
      pub both_join : MayJoin d w f x
      both_join = record {
        meet = record {
          steady = finish_steady back y back_steady (right_node f) true (may.died is).fits (λ alive. (may.died is).stays) new (core ∙ ap (λ b. after_event c.core (event.Finish (right_node f) b)) is);
          there = (let n = length-set z.m.workers w (without_waiting f (worker z.m w)) in let low = may.meet.there in omega (arith, n, low));
          fork = may.meet.fork;
          joined = may.meet.joined;
        };
        left = or_right (nat_eq (right_node f) (left_node f)) (has_finished k.machine (left_node f)) (may.died is).left;
        right = finish_done back y back_steady (right_node f) true (may.died is).fits (λ alive. (may.died is).stays);
      }

      -- and they join
      pub turned_dead : (e : Driver) → (MayJoin d w f x → Comes e x (join_strands (law_of x) w f x.m)) → Comes e z (go_to_right (law_of z) w f dead z.m)
      turned_dead e comes =
          let P : Bool → Type 0 = λ b. Comes e z (go_to_right (law_of z) w f b z.m) in
          let there = comes both_join in
          subst P (sym is) (there.0, there.1)
