-- No move stops a simulation because memory ran out, so its record says whether the moves came to an end.
use Rattle.std.proofs.Common.{◌≡◌, ◌∙◌, ◌∷◌, [], ℕ, zero, suc, ℤ, ◌==◌, ◌&&◌, ◌||◌, Bool, true, false, not, List, Option, Some, None, refl, sym}
use Rattle.std.specs.Prelude.{◌↔◌, if◌then◌else◌, is_some}
use Rattle.std.specs.Option.{option_map_or}
use Rattle.cw_strand.specs.declared.want.Want.{Want}
use Rattle.cw_strand.specs.declared.want.Want.TheVariants as want
use Rattle.cw_strand.specs.Names.{first_memory}
use Rattle.cw_strand.specs.Strands.{Strands}
use Rattle.cw_tree.specs.declared.closed.Halt.{Halt}
use Rattle.cw_tree.specs.declared.closed.Halt.TheVariants as halt
use Rattle.cw_tree.specs.declared.node.Node.{Node}
use Rattle.cw_tree.specs.Nodes.{parent_of}
use Rattle.cw_tree.specs.InOrder.{halt_in_order}
use Rattle.cw_open.specs.Machine.{has_finished, is_dying, in_block}
use Rattle.cw_core.specs.declared.event.Event.TheVariants as event
use Rattle.cw_core.specs.declared.event.Reply.{Reply}
use Rattle.cw_core.specs.declared.event.Reply.TheVariants as reply
use Rattle.cw_core.specs.State.{is_split, spent}
use Rattle.cw_core.specs.Events.{reply_to}
use Rattle.cw_io.specs.declared.schedule.Schedule.{Schedule}
use Rattle.cw_job.specs.Jobs.{Job}
use Rattle.cw_job.specs.Room.Strands.{strands_of_job}
use Rattle.cw_record.specs.declared.record.Record.{Record}
use Rattle.cw_record.specs.declared.record_end.RecordEnd.TheVariants.{Moves}
use Rattle.cw_record.specs.Built.{memory_left, outputs_left}
use Rattle.cw_record.specs.ClosedRun.{end_after}
use Rattle.cw_sim.specs.Workers.{Simulation, left_node, right_node, first_simulation, tree, worker}
use Rattle.cw_sim.specs.Turns.{worker_at}
use Rattle.cw_sim.specs.Moves.{access_cell, do_want, after_moves, die, does, follow_up, is_run_over, join_or_idle, meets_cell, move, others, steal, stop_if_spent, take_fork, go_to_right}
use Rattle.cw_sim.specs.Runs.{IsRecordOf, closed_of, simulation_of}

-- what an end tells of the moves, where it is not for want of memory
ends_so : (t : List Node) (h : Option Halt) (root : Bool) (memory outputs : List ℤ) → (h ≡ Some halt.Memory → ⊥)
    → ((end_after (halt_in_order t h) (not (is_some h || root)) memory outputs ≡ Moves → (is_some h || root) ≡ false)
    × ((is_some h || root) ≡ false → end_after (halt_in_order t h) (not (is_some h || root)) memory outputs ≡ Moves))
ends_so t (Some (halt.Fault x k)) root memory outputs want = (λ e. cc, λ e. cc)
ends_so t (Some (halt.Budget x)) root memory outputs want = (λ e. cc, λ e. cc)
ends_so t (Some halt.Memory) root memory outputs want = absurd (want refl)
ends_so t None true memory outputs want = (λ e. cc, λ e. cc)
ends_so t None false memory outputs want = (λ e. refl, λ e. refl)

module _ {A : Type 0} where
  -- it was not stopped for want of memory
  abbrev Goes : Simulation A → Type 0
  Goes m = m.core.halt ≡ Some halt.Memory → ⊥

  by_test : (b : Bool) (m n : Simulation A) → Goes m → Goes n → Goes (if b then m else n)
  by_test true m n g h = g
  by_test false m n g h = h

  steals_goes : (w : ℕ) (vs : List ℕ) (m : Simulation A) → Goes m → Goes (steal w vs m)
  steals_goes w [] m g = g
  steals_goes w (v ∷ vs) m g = by_deque (worker m v).deque (steals_goes w vs m g)
    where
      by_deque : (d : List ℕ) → Goes (steal w vs m) → Goes (elim d [ [] ↦ steal w vs m | f ∷ fs ↦ take_fork w v f fs m ])
      by_deque [] h = h
      by_deque (f ∷ fs) h = g

  module _ (s : Strands A) where
    follows_goes : (w x : ℕ) (dead : Bool) (m : Simulation A) → Goes m → Goes (follow_up s w x dead m)
    follows_goes w zero dead m g = g
    follows_goes w (suc x) dead m g =
        let f = parent_of (tree m) (suc x) in
        by_test ((suc x == left_node f) && not (is_split m.core f)) _ _ (by_dead f dead) (by_both f (has_finished m.core.machine (left_node f) && has_finished m.core.machine (right_node f)))
      where
        by_dead : (f : ℕ) (d : Bool) → Goes (go_to_right s w f d m)
        by_dead f false = g
        by_dead f true = g

        by_both : (f : ℕ) (b : Bool) → Goes (join_or_idle s w f b m)
        by_both f false = g
        by_both f true = g

    access_goes : (x c : ℕ) (write : Option ℤ) (m : Simulation A) → Goes m → Goes (access_cell s x c write m)
    access_goes x c write m g = by_reply (reply_to m.core (event.Access x c write)) (does (event.Access x c write) m) g
      where
        by_spent : (o : Option ℕ) (n : Simulation A) → Goes n → Goes (option_map_or (λ y. does (event.Stop (halt.Budget y)) n) o n)
        by_spent None n h = h
        by_spent (Some y) n h = λ e. cc

        stops : (n : Simulation A) → Goes n → Goes (stop_if_spent s n)
        stops n h = by_spent (spent n.core) n h

        by_reply : (r : Reply) (n : Simulation A) → Goes n → Goes (meets_cell s x write r n)
        by_reply (reply.Value v) n h = h
        by_reply reply.Done n h = stops n h
        by_reply (reply.Conflict k) n h = stops n h
        by_reply (reply.Forked l r f) n h = stops n h
        by_reply (reply.Inline l r) n h = stops n h
        by_reply (reply.Early b) n h = stops n h
        by_reply (reply.Back list) n h = stops n h

    acts_goes : (w x : ℕ) (a : Want) (m : Simulation A) → Goes m → Goes (do_want s w x a m)
    acts_goes w x (want.Load c) m g = access_goes x c None m g
    acts_goes w x (want.Store c v) m g = access_goes x c (Some v) m g
    acts_goes w x (want.Out v) m g = g
    acts_goes w x want.Begin m g = g
    acts_goes w x want.End m g = g
    acts_goes w x want.Cancel m g = g
    acts_goes w x want.Fork m g = g
    acts_goes w x want.Sync m g = follows_goes w x false (does (event.Finish x false) m) g
    acts_goes w x want.Done m g = follows_goes w x false (does (event.Finish x false) m) g
    acts_goes w x (want.Fault kind) m g = λ e. cc

    dies_goes : (w x : ℕ) (m : Simulation A) → Goes m → Goes (die s w x m)
    dies_goes w x m g = by_test (in_block m.core.machine x) _ _ g (follows_goes w x true (does (event.Finish x true) m) g)

    move_goes : (w : ℕ) (m : Simulation A) → Goes m → Goes (move s w m)
    move_goes w m g = by_run (worker m w).runs
      where
        by_run : (o : Option ℕ) → Goes (elim o [ None ↦ steal w (others m w) m | Some x ↦ if is_dying m.core.machine x then die s w x m else do_want s w x (s.want (m.at x)) m ])
        by_run None = steals_goes w (others m w) m g
        by_run (Some x) = by_test (is_dying m.core.machine x) _ _ (dies_goes w x m g) (acts_goes w x (s.want (m.at x)) m g)

    moves_go : (turn : ℕ → ℕ) (k n : ℕ) (m : Simulation A) → Goes m → Goes (after_moves s turn k n m)
    moves_go turn zero n m g = g
    moves_go turn (suc k) n m g = by_over (is_run_over m) (moves_go turn k (suc n) (move s (turn n) m) (move_goes (turn n) m g))
      where
        by_over : (b : Bool) → Goes (after_moves s turn k (suc n) (move s (turn n) m)) → Goes (elim b [ true ↦ m | false ↦ after_moves s turn k (suc n) (move s (turn n) m) ])
        by_over true h = g
        by_over false h = h

  -- ## What the record tells

  module _ (m : Simulation A) (r : Record) (is : IsRecordOf m r) (goes : Goes m) where
    told : (r.end ≡ Moves → is_run_over m ≡ false) × (is_run_over m ≡ false → r.end ≡ Moves)
    told =
        let c = closed_of m in
        let memory = memory_left (first_memory r.program.cells) c.journals in
        let outputs = outputs_left c.tree c.conflicts r.limits.aborts in
        let z = ends_so (tree m) m.core.halt (has_finished m.core.machine 0) memory outputs goes in
        (λ f. z.0 (sym is.end ∙ f), λ f. is.end ∙ z.1 f)

-- the record of what the moves of a job come to tells whether they were spent
pub left_told : (job : Job) (workers : ℕ) (schedule : Schedule) (r : Record) → IsRecordOf (simulation_of job workers schedule) r → r.end ≡ Moves ↔ (is_run_over (simulation_of job workers schedule) ≡ false)
left_told job workers schedule r is =
    let s = strands_of_job job in
    told (simulation_of job workers schedule) r is
    (moves_go s (worker_at schedule workers) job.limits.moves 0 (first_simulation (first_memory job.program.cells) job.limits.strands job.limits.aborts workers s.start) (λ e. cc))
