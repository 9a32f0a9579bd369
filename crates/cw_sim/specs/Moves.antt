-- The moves of a simulation, rule by rule, over any law of strands; and its run.
use Rattle.std.specs.Prelude.{ℕ, ℤ, zero, suc, ◌+◌, ◌-◌, ◌%◌, ◌==◌, ◌&&◌, ◌||◌, Bool, true, false, not, List, [], ◌∷◌, map, filter, length, Option, Some, None, is_some, if◌then◌else◌}
use Rattle.std.specs.Option.{option_map_or}
use Rattle.cw_tree.specs.declared.closed.Halt.TheVariants as halt
use Rattle.cw_tree.specs.Nodes.{parent_of, below}
use Rattle.cw_tree.specs.Series.{strand_of, place}
use Rattle.cw_strand.specs.declared.want.Want.{Want}
use Rattle.cw_strand.specs.declared.want.Want.TheVariants as want
use Rattle.cw_strand.specs.declared.want.Given.{Given}
use Rattle.cw_strand.specs.declared.want.Given.TheVariants.{Nothing, Value, Back}
use Rattle.cw_strand.specs.Strands.{Strands, given_for}
use Rattle.cw_open.specs.Machine.{has_finished, is_dying, in_block}
use Rattle.cw_core.specs.declared.event.Event.{Event}
use Rattle.cw_core.specs.declared.event.Event.TheVariants as event
use Rattle.cw_core.specs.declared.event.Reply.{Reply}
use Rattle.cw_core.specs.declared.event.Reply.TheVariants as reply
use Rattle.cw_core.specs.State.{is_split, spent}
use Rattle.cw_open.specs.Steps.{puts_back}
use Rattle.cw_core.specs.Events.{after_event, reply_to, may_fork, next}
use Rattle.cw_sim.specs.Workers.{Simulation, left_node, right_node, changed_at, with_fork, tree, worker, with_strand, with_worker, with_run}

module _ {A : Type 0} where
  -- the simulation after an event of the core
  abbrev pub does : Event → Simulation A → Simulation A
  does e m = record m { core = after_event m.core e }

  -- the run is over by a halt, or by the end of main
  abbrev pub is_run_over : Simulation A → Bool
  is_run_over m = is_some m.core.halt || has_finished m.core.machine 0

  -- ## An idle worker takes the oldest fork of the next worker that has one

  -- the workers after w, going round, without w
  abbrev pub others : Simulation A → ℕ → List ℕ
  others m w = map (λ i. (w + suc i) % length m.workers) (below (length m.workers - 1))

  -- Worker w takes fork f from worker v. The fork is split, and w runs its right strand.
  abbrev pub take_fork : (w v f : ℕ) → List ℕ → Simulation A → Simulation A
  take_fork w v f rest m = with_run w (Some (right_node f)) (with_worker v (record (worker m v) { deque = rest }) (does (event.Split f) m))

  -- worker w takes the oldest fork of the first of these workers whose deque is not empty; if there is none, nothing happens
  abbrev pub steal : ℕ → List ℕ → Simulation A → Simulation A
  steal w [] m = m
  steal w (v ∷ vs) m = elim (worker m v).deque [ [] ↦ steal w vs m | f ∷ fs ↦ take_fork w v f fs m ]

  -- ## What follows a finished strand, in the same move

  -- fork f no longer waits in worker w
  abbrev pub takes_back : (w f : ℕ) → Simulation A → Simulation A
  takes_back w f m =
      let without = filter (λ g. not (g == f)) in
      with_worker w (record (worker m w) { deque = without (worker m w).deque; inline = without (worker m w).inline }) m

  module _ (s : Strands A) where
    -- both strands of fork f have finished: they join, and worker w goes on with the strand that forked
    abbrev pub join_strands : (w f : ℕ) → Simulation A → Simulation A
    join_strands w f m =
        let p = strand_of (tree m) f in
        with_run w (Some p) (with_strand p (s.joined (m.at (right_node f)) (m.at (left_node f))) (does (event.Join f) m))

    -- The left strand of fork f has finished, and its right one waits in worker w. After a live left strand, w goes on with the
    -- right one. After a dead one, the right one finishes dead, too, and they join.
    abbrev pub go_to_right : (w f : ℕ) → (dead : Bool) → Simulation A → Simulation A
    go_to_right w f false m = with_run w (Some (right_node f)) (takes_back w f m)
    go_to_right w f true m = join_strands w f (does (event.Finish (right_node f) true) (takes_back w f m))

    -- one strand of fork f has finished: they join if the other strand has, too; otherwise worker w is idle
    abbrev pub join_or_idle : (w f : ℕ) → (both : Bool) → Simulation A → Simulation A
    join_or_idle w f false m = with_run w None m
    join_or_idle w f true m = join_strands w f m

    -- after main nothing; after the left strand of an unsplit fork its right one; otherwise a join, or an idle worker
    abbrev pub follow_up : (w x : ℕ) → (dead : Bool) → Simulation A → Simulation A
    follow_up w zero dead m = with_run w None m
    follow_up w (suc x) dead m =
        let f = parent_of (tree m) (suc x) in
        if (suc x == left_node f) && not (is_split m.core f)
        then go_to_right w f dead m
        else join_or_idle w f (has_finished m.core.machine (left_node f) && has_finished m.core.machine (right_node f)) m

    abbrev pub finish_strand : (w x : ℕ) → (dead : Bool) → Simulation A → Simulation A
    finish_strand w x dead m = follow_up w x dead (does (event.Finish x dead) m)

    -- ## A strand that is dying

    -- strand x rolls back the innermost pending block begun in it, and is at its begin again; if there is none, it finishes dead
    abbrev pub die : (w x : ℕ) → Simulation A → Simulation A
    die w x m =
        if in_block m.core.machine x
        then with_strand x (m.saved (place (tree m) x)) (does (event.Roll x) m)
        else finish_strand w x true m

    -- ## Any other strand does what it wants

    abbrev pub answer_want : ℕ → Given → Simulation A → Simulation A
    answer_want x given m = with_strand x (s.answer (m.at x) given) m

    -- if the last attempt of a block or an access was refused, the run stops
    abbrev pub stop_if_spent : Simulation A → Simulation A
    stop_if_spent m = option_map_or (λ x. does (event.Stop (halt.Budget x)) m) (spent m.core) m

    -- an access that was made is answered; a strand whose access was refused stays where it is
    abbrev pub meets_cell : ℕ → Option ℤ → Reply → Simulation A → Simulation A
    meets_cell x write (reply.Value v) m = answer_want x (given_for write v) m
    meets_cell x write refused m = stop_if_spent m

    abbrev pub access_cell : (x c : ℕ) → Option ℤ → Simulation A → Simulation A
    access_cell x c write m = meets_cell x write (reply_to m.core (event.Access x c write)) (does (event.Access x c write) m)

    -- the block is the next node
    abbrev pub begin_block : ℕ → Simulation A → Simulation A
    begin_block x m = answer_want x Nothing (record (does (event.Begin x) m) { saved = changed_at (length (tree m)) (m.at x) m.saved })

    -- The block is given up. The strand learns what to put back. It wants that next, each cell by a write of its own, and then the
    -- block's end.
    abbrev pub give_up : ℕ → Simulation A → Simulation A
    give_up x m = answer_want x (Back (puts_back m.core.machine x (next m.core))) (does (event.Cancel x) m)

    -- the fork is the next node; worker w goes on with its left strand
    abbrev pub fork_strand : (w x : ℕ) → Simulation A → Simulation A
    fork_strand w x m =
        let f = length (tree m) in
        let n = with_strand (left_node f) (s.left (m.at x)) (with_strand (right_node f) (s.right (m.at x)) (does (event.Fork x) m)) in
        with_worker w (record (with_fork (may_fork m.core) f (worker m w)) { runs = Some (left_node f) }) n

    abbrev pub do_want : (w x : ℕ) → Want → Simulation A → Simulation A
    do_want w x (want.Load c) m = access_cell x c None m
    do_want w x (want.Store c v) m = access_cell x c (Some v) m
    do_want w x (want.Out v) m = answer_want x Nothing (does (event.Out x v) m)
    do_want w x want.Begin m = begin_block x m
    do_want w x want.End m = answer_want x Nothing (does (event.Commit x) m)
    do_want w x want.Fork m = fork_strand w x m
    do_want w x want.Cancel m = give_up x m
    do_want w x want.Sync m = finish_strand w x false m
    do_want w x want.Done m = finish_strand w x false m
    do_want w x (want.Fault kind) m = does (event.Stop (halt.Fault x kind)) m

    -- ## The run

    -- a move of worker w
    abbrev pub move : ℕ → Simulation A → Simulation A
    move w m = elim (worker m w).runs [ None ↦ steal w (others m w) m | Some x ↦ if is_dying m.core.machine x then die w x m else do_want w x (s.want (m.at x)) m ]

    -- at most k moves from move n on; none is made once the run is over
    abbrev pub after_moves : (turn : ℕ → ℕ) → (k n : ℕ) → Simulation A → Simulation A
    after_moves turn zero n m = m
    after_moves turn (suc k) n m = elim (is_run_over m) [ true ↦ m | false ↦ after_moves turn k (suc n) (move (turn n) m) ]
