-- A strand that finishes, and what follows it in the same move, keep the states of nodes.
use Rattle.std.proofs.Common.{◌≡◌, ℕ, zero, suc, ◌<◌, List, refl, ap, sym, ◌∙◌, subst, arith, Bool, true, false, cond, inl, inr, nat_eq}
use Rattle.std.specs.Prelude.{◌&&◌, not, ℤ}
use Rattle.std.proofs.lemmas.Bool.{and_parts, cases_eq, eqb-true, not-true, not-false}
use Rattle.cw_strand.specs.Strands.{Strands, is_over}
use Rattle.cw_tree.specs.declared.node.Node.{Node}
use Rattle.cw_tree.specs.Nodes.{parent_of, is_strand, is_fork}
use Rattle.cw_tree.specs.Walks.{has, is_ancestor}
use Rattle.cw_tree.specs.Series.{place}
use Rattle.cw_tree.specs.Shape.{IsTree}
use Rattle.cw_tree.proofs.Walks.Strands.{strand_over}
use Rattle.cw_open.specs.Machine.{has_finished, is_running, in_block, is_dying}
use Rattle.cw_open.specs.Open.{is_open}
use Rattle.cw_open.proofs.Open.Standing.{stands_at}
use Rattle.cw_open.proofs.Open.Trees.{IsWell}
use Rattle.cw_core.specs.declared.event.Event.TheVariants as event
use Rattle.cw_tree.proofs.Walks.There.{strand_there}
use Rattle.cw_open.proofs.Open.Kinds.{finished_shut}
use Rattle.cw_core.specs.State.{CoreState, is_split}
use Rattle.cw_core.specs.Events.{fits}
use Rattle.cw_core.proofs.Events.Going.{well}
use Rattle.cw_sim.specs.Workers.{Simulation, left_node, right_node, tree, worker}
use Rattle.cw_sim.specs.Moves.{does, go_to_right, join_or_idle, finish_strand}
use Rattle.cw_sim.specs.Kept.{Runs, CoreGoesOn, AreStanding, HasStates}
use Rattle.cw_sim.proofs.Kept.Finishing.{goes, done, takes_right}
use Rattle.cw_sim.proofs.Laws.Fits.{finish_fits}
use Rattle.cw_sim.proofs.Kept.Halves.{left_child, right_child, left_strand, right_strand}
use Rattle.cw_sim.proofs.Laws.Unsplit.{left_shut}
use Rattle.cw_sim.proofs.Kept.StatesKept.{AllStates}
use Rattle.cw_sim.proofs.Kept.StatesFinished.{with_finished, finished_stands}
use Rattle.cw_sim.proofs.Kept.StatesJoined.{with_joined, joined_states, joined_stands}
use Rattle.cw_sim.proofs.Kept.PlacedAlike.{Alike, standing_alike, states_alike}
use Rattle.cw_sim.proofs.Kept.PlacedKept.{current_from}
use Rattle.cw_sim.proofs.Kept.PlacedRunning.{shut_place, shut_waits, running_strand, running_open, running_unjoined, running_stands}

-- strand o, which worker v runs, stands in no block of its own, and finishes; where it is not dying, it has come to its end
module _ {A : Type 0} (s : Strands A) (first : List ℤ) (m : Simulation A) (on : CoreGoesOn first m.core) (held : HasStates s m) (v o : ℕ) (at : Runs m.core (worker m v) o) (dead : Bool) (dying : is_dying m.core.machine o ≡ dead) (out : in_block m.core.machine o ≡ false)
    (over : dead ≡ false → is_over (s.want (m.at o)) ≡ true) where
  abbrev k : CoreState
  k = m.core

  abbrev t : List Node
  t = tree m

  abbrev x : AllStates A
  x = record { before = held.0; after = held.1; reached = held.2 }

  w : IsWell k.machine
  w = well first k on.core

  shape : IsTree t
  shape = w.sound.tree

  -- after the finish
  abbrev n : Simulation A
  n = does (event.Finish o dead) m

  fit : fits k (event.Finish o dead) ≡ true
  fit = finish_fits first k on o at.running at.ready dead dying out

  on_n : CoreGoesOn first n.core
  on_n = goes first k on o dead at.running at.ready fit

  w_n : IsWell n.core.machine
  w_n = well first n.core on_n.core

  done_o : has_finished n.core.machine o ≡ true
  done_o = done first k on o dead at.running at.ready fit

  stood : x.reached o ≡ m.at o
  stood = ap x.reached (sym (eqb-true (place t o) o (not-false (nat_eq (place t o) o) out))) ∙ running_stands s m w x held.3 o at.running

  on_finish : AreStanding s n x.before x.after x.reached
  on_finish =
      standing_alike s (with_finished m o dead) n (record { tree = refl; joined = refl; finished = refl; at = λ i. refl; saved = λ b. refl }) x.before x.after x.reached
      (finished_stands s m o dead x held.3 (λ e. ap (λ i. is_over (s.want i)) stood ∙ over e))

  same_states : (z : Simulation A) → Alike n z → HasStates s z
  same_states z is = states_alike s n z is (x.before, x.after, x.reached, on_finish)

  -- ## The fork of a strand that is not main's

  module _ (f : ℕ) (up : parent_of t o ≡ f) (some : 0 < o) where
    strand_o : is_strand t o ≡ true
    strand_o = running_strand k.machine w o at.running

    fork : is_fork t f ≡ true
    fork = ap (is_fork t) (sym up) ∙ shape.strands o (strand_there t o strand_o) some strand_o

    unjoined : has k.machine.joined f ≡ false
    unjoined = ap (has k.machine.joined) (sym up) ∙ running_unjoined k.machine w o at.running some

    -- a strand of it that has finished stands at what was reached in it
    ended_stands : (h : ℕ) → is_strand t h ≡ true → parent_of t h ≡ f → has_finished n.core.machine h ≡ true → x.reached h ≡ n.at h
    ended_stands h strand above ended =
        let shut = finished_shut n.core.machine h strand ended in
        ap x.reached (sym (shut_place n.core.machine w_n h strand shut))
        ∙ on_finish.strands h (current_from n.core h strand (λ some. ap (has k.machine.joined) above ∙ unjoined)) (shut_waits n.core.machine w_n h strand shut)

    abbrev joined_n : AllStates A
    joined_n = joined_states s n f x

    left_stands : has_finished n.core.machine (left_node f) ≡ true → x.reached (left_node f) ≡ n.at (left_node f)
    left_stands = ended_stands (left_node f) (left_strand t shape on.forks f fork) (left_child t shape on.forks f fork).parent

    right_stands : has_finished n.core.machine (right_node f) ≡ true → x.reached (right_node f) ≡ n.at (right_node f)
    right_stands = ended_stands (right_node f) (right_strand t shape on.forks f fork) (right_child t shape on.forks f fork).parent

    join_stands : x.reached (left_node f) ≡ n.at (left_node f) → x.reached (right_node f) ≡ n.at (right_node f) → AreStanding s (with_joined s n f) joined_n.before joined_n.after joined_n.reached
    join_stands = joined_stands s n w_n on_n.core.joined f fork unjoined (on.forks f fork) x on_finish

    meet_states : (both : Bool) → (has_finished n.core.machine (left_node f) && has_finished n.core.machine (right_node f)) ≡ both → HasStates s (join_or_idle s v f both n)
    meet_states false e = same_states (join_or_idle s v f false n) (record { tree = refl; joined = refl; finished = refl; at = λ i. refl; saved = λ b. refl })
    meet_states true e =
        let ended = and_parts (has_finished n.core.machine (left_node f)) (has_finished n.core.machine (right_node f)) e in
        states_alike s (with_joined s n f) (join_or_idle s v f true n) (record { tree = refl; joined = refl; finished = refl; at = λ i. refl; saved = λ b. refl })
        (joined_n.before, joined_n.after, joined_n.reached, join_stands (left_stands ended.0) (right_stands ended.1))

    -- ## A left strand, whose fork was not split

    module _ (left : o ≡ left_node f) (off : is_split k f ≡ false) where
      right_place : place t (right_node f) ≡ right_node f
      right_place =
          let strand = right_strand t shape on.forks f fork in
          let stand = stands_at t shape.rooted (right_node f) strand in
          elim (cases_eq (place t (right_node f)) (right_node f)) [
            | inl e ↦ e
            | inr ne ↦ absurd (
                let P : ℕ → Type 0 = λ i. is_ancestor t i (place t (right_node f)) ≡ true in
                let beneath = subst P stand.strand (strand_over t shape.rooted (place t (right_node f)) stand.there) in
                let shut = left_shut first k on f fork off (place t (right_node f)) stand.there beneath ne in
                let opened = running_open k.machine w o at.running in
                cc (opened, ap (is_open k.machine) left, shut))
          ]

      right_runs : is_running n.core.machine (right_node f) ≡ true
      right_runs = (takes_right first k on o dead at.running at.ready fit (worker m v) f fork off left at).running

      -- the right strand finishes dead, where it stands
      turn_states : (d : Bool) → HasStates s (go_to_right s v f d n)
      turn_states false = same_states (go_to_right s v f false n) (record { tree = refl; joined = refl; finished = refl; at = λ i. refl; saved = λ b. refl })
      turn_states true =
          let j = with_joined s n f in
          let right = ap x.reached (sym right_place) ∙ running_stands s n w_n x on_finish (right_node f) right_runs in
          let h = join_stands (left_stands (ap (has_finished n.core.machine) (sym left) ∙ done_o)) right in
          let z = with_finished j (right_node f) true in
          states_alike s z (go_to_right s v f true n) (record { tree = refl; joined = refl; finished = refl; at = λ i. refl; saved = λ b. refl })
          (joined_n.before, joined_n.after, joined_n.reached, finished_stands s j (right_node f) true joined_n h (λ e. absurd (cc e)))

    follow_states : HasStates s (cond (nat_eq o (left_node f) && not (is_split n.core f)) (go_to_right s v f dead n) (join_or_idle s v f (has_finished n.core.machine (left_node f) && has_finished n.core.machine (right_node f)) n))
    follow_states = by (nat_eq o (left_node f) && not (is_split n.core f)) refl where
      by : (b : Bool) → (nat_eq o (left_node f) && not (is_split n.core f)) ≡ b → HasStates s (cond b (go_to_right s v f dead n) (join_or_idle s v f (has_finished n.core.machine (left_node f) && has_finished n.core.machine (right_node f)) n))
      by false e = meet_states (has_finished n.core.machine (left_node f) && has_finished n.core.machine (right_node f)) refl
      by true e =
          let c = and_parts (nat_eq o (left_node f)) (not (is_split n.core f)) e in
          turn_states (eqb-true o (left_node f) c.0) (not-true (is_split n.core f) c.1) dead

-- ## The whole

pub finish_states : {A : Type 0} (s : Strands A) (first : List ℤ) (m : Simulation A) → CoreGoesOn first m.core → HasStates s m → (v o : ℕ) → Runs m.core (worker m v) o → (dead : Bool) → is_dying m.core.machine o ≡ dead → in_block m.core.machine o ≡ false
    → (dead ≡ false → is_over (s.want (m.at o)) ≡ true) → HasStates s (finish_strand s v o dead m)
finish_states s first m on held v zero at dead dying out over = same_states s first m on held v zero at dead dying out over (finish_strand s v zero dead m) (record { tree = refl; joined = refl; finished = refl; at = λ i. refl; saved = λ b. refl })
finish_states s first m on held v (suc i) at dead dying out over = follow_states s first m on held v (suc i) at dead dying out over (parent_of (tree m) (suc i)) refl (omega arith)
