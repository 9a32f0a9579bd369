-- A move leaves the number of workers.
use Rattle.std.proofs.Common.{◌≡◌, ℕ, zero, suc, List, [], ◌∷◌, length, refl, ◌∙◌, Bool, true, false, cond, Option, Some, None, nat_eq}
use Rattle.std.specs.Prelude.{◌&&◌, not, ℤ}
use Rattle.std.specs.Option.{option_map_or}
use Rattle.std.proofs.lemmas.List.{length-set}
use Rattle.cw_tree.specs.declared.closed.Halt.TheVariants as halt
use Rattle.cw_tree.specs.Nodes.{parent_of}
use Rattle.cw_tree.specs.Series.{place}
use Rattle.cw_strand.specs.declared.want.Want.{Want}
use Rattle.cw_strand.specs.declared.want.Want.TheVariants.{Load, Store, Out, Begin, End, Cancel, Fork, Sync, Done, Fault}
use Rattle.cw_strand.specs.Strands.{Strands}
use Rattle.cw_open.specs.Machine.{has_finished, in_block, is_dying}
use Rattle.cw_core.specs.declared.event.Event.TheVariants as event
use Rattle.cw_core.specs.declared.event.Reply.{Reply}
use Rattle.cw_core.specs.declared.event.Reply.TheVariants as reply
use Rattle.cw_core.specs.State.{is_split, spent}
use Rattle.cw_core.specs.Events.{reply_to}
use Rattle.cw_sim.specs.Workers.{Simulation, left_node, right_node, tree, worker, with_strand}
use Rattle.cw_sim.specs.Moves.{does, others, take_fork, steal, go_to_right, join_or_idle, finish_strand, follow_up, die, meets_cell, stop_if_spent, do_want, move}

module _ {A : Type 0} (s : Strands A) (w : ℕ) where
  abbrev number : Simulation A → ℕ
  number m = length m.workers

  steals_number : (vs : List ℕ) (m : Simulation A) → number (steal w vs m) ≡ number m
  steals_number [] m = refl
  steals_number (v ∷ vs) m = by (steals_number vs m) (worker m v).deque where
    by : number (steal w vs m) ≡ number m → (d : List ℕ) → number (elim d [ [] ↦ steal w vs m | f ∷ fs ↦ take_fork w v f fs m ]) ≡ number m
    by rest [] = rest
    by rest (f ∷ fs) = length-set _ w _ ∙ length-set m.workers v _

  turns_number : (f : ℕ) (dead : Bool) (m : Simulation A) → number (go_to_right s w f dead m) ≡ number m
  turns_number f false m = length-set _ w _ ∙ length-set m.workers w _
  turns_number f true m = length-set _ w _ ∙ length-set m.workers w _

  meets_number : (f : ℕ) (both : Bool) (m : Simulation A) → number (join_or_idle s w f both m) ≡ number m
  meets_number f false m = length-set m.workers w _
  meets_number f true m = length-set m.workers w _

  follows_number : (x : ℕ) (dead : Bool) (m : Simulation A) → number (follow_up s w x dead m) ≡ number m
  follows_number zero dead m = length-set m.workers w _
  follows_number (suc x) dead m = by (nat_eq (suc x) (left_node f) && not (is_split m.core f)) where
    f : ℕ
    f = parent_of (tree m) (suc x)

    both : Bool
    both = has_finished m.core.machine (left_node f) && has_finished m.core.machine (right_node f)

    by : (b : Bool) → number (cond b (go_to_right s w f dead m) (join_or_idle s w f both m)) ≡ number m
    by true = turns_number f dead m
    by false = meets_number f both m

  dies_number : (x : ℕ) (m : Simulation A) → number (die s w x m) ≡ number m
  dies_number x m = by (in_block m.core.machine x) where
    by : (b : Bool) → number (cond b (with_strand x (m.saved (place (tree m) x)) (does (event.Roll x) m)) (finish_strand s w x true m)) ≡ number m
    by true = refl
    by false = follows_number x true (does (event.Finish x true) m)

  stops_number : (m : Simulation A) → number (stop_if_spent s m) ≡ number m
  stops_number m = by (spent m.core) where
    by : (o : Option ℕ) → number (option_map_or (λ x. does (event.Stop (halt.Budget x)) m) o m) ≡ number m
    by None = refl
    by (Some x) = refl

  meets_cell_number : (x : ℕ) (write : Option ℤ) (r : Reply) (m : Simulation A) → number (meets_cell s x write r m) ≡ number m
  meets_cell_number x write (reply.Value v) m = refl
  meets_cell_number x write r m = stops_number m

  acts_number : (x : ℕ) (want : Want) (m : Simulation A) → number (do_want s w x want m) ≡ number m
  acts_number x (Load c) m = meets_cell_number x None (reply_to m.core (event.Access x c None)) (does (event.Access x c None) m)
  acts_number x (Store c v) m = meets_cell_number x (Some v) (reply_to m.core (event.Access x c (Some v))) (does (event.Access x c (Some v)) m)
  acts_number x (Out v) m = refl
  acts_number x Begin m = refl
  acts_number x End m = refl
  acts_number x Cancel m = refl
  acts_number x Fork m = length-set m.workers w _
  acts_number x Sync m = follows_number x false (does (event.Finish x false) m)
  acts_number x Done m = follows_number x false (does (event.Finish x false) m)
  acts_number x (Fault kind) m = refl

  pub move_number : (m : Simulation A) → length (move s w m).workers ≡ length m.workers
  move_number m = by (worker m w).runs where
    runs_number : (x : ℕ) (b : Bool) → number (cond b (die s w x m) (do_want s w x (s.want (m.at x)) m)) ≡ number m
    runs_number x true = dies_number x m
    runs_number x false = acts_number x (s.want (m.at x)) m

    by : (o : Option ℕ) → number (elim o [ None ↦ steal w (others m w) m | Some x ↦ cond (is_dying m.core.machine x) (die s w x m) (do_want s w x (s.want (m.at x)) m) ]) ≡ number m
    by None = steals_number (others m w) m
    by (Some x) = runs_number x (is_dying m.core.machine x)
