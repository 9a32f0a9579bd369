-- The one worker that there is takes no fork: its moves split none.
use Rattle.std.proofs.Common.{◌≡◌, ℕ, zero, suc, ◌+◌, ◌-◌, ◌%◌, List, [], length, map, refl, ap, ◌∙◌, Bool, true, false, cond, Option, Some, None, nat_eq}
use Rattle.std.specs.Prelude.{◌&&◌, not, ℤ}
use Rattle.std.specs.Option.{option_map_or}
use Rattle.cw_tree.specs.declared.closed.Halt.TheVariants as halt
use Rattle.cw_tree.specs.Nodes.{parent_of, below}
use Rattle.cw_tree.specs.Series.{place}
use Rattle.cw_strand.specs.declared.want.Want.{Want}
use Rattle.cw_strand.specs.declared.want.Want.TheVariants.{Load, Store, Out, Begin, End, Cancel, Fork, Sync, Done, Fault}
use Rattle.cw_strand.specs.Strands.{Strands}
use Rattle.cw_open.specs.Machine.{has_finished, in_block, is_dying}
use Rattle.cw_core.specs.declared.event.Event.TheVariants as event
use Rattle.cw_core.specs.declared.event.Reply.{Reply}
use Rattle.cw_core.specs.declared.event.Reply.TheVariants as reply
use Rattle.cw_core.specs.State.{is_split, spent}
use Rattle.cw_core.specs.Events.{reply_to}
use Rattle.cw_sim.specs.Workers.{Simulation, left_node, right_node, tree, worker, with_strand}
use Rattle.cw_sim.specs.Moves.{is_run_over, does, others, steal, go_to_right, join_or_idle, finish_strand, follow_up, die, meets_cell, stop_if_spent, do_want, move, after_moves}
use Rattle.cw_sim.specs.OneWorker.{OneSplitsNone}
use Rattle.cw_sim.proofs.Laws.MoveNumbers.{move_number}

module _ {A : Type 0} (s : Strands A) where
  abbrev splits : Simulation A → List ℕ
  splits m = m.core.splits

  turns_splits : (w f : ℕ) (dead : Bool) (m : Simulation A) → splits (go_to_right s w f dead m) ≡ splits m
  turns_splits w f false m = refl
  turns_splits w f true m = refl

  meets_splits : (w f : ℕ) (both : Bool) (m : Simulation A) → splits (join_or_idle s w f both m) ≡ splits m
  meets_splits w f false m = refl
  meets_splits w f true m = refl

  follows_splits : (w x : ℕ) (dead : Bool) (m : Simulation A) → splits (follow_up s w x dead m) ≡ splits m
  follows_splits w zero dead m = refl
  follows_splits w (suc x) dead m = by (nat_eq (suc x) (left_node f) && not (is_split m.core f)) where
    f : ℕ
    f = parent_of (tree m) (suc x)

    both : Bool
    both = has_finished m.core.machine (left_node f) && has_finished m.core.machine (right_node f)

    by : (b : Bool) → splits (cond b (go_to_right s w f dead m) (join_or_idle s w f both m)) ≡ splits m
    by true = turns_splits w f dead m
    by false = meets_splits w f both m

  dies_splits : (w x : ℕ) (m : Simulation A) → splits (die s w x m) ≡ splits m
  dies_splits w x m = by (in_block m.core.machine x) where
    by : (b : Bool) → splits (cond b (with_strand x (m.saved (place (tree m) x)) (does (event.Roll x) m)) (finish_strand s w x true m)) ≡ splits m
    by true = refl
    by false = follows_splits w x true (does (event.Finish x true) m)

  stops_splits : (m : Simulation A) → splits (stop_if_spent s m) ≡ splits m
  stops_splits m = by (spent m.core) where
    by : (o : Option ℕ) → splits (option_map_or (λ x. does (event.Stop (halt.Budget x)) m) o m) ≡ splits m
    by None = refl
    by (Some x) = refl

  meets_cell_splits : (x : ℕ) (write : Option ℤ) (r : Reply) (m : Simulation A) → splits (meets_cell s x write r m) ≡ splits m
  meets_cell_splits x write (reply.Value v) m = refl
  meets_cell_splits x write r m = stops_splits m

  acts_splits : (w x : ℕ) (want : Want) (m : Simulation A) → splits (do_want s w x want m) ≡ splits m
  acts_splits w x (Load c) m = meets_cell_splits x None (reply_to m.core (event.Access x c None)) (does (event.Access x c None) m)
  acts_splits w x (Store c v) m = meets_cell_splits x (Some v) (reply_to m.core (event.Access x c (Some v))) (does (event.Access x c (Some v)) m)
  acts_splits w x (Out v) m = refl
  acts_splits w x Begin m = refl
  acts_splits w x End m = refl
  acts_splits w x Cancel m = refl
  acts_splits w x Fork m = refl
  acts_splits w x Sync m = follows_splits w x false (does (event.Finish x false) m)
  acts_splits w x Done m = follows_splits w x false (does (event.Finish x false) m)
  acts_splits w x (Fault kind) m = refl

  -- beside the one worker there is no other
  no_others : (m : Simulation A) (w : ℕ) → length m.workers ≡ 1 → others m w ≡ []
  no_others m w one = ap (λ n. map (λ i. (w + suc i) % n) (below (n - 1))) one

  pub one_splits_none : OneSplitsNone s
  one_splits_none m w one = by (worker m w).runs where
    runs_splits : (x : ℕ) (b : Bool) → splits (cond b (die s w x m) (do_want s w x (s.want (m.at x)) m)) ≡ splits m
    runs_splits x true = dies_splits w x m
    runs_splits x false = acts_splits w x (s.want (m.at x)) m

    by : (o : Option ℕ) → splits (elim o [ None ↦ steal w (others m w) m | Some x ↦ cond (is_dying m.core.machine x) (die s w x m) (do_want s w x (s.want (m.at x)) m) ]) ≡ splits m
    by None = ap (λ us. splits (steal w us m)) (no_others m w one)
    by (Some x) = runs_splits x (is_dying m.core.machine x)

  pub moves_split_none : (turn : ℕ → ℕ) (k n : ℕ) (m : Simulation A) → length m.workers ≡ 1 → splits (after_moves s turn k n m) ≡ splits m
  moves_split_none turn zero n m one = refl
  moves_split_none turn (suc k) n m one =
      let w = turn n in
      by (is_run_over m) (moves_split_none turn k (suc n) (move s w m) (move_number s w m ∙ one) ∙ one_splits_none m w one) where
        by : (b : Bool) → splits (after_moves s turn k (suc n) (move s (turn n) m)) ≡ splits m → splits (elim b [ true ↦ m | false ↦ after_moves s turn k (suc n) (move s (turn n) m) ]) ≡ splits m
        by true e = refl
        by false e = e
