-- A strand is ready for its left one where that is open no more.
use Rattle.std.proofs.Common.{◌≡◌, ℕ, ◌+◌, ◌<◌, List, ap, ◌∙◌, arith, true, false, inl, inr, nat_lt}
use Rattle.std.specs.Prelude.{◌&&◌, ◌||◌, not}
use Rattle.std.specs.List.{list_any}
use Rattle.std.proofs.lemmas.Bool.{and_parts, and_from, or_left, not-true, false_from_ne_true, cases_Bool, cases_lt, ltb-true}
use Rattle.cw_tree.specs.declared.node.Node.{Node}
use Rattle.cw_tree.specs.Nodes.{parent_of, is_strand, is_fork, is_pending}
use Rattle.cw_tree.specs.Walks.{has}
use Rattle.cw_tree.specs.Series.{children}
use Rattle.cw_tree.proofs.Lists.{any_in}
use Rattle.cw_tree.proofs.InOrder.DepthFirst.{child_is}
use Rattle.cw_tree.proofs.NodeKinds.{fork_no_strand}
use Rattle.cw_tree.proofs.Walks.Kin.{fork_child}
use Rattle.cw_tree.proofs.Walks.There.{strand_there}
use Rattle.cw_trace.specs.Columns.{used}
use Rattle.cw_trace.specs.Stands.{fork_column}
use Rattle.cw_trace.specs.Running.{IsUnsplit}
use Rattle.cw_open.specs.Machine.{OpenMachine, has_finished, is_running}
use Rattle.cw_open.proofs.Open.Standing.{runs}
use Rattle.cw_open.proofs.Open.Trees.{IsWell}
use Rattle.cw_hands.specs.Shared.{SharedMoment, has_columns, is_split, is_open_yet, waits_for_left}
use Rattle.cw_hands.proofs.Shared.Order.{at_no_fork, wide_from}

module _ (s : SharedMoment) (w : IsWell s.machine) (x : ℕ) (running : is_running s.machine x ≡ true) where
  abbrev m : OpenMachine
  m = s.machine

  abbrev t : List Node
  t = s.machine.tree

  unsplit : (f : ℕ) → is_fork t f ≡ true → is_split s f ≡ false → IsUnsplit s.columns t s.cuts f
  unsplit f fork e = elim (cases_Bool (has_columns s f)) [
    | inr bare ↦ elim (cases_lt (used s.columns) (fork_column t f + 2)) [ inl l ↦ inl l | inr le ↦ absurd (cc (bare, wide_from s f fork (omega arith))) ]
    | inl wide ↦ inr (false_from_ne_true (has s.cuts (fork_column t f)) (λ cut. absurd (cc (e, and_from (has_columns s f) (has s.cuts (fork_column t f)) wide cut))))
  ]

  -- where each left strand of an unsplit fork is open no more the strand waits for none
  pub none_left : ((l : ℕ) → 0 < l → l < x → parent_of s.machine.tree l ≡ parent_of s.machine.tree x → is_fork s.machine.tree (parent_of s.machine.tree x) ≡ true → IsUnsplit s.columns s.machine.tree s.cuts (parent_of s.machine.tree x) → is_open_yet s l ≡ false) → waits_for_left s x ≡ false
  none_left left_shut =
      false_from_ne_true (waits_for_left s x) (λ e.
      let z = and_parts (not (is_split s (parent_of t x))) (list_any (λ l. nat_lt l x && not (has_finished m l)) (children t (parent_of t x))) e in
      let q = any_in (λ l. nat_lt l x && not (has_finished m l)) (children t (parent_of t x)) z.1 in
      let c = child_is t (parent_of t x) q.0 q.1 in
      let y = and_parts (nat_lt q.0 x) (not (has_finished m q.0)) q.2 in
      let less : q.0 < x = ltb-true q.0 x y.0 in
      let strand = (runs m w.sound.tree w.nested x running).strand in
      let some = c.some in
      let fork : is_fork t (parent_of t x) ≡ true = w.sound.tree.strands x (strand_there t x strand) (omega arith) strand in
      let left : is_strand t q.0 ≡ true = fork_child t w.sound.tree q.0 c.some c.there (ap (is_fork t) c.parent ∙ fork) in
      let opened : is_open_yet s q.0 ≡ true =
      at_no_fork s q.0 (false_from_ne_true (is_fork t q.0) (λ f. absurd (cc (left, fork_no_strand t q.0 f))))
      ∙ or_left (is_strand t q.0 && not (has_finished m q.0) || is_fork t q.0 && not (has m.joined q.0)) (is_pending t q.0)
      (or_left (is_strand t q.0 && not (has_finished m q.0)) (is_fork t q.0 && not (has m.joined q.0)) (and_from (is_strand t q.0) (not (has_finished m q.0)) left y.1)) in
      absurd (cc (opened, left_shut q.0 c.some less c.parent fork (unsplit (parent_of t x) fork (not-true (is_split s (parent_of t x)) z.0)))))
