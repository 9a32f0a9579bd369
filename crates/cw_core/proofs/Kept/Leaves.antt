-- The parts of a core after a leaf came that is no access.
use Rattle.std.proofs.Common.{◌≡◌, ℕ, ◌+◌, ◌<◌, ◌≤◌, ◌^◌, List, [], ◌∷◌, ◌++◌, length, refl, ap, ◌∙◌, arith, true, false, Option, Some, None, nat_eq}
use Rattle.std.specs.Prelude.{◌&&◌, ◌||◌, not, slice_get, is_none, max}
use Rattle.std.proofs.lemmas.Bool.{and_left}
use Rattle.cw_tree.specs.declared.node.Node.{Node}
use Rattle.cw_tree.specs.declared.node.Kind.{Kind}
use Rattle.cw_tree.specs.Nodes.{is_strand_kind, is_fork_kind, is_block_kind, is_pending_state, is_aborted_state, is_block, is_pending, fresh_node}
use Rattle.cw_tree.specs.Walks.{IsRooted}
use Rattle.cw_tree.specs.Series.{strand_of, place}
use Rattle.cw_tree.specs.Refusals.{is_victim}
use Rattle.cw_tree.specs.Attempts.{tried_cell_in, tried_cell}
use Rattle.cw_tree.proofs.NextNodes.Growing.{get_next, length_more, node_new}
use Rattle.cw_stack.specs.Cells.{CellParts}
use Rattle.cw_open.specs.Machine.{OpenMachine, is_running}
use Rattle.cw_open.proofs.Laws.ListSteps.{none_new}
use Rattle.cw_core.specs.declared.row.Row.{Row}
use Rattle.cw_core.specs.State.{CoreState, waits_for_left, spent}
use Rattle.cw_core.specs.Laws.{IsCore}
use Rattle.cw_core.specs.Kept.{AreParts, with_row_changed, with_tail, with_place, plain_tail, leaf_row}
use Rattle.cw_core.proofs.Events.Going.{well}
use Rattle.cw_core.proofs.Events.Places.{place_grown}
use Rattle.cw_core.proofs.Kept.RowsGrow.{tail_here}
use Rattle.cw_core.proofs.Kept.PartsGrow.{askers_still, none_spent, forks_still, held_still, closed_still, rows_grown}

-- a node of this kind has no children, and no cell
pub record IsLeafKind (kind : Kind) : Type 0 where
  pub strand : is_strand_kind kind ≡ false
  pub fork : is_fork_kind kind ≡ false
  pub block : is_block_kind kind ≡ false
  pub tried : tried_cell_in kind ≡ None

module _ (k : CoreState) (rows : List Row) (forks : List ℕ) (cells : List CellParts) (last : Option ℕ) (w : AreParts k rows forks cells last)
    (s : ℕ) (running : is_running k.machine s ≡ true) (ready : waits_for_left k s ≡ false) (kind : Kind) (leaf : IsLeafKind kind) where
  abbrev t : List Node
  t = k.machine.tree

  abbrev m : OpenMachine
  m = k.machine

  abbrev p : ℕ
  p = place t s

  abbrev x : Node
  x = fresh_node p kind (m.clock + 1)

  abbrev u : List Node
  u = t ++ x ∷ []

  abbrev pub with_leaf : CoreState
  with_leaf = record k { machine = record m { tree = u; clock = max m.clock (m.clock + 1) } }

  rooted : IsRooted t
  rooted = (well m.first k w.core).sound.tree.rooted

  quiet : (n : ℕ) → length t ≤ n → is_pending u n ≡ false
  quiet n le = none_new (λ y. is_block_kind y.kind && is_pending_state y.state) t (x ∷ []) n (ap (λ b. (b && is_pending_state x.state) || false) leaf.block) le

  same_place : (n : ℕ) → place u n ≡ place t n
  same_place n = place_grown t (x ∷ []) rooted n (λ b le h. and_left (is_pending u b) (nat_eq (strand_of u b) n) (quiet b le))

  none_tried : tried_cell u (length t) ≡ None
  none_tried = rw (get_next t x []) leaf.tried

  pub leaf_parts : IsCore m.first with_leaf → is_none (spent k) ≡ true → (r : Row) → slice_get rows p ≡ Some r → length t + 1 < 2 ^ 32
      → AreParts with_leaf (with_row_changed (with_place p) s (with_row_changed (with_tail plain_tail) p rows ++ leaf_row s 0 ∷ [])) forks cells last
  leaf_parts is_core unspent r at few =
      let c = m.first in
      let core = w.core in
      record {
        core = is_core;
        few = omega (arith, length_more t x);
        askers = λ i c e. askers_still m.first k core s running ready x refl i c e (w.askers i c e);
        drawn = (let d = w.drawn in omega (
          arith,
          length_more t x,
          closed_still c k core s running ready x refl (and_left (is_block u (length t))
              (not (is_pending u (length t))) (node_new t x (λ y. is_block_kind y.kind) ∙ leaf.block)),
        ));
        rowed = rows_grown c k core s running ready x refl m.lists (max m.clock (m.clock + 1)) k.words leaf.strand leaf.fork plain_tail
            (tail_here c k core s running ready x refl r.tail (w.rowed.each p r at).tail refl
            (none_new (λ y. is_block_kind y.kind && is_aborted_state y.state) t (x ∷ []) (length t)
            (ap (λ b. (b && is_aborted_state x.state) || false) leaf.block) (omega arith)) none_tried)
            p (same_place s) (λ n h g ne. same_place n) 0 (λ e. absurd (cc (e, quiet (length t) (omega arith))))
            (λ c v i g le. and_left (is_pending u v) (is_victim u (c ∷ []) v) (quiet v le)) rows w.rowed;
        forked = forks_still c k core s running ready x refl m.lists (max m.clock (m.clock + 1)) k.words leaf.fork forks w.forked;
        held = λ i cell e. held_still c k core s running ready x refl m.lists (max m.clock (m.clock + 1)) k.words leaf.fork i cell (w.held i cell e);
        firsts = w.firsts;
        lists = w.lists;
        told = none_spent k with_leaf unspent refl refl ∙ w.told;
      }
