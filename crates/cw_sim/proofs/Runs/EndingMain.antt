-- Main stands above all, so it is not dying where no block of its own is pending; and what a strand that runs is, once the run has stopped.
use Rattle.std.proofs.Common.{◌≡◌, ℕ, zero, suc, List, [], ◌∷◌, refl, ap, sym, ◌∙◌, subst, arith, true, false}
use Rattle.std.specs.Prelude.{◌&&◌, not, ℤ}
use Rattle.std.specs.List.{list_any}
use Rattle.std.proofs.lemmas.Bool.{and_parts, and_from, not-true, not-false, not_from_false, eqb-true, false_from_ne_true}
use Rattle.cw_tree.specs.declared.node.Node.{Node}
use Rattle.cw_tree.specs.Nodes.{is_block_kind, is_pending_state, parent_of, is_strand, is_block, is_pending, all_nodes}
use Rattle.cw_tree.specs.Walks.{has, is_above}
use Rattle.cw_tree.specs.Series.{place}
use Rattle.cw_tree.specs.Refusals.{is_victim}
use Rattle.cw_tree.specs.Shape.{IsTree}
use Rattle.cw_tree.proofs.Walks.Ancestors.{ancestor_above, root_ancestor}
use Rattle.cw_tree.proofs.Lists.{any_in}
use Rattle.cw_tree.proofs.Walks.There.{node_there, strand_there}
use Rattle.cw_tree.proofs.NodeKinds.{strand_no_block, pending_block}
use Rattle.cw_open.specs.Machine.{OpenMachine, has_finished, waits, is_running, in_block, is_dying, falls}
use Rattle.cw_open.proofs.Open.Standing.{runs}
use Rattle.cw_open.proofs.Open.Trees.{IsWell}
use Rattle.cw_open.proofs.Open.Kinds.{open_unjoined}
use Rattle.cw_core.specs.State.{CoreState}
use Rattle.cw_core.specs.Laws.{IsCore}
use Rattle.cw_core.proofs.Fits.Dying.{any_conflict}
use Rattle.cw_core.proofs.Events.Going.{well, at_place}
use Rattle.cw_sim.specs.Kept.{is_current}
use Rattle.cw_sim.proofs.Kept.Halves.{strand_open}
use Rattle.cw_sim.proofs.Laws.Ready.{main_ready}

module _ (first : List ℤ) (k : CoreState) (core : IsCore first k) where
  abbrev m : OpenMachine
  m = k.machine

  abbrev t : List Node
  t = m.tree

  fine : IsWell m
  fine = well first k core

  tree : IsTree t
  tree = fine.sound.tree

  -- beneath main no block is pending where it stands in none
  pub main_lives : is_running m 0 ≡ true → in_block m 0 ≡ false → is_dying m 0 ≡ false
  main_lives running out =
      false_from_ne_true (is_dying m 0) (λ e.
      let z = any_conflict (λ c. is_above t 0 c.asker && list_any (falls m c) (all_nodes t)) m.conflicts e in
      let c = z.1 in
      let y = and_parts (is_above t 0 c.asker) (list_any (falls m c) (all_nodes t)) z.3 in
      let a = any_in (falls m c) (all_nodes t) y.1 in
      let b = a.0 in
      let pending = (and_parts (is_pending t b) (is_victim t (c ∷ []) b) a.2).0 in
      let low = node_there (λ x. is_block_kind x.kind && is_pending_state x.state) t b pending in
      let here : place t 0 ≡ 0 = eqb-true (place t 0) 0 (not-false _ out) in
      let over : is_above t 0 b ≡ true =
      sym (ancestor_above t 0 b (λ q. absurd (let block = pending_block t b pending in let root = strand_no_block t 0 tree.root in cc (block, root, ap (is_block t) q)))) ∙ root_ancestor t tree.rooted b low in
      let P : ℕ → Type 0 = λ p. is_above t p b ≡ true in
      let none = (at_place first k core 0 running (main_ready k)).within b low (subst P (sym here) over) in
      absurd (cc (pending, none)))

  -- a strand that runs waits for none, and its own fork is not joined
  pub waits_for_none : (x : ℕ) → is_running m x ≡ true → waits m x ≡ false
  waits_for_none x e =
      let a = and_parts (is_strand t x && not (has_finished m x) && not (waits m x)) (not (has m.stopped x)) e in
      not-true (waits m x) (and_parts (is_strand t x && not (has_finished m x)) (not (waits m x)) a.0).1

  pub is_there : (x : ℕ) → is_running m x ≡ true → is_current k x ≡ true
  is_there zero e = refl
  is_there (suc x) e =
      let here = runs m tree fine.nested (suc x) e in
      let low = strand_there t (suc x) here.strand in
      let fork = tree.strands (suc x) low (omega arith) here.strand in
      let opened = fine.nested.outer (suc x) (omega arith) low (strand_open m (suc x) here.strand here.unfinished) in
      and_from (is_strand t (suc x)) (not (has m.joined (parent_of t (suc x)))) here.strand (not_from_false (has m.joined (parent_of t (suc x))) (open_unjoined m (parent_of t (suc x)) fork opened))
