-- A running strand is dying exactly where its row has a victim.
use Rattle.std.proofs.Common.{◌≡◌, ℕ, zero, suc, List, [], ◌∷◌, length, refl, ap, ◌∙◌, arith, Bool, true, cond, Option, Some, None, inl, inr}
use Rattle.std.specs.Prelude.{◌&&◌, not, ℤ, slice_get, is_some}
use Rattle.std.specs.List.{list_any}
use Rattle.std.proofs.lemmas.Bool.{and_parts, and_from, or_cases, or_left, or_right, false_from_ne_true}
use Rattle.cw_tree.specs.declared.conflict.Conflict.{Conflict}
use Rattle.cw_tree.specs.Nodes.{is_block_kind, is_pending_state, parent_of, is_pending, all_nodes}
use Rattle.cw_tree.specs.Walks.{has, is_above}
use Rattle.cw_tree.specs.Refusals.{is_victim}
use Rattle.cw_tree.proofs.Lists.{any_in, any_from}
use Rattle.cw_tree.proofs.Members.{below_in}
use Rattle.cw_tree.proofs.Walks.There.{node_there}
use Rattle.cw_open.specs.Machine.{OpenMachine, is_running, is_dying, falls}
use Rattle.cw_open.proofs.Open.Standing.{runs}
use Rattle.cw_core.specs.State.{CoreState}
use Rattle.cw_core.specs.Laws.{IsCore}
use Rattle.cw_core.specs.Kept.{IsAtStake, IsVictim, is_counted}
use Rattle.cw_core.proofs.Events.Going.{well}

-- conflicts by their places in a list
pub conflict_any : (p : Conflict → Bool) (cs : List Conflict) (i : ℕ) (c : Conflict) → slice_get cs i ≡ Some c → p c ≡ true → list_any p cs ≡ true
conflict_any p [] i c at e = absurd (cc at)
conflict_any p (x ∷ cs) zero c at e = let q : x ≡ c = cc at in or_left (p x) (list_any p cs) (ap p q ∙ e)
conflict_any p (x ∷ cs) (suc i) c at e = or_right (p x) (list_any p cs) (conflict_any p cs i c at e)

pub any_conflict : (p : Conflict → Bool) (cs : List Conflict) → list_any p cs ≡ true → (i : ℕ) × (c : Conflict) × (slice_get cs i ≡ Some c) × (p c ≡ true)
any_conflict p [] e = absurd (cc e)
any_conflict p (x ∷ cs) e = elim (or_cases (p x) (list_any p cs) e) [
  | inl a ↦ (0, x, refl, a)
  | inr a ↦ (let z = any_conflict p cs a in (suc z.0, z.1, z.2, z.3))
]

module _ (first : List ℤ) (k : CoreState) (core : IsCore first k) (s : ℕ) (running : is_running k.machine s ≡ true) where
  abbrev m : OpenMachine
  m = k.machine

  -- what falls beneath a running strand is at stake for it
  at_stake : (c : Conflict) (v : ℕ) → is_above m.tree s c.asker ≡ true → falls m c v ≡ true → IsAtStake m s c v
  at_stake c v over fall = record {
    over = over;
    falls = fall;
    beside = λ f fork own e.
        absurd (let joined = (runs m (well first k core).sound.tree (well first k core).nested s running).waits_for_none f fork own in cc (joined, e));
  }

  counts : is_counted m s ≡ true
  counts = ap (λ b. cond b (not (has m.joined (parent_of m.tree s))) (is_running m s)) (runs m (well first k core).sound.tree (well first k core).nested s running).unfinished ∙ running

  pub dying_is : (o : Option ℕ) → IsVictim m s o → is_dying m s ≡ is_some o
  dying_is None w =
      false_from_ne_true (is_dying m s) (λ e.
      let z = any_conflict (λ c. is_above m.tree s c.asker && list_any (falls m c) (all_nodes m.tree)) m.conflicts e in
      let c = z.1 in
      let y = and_parts (is_above m.tree s c.asker) (list_any (falls m c) (all_nodes m.tree)) z.3 in
      let v = any_in (falls m c) (all_nodes m.tree) y.1 in
      absurd (let h = w z.0 v.0 c z.2 (at_stake c v.0 y.0 v.2) in omega arith))
  dying_is (Some x) w =
      let z = w.1 counts in
      let c = z.1 in
      let pend = and_parts (is_pending m.tree x) (is_victim m.tree (c ∷ []) x) z.4 in
      let there = node_there (λ y. is_block_kind y.kind && is_pending_state y.state) m.tree x pend.0 in
      conflict_any (λ c. is_above m.tree s c.asker && list_any (falls m c) (all_nodes m.tree)) m.conflicts z.0 c z.2
      (and_from (is_above m.tree s c.asker) (list_any (falls m c) (all_nodes m.tree)) z.3 (any_from (falls m c) x (all_nodes m.tree) (below_in x (length m.tree) there) z.4))
