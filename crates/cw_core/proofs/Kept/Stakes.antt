-- Which blocks have to fall for what was refused beneath a strand, as the tree grows.
use Rattle.std.proofs.Common.{◌≡◌, ℕ, ◌<◌, ◌≤◌, List, [], ◌∷◌, ◌++◌, length, ap, sym, ◌∙◌, arith, Bool, true, false, cond, Some, None, nat_eq, inl, inr}
use Rattle.std.specs.Prelude.{◌&&◌, ◌||◌}
use Rattle.std.specs.List.{list_any}
use Rattle.std.specs.Option.{option_map_or}
use Rattle.std.proofs.lemmas.Bool.{and_parts, cases_lt, false_from_ne_true, ne_eqb}
use Rattle.cw_tree.specs.declared.node.Node.{Node}
use Rattle.cw_tree.specs.declared.conflict.Conflict.{Conflict}
use Rattle.cw_tree.specs.Nodes.{is_fork_kind, is_block_kind, is_pending_state, stamp_of, is_fork, is_block, is_pending}
use Rattle.cw_tree.specs.Walks.{IsRooted, has, is_above}
use Rattle.cw_tree.specs.Series.{strand_of}
use Rattle.cw_tree.specs.Refusals.{victim_of, is_victim}
use Rattle.cw_tree.proofs.Walks.There.{node_there}
use Rattle.cw_tree.proofs.NextNodes.Growing.{node_grown, number_grown, is_above_grown, strand_of_grown}
use Rattle.cw_open.specs.Machine.{OpenMachine, falls}
use Rattle.cw_core.specs.Kept.{IsAtStake}

abbrev names : ℕ → Conflict → Bool
names n c = option_map_or (λ x. nat_eq x n) (victim_of c) false

module _ (t xs : List Node) (r : IsRooted t) (m z : OpenMachine) (tm : m.tree ≡ t) (tz : z.tree ≡ t ++ xs) (same : z.joined ≡ m.joined) where
  abbrev u : List Node
  u = t ++ xs

  falls_old : (c : Conflict) (v : ℕ) → v < length t → falls z c v ≡ falls m c v
  falls_old c v h =
      ap (λ t. is_pending t v && is_victim t (c ∷ []) v) tz
      ∙ ap (λ b. b && is_victim u (c ∷ []) v) (node_grown t xs (λ y. is_block_kind y.kind && is_pending_state y.state) v h)
      ∙ ap (λ b. is_pending t v && (b && list_any (names (stamp_of u v)) (c ∷ []))) (node_grown t xs (λ y. is_block_kind y.kind) v h)
      ∙ ap (λ n. is_pending t v && (is_block t v && list_any (names n) (c ∷ []))) (number_grown t xs (λ y. y.stamp) v h)
      ∙ ap (λ t. is_pending t v && is_victim t (c ∷ []) v) (sym tm)

  above_old : (s n : ℕ) → n < length t → is_above z.tree s n ≡ is_above m.tree s n
  above_old s n h = ap (λ t. is_above t s n) tz ∙ is_above_grown t xs r s n h ∙ ap (λ t. is_above t s n) (sym tm)

  -- no new block falls
  pub stake_old : (s v : ℕ) (c : Conflict) → c.asker < length t → ((v : ℕ) → length t ≤ v → falls z c v ≡ false) → IsAtStake z s c v → IsAtStake m s c v
  stake_old s v c low fresh w =
      let h : v < length t = elim (cases_lt v (length t)) [ inl h ↦ h | inr le ↦ absurd (cc (w.falls, fresh v le)) ] in
      record {
        over = sym (above_old s c.asker low) ∙ w.over;
        falls = sym (falls_old c v h) ∙ w.falls;
        beside = λ f fork own off.
            let there : f < length t = node_there (λ y. is_fork_kind y.kind) t f (ap (λ t. is_fork t f) (sym tm) ∙ fork) in
            sym (above_old f c.asker low)
            ∙ w.beside f (ap (λ t. is_fork t f) tz ∙ node_grown t xs (λ y. is_fork_kind y.kind) f there ∙ ap (λ t. is_fork t f) (sym tm) ∙ fork)
            (ap (λ t. strand_of t f) tz ∙ strand_of_grown t xs r f there ∙ ap (λ t. strand_of t f) (sym tm) ∙ own) (ap (λ js. has js f) same ∙ off);
      }

  pub falls_still : (c : Conflict) (v : ℕ) → falls m c v ≡ true → falls z c v ≡ true
  falls_still c v e =
      let z = and_parts (is_pending m.tree v) (is_victim m.tree (c ∷ []) v) e in
      falls_old c v (node_there (λ y. is_block_kind y.kind && is_pending_state y.state) t v (ap (λ t. is_pending t v) (sym tm) ∙ z.0)) ∙ e

-- a node with a stamp that no conflict names does not fall
pub no_victim : (m : OpenMachine) (c : Conflict) (v : ℕ) → c.victim < stamp_of m.tree v → falls m c v ≡ false
no_victim m c v less = false_from_ne_true (falls m c v) (λ e.
    let y = and_parts (is_pending m.tree v) (is_victim m.tree (c ∷ []) v) e in
    let x = and_parts (is_block m.tree v) (list_any (names (stamp_of m.tree v)) (c ∷ [])) y.1 in
    none (nat_eq c.victim 0) x.1) where
      none : (b : Bool) → (option_map_or (λ x. nat_eq x (stamp_of m.tree v)) (cond b None (Some c.victim)) false || false) ≡ true → ⊥
      none true e = absurd (cc e)
      none false e = absurd (cc (e, ne_eqb c.victim (stamp_of m.tree v) (λ q. absurd (omega arith))))
