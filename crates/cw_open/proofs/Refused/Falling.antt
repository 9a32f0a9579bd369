-- A strand that has to roll back a block has to until that block is rolled back, whatever others do.
use Rattle.std.proofs.Common.{◌≡◌, ℕ, ◌<◌, ◌≤◌, List, [], ◌∷◌, ◌++◌, length, ap, ◌∙◌, arith, Bool, true, false, inl, inr, nat_eq}
use Rattle.std.specs.Prelude.{◌&&◌, All}
use Rattle.std.specs.List.{list_any}
use Rattle.std.specs.Option.{option_map_or}
use Rattle.std.proofs.lemmas.Bool.{and_parts, and_from, or_cases, or_left, or_right}
use Rattle.std.proofs.lemmas.List.Elements.{All-head, All-tail}
use Rattle.cw_tree.specs.declared.node.Node.{Node}
use Rattle.cw_tree.specs.declared.conflict.Conflict.{Conflict}
use Rattle.cw_tree.specs.Nodes.{stamp_of, is_block, is_pending, all_nodes}
use Rattle.cw_tree.specs.Walks.{is_ancestor, is_above}
use Rattle.cw_tree.specs.Series.{strand_of}
use Rattle.cw_tree.specs.Refusals.{is_victim, victim_of}
use Rattle.cw_tree.proofs.Lists.{any_in, any_from}
use Rattle.cw_tree.proofs.Members.{in_below, below_in}
use Rattle.cw_open.specs.Machine.{OpenMachine, falls, is_dying, leads_back}
use Rattle.cw_open.specs.Open.{is_open}

-- some of these passes, and so some of these and more, where each that passed still does
pub any_kept : {X : Type 0} (P : X → Type 0) (p q : X → Bool) (xs ys : List X) → All P xs → ((x : X) → P x → p x ≡ true → q x ≡ true) → list_any p xs ≡ true → list_any q (xs ++ ys) ≡ true
any_kept P p q [] ys all f e = absurd (cc e)
any_kept P p q (x ∷ xs) ys all f e =
    elim (or_cases (p x) (list_any p xs) e) [
      | inl a ↦ or_left (q x) (list_any q (xs ++ ys)) (f x (All-head P x xs all) a)
      | inr a ↦ or_right (q x) (list_any q (xs ++ ys)) (any_kept P p q xs ys (All-tail P x xs all) f a)
    ]

pub any_weaker : {X : Type 0} (p q : X → Bool) (xs : List X) → ((x : X) → p x ≡ true → q x ≡ true) → list_any p xs ≡ true → list_any q xs ≡ true
any_weaker p q [] f e = e
any_weaker p q (x ∷ xs) f e =
    elim (or_cases (p x) (list_any p xs) e) [
      | inl a ↦ or_left (q x) (list_any q xs) (f x a)
      | inr a ↦ or_right (q x) (list_any q xs) (any_weaker p q xs f a)
    ]

-- such a strand is dying
pub back_dies : (m : OpenMachine) (s b : ℕ) → leads_back m s b ≡ true → is_dying m s ≡ true
back_dies m s b e =
    any_weaker (λ c. is_above m.tree s c.asker && list_any (λ v. falls m c v && is_ancestor m.tree v b) (all_nodes m.tree)) (λ c. is_above m.tree s c.asker && list_any (falls m c) (all_nodes m.tree)) m.conflicts
    (λ c f.
    let z = and_parts (is_above m.tree s c.asker) (list_any (λ v. falls m c v && is_ancestor m.tree v b) (all_nodes m.tree)) f in
    and_from (is_above m.tree s c.asker) (list_any (falls m c) (all_nodes m.tree)) z.0
    (any_weaker (λ v. falls m c v && is_ancestor m.tree v b) (falls m c) (all_nodes m.tree) (λ v g. (and_parts (falls m c v) (is_ancestor m.tree v b) g).0) z.1)) e

-- the askers are there
abbrev pub AreAskers : List Node → List Conflict → Type 0
AreAskers t cs = All (λ c. c.asker < length t) cs

-- in tree u strand s and block b are to each other node of tree t what they were there
pub record Holds (t u : List Node) (s b : ℕ) : Type 0 where
  pub longer : length t ≤ length u
  pub above : (n : ℕ) → n < length t → is_above u s n ≡ is_above t s n
  pub over : (v : ℕ) → is_ancestor u v b ≡ is_ancestor t v b
  pub pending : (v : ℕ) → v < length t → is_ancestor t v b ≡ true → is_pending t v ≡ true → is_pending u v ≡ true
  pub blocks : (v : ℕ) → v < length t → is_block u v ≡ is_block t v
  pub stamps : (v : ℕ) → v < length t → stamp_of u v ≡ stamp_of t v

module _ (m k : OpenMachine) (more : List Conflict) (told : k.conflicts ≡ m.conflicts ++ more) (askers : AreAskers m.tree m.conflicts) (s b : ℕ) (h : Holds m.tree k.tree s b) where
  falls_kept : (c : Conflict) (v : ℕ) → v < length m.tree → is_ancestor m.tree v b ≡ true → falls m c v ≡ true → falls k c v ≡ true
  falls_kept c v low over e =
      let z = and_parts (is_pending m.tree v) (is_victim m.tree (c ∷ []) v) e in
      and_from (is_pending k.tree v) (is_victim k.tree (c ∷ []) v) (h.pending v low over z.0)
      (ap (λ q. q && list_any (λ c. option_map_or (λ x. nat_eq x (stamp_of k.tree v)) (victim_of c) false) (c ∷ [])) (h.blocks v low)
      ∙ ap (λ n. is_block m.tree v && list_any (λ c. option_map_or (λ x. nat_eq x n) (victim_of c) false) (c ∷ [])) (h.stamps v low)
      ∙ z.1)

  falling : (c : Conflict) → list_any (λ v. falls m c v && is_ancestor m.tree v b) (all_nodes m.tree) ≡ true → list_any (λ v. falls k c v && is_ancestor k.tree v b) (all_nodes k.tree) ≡ true
  falling c e =
      let z = any_in (λ v. falls m c v && is_ancestor m.tree v b) (all_nodes m.tree) e in
      let low : z.0 < length m.tree = in_below z.0 (length m.tree) z.1 in
      let y = and_parts (falls m c z.0) (is_ancestor m.tree z.0 b) z.2 in
      let longer = h.longer in
      any_from (λ v. falls k c v && is_ancestor k.tree v b) z.0 (all_nodes k.tree) (below_in z.0 (length k.tree) (omega arith))
      (and_from (falls k c z.0) (is_ancestor k.tree z.0 b) (falls_kept c z.0 low y.1 y.0) (h.over z.0 ∙ y.1))

  pub back_kept : leads_back m s b ≡ true → leads_back k s b ≡ true
  back_kept e =
      ap (list_any (λ c. is_above k.tree s c.asker && list_any (λ v. falls k c v && is_ancestor k.tree v b) (all_nodes k.tree))) told
      ∙ any_kept (λ c. c.asker < length m.tree) (λ c. is_above m.tree s c.asker && list_any (λ v. falls m c v && is_ancestor m.tree v b) (all_nodes m.tree))
      (λ c. is_above k.tree s c.asker && list_any (λ v. falls k c v && is_ancestor k.tree v b) (all_nodes k.tree)) m.conflicts more askers
      (λ c low f.
      let z = and_parts (is_above m.tree s c.asker) (list_any (λ v. falls m c v && is_ancestor m.tree v b) (all_nodes m.tree)) f in
      and_from (is_above k.tree s c.asker) (list_any (λ v. falls k c v && is_ancestor k.tree v b) (all_nodes k.tree)) (h.above c.asker low ∙ z.0) (falling c z.1)) e

-- A live access that is not in its cell's list was undone: it stands beneath a pending block that its strand has to roll back, and in which
-- nothing is open.
pub record IsGone (m : OpenMachine) (n : ℕ) : Type 0 where
  pub block : ℕ
  pub pending : is_pending m.tree block ≡ true
  pub over : is_above m.tree block n ≡ true
  pub back : leads_back m (strand_of m.tree block) block ≡ true
  pub shut : (k : ℕ) → k < length m.tree → is_above m.tree block k ≡ true → is_open m k ≡ false

-- and so it is in another state
abbrev pub StayShut : OpenMachine → OpenMachine → Type 0
StayShut m z = (n : ℕ) (g : IsGone m n) (k : ℕ) → k < length z.tree → is_above z.tree g.block k ≡ true → is_open z k ≡ false
