-- Two blocks tell whether all blocks between two accesses were committed in time.
use Rattle.std.proofs.Common.{◌≡◌, ℕ, zero, suc, ◌<◌, List, [], drop, length, refl, sym, ap, ◌∙◌, subst, arith, Bool, true, false, cond, Option, Some, None, inl, inr}
use Rattle.std.specs.Prelude.{◌⊎◌, ◌&&◌, not, IsTrue}
use Rattle.std.specs.List.{find}
use Rattle.std.specs.Option.{option_or}
use Rattle.std.proofs.lemmas.Bool.{and_parts, and_from, not-true, not_from_false, cases_eq}
use Rattle.cw_tree.specs.declared.node.Node.{Node}
use Rattle.cw_tree.specs.declared.node.BlockState.{BlockState}
use Rattle.cw_tree.specs.declared.node.BlockState.TheVariants.{Pending, Committed, Aborted}
use Rattle.cw_tree.specs.Nodes.{parent_of, stamp_of, end_of, is_block, is_block_kind, is_pending, is_pending_state, is_committed, is_committed_state}
use Rattle.cw_tree.specs.Walks.{IsRooted, path, above, is_ancestor, is_above, outermost}
use Rattle.cw_tree.specs.Shape.{IsTree, AreStamps}
use Rattle.cw_tree.specs.Journals.{EndedBetween}
use Rattle.cw_tree.specs.Refusals.{outermost_apart}
use Rattle.cw_tree.proofs.NodeKinds.{node_tells}
use Rattle.cw_tree.proofs.Walks.There.{node_there}
use Rattle.cw_tree.proofs.Walks.Climbs.{path_step, by_parent}
use Rattle.cw_tree.proofs.Walks.Ancestors.{ancestor_self, ancestor_root, ancestor_above, ancestor_up, ancestor_trans, above_parent}
use Rattle.cw_tree.proofs.Walks.Upward.{ancestor_cases, find_found, find_none}
use Rattle.cw_audit.specs.TwoBlocks.{nearest_uncommitted, TwoBlocksTell, EndedByTwo}

-- ## The outermost on the way up

-- the outermost of two searches gave
or_some : (o : Option ℕ) (c : Bool) (n b : ℕ) → option_or o (cond c (Some n) None) ≡ Some b → (o ≡ Some b) ⊎ ((o ≡ None) × (c ≡ true) × (n ≡ b))
or_some (Some x) c n b e = inl e
or_some None true n b e = inr (refl, refl, cc e)
or_some None false n b e = absurd (cc e)

or_none : (o : Option ℕ) (c : Bool) (n : ℕ) → option_or o (cond c (Some n) None) ≡ None → (o ≡ None) × (c ≡ false)
or_none (Some x) c n e = absurd (cc e)
or_none None true n e = absurd (cc e)
or_none None false n e = (refl, refl)

module _ (t : List Node) (r : IsRooted t) where
  -- the outermost passes the test, is an ancestor, and is one of all other ancestors that pass
  record Outermost (p : ℕ → Bool) (n b : ℕ) : Type 0 where
    passed : p b ≡ true
    above : is_ancestor t b n ≡ true
    over : (a : ℕ) → is_ancestor t a n ≡ true → p a ≡ true → is_ancestor t b a ≡ true

  outermost_step : (p : ℕ → Bool) (n : ℕ) → 0 < n → n < length t → outermost p (path t n) ≡ option_or (outermost p (path t (parent_of t n))) (cond (p n) (Some n) None)
  outermost_step p n q h = ap (outermost p) (path_step t r n q h)

  outermost_none : (p : ℕ → Bool) (n : ℕ) → n < length t → outermost p (path t n) ≡ None → (a : ℕ) → is_ancestor t a n ≡ true → p a ≡ false
  outermost_none p n h f a =
      by_parent t r (λ n. outermost p (path t n) ≡ None → is_ancestor t a n ≡ true → p a ≡ false)
      (λ f g. let P : ℕ → Type 0 = λ x. p x ≡ false in subst P (sym (ancestor_root t a g)) (or_none None (p 0) 0 f).1)
      (λ m q s more f g.
      let z = or_none (outermost p (path t (parent_of t m))) (p m) m (sym (outermost_step p m q s) ∙ f) in
      let P : ℕ → Type 0 = λ x. p x ≡ false in
      elim (ancestor_cases t r a m q s g) [ inl y ↦ subst P y z.1 | inr y ↦ more z.0 y ])
      n h f

  -- the node itself, where no node above it passes
  outermost_here : (p : ℕ → Bool) (n : ℕ) → p n ≡ true → ((a : ℕ) → is_ancestor t a n ≡ true → p a ≡ true → a ≡ n) → Outermost p n n
  outermost_here p n e alone = record {
    passed = e;
    above = ancestor_self t n;
    over = λ a g q. (let P : ℕ → Type 0 = λ x. is_ancestor t n x ≡ true in subst P (sym (alone a g q)) (ancestor_self t n));
  }

  outermost_up : (p : ℕ → Bool) (n b : ℕ) → 0 < n → n < length t → Outermost p (parent_of t n) b → Outermost p n b
  outermost_up p n b q h w =
      let up = ancestor_up t r b n q h w.above in
      let P : ℕ → Type 0 = λ x. is_ancestor t b x ≡ true in
      record { passed = w.passed; above = up; over = λ a g s. elim (ancestor_cases t r a n q h g) [ inl z ↦ subst P z up | inr z ↦ w.over a z s ] }

  outermost_found : (p : ℕ → Bool) (b n : ℕ) → n < length t → outermost p (path t n) ≡ Some b → Outermost p n b
  outermost_found p b n h =
      by_parent t r (λ n. outermost p (path t n) ≡ Some b → Outermost p n b)
      (λ f. at_root (or_some None (p 0) 0 b f))
      (λ m q s more f. at_node m q s more (or_some (outermost p (path t (parent_of t m))) (p m) m b (sym (outermost_step p m q s) ∙ f)))
      n h where
        at_root : (outermost p [] ≡ Some b) ⊎ ((outermost p [] ≡ None) × (p 0 ≡ true) × (0 ≡ b)) → Outermost p 0 b
        at_root (inl e) = absurd (cc e)
        at_root (inr e) = let P : ℕ → Type 0 = λ x. Outermost p 0 x in subst P e.2 (outermost_here p 0 e.1 (λ a g q. ancestor_root t a g))

        at_node : (m : ℕ) → 0 < m → m < length t → (outermost p (path t (parent_of t m)) ≡ Some b → Outermost p (parent_of t m) b)
            → (outermost p (path t (parent_of t m)) ≡ Some b) ⊎ ((outermost p (path t (parent_of t m)) ≡ None) × (p m ≡ true) × (m ≡ b)) → Outermost p m b
        at_node m q s more (inl e) = outermost_up p m b q s (more e)
        at_node m q s more (inr e) =
            let P : ℕ → Type 0 = λ x. Outermost p m x in
            let low : parent_of t m < length t = (let low = r m q s in omega (arith, low)) in
            let alone : (a : ℕ) → is_ancestor t a m ≡ true → p a ≡ true → a ≡ m = λ a g passes.
            elim (ancestor_cases t r a m q s g) [ inl z ↦ sym z | inr z ↦ absurd (cc (outermost_none p (parent_of t m) low e.0 a z, passes)) ] in
            subst P e.2 (outermost_here p m e.1 alone)

-- ## Two accesses

-- what was committed is not pending
not_open : (k : Bool) (s : BlockState) → (k && is_committed_state s) ≡ true → (k && is_pending_state s) ≡ false
not_open true Committed e = refl
not_open true Pending e = absurd (cc e)
not_open true Aborted e = absurd (cc e)
not_open false s e = absurd (cc e)

pub committed_not_pending : (t : List Node) (n : ℕ) → is_committed t n ≡ true → is_pending t n ≡ false
committed_not_pending t = node_tells false t (λ x. is_block_kind x.kind && is_committed_state x.state) (λ x. is_block_kind x.kind && is_pending_state x.state) (λ x. not_open (is_block_kind x.kind) x.state)

pub either : (b : Bool) → (b ≡ true) ⊎ (b ≡ false)
either true = inl refl
either false = inr refl

module _ (t : List Node) (tree : IsTree t) (stamps : AreStamps t) (u v : ℕ) (in_tree : u < length t) (v_in_tree : v < length t) where
  -- nothing is above the root
  none_over : (n b : ℕ) → is_above t b n ≡ true → 0 < n
  none_over zero b e = absurd (cc e)
  none_over (suc n) b e = omega arith

  -- what is above a node is on the path of its parent
  above_path : (n : ℕ) → 0 < n → n < length t → above t n ≡ path t (parent_of t n)
  above_path n p h = ap (drop 1) (path_step t tree.rooted n p h)

  parent_in : (n : ℕ) → 0 < n → n < length t → parent_of t n < length t
  parent_in n p h = let low = tree.rooted n p h in omega (arith, low)

  -- what is above an ancestor
  above_over : (a b n : ℕ) → n < length t → is_ancestor t a b ≡ true → is_above t b n ≡ true → is_above t a n ≡ true
  above_over a b n h e f =
      let p = none_over n b f in
      above_parent t tree.rooted a n p h ∙ ancestor_trans t tree.rooted a b (parent_of t n) (parent_in n p h) e (sym (above_parent t tree.rooted b n p h) ∙ f)

  abbrev uncommitted : ℕ → Bool
  uncommitted b = is_block t b && not (is_committed t b)

  abbrev apart : ℕ → Bool
  apart b = is_block t b && not (is_above t b v)

  block_in : (b : ℕ) → is_block t b ≡ true → b < length t
  block_in b e = node_there (λ x. is_block_kind x.kind) t b e

  between_from : (b : ℕ) → is_block t b ≡ true → is_above t b u ≡ true → is_above t b v ≡ false → (is_block t b && is_above t b u && not (is_above t b v)) ≡ true
  between_from b e f g = and_from _ _ (and_from _ _ e f) (not_from_false _ g)

  -- ## Two blocks tell what all do

  module _ (all : EndedBetween t u v) where
    nearest_told : 0 < u → (b : ℕ) → nearest_uncommitted t u ≡ Some b → is_above t b v ≡ true
    nearest_told p b e =
        let w = find_found t tree.rooted uncommitted b (parent_of t u) (parent_in u p in_tree) (sym (ap (find uncommitted) (above_path u p in_tree)) ∙ e) in
        let (block, open_) = and_parts (is_block t b) (not (is_committed t b)) w.passed in
        let over : is_above t b u ≡ true = above_parent t tree.rooted b u p in_tree ∙ w.above in
        elim (either (is_above t b v)) [ inl f ↦ f | inr f ↦ absurd (cc (not-true (is_committed t b) open_, (all b (block_in b block) (between_from b block over f)).0)) ]

    outermost_told : 0 < u → (b : ℕ) → outermost_apart t v u ≡ Some b → end_of t b < stamp_of t v
    outermost_told p b e =
        let w = outermost_found t tree.rooted apart b (parent_of t u) (parent_in u p in_tree) (sym (ap (outermost apart) (above_path u p in_tree)) ∙ e) in
        let (block, aside) = and_parts (is_block t b) (not (is_above t b v)) w.passed in
        let over : is_above t b u ≡ true = above_parent t tree.rooted b u p in_tree ∙ w.above in
        (all b (block_in b block) (between_from b block over (not-true (is_above t b v) aside))).1

  -- ## And the other way round

  module _ (w : TwoBlocksTell t u v) where
    -- a block between them that is not committed would not be passed by
    is_committed_between : (b : ℕ) → is_block t b ≡ true → is_above t b u ≡ true → is_above t b v ≡ false → is_committed t b ≡ true
    is_committed_between b block over aside =
        elim (either (is_committed t b)) [ inl e ↦ e | inr e ↦ absurd (refuted (and_from _ _ block (not_from_false _ e)) (find uncommitted (path t (parent_of t u))) refl) ] where
          p : 0 < u
          p = none_over u b over

          up : is_ancestor t b (parent_of t u) ≡ true
          up = sym (above_parent t tree.rooted b u p in_tree) ∙ over

          refuted : uncommitted b ≡ true → (o : Option ℕ) → find uncommitted (path t (parent_of t u)) ≡ o → ⊥
          refuted passes None e = absurd (cc (find_none t tree.rooted uncommitted (parent_of t u) (parent_in u p in_tree) e b up, passes))
          refuted passes (Some c) e =
              let found = find_found t tree.rooted uncommitted c (parent_of t u) (parent_in u p in_tree) e in
              let near = w.nearest c (ap (find uncommitted) (above_path u p in_tree) ∙ e) in
              absurd (cc (above_over b c v v_in_tree (found.innermost b up passes) near, aside))

    -- the outermost one ended last
    ended_between : (b : ℕ) → is_block t b ≡ true → is_above t b u ≡ true → is_above t b v ≡ false → end_of t b < stamp_of t v
    ended_between b block over aside = by (outermost apart (path t (parent_of t u))) refl where
      p : 0 < u
      p = none_over u b over

      up : is_ancestor t b (parent_of t u) ≡ true
      up = sym (above_parent t tree.rooted b u p in_tree) ∙ over

      passes : apart b ≡ true
      passes = and_from _ _ block (not_from_false _ aside)

      by : (o : Option ℕ) → outermost apart (path t (parent_of t u)) ≡ o → end_of t b < stamp_of t v
      by None e = absurd (cc (outermost_none t tree.rooted apart (parent_of t u) (parent_in u p in_tree) e b up, passes))
      by (Some m) e =
          let found = outermost_found t tree.rooted apart m (parent_of t u) (parent_in u p in_tree) e in
          let last = w.outermost m (ap (outermost apart) (above_path u p in_tree) ∙ e) in
          let (outer, beside) = and_parts (is_block t m) (not (is_above t m v)) found.passed in
          let outer_over : is_above t m u ≡ true = above_parent t tree.rooted m u p in_tree ∙ found.above in
          let committed = is_committed_between m outer outer_over (not-true (is_above t m v) beside) in
          let reaches : is_ancestor t m b ≡ true = found.over b up passes in
          elim (cases_eq b m) [
            | inl same ↦ (let P : ℕ → Type 0 = λ x. end_of t x < stamp_of t v in subst P (sym same) last)
            | inr other ↦
                (let closed = and_from _ _ (and_from _ _ outer (not_from_false _ (committed_not_pending t m committed))) (sym (ancestor_above t m b other) ∙ reaches) in
                let low : end_of t b < end_of t m = (stamps.beneath m b (block_in m outer) (block_in b block) closed).1 in
                omega (arith, low, last))
          ]

  pub ended_by_two : EndedBetween t u v → TwoBlocksTell t u v
  ended_by_two all = record { nearest = near u in_tree refl; outermost = far u in_tree refl } where
    near : (n : ℕ) → n < length t → n ≡ u → (b : ℕ) → nearest_uncommitted t u ≡ Some b → IsTrue (is_above t b v)
    near zero h e b f = (let P : ℕ → Type 0 = λ x. nearest_uncommitted t x ≡ Some b in let z = subst P (sym e) f in absurd (cc z))
    near (suc n) h e b f = nearest_told all (omega (arith, e)) b f

    far : (n : ℕ) → n < length t → n ≡ u → (b : ℕ) → outermost_apart t v u ≡ Some b → end_of t b < stamp_of t v
    far zero h e b f = (let P : ℕ → Type 0 = λ x. outermost_apart t v x ≡ Some b in let z = subst P (sym e) f in absurd (cc z))
    far (suc n) h e b f = outermost_told all (omega (arith, e)) b f

  pub two_tell : TwoBlocksTell t u v → EndedBetween t u v
  two_tell w b h e =
      let (front, aside) = and_parts (is_block t b && is_above t b u) (not (is_above t b v)) e in
      let (block, over) = and_parts (is_block t b) (is_above t b u) front in
      let beside = not-true (is_above t b v) aside in
      (is_committed_between w b block over beside, ended_between w b block over beside)

pub two_blocks_tell : EndedByTwo
two_blocks_tell t tree stamps u v h g = (ended_by_two t tree stamps u v h g, two_tell t tree stamps u v h g)
