-- Children of a node, and the two strands of a fork.
use Rattle.std.proofs.Common.{◌≡◌, ℕ, ◌<◌, ◌≤◌, List, [], ◌∷◌, length, refl, sym, ◌∙◌, arith, Bool, true, false, inl, inr, subst, nat_eq, nat_lt}
use Rattle.std.specs.Prelude.{◌⊎◌, ◌&&◌, not}
use Rattle.std.proofs.lemmas.Bool.{and_parts, and_from, eqb-true, eq-eqb, ltb-true, lt-ltb, false_from_ne_true, not-true, cases_lt, cases_eq}
use Rattle.cw_tree.specs.declared.node.Node.{Node}
use Rattle.cw_tree.specs.Nodes.{parent_of, is_strand, is_fork, is_aborted, below}
use Rattle.cw_tree.specs.Walks.{IsRooted, above, is_ancestor}
use Rattle.cw_tree.specs.Accesses.{is_live}
use Rattle.cw_tree.specs.Series.{children}
use Rattle.cw_tree.specs.Names.{is_right}
use Rattle.cw_tree.specs.Shape.{IsTree}
use Rattle.cw_tree.proofs.Lists.{any_in, any_from, all_in, In}
use Rattle.cw_tree.proofs.Walks.Ancestors.{ancestor_above, ancestor_le, ancestor_trans}
use Rattle.cw_tree.proofs.Walks.Kin.{above_in, AreOrdered, ancestor_linear, children_apart}
use Rattle.cw_tree.proofs.InOrder.DepthFirst.{IsChild, child_is, child_in, children_rise}
use Rattle.cw_tree.proofs.InOrder.Visits.{child_over}
use Rattle.cw_tree.proofs.Members.{in_below, below_in}
use Rattle.cw_tree.proofs.Rising.{Rises}

-- the strands of a fork
module _ (t : List Node) (f l d : ℕ) (e : children t f ≡ l ∷ d ∷ []) where
  pub left_child : IsChild t f l
  left_child = child_is t f l (let P : List ℕ → Type 0 = λ xs. In l xs in subst P (sym e) (inl refl))

  pub right_child : IsChild t f d
  right_child = child_is t f d (let P : List ℕ → Type 0 = λ xs. In d xs in subst P (sym e) (inr (inl refl)))

  pub left_less : l < d
  left_less = (let P : List ℕ → Type 0 = λ xs. Rises xs in subst P e (children_rise t f)).0 d (inl refl)

  pub left_or_right : (c : ℕ) → IsChild t f c → (c ≡ l) ⊎ (c ≡ d)
  left_or_right c k = let P : List ℕ → Type 0 = λ xs. In c xs in elim (subst P e (child_in t f c k)) [ inl q ↦ inl q | inr w ↦ elim w [ inl q ↦ inr q | inr v ↦ absurd v ] ]

  abbrev sibling : ℕ → ℕ → Bool
  sibling s m = nat_lt 0 m && is_strand t m && nat_eq (parent_of t m) (parent_of t s)

  pub left_is_left : is_right t l ≡ false
  left_is_left = false_from_ne_true (is_right t l) (λ g.
      let z = any_in (sibling l) (below l) g in
      let y = and_parts (nat_lt 0 z.0 && is_strand t z.0) (nat_eq (parent_of t z.0) (parent_of t l)) z.2 in
      let low : z.0 < l = in_below z.0 l z.1 in
      let high = left_child.there in
      let less : l < d = left_less in
      let k : IsChild t f z.0 = record { some = ltb-true 0 z.0 (and_parts (nat_lt 0 z.0) (is_strand t z.0) y.0).0; there = omega arith; parent = eqb-true (parent_of t z.0) (parent_of t l) y.1 ∙ left_child.parent } in
      elim (left_or_right z.0 k) [ inl q ↦ omega (arith, q) | inr q ↦ omega (arith, q) ])

  pub right_is_right : is_strand t l ≡ true → is_right t d ≡ true
  right_is_right s =
      any_from (sibling d) l (below d) (below_in l d left_less)
      (and_from (nat_lt 0 l && is_strand t l) (nat_eq (parent_of t l) (parent_of t d)) (and_from (nat_lt 0 l) (is_strand t l) (lt-ltb 0 l left_child.some) s) (eq-eqb (parent_of t l) (parent_of t d) (left_child.parent ∙ sym right_child.parent)))

module _ (t : List Node) (r : IsRooted t) where
  pub parent_low : (q c : ℕ) → IsChild t q c → q < c
  parent_low q c k = let low : parent_of t c < c = r c k.some k.there in omega (arith, k.parent)

  -- what is over a child is over its parent too
  pub over_parent : (q c n : ℕ) → n < length t → IsChild t q c → is_ancestor t c n ≡ true → is_ancestor t q n ≡ true
  over_parent q c n h k e = ancestor_trans t r q c n h (child_over t r q c k) e

  -- if two nodes are ancestors of a node, one is an ancestor of the other
  pub either_over : (a b n : ℕ) → n < length t → is_ancestor t a n ≡ true → is_ancestor t b n ≡ true → (is_ancestor t a b ≡ true) ⊎ (is_ancestor t b a ≡ true)
  either_over a b n h e f = elim (cases_lt a b) [ inl l ↦ inl (ancestor_linear t r a b n h e f (omega arith)) | inr le ↦ inr (ancestor_linear t r b a n h f e le) ]

  pub both_over : (a b : ℕ) → a < length t → b < length t → is_ancestor t a b ≡ true → is_ancestor t b a ≡ true → a ≡ b
  both_over a b ha hb f g = let x : a ≤ b = ancestor_le t r a b hb f in let y : b ≤ a = ancestor_le t r b a ha g in omega arith

  -- no node stands in two that are in series
  pub ordered_apart : (c d x : ℕ) → AreOrdered t c d → x < length t → is_ancestor t c x ≡ true → is_ancestor t d x ≡ true → ⊥
  ordered_apart c d x o h f g =
      let less = o.less in
      let some = o.some in
      let same : c ≡ d = children_apart t r c d x h o.some (omega arith) o.same f g in
      omega arith

-- where a node is live, and was not rolled back itself, nothing over it was
pub live_over : (t : List Node) (n : ℕ) → is_live t n ≡ true → is_aborted t n ≡ false → (a : ℕ) → is_ancestor t a n ≡ true → is_aborted t a ≡ false
live_over t n live own a e = elim (cases_eq n a) [
  | inl q ↦ (let P : ℕ → Type 0 = λ x. is_aborted t x ≡ false in subst P q own)
  | inr ne ↦ not-true (is_aborted t a) (all_in (λ m. not (is_aborted t m)) a (above t n) live (above_in t a n (sym (ancestor_above t a n ne) ∙ e)))
]

-- what is right in a fork is a strand
pub fork_child : (t : List Node) → IsTree t → (q n : ℕ) → q < length t → is_fork t q ≡ true → IsChild t q n → is_strand t n ≡ true
fork_child t tree q n h f k =
    let y = tree.forks q h f in
    let two = and_parts (is_strand t y.0) (is_strand t y.1) y.3 in
    let P : ℕ → Type 0 = λ x. is_strand t x ≡ true in
    elim (left_or_right t q y.0 y.1 y.2 n k) [ inl z ↦ subst P (sym z) two.0 | inr z ↦ subst P (sym z) two.1 ]
