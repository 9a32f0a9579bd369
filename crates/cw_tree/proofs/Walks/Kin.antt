-- Members of paths, and children of one node.
use Rattle.std.proofs.Common.{◌≡◌, ◌≢◌, ℕ, ◌<◌, ◌≤◌, List, length, refl, sym, ◌∙◌, arith, true, false, inl, inr, subst, nat_eq, nat_lt, ap}
use Rattle.std.specs.Prelude.{◌⊎◌, ◌&&◌, not}
use Rattle.std.specs.List.{list_any}
use Rattle.std.proofs.lemmas.Bool.{and_parts, and_from, eqb-true, eq-eqb, ltb-true, lt-ltb, not-true, not_from_false, cases_eq, cases_lt}
use Rattle.cw_tree.specs.declared.node.Node.{Node}
use Rattle.cw_tree.specs.Nodes.{parent_of, is_fork, is_strand, all_nodes, is_fork_kind}
use Rattle.cw_tree.specs.Walks.{IsRooted, path, above, is_ancestor, is_above, has}
use Rattle.cw_tree.specs.Series.{are_ordered, is_before}
use Rattle.cw_tree.specs.Shape.{IsTree}
use Rattle.cw_tree.proofs.Lists.{In, any_in, any_from}
use Rattle.cw_tree.proofs.Walks.Climbs.{by_parent}
use Rattle.cw_tree.proofs.Walks.Ancestors.{ancestor_self, ancestor_root, ancestor_step, ancestor_up, ancestor_trans, ancestor_le}
use Rattle.cw_tree.proofs.Members.{below_in, filter_in}
use Rattle.cw_tree.proofs.Walks.There.{node_there}

pub has_in : (ns : List ℕ) (a : ℕ) → has ns a ≡ true → In a ns
has_in ns a e =
    let z = any_in (λ m. nat_eq m a) ns e in
    let P : ℕ → Type 0 = λ x. In x ns in
    subst P (eqb-true z.0 a z.2) z.1

pub in_has : (ns : List ℕ) (a : ℕ) → In a ns → has ns a ≡ true
in_has ns a h = any_from (λ m. nat_eq m a) a ns h (eq-eqb a a refl)

pub ancestor_in : (t : List Node) (a n : ℕ) → is_ancestor t a n ≡ true → In a (path t n)
ancestor_in t a n e = has_in (path t n) a e

pub in_ancestor : (t : List Node) (a n : ℕ) → In a (path t n) → is_ancestor t a n ≡ true
in_ancestor t a n h = in_has (path t n) a h

pub above_in : (t : List Node) (a n : ℕ) → is_above t a n ≡ true → In a (above t n)
above_in t a n e = has_in (above t n) a e

pub in_above : (t : List Node) (a n : ℕ) → In a (above t n) → is_above t a n ≡ true
in_above t a n h = in_has (above t n) a h

-- c and d are children of one node and in series, c first
pub record AreOrdered (t : List Node) (c d : ℕ) : Type 0 where
  pub some : 0 < c
  pub less : c < d
  pub same : parent_of t c ≡ parent_of t d
  pub no_fork : is_fork t (parent_of t c) ≡ false

of_ordered : (t : List Node) (c d : ℕ) → are_ordered t c d ≡ true → AreOrdered t c d
of_ordered t c d e =
    let a = and_parts (nat_lt 0 c && nat_lt c d && nat_eq (parent_of t c) (parent_of t d)) (not (is_fork t (parent_of t c))) e in
    let b = and_parts (nat_lt 0 c && nat_lt c d) (nat_eq (parent_of t c) (parent_of t d)) a.0 in
    let f = and_parts (nat_lt 0 c) (nat_lt c d) b.0 in
    record { some = ltb-true 0 c f.0; less = ltb-true c d f.1; same = eqb-true (parent_of t c) (parent_of t d) b.1; no_fork = not-true (is_fork t (parent_of t c)) a.1 }

ordered_of : (t : List Node) (c d : ℕ) → AreOrdered t c d → are_ordered t c d ≡ true
ordered_of t c d o =
    and_from (nat_lt 0 c && nat_lt c d && nat_eq (parent_of t c) (parent_of t d)) (not (is_fork t (parent_of t c)))
    (and_from (nat_lt 0 c && nat_lt c d) (nat_eq (parent_of t c) (parent_of t d)) (and_from (nat_lt 0 c) (nat_lt c d) (lt-ltb 0 c o.some) (lt-ltb c d o.less)) (eq-eqb (parent_of t c) (parent_of t d) o.same))
    (not_from_false (is_fork t (parent_of t c)) o.no_fork)

-- n is before m: first and second are children of one node and in series, and n stands in the first, m in the second
pub record InSeries (t : List Node) (n m : ℕ) : Type 0 where
  pub first : ℕ
  pub second : ℕ
  pub ordered : AreOrdered t first second
  pub over_first : is_ancestor t first n ≡ true
  pub over_second : is_ancestor t second m ≡ true

pub of_before : (t : List Node) (n m : ℕ) → is_before t n m ≡ true → InSeries t n m
of_before t n m e =
    let y = any_in (λ c. list_any (are_ordered t c) (path t m)) (path t n) e in
    let z = any_in (are_ordered t y.0) (path t m) y.2 in
    record { first = y.0; second = z.0; ordered = of_ordered t y.0 z.0 z.2; over_first = in_ancestor t y.0 n y.1; over_second = in_ancestor t z.0 m z.1 }

pub before_of : (t : List Node) (n m : ℕ) → InSeries t n m → is_before t n m ≡ true
before_of t n m s =
    any_from (λ c. list_any (are_ordered t c) (path t m)) s.first (path t n) (ancestor_in t s.first n s.over_first)
    (any_from (are_ordered t s.first) s.second (path t m) (ancestor_in t s.second m s.over_second) (ordered_of t s.first s.second s.ordered))

module _ (t : List Node) (r : IsRooted t) where
  -- if two nodes are ancestors of a node, the one with the smaller number is an ancestor of the other
  pub ancestor_linear : (a b n : ℕ) → n < length t → is_ancestor t a n ≡ true → is_ancestor t b n ≡ true → a ≤ b → is_ancestor t a b ≡ true
  ancestor_linear a b n h =
      by_parent t r (λ n. is_ancestor t a n ≡ true → is_ancestor t b n ≡ true → a ≤ b → is_ancestor t a b ≡ true)
      (λ e f le. let P : ℕ → Type 0 = λ x. is_ancestor t a x ≡ true in subst P (sym (ancestor_root t b f)) e)
      (λ n p h more e f le. by_case n p h more e f le (cases_eq n b))
      n h where
        by_case : (n : ℕ) → 0 < n → n < length t → (is_ancestor t a (parent_of t n) ≡ true → is_ancestor t b (parent_of t n) ≡ true → a ≤ b → is_ancestor t a b ≡ true)
            → is_ancestor t a n ≡ true → is_ancestor t b n ≡ true → a ≤ b → (n ≡ b) ⊎ (n ≡ b → ⊥) → is_ancestor t a b ≡ true
        by_case n p h more e f le (inl q) = let P : ℕ → Type 0 = λ x. is_ancestor t a x ≡ true in subst P q e
        by_case n p h more e f le (inr ne) =
            let up : is_ancestor t b (parent_of t n) ≡ true = sym (ancestor_step t r b n p h ne) ∙ f in
            let low : parent_of t n < n = r n p h in
            let high : b ≤ parent_of t n = ancestor_le t r b (parent_of t n) (omega arith) up in
            let other : n ≢ a = omega arith in
            more (sym (ancestor_step t r a n p h other) ∙ e) up le

  apart : (c d : ℕ) → d < length t → 0 < d → parent_of t c ≡ parent_of t d → is_ancestor t c d ≡ true → 0 < c → c < length t → c ≡ d
  apart c d h p same e q g =
      elim (cases_eq d c) [
        | inl z ↦ sym z
        | inr ne ↦
            (let up : is_ancestor t c (parent_of t d) ≡ true = sym (ancestor_step t r c d p h ne) ∙ e in
            let low : parent_of t d < d = r d p h in
            let lower : parent_of t c < c = r c q g in
            let le : c ≤ parent_of t d = ancestor_le t r c (parent_of t d) (omega arith) up in
            absurd (omega (arith, same)))
      ]

  -- no node stands in two children of one node
  pub children_apart : (c d n : ℕ) → n < length t → 0 < c → 0 < d → parent_of t c ≡ parent_of t d → is_ancestor t c n ≡ true → is_ancestor t d n ≡ true → c ≡ d
  children_apart c d n h p q same e f =
      let lc : c ≤ n = ancestor_le t r c n h e in
      let ld : d ≤ n = ancestor_le t r d n h f in
      elim (cases_lt d c) [
        | inl less ↦ sym (apart d c (omega arith) p (sym same) (ancestor_linear d c n h f e (omega arith)) q (omega arith))
        | inr le ↦ apart c d (omega arith) q same (ancestor_linear c d n h e f le) p (omega arith)
      ]

  -- what stands before a node does not stand in it
  pub before_apart : (n m : ℕ) → n < length t → is_before t n m ≡ true → is_ancestor t m n ≡ true → ⊥
  before_apart n m h e f =
      let s = of_before t n m e in
      let o = s.ordered in
      let same : s.first ≡ s.second = children_apart s.first s.second n h o.some (let a = o.some in let b = o.less in omega arith) o.same s.over_first (ancestor_trans t r s.second m n h s.over_second f) in
      let less = o.less in
      omega (arith, same)

  -- the child of a node through which another is reached
  pub record Branch (a n : ℕ) : Type 0 where
    pub child : ℕ
    pub some : 0 < child
    pub parent : parent_of t child ≡ a
    pub over : is_ancestor t child n ≡ true

  pub branch : (a n : ℕ) → n < length t → n ≢ a → is_ancestor t a n ≡ true → Branch a n
  branch a n h =
      by_parent t r (λ n. n ≢ a → is_ancestor t a n ≡ true → Branch a n) (λ ne e. absurd (ne (sym (ancestor_root t a e))))
      (λ n p h more ne e.
      let up = sym (ancestor_step t r a n p h ne) ∙ e in
      elim (cases_eq (parent_of t n) a) [
        | inl q ↦ record { child = n; some = p; parent = q; over = ancestor_self t n }
        | inr other ↦ (let b = more other up in record { child = b.child; some = b.some; parent = b.parent; over = ancestor_up t r b.child n p h b.over })
      ])
      n h

-- the children of a fork are strands
pub fork_child : (t : List Node) → IsTree t → (n : ℕ) → 0 < n → n < length t → is_fork t (parent_of t n) ≡ true → is_strand t n ≡ true
fork_child t tree n some low fork =
    let f = parent_of t n in
    let (l, r, these, strands) = tree.forks f (node_there (λ y. is_fork_kind y.kind) t f fork) fork in
    let both = and_parts (is_strand t l) (is_strand t r) strands in
    let i = filter_in (λ m. nat_lt 0 m && nat_eq (parent_of t m) f) n (all_nodes t) (below_in n (length t) low) (and_from (nat_lt 0 n) (nat_eq (parent_of t n) f) (lt-ltb 0 n some) (eq-eqb (parent_of t n) f refl)) in
    let P : List ℕ → Type 0 = λ ns. In n ns in
    elim (subst P these i) [
      | inl q ↦ ap (is_strand t) q ∙ both.0
      | inr z ↦ elim z [ inl q ↦ ap (is_strand t) q ∙ both.1 | inr none ↦ absurd none ]
    ]
