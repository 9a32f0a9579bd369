-- Each node stands in the new tree as it was, under its new number.
use Rattle.std.proofs.Common.{◌≡◌, ℕ, zero, suc, ◌<◌, List, length, ap, sym, ◌∙◌, arith, true, inl, inr, subst, Some}
use Rattle.std.specs.Prelude.{◌⊎◌, slice_get, option_map}
use Rattle.std.proofs.lemmas.Bool.{cases_eq}
use Rattle.cw_tree.specs.declared.node.Node.{Node}
use Rattle.cw_tree.specs.Nodes.{parent_of}
use Rattle.cw_tree.specs.Walks.{IsNumbered, is_ancestor, is_above}
use Rattle.cw_tree.specs.Series.{depth_first}
use Rattle.cw_tree.specs.InOrder.{renamed, with_parent_renamed, node_in_order, in_order}
use Rattle.cw_tree.specs.OrderLaws.{TreesStay, NodesStay, NumbersDiffer, AncestorsStay}
use Rattle.cw_tree.proofs.Walks.Climbs.{by_parent}
use Rattle.cw_tree.proofs.Walks.Ancestors.{ancestor_self, ancestor_root, ancestor_step, above_parent}
use Rattle.cw_tree.proofs.Names.Forks.{same_truth}
use Rattle.cw_tree.proofs.InOrder.Visits.{as_many, all_come, renamed_is, first_is}
use Rattle.cw_tree.proofs.InOrder.Renumbered.{visited, some_node, new_length, new_at, new_parent, old_at, in_order_numbered}
use Rattle.cw_tree.proofs.Members.{in_at}

module _ (t : List Node) (w : IsNumbered t) where
  -- the new number of a node of t
  pub record NumberOf (n : ℕ) : Type 0 where
    pub low : renamed t n < length t
    pub node : visited t (renamed t n) ≡ n

  pub number_of : (n : ℕ) → n < length t → NumberOf n
  number_of n h =
      let z = in_at n (depth_first t) (all_come t w.rooted n h) in
      let low : z.0 < length t = omega (arith, z.1, as_many t w.rooted (some_node t w)) in
      let e : renamed t n ≡ z.0 = ap (renamed t) (sym z.2) ∙ renamed_is t w.rooted (some_node t w) z.0 low in
      record { low = omega arith; node = ap (visited t) e ∙ z.2 }

  pub node_stays : (n : ℕ) → n < length t → slice_get (in_order t) (renamed t n) ≡ option_map (with_parent_renamed t) (slice_get t n)
  node_stays n h =
      let z = number_of n h in
      new_at t w (renamed t n) z.low ∙ ap (λ m. Some (node_in_order t m)) z.node ∙ sym (ap (option_map (with_parent_renamed t)) (old_at t w n h))

  pub renamed_apart : (n m : ℕ) → n < length t → m < length t → renamed t n ≡ renamed t m → n ≡ m
  renamed_apart n m h g e = sym (number_of n h).node ∙ ap (visited t) e ∙ (number_of m g).node

  pub root_stays : renamed t 0 ≡ 0
  root_stays = sym (ap (renamed t) (first_is t w.rooted (some_node t w))) ∙ renamed_is t w.rooted (some_node t w) 0 (some_node t w)

  pub parent_stays : (n : ℕ) → n < length t → parent_of (in_order t) (renamed t n) ≡ renamed t (parent_of t n)
  parent_stays n h = let z = number_of n h in new_parent t w (renamed t n) z.low ∙ ap (λ m. renamed t (parent_of t m)) z.node

  -- a node that is not the root is not the root of the new tree
  pub renamed_some : (n : ℕ) → 0 < n → n < length t → 0 < renamed t n
  renamed_some n p h =
      elim (cases_eq (renamed t n) 0) [
        | inl e ↦ (let same : n ≡ 0 = renamed_apart n 0 h (some_node t w) (e ∙ sym root_stays) in omega arith)
        | inr ne ↦ omega arith
      ]

  pub ancestor_stays : (a n : ℕ) → a < length t → n < length t → is_ancestor (in_order t) (renamed t a) (renamed t n) ≡ is_ancestor t a n
  ancestor_stays a n g h =
      by_parent t w.rooted (λ n. is_ancestor (in_order t) (renamed t a) (renamed t n) ≡ is_ancestor t a n) (at_root (cases_eq 0 a)) (λ n p h more. step n p h more (cases_eq n a)) n h where
        at_root : (0 ≡ a) ⊎ (0 ≡ a → ⊥) → is_ancestor (in_order t) (renamed t a) (renamed t 0) ≡ is_ancestor t a 0
        at_root (inl e) =
            let P : ℕ → Type 0 = λ x. is_ancestor (in_order t) (renamed t x) (renamed t 0) ≡ is_ancestor t x 0 in
            subst P e (ancestor_self (in_order t) (renamed t 0) ∙ sym (ancestor_self t 0))
        at_root (inr ne) =
            same_truth (is_ancestor (in_order t) (renamed t a) (renamed t 0)) (is_ancestor t a 0)
            (λ e. absurd (ne (sym (renamed_apart a 0 g (some_node t w) (let P : ℕ → Type 0 = λ x. is_ancestor (in_order t) (renamed t a) x ≡ true in ancestor_root (in_order t) (renamed t a) (subst P root_stays e) ∙ sym root_stays)))))
            (λ e. absurd (ne (sym (ancestor_root t a e))))

        step : (n : ℕ) → 0 < n → n < length t → is_ancestor (in_order t) (renamed t a) (renamed t (parent_of t n)) ≡ is_ancestor t a (parent_of t n) → (n ≡ a) ⊎ (n ≡ a → ⊥)
            → is_ancestor (in_order t) (renamed t a) (renamed t n) ≡ is_ancestor t a n
        step n p h more (inl e) =
            let P : ℕ → Type 0 = λ x. is_ancestor (in_order t) (renamed t x) (renamed t n) ≡ is_ancestor t x n in
            subst P e (ancestor_self (in_order t) (renamed t n) ∙ sym (ancestor_self t n))
        step n p h more (inr ne) =
            ancestor_step (in_order t) (in_order_numbered t w).rooted (renamed t a) (renamed t n) (renamed_some n p h) (omega (arith, (number_of n h).low, new_length t w)) (λ e. ne (renamed_apart n a h g e))
            ∙ ap (is_ancestor (in_order t) (renamed t a)) (parent_stays n h) ∙ more ∙ sym (ancestor_step t w.rooted a n p h ne)

  pub above_stays : (a n : ℕ) → a < length t → n < length t → is_above (in_order t) (renamed t a) (renamed t n) ≡ is_above t a n
  above_stays a zero g h = ap (is_above (in_order t) (renamed t a)) root_stays
  above_stays a (suc n) g h =
      let low : parent_of t (suc n) < suc n = w.rooted (suc n) (omega arith) h in
      above_parent (in_order t) (in_order_numbered t w).rooted (renamed t a) (renamed t (suc n)) (renamed_some (suc n) (omega arith) h) (omega (arith, (number_of (suc n) h).low, new_length t w))
      ∙ ap (is_ancestor (in_order t) (renamed t a)) (parent_stays (suc n) h)
      ∙ ancestor_stays a (parent_of t (suc n)) g (omega arith)
      ∙ sym (above_parent t w.rooted a (suc n) (omega arith) h)

pub trees_stay : TreesStay
trees_stay t w = (in_order_numbered t w, new_length t w)

pub nodes_stay : NodesStay
nodes_stay t w n h = ((number_of t w n h).low, node_stays t w n h)

pub numbers_differ : NumbersDiffer
numbers_differ t w = (root_stays t w, renamed_apart t w)

pub ancestors_stay : AncestorsStay
ancestors_stay t w a n g h = (ancestor_stays t w a n g h, above_stays t w a n g h)
