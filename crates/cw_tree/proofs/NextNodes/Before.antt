-- What is before what in series, as a node comes last and as a block is closed.
use Rattle.std.proofs.Common.{◌≡◌, ◌≢◌, ℕ, zero, suc, ◌<◌, ◌≤◌, List, [], ◌∷◌, ◌++◌, length, refl, ap, sym, ◌∙◌, arith, true, false, inl, inr, nat_eq, nat_lt}
use Rattle.std.specs.Prelude.{◌⊎◌, ◌&&◌, ◌||◌, not}
use Rattle.std.specs.List.{list_any}
use Rattle.std.proofs.lemmas.Bool.{cases_eq, false_from_ne_true, ne_eqb, or_left, or_right}
use Rattle.cw_tree.specs.declared.node.Node.{Node}
use Rattle.cw_tree.specs.declared.node.BlockState.{BlockState}
use Rattle.cw_tree.specs.Nodes.{is_fork_kind, parent_of, is_fork, closed}
use Rattle.cw_tree.specs.Walks.{IsRooted, path, is_ancestor, is_above}
use Rattle.cw_tree.specs.Series.{are_ordered, is_before}
use Rattle.cw_tree.specs.NextNodes.{is_before_at}
use Rattle.cw_tree.proofs.Members.{any_same}
use Rattle.cw_tree.proofs.Walks.Ancestors.{ancestor_self, ancestor_above, above_ancestor, above_parent, ancestor_le}
use Rattle.cw_tree.proofs.NextNodes.Growing.{node_grown, length_more, ancestor_grown, ancestor_new}
use Rattle.cw_tree.proofs.NextNodes.Closing.{node_closed, number_closed, path_closed}
use Rattle.cw_tree.proofs.Walks.Kin.{of_before, before_of, before_apart}
use Rattle.cw_tree.proofs.ChainLaws.Nearest.{above_from}
use Rattle.cw_tree.proofs.Walks.Agreeing.{OneMore, one_more, agree_back, before_to}

-- what is above a node has a smaller number
pub above_less : (t : List Node) → IsRooted t → (a n : ℕ) → n < length t → is_above t a n ≡ true → a < n
above_less t r a n h e = by n h e where
  by : (n : ℕ) → n < length t → is_above t a n ≡ true → a < n
  by zero h e = absurd (cc e)
  by (suc n) h e =
      let low = r (suc n) (omega arith) h in
      let le = ancestor_le t r a (parent_of t (suc n)) (omega arith) (sym (above_parent t r a (suc n) (omega arith) h) ∙ e) in
      omega arith

-- what is above a node is above all beneath it
pub above_down : (t : List Node) → IsRooted t → (a b n : ℕ) → n < length t → is_above t a b ≡ true → is_ancestor t b n ≡ true → is_above t a n ≡ true
above_down t r a b n h over under =
    elim (cases_eq n b) [
      | inl q ↦ ap (is_above t a) q ∙ over
      | inr ne ↦ above_from t r a b n h (above_ancestor t a b over) (sym (ancestor_above t b n ne) ∙ under)
    ]

-- ## One node more

module _ (t : List Node) (x : Node) (r : IsRooted t) (there : x.parent < length t) where
  abbrev u : List Node
  u = t ++ x ∷ []

  abbrev g : ℕ
  g = length t

  m : OneMore t u x.parent
  m = one_more t x r there

  pub old_before : (n k : ℕ) → n < g → k < g → is_before u n k ≡ true → is_before t n k ≡ true
  old_before = before_to u t g (agree_back t u g m.agree) m.rooted

  -- the ancestors of the new node, except itself, are those of its parent
  pub over_parent : (a : ℕ) → g ≢ a → is_ancestor u a g ≡ is_ancestor t a x.parent
  over_parent a ne = ancestor_new t x r there a ∙ ap (λ b. b || is_ancestor t a x.parent) (ne_eqb g a ne)

  -- the new node is before none, where nothing comes after its parent
  pub new_first : ((n : ℕ) → n < g → is_before t x.parent n ≡ false) → (n : ℕ) → n < g → is_before u g n ≡ false
  new_first last n h =
      false_from_ne_true (is_before u g n) (λ e.
      let s = of_before u g n e in
      let o = s.ordered in
      let less = o.less in
      let le : s.second ≤ n = ancestor_le u m.rooted s.second n (omega (arith, length_more t x)) s.over_second in
      let over : is_ancestor u s.first x.parent ≡ true = ancestor_grown t (x ∷ []) r s.first x.parent there ∙ sym (over_parent s.first (omega arith)) ∙ s.over_first in
      let was = old_before x.parent n there h (before_of u x.parent n (record { first = s.first; second = s.second; ordered = s.ordered; over_first = over; over_second = s.over_second })) in
      absurd (cc (was, last n h)))

  -- what is before the new node stands beneath its parent, which is no fork, or is before its parent
  pub new_last : (n : ℕ) → n < g → is_before u n g ≡ true → ((is_above t x.parent n ≡ true) × (is_fork t x.parent ≡ false)) ⊎ (is_before t n x.parent ≡ true)
  new_last n h e =
      let s = of_before u n g e in
      let o = s.ordered in
      let le : s.first ≤ n = ancestor_le u m.rooted s.first n (omega (arith, length_more t x)) s.over_first in
      elim (cases_eq g s.second) [
        | inl q ↦
            (let same : parent_of u s.first ≡ x.parent = o.same ∙ ap (parent_of u) (sym q) ∙ m.parent in
            let up : parent_of t s.first ≡ x.parent = sym (m.agree.parents s.first (omega arith)) ∙ same in
            let over : is_above t x.parent s.first ≡ true = above_parent t r x.parent s.first o.some (omega arith) ∙ ap (is_ancestor t x.parent) up ∙ ancestor_self t x.parent in
            inl (
              above_down t r x.parent s.first n h over (sym (ancestor_grown t (x ∷ []) r s.first n h) ∙ s.over_first),
              sym (node_grown t (x ∷ []) (λ y. is_fork_kind y.kind) x.parent there) ∙ ap (is_fork u) (sym same) ∙ o.no_fork,
            ))
        | inr ne ↦
            inr (old_before n x.parent h there (before_of u n x.parent (record {
              first = s.first;
              second = s.second;
              ordered = s.ordered;
              over_first = s.over_first;
              over_second = ancestor_grown t (x ∷ []) r s.second x.parent there ∙ sym (over_parent s.second ne) ∙ s.over_second;
            })))
      ]

  pub new_before_at : (n : ℕ) → n < g → is_before u n g ≡ true → is_before_at t n x.parent ≡ true
  new_before_at n h e =
      elim (new_last n h e) [
        | inl z ↦ or_left (is_above t x.parent n) (is_before t n x.parent) z.0
        | inr z ↦ or_right (is_above t x.parent n) (is_before t n x.parent) z
      ]

  pub new_apart : is_before u g g ≡ false
  new_apart = false_from_ne_true (is_before u g g) (λ e. before_apart u m.rooted g g (omega (arith, length_more t x)) e (ancestor_self u g))

-- ## A closed block

module _ (t : List Node) (b : ℕ) (state : BlockState) (end : ℕ) (r : IsRooted t) where
  abbrev v : List Node
  v = closed t b state end

  ordered_closed : (c d : ℕ) → are_ordered v c d ≡ are_ordered t c d
  ordered_closed c d =
      let up = number_closed t b state end (λ y. y.parent) (λ y. refl) in
      ap (λ p. nat_lt 0 c && nat_lt c d && nat_eq p (parent_of v d) && not (is_fork v p)) (up c)
      ∙ ap (λ q. nat_lt 0 c && nat_lt c d && nat_eq (parent_of t c) q && not (is_fork v (parent_of t c))) (up d)
      ∙ ap (λ f. nat_lt 0 c && nat_lt c d && nat_eq (parent_of t c) (parent_of t d) && not f) (node_closed t b state end (λ y. is_fork_kind y.kind) (λ y. refl) (parent_of t c))

  pub before_closed : (n k : ℕ) → n < length t → k < length t → is_before v n k ≡ is_before t n k
  before_closed n k hn hk =
      ap (λ ns. list_any (λ c. list_any (are_ordered v c) (path v k)) ns) (path_closed t b state end r n hn)
      ∙ ap (λ ks. list_any (λ c. list_any (are_ordered v c) ks) (path t n)) (path_closed t b state end r k hk)
      ∙ any_same (λ c. list_any (are_ordered v c) (path t k)) (λ c. list_any (are_ordered t c) (path t k)) (path t n) (λ c i. any_same (are_ordered v c) (are_ordered t c) (path t k) (λ d j. ordered_closed c d))
