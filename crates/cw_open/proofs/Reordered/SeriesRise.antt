-- What is before another in series has a smaller number in depth-first order.
use Rattle.std.proofs.Common.{◌≡◌, ℕ, zero, suc, ◌+◌, ◌<◌, ◌≤◌, List, length, refl, ap, sym, ◌∙◌, subst, arith, true, inl, inr}
use Rattle.cw_tree.specs.declared.node.Node.{Node}
use Rattle.cw_tree.specs.Nodes.{parent_of}
use Rattle.cw_tree.specs.Walks.{IsNumbered, IsRooted, is_ancestor}
use Rattle.cw_tree.specs.Series.{children, walk, depth_first, is_before}
use Rattle.cw_tree.specs.InOrder.{renamed}
use Rattle.cw_tree.proofs.Lists.{In}
use Rattle.cw_tree.proofs.Members.{in_flat}
use Rattle.cw_tree.proofs.Walks.Ancestors.{beneath, ancestor_le}
use Rattle.cw_tree.proofs.Walks.Kin.{of_before}
use Rattle.cw_tree.proofs.InOrder.DepthFirst.{IsChild, child_is, child_in, children_rise}
use Rattle.cw_tree.proofs.InOrder.Visits.{walk_self, as_many, all_come, renamed_is, walk_child}
use Rattle.cw_tree.proofs.InOrder.Renumbered.{some_node}
use Rattle.cw_tree.proofs.Rising.{rises_ahead}
use Rattle.cw_tree.proofs.Ahead.{Ahead, ahead_pieces, ahead_piece, ahead_at}

-- ## A walk

module _ (t : List Node) (r : IsRooted t) where
  -- all beneath a node is met on the walk from it
  under_in : (k n a : ℕ) → length t ≤ n + k → a < length t → is_ancestor t n a ≡ true → In a (walk t k n)
  under_in k n a h low over = beneath t r n (λ v. In v (walk t k n)) (walk_self t r k n) (λ v some l up more. walk_child t r k n (parent_of t v) v h more (record { some = some; there = l; parent = refl })) a low over

  walk_series : (k n q c d a b : ℕ) → length t ≤ n + k → In q (walk t k n) → IsChild t q c → IsChild t q d → c < d → a < length t → b < length t → is_ancestor t c a ≡ true → is_ancestor t d b ≡ true → Ahead a b (walk t k n)
  walk_series zero n q c d a b h (inl e) x y l la lb oa ob = let low : parent_of t c < c = r c x.some x.there in absurd (let there = x.there in let same = x.parent in omega arith)
  walk_series zero n q c d a b h (inr z) x y l la lb oa ob = absurd z
  walk_series (suc k) n q c d a b h (inl e) x y l la lb oa ob =
      let P : ℕ → ℕ → Type 0 = λ v z. IsChild t z v in
      let i = child_in t n c (subst (P c) e x) in
      let j = child_in t n d (subst (P d) e y) in
      let low : parent_of t c < c = r c x.some x.there in
      let same = x.parent in
      inr (ahead_pieces (walk t k) a b c d (children t n) (rises_ahead c d (children t n) (children_rise t n) i j l) (under_in k c a (omega arith) la oa) (under_in k d b (omega arith) lb ob))
  walk_series (suc k) n q c d a b h (inr j) x y l la lb oa ob =
      let z = in_flat (walk t k) q (children t n) j in
      let f = child_is t n z.0 z.1 in
      let low : parent_of t z.0 < z.0 = r z.0 f.some f.there in
      let same : parent_of t z.0 ≡ n = f.parent in
      inr (ahead_piece (walk t k) a b z.0 (children t n) z.1 (walk_series k z.0 q c d a b (omega arith) z.2 x y l la lb oa ob))

pub series_rises : (t : List Node) → IsNumbered t → (a b : ℕ) → a < length t → b < length t → is_before t a b ≡ true → renamed t a < renamed t b
series_rises t w a b la lb e =
    let r = w.rooted in
    let s = of_before t a b e in
    let o = s.ordered in
    let some = o.some in
    let less = o.less in
    let le : s.first ≤ a = ancestor_le t r s.first a la s.over_first in
    let ge : s.second ≤ b = ancestor_le t r s.second b lb s.over_second in
    let q = parent_of t s.first in
    let low : q < s.first = r s.first some (omega arith) in
    let x : IsChild t q s.first = record { some = some; there = omega arith; parent = refl } in
    let y : IsChild t q s.second = record { some = omega arith; there = omega arith; parent = sym o.same } in
    let z = ahead_at a b (depth_first t) (walk_series t r (length t) 0 q s.first s.second a b (omega arith) (all_come t r q (omega arith)) x y less la lb s.over_first s.over_second) in
    let many = as_many t r (some_node t w) in
    let first : renamed t a ≡ z.0 = ap (renamed t) (sym z.4) ∙ renamed_is t r (some_node t w) z.0 (omega (arith, z.2, z.3)) in
    let second : renamed t b ≡ z.1 = ap (renamed t) (sym z.5) ∙ renamed_is t r (some_node t w) z.1 (omega (arith, z.3)) in
    omega (arith, z.2)
