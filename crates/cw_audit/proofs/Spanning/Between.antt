-- A node is in another exactly where its number is between the other's number and the greatest one in that.
use Rattle.std.proofs.Common.{◌≡◌, ◌≢◌, ℕ, zero, suc, ◌+◌, ◌-◌, ◌<◌, ◌≤◌, List, length, get_or, ap, sym, ◌∙◌, subst, arith, refl, true, false, nat_le, inl, inr}
use Rattle.std.specs.Prelude.{◌⊎◌, ◌&&◌}
use Rattle.std.proofs.lemmas.Bool.{cases_Bool, cases_lt, false_from_ne_true, and_from, and_left, and_right, le-leb, lt-leb}
use Rattle.std.proofs.lemmas.Grind.{get_or_default_zero}
use Rattle.cw_tree.specs.declared.node.Node.{Node}
use Rattle.cw_tree.specs.Nodes.{parent_of}
use Rattle.cw_tree.specs.Walks.{IsNumbered, is_ancestor, is_above, lca}
use Rattle.cw_tree.specs.Series.{children, walk, depth_first}
use Rattle.cw_tree.specs.InOrder.{renamed, in_order}
use Rattle.cw_tree.proofs.Lists.{In, get_map_below}
use Rattle.cw_tree.proofs.Members.{in_flat}
use Rattle.cw_tree.proofs.Ahead.{Ahead, ahead_pieces, ahead_piece, ahead_at}
use Rattle.cw_tree.proofs.Rising.{rises_ahead}
use Rattle.cw_tree.proofs.InOrder.DepthFirst.{IsChild, child_is, child_in, children_rise}
use Rattle.cw_tree.proofs.InOrder.Visits.{walk_self, walk_child, as_many, all_come, renamed_is}
use Rattle.cw_tree.proofs.InOrder.Renumbered.{some_node}
use Rattle.cw_tree.proofs.InOrder.Renaming.{renamed_apart, ancestor_stays, trees_stay, nodes_stay}
use Rattle.cw_tree.proofs.Walks.Ancestors.{ancestor_self, ancestor_le, ancestor_trans, beneath}
use Rattle.cw_tree.proofs.Walks.Kin.{Branch}
use Rattle.cw_tree.proofs.Walks.Parting.{left, right, branches_differ}
use Rattle.cw_tree.proofs.NextNodes.Before.{above_less}
use Rattle.cw_audit.specs.Latest.{IsLeast}
use Rattle.cw_audit.specs.Spans.{Covers, AreSpans}

module _ (t : List Node) (w : IsNumbered t) where
  -- a walk from a node meets all that is in it
  in_walk : (k c u : ℕ) → length t ≤ c + k → u < length t → is_ancestor t c u ≡ true → In u (walk t k c)
  in_walk k c u enough in_tree e =
      beneath t w.rooted c (λ n. In n (walk t k c)) (walk_self t w.rooted k c)
      (λ n p h up more. walk_child t w.rooted k c (parent_of t n) n enough more (record { some = p; there = h; parent = refl })) u in_tree e

  -- of what is in two children of one node, what is in the one with the smaller number is met first
  walk_ahead : (k n m c d u v : ℕ) → length t ≤ n + k → In m (walk t k n) → IsChild t m c → IsChild t m d → c < d → u < length t → v < length t
      → is_ancestor t c u ≡ true → is_ancestor t d v ≡ true → Ahead u v (walk t k n)
  walk_ahead zero n m c d u v h (inl e) x y l hu hv f g =
      let low : parent_of t c < c = w.rooted c x.some x.there in
      absurd (let there = x.there in let same = x.parent in omega arith)
  walk_ahead zero n m c d u v h (inr z) x y l hu hv f g = absurd z
  walk_ahead (suc k) n m c d u v h (inl e) x y l hu hv f g =
      let P : ℕ → ℕ → Type 0 = λ b z. IsChild t z b in
      let i = child_in t n c (subst (P c) e x) in
      let j = child_in t n d (subst (P d) e y) in
      let low : parent_of t c < c = w.rooted c x.some x.there in
      let up = x.parent in
      inr (ahead_pieces (walk t k) u v c d (children t n) (rises_ahead c d (children t n) (children_rise t n) i j l) (in_walk k c u (omega arith) hu f) (in_walk k d v (omega arith) hv g))
  walk_ahead (suc k) n m c d u v h (inr j) x y l hu hv f g =
      let z = in_flat (walk t k) m (children t n) j in
      let b = child_is t n z.0 z.1 in
      let low : parent_of t z.0 < z.0 = w.rooted z.0 b.some b.there in
      let same : parent_of t z.0 ≡ n = b.parent in
      inr (ahead_piece (walk t k) u v z.0 (children t n) z.1 (walk_ahead k z.0 m c d u v (omega arith) z.2 x y l hu hv f g))

  -- so it has a smaller number
  pub numbers_apart : (m c d u v : ℕ) → m < length t → IsChild t m c → IsChild t m d → c < d → u < length t → v < length t → is_ancestor t c u ≡ true → is_ancestor t d v ≡ true → renamed t u < renamed t v
  numbers_apart m c d u v h x y l hu hv f g =
      let z = ahead_at u v (depth_first t) (walk_ahead (length t) 0 m c d u v (omega arith) (all_come t w.rooted m h) x y l hu hv f g) in
      let many = as_many t w.rooted (some_node t w) in
      let first : renamed t u ≡ z.0 = ap (renamed t) (sym z.4) ∙ renamed_is t w.rooted (some_node t w) z.0 (omega (arith, z.2, z.3)) in
      let second : renamed t v ≡ z.1 = ap (renamed t) (sym z.5) ∙ renamed_is t w.rooted (some_node t w) z.1 (omega (arith, z.3)) in
      omega (arith, z.2)

  -- what is in a node has no smaller number
  pub numbers_down : (a n : ℕ) → a < length t → n < length t → is_ancestor t a n ≡ true → renamed t a ≤ renamed t n
  numbers_down a n ha hn e =
      let stays = trees_stay t w in
      let low : renamed t n < length t = (nodes_stay t w n hn).0 in
      ancestor_le (in_order t) stays.0.rooted (renamed t a) (renamed t n) (omega (arith, stays.1)) (ancestor_stays t w a n ha hn ∙ e)

  module _ (a n last : ℕ) (ha : a < length t) (hn : n < length t) (covers : IsLeast (Covers t a) last) where
    apart : is_ancestor t a n ≡ false → is_ancestor t n a ≡ false → (renamed t n < renamed t a) ⊎ (last < renamed t n)
    apart an na =
        let x : Branch t w.rooted (lca t a n) a = left t w.rooted a n ha hn an na in
        let y : Branch t w.rooted (lca t a n) n = right t w.rooted a n ha hn an na in
        let lx : x.child ≤ a = ancestor_le t w.rooted x.child a ha x.over in
        let ly : y.child ≤ n = ancestor_le t w.rooted y.child n hn y.over in
        let px : parent_of t x.child < x.child = w.rooted x.child x.some (omega arith) in
        let top : lca t a n < length t = omega (arith, x.parent) in
        let cx : IsChild t (lca t a n) x.child = record { some = x.some; there = omega arith; parent = x.parent } in
        let cy : IsChild t (lca t a n) y.child = record { some = y.some; there = omega arith; parent = y.parent } in
        let differ = branches_differ t w.rooted a n ha hn an na in
        by x y top cx cy differ (cases_lt x.child y.child) where
          by : (x : Branch t w.rooted (lca t a n) a) (y : Branch t w.rooted (lca t a n) n) → lca t a n < length t → IsChild t (lca t a n) x.child → IsChild t (lca t a n) y.child → x.child ≢ y.child
              → (x.child < y.child) ⊎ (y.child ≤ x.child) → (renamed t n < renamed t a) ⊎ (last < renamed t n)
          by x y top cx cy differ (inl less) =
              let own : renamed t a < renamed t n = numbers_apart (lca t a n) x.child y.child a n top cx cy less ha hn x.over y.over in
              let le : last ≤ renamed t n - 1 = covers.least (renamed t n - 1) (λ m hm e.
              let z : renamed t m < renamed t n = numbers_apart (lca t a n) x.child y.child m n top cx cy less hm hn (ancestor_trans t w.rooted x.child a m hm x.over e) y.over in omega arith)
              in
              inr (omega arith)
          by x y top cx cy differ (inr le) = inl (numbers_apart (lca t a n) y.child x.child n a top cy cx (omega arith) hn ha y.over x.over)

    pub between : (nat_le (renamed t a) (renamed t n) && nat_le (renamed t n) last) ≡ is_ancestor t a n
    between = by (cases_Bool (is_ancestor t a n)) (cases_Bool (is_ancestor t n a)) where
      refuted : (renamed t n < renamed t a) ⊎ (last < renamed t n) → (nat_le (renamed t a) (renamed t n) && nat_le (renamed t n) last) ≡ false
      refuted (inl less) = and_left (nat_le (renamed t a) (renamed t n)) (nat_le (renamed t n) last) (lt-leb (renamed t a) (renamed t n) less)
      refuted (inr less) = and_right (nat_le (renamed t a) (renamed t n)) (nat_le (renamed t n) last) (lt-leb (renamed t n) last less)

      by : (is_ancestor t a n ≡ true) ⊎ (is_ancestor t a n ≡ false) → (is_ancestor t n a ≡ true) ⊎ (is_ancestor t n a ≡ false) → (nat_le (renamed t a) (renamed t n) && nat_le (renamed t n) last) ≡ is_ancestor t a n
      by (inl e) f =
          and_from (nat_le (renamed t a) (renamed t n)) (nat_le (renamed t n) last) (le-leb (renamed t a) (renamed t n) (numbers_down a n ha hn e)) (le-leb (renamed t n) last (covers.upward last (omega arith) n hn e)) ∙ sym e
      by (inr e) (inl f) =
          let le = numbers_down n a hn ha f in
          let ne : renamed t n ≢ renamed t a = λ q. (let P : ℕ → Type 0 = λ x. is_ancestor t a x ≡ true in absurd (cc (e, subst P (renamed_apart t w a n ha hn (sym q)) (ancestor_self t a)))) in
          refuted (inl (omega arith)) ∙ sym e
      by (inr e) (inr f) = refuted (apart e f) ∙ sym e

  -- the numbers as they were read
  pub by_places : (first lasts : List ℕ) → AreSpans t first lasts → (a n : ℕ) → a < length t → n < length t → (x y z : ℕ) → x ≡ get_or first a x → y ≡ get_or first n y → z ≡ get_or lasts a z → (nat_le x y && nat_le y z) ≡ is_ancestor t a n
  by_places first lasts w a n ha hn x y z rx ry rz =
      let len = w.greatest.len in
      let xs : x ≡ renamed t a = rx ∙ ap (λ ks. get_or ks a x) w.numbers ∙ get_map_below (renamed t) (length t) a x ha in
      let ys : y ≡ renamed t n = ry ∙ ap (λ ks. get_or ks n y) w.numbers ∙ get_map_below (renamed t) (length t) n y hn in
      let zs : z ≡ get_or lasts a 0 = rz ∙ get_or_default_zero lasts a z (omega arith) in
      let P : ℕ → Type 0 = λ k. IsLeast (Covers t a) k in
      ap (λ k. nat_le k y && nat_le y z) xs ∙ ap (λ k. nat_le (renamed t a) k && nat_le k z) ys ∙ between a n z ha hn (subst P (sym zs) (w.greatest.each a ha))

  -- no node is above itself
  pub not_over_itself : (a n : ℕ) → n < length t → a ≡ n → false ≡ is_above t a n
  not_over_itself a n h e = sym (false_from_ne_true (is_above t a n) (λ f. let less : a < n = above_less t w.rooted a n h f in omega arith))
