-- Children keep their order in the new tree, which is numbered depth first.
use Rattle.std.proofs.Common.{◌≡◌, ℕ, zero, suc, ◌+◌, ◌<◌, ◌≤◌, List, [], ◌∷◌, ◌++◌, length, map, refl, ap, sym, ◌∙◌, arith, inl, inr, subst}
use Rattle.std.specs.List.{flat_map}
use Rattle.std.proofs.lemmas.Bool.{and_from, lt-ltb, eq-eqb, cases_eq}
use Rattle.std.proofs.lemmas.List.{map-append, length-map, get_or-map}
use Rattle.cw_tree.specs.declared.node.Node.{Node}
use Rattle.cw_tree.specs.Nodes.{parent_of, below, all_nodes}
use Rattle.cw_tree.specs.Walks.{IsNumbered, IsRooted}
use Rattle.cw_tree.specs.Series.{children, walk, depth_first}
use Rattle.cw_tree.specs.Links.{is_child}
use Rattle.cw_tree.specs.InOrder.{renamed, in_order}
use Rattle.cw_tree.specs.OrderLaws.{SiblingsStay, NumberedDepthFirst}
use Rattle.cw_tree.proofs.Lists.{In, map_below}
use Rattle.cw_tree.proofs.Members.{below_in, filter_in, in_flat, map_in, in_map}
use Rattle.cw_tree.proofs.InOrder.DepthFirst.{IsChild, child_is, child_in, children_rise}
use Rattle.cw_tree.proofs.InOrder.Visits.{walk_self, as_many, all_come, renamed_is}
use Rattle.cw_tree.proofs.InOrder.Renumbered.{visited, some_node, visited_there, new_length, new_parent}
use Rattle.cw_tree.proofs.InOrder.Renaming.{number_of, renamed_apart, renamed_some, root_stays, parent_stays}
use Rattle.cw_tree.proofs.Ahead.{Ahead, ahead_pieces, ahead_piece, ahead_at}
use Rattle.cw_tree.proofs.Rising.{below_rises, rises_filter, rises_map, rises_same, rises_ahead}

-- ## Children

module _ (t : List Node) (r : IsRooted t) where
  -- if two nodes are children of one, the one with the smaller number is met first
  walk_ahead : (k n m c d : ℕ) → length t ≤ n + k → In m (walk t k n) → IsChild t m c → IsChild t m d → c < d → Ahead c d (walk t k n)
  walk_ahead zero n m c d h (inl e) x y l = let low : parent_of t c < c = r c x.some x.there in absurd (let there = x.there in let same = x.parent in omega arith)
  walk_ahead zero n m c d h (inr z) x y l = absurd z
  walk_ahead (suc k) n m c d h (inl e) x y l =
      let P : ℕ → ℕ → Type 0 = λ v z. IsChild t z v in
      let i = child_in t n c (subst (P c) e x) in
      let j = child_in t n d (subst (P d) e y) in
      inr (ahead_pieces (walk t k) c d c d (children t n) (rises_ahead c d (children t n) (children_rise t n) i j l) (walk_self t r k c) (walk_self t r k d))
  walk_ahead (suc k) n m c d h (inr j) x y l =
      let z = in_flat (walk t k) m (children t n) j in
      let f = child_is t n z.0 z.1 in
      let low : parent_of t z.0 < z.0 = r z.0 f.some f.there in
      let same : parent_of t z.0 ≡ n = f.parent in
      inr (ahead_piece (walk t k) c d z.0 (children t n) z.1 (walk_ahead k z.0 m c d (omega arith) z.2 x y l))

-- what is made of renamed pieces
pub flat_of_map : (g h : ℕ → List ℕ) (f : ℕ → ℕ) (xs : List ℕ) → ((x : ℕ) → In x xs → g (f x) ≡ map f (h x)) → flat_map g (map f xs) ≡ map f (flat_map h xs)
flat_of_map g h f [] e = refl
flat_of_map g h f (x ∷ xs) e =
    ap (λ ys. ys ++ flat_map g (map f xs)) (e x (inl refl)) ∙ ap (λ ys. map f (h x) ++ ys) (flat_of_map g h f xs (λ y i. e y (inr i))) ∙ sym (map-append f (h x) (flat_map h xs))

map_same_number : (xs : List ℕ) → map (λ n. n) xs ≡ xs
map_same_number [] = refl
map_same_number (x ∷ xs) = ap (λ ys. x ∷ ys) (map_same_number xs)

module _ (t : List Node) (w : IsNumbered t) where
  -- renamed children stay in their order
  pub rises : (n c d : ℕ) → n < length t → IsChild t n c → IsChild t n d → c < d → renamed t c < renamed t d
  rises n c d h x y l =
      let z = ahead_at c d (depth_first t) (walk_ahead t w.rooted (length t) 0 n c d (omega arith) (all_come t w.rooted n h) x y l) in
      let many = as_many t w.rooted (some_node t w) in
      let first : renamed t c ≡ z.0 = ap (renamed t) (sym z.4) ∙ renamed_is t w.rooted (some_node t w) z.0 (omega (arith, z.2, z.3)) in
      let second : renamed t d ≡ z.1 = ap (renamed t) (sym z.5) ∙ renamed_is t w.rooted (some_node t w) z.1 (omega (arith, z.3)) in
      omega (arith, z.2)

  child_stays : (n v : ℕ) → In v (map (renamed t) (children t n)) → In v (children (in_order t) (renamed t n))
  child_stays n v i =
      let z = in_map (renamed t) v (children t n) i in
      let c = child_is t n z.0 z.1 in
      let P : ℕ → Type 0 = λ x. In x (children (in_order t) (renamed t n)) in
      subst P (sym z.2) (
      filter_in (is_child (in_order t) (renamed t n)) (renamed t z.0) (below (length (in_order t))) (below_in (renamed t z.0) (length (in_order t)) (omega (arith, new_length t w, (number_of t w z.0 c.there).low)))
      (and_from _ _ (lt-ltb 0 (renamed t z.0) (renamed_some t w z.0 c.some c.there)) (eq-eqb (parent_of (in_order t) (renamed t z.0)) (renamed t n) (parent_stays t w z.0 c.there ∙ ap (renamed t) c.parent)))
      )

  child_was : (n v : ℕ) → n < length t → In v (children (in_order t) (renamed t n)) → In v (map (renamed t) (children t n))
  child_was n v h i =
      let c = child_is (in_order t) (renamed t n) v i in
      let l : v < length t = omega (arith, c.there, new_length t w) in
      let there : visited t v < length t = visited_there t w v l in
      let number : renamed t (visited t v) ≡ v = renamed_is t w.rooted (some_node t w) v l in
      let up : renamed t (parent_of t (visited t v)) ≡ renamed t n = sym (new_parent t w v l) ∙ c.parent in
      let some : 0 < visited t v = elim (cases_eq (visited t v) 0) [ inl e ↦ (let z = ap (renamed t) e ∙ root_stays t w in omega (arith, c.some)) | inr ne ↦ omega arith ] in
      let low : parent_of t (visited t v) < visited t v = w.rooted (visited t v) some there in
      let parent : parent_of t (visited t v) ≡ n = renamed_apart t w (parent_of t (visited t v)) n (omega arith) h up in
      let P : ℕ → Type 0 = λ x. In x (map (renamed t) (children t n)) in
      subst P number (map_in (renamed t) (visited t v) (children t n) (child_in t n (visited t v) (record { some = some; there = there; parent = parent })))

  pub siblings : (n : ℕ) → n < length t → children (in_order t) (renamed t n) ≡ map (renamed t) (children t n)
  siblings n h =
      rises_same (children (in_order t) (renamed t n)) (map (renamed t) (children t n)) (rises_filter (is_child (in_order t) (renamed t n)) (below (length (in_order t))) (below_rises (length (in_order t))))
      (rises_map (renamed t) (children t n) (children_rise t n) (λ a b i j. rises n a b h (child_is t n a i) (child_is t n b j))) (λ v. child_was n v h) (child_stays n)

  walk_stays : (k n : ℕ) → n < length t → walk (in_order t) k (renamed t n) ≡ map (renamed t) (walk t k n)
  walk_stays zero n h = refl
  walk_stays (suc k) n h =
      ap (λ ns. renamed t n ∷ flat_map (walk (in_order t) k) ns) (siblings n h)
      ∙ ap (λ ns. renamed t n ∷ ns) (flat_of_map (walk (in_order t) k) (walk t k) (renamed t) (children t n) (λ x i. walk_stays k x (child_is t n x i).there))

  order_is : map (renamed t) (depth_first t) ≡ below (length t)
  order_is =
      let many = as_many t w.rooted (some_node t w) in
      map_below (λ n. n) (map (renamed t) (depth_first t)) (length t) (length-map (depth_first t) (renamed t) ∙ many)
      (λ n d l. get_or-map (renamed t) (depth_first t) n 0 d (omega arith) ∙ renamed_is t w.rooted (some_node t w) n l)
      ∙ map_same_number (below (length t))

  pub numbered : depth_first (in_order t) ≡ all_nodes (in_order t)
  numbered =
      ap (λ k. walk (in_order t) k 0) (new_length t w) ∙ ap (walk (in_order t) (length t)) (sym (root_stays t w)) ∙ walk_stays (length t) 0 (some_node t w) ∙ order_is ∙ sym (ap below (new_length t w))

pub siblings_stay : SiblingsStay
siblings_stay t w n h = siblings t w n h

pub numbered_depth_first : NumberedDepthFirst
numbered_depth_first t w = numbered t w
