-- In a tree whose nodes are numbered as a depth-first walk comes to them each hangs from the one before it, or from a node above that one.
use Rattle.std.proofs.Common.{◌≡◌, ℕ, zero, suc, ◌<◌, List, [], ◌∷◌, ◌++◌, length, get_or, refl, ap, sym, ◌∙◌, subst, arith, true, inl, inr, append_assoc, append-nil}
use Rattle.std.specs.List.{flat_map}
use Rattle.std.proofs.lemmas.List.{length-map, get_or-map}
use Rattle.cw_tree.specs.declared.node.Node.{Node}
use Rattle.cw_tree.specs.Nodes.{parent_of, below, all_nodes}
use Rattle.cw_tree.specs.Walks.{IsNumbered, IsRooted, is_ancestor}
use Rattle.cw_tree.specs.Series.{children, walk, depth_first}
use Rattle.cw_tree.specs.InOrder.{in_order}
use Rattle.cw_tree.proofs.Lists.{In, length_map_below, get_map_below}
use Rattle.cw_tree.proofs.Walks.Ancestors.{ancestor_self, ancestor_trans}
use Rattle.cw_tree.proofs.InOrder.DepthFirst.{IsChild, child_is, whole, walk_step}
use Rattle.cw_tree.proofs.InOrder.Renumbered.{some_node, in_order_numbered}
use Rattle.cw_tree.proofs.Walks.Siblings.{numbered_depth_first}
use Rattle.cw_tree.proofs.InOrder.Visits.{child_over}
use Rattle.cw_record.specs.Records.{IsNumberedDepthFirst}

module _ (t : List Node) where
  -- nodes come one after another behind node a, and each hangs from the one before it, or from a node above that one
  abbrev Hangs : ℕ → List ℕ → Type 0
  Hangs a [] = Unit {0}
  Hangs a (x ∷ xs) = (is_ancestor t (parent_of t x) a ≡ true) × Hangs x xs

  -- the same behind every node that is n or stands beneath it
  abbrev HangsBeneath : ℕ → List ℕ → Type 0
  HangsBeneath n xs = (a : ℕ) → a < length t → is_ancestor t n a ≡ true → Hangs a xs

  hangs_at : (a : ℕ) (xs : List ℕ) (k : ℕ) → Hangs a xs → k < length xs → is_ancestor t (parent_of t (get_or (a ∷ xs) (suc k) 0)) (get_or (a ∷ xs) k 0) ≡ true
  hangs_at a [] k h l = absurd (omega arith)
  hangs_at a (x ∷ xs) zero h l = h.0
  hangs_at a (x ∷ xs) (suc k) h l = hangs_at x xs k h.1 (omega arith)

  module _ (r : IsRooted t) where
    -- the walks from children of n hang behind what is beneath n, where each walk does behind what its node may hang behind
    walks_hang : (k n : ℕ) → ((x a : ℕ) (ys : List ℕ) → x < length t → is_ancestor t (parent_of t x) a ≡ true → HangsBeneath x ys → Hangs a (walk t k x ++ ys))
        → (xs ys : List ℕ) → ((x : ℕ) → In x xs → IsChild t n x) → HangsBeneath n ys → HangsBeneath n (flat_map (walk t k) xs ++ ys)
    walks_hang k n one [] ys each more a l over = more a l over
    walks_hang k n one (x ∷ xs) ys each more a l over =
        let c = each x (inl refl) in
        let P : ℕ → Type 0 = λ p. is_ancestor t p a ≡ true in
        let Q : List ℕ → Type 0 = Hangs a in
        let rest = flat_map (walk t k) xs in
        subst Q (sym (append_assoc (walk t k x) rest ys))
        (one x a (rest ++ ys) c.there (subst P (sym c.parent) over) (λ b h under. walks_hang k n one xs ys (λ y i. each y (inr i)) more b h (ancestor_trans t r n x b h (child_over t r n x c) under)))

    -- the walk from n, and behind it what hangs behind all that is beneath n
    walk_hangs : (k n a : ℕ) (ys : List ℕ) → n < length t → is_ancestor t (parent_of t n) a ≡ true → HangsBeneath n ys → Hangs a (walk t k n ++ ys)
    walk_hangs zero n a ys l up more = (up, more n l (ancestor_self t n))
    walk_hangs (suc k) n a ys l up more = (up, walks_hang k n (walk_hangs k) (children t n) ys (child_is t n) more n l (ancestor_self t n))

    all_hang : 0 < length t → Hangs 0 (flat_map (whole t) (children t 0))
    all_hang some =
        let Q : List ℕ → Type 0 = Hangs 0 in
        subst Q (append-nil (flat_map (whole t) (children t 0))) (walks_hang (length t) 0 (walk_hangs (length t)) (children t 0) [] (child_is t 0) (λ a l over. tt) 0 some (ancestor_self t 0))

    number_below : (k n : ℕ) → n < k → get_or (below k) n 0 ≡ n
    number_below k n l =
        let low : n < length (below k) = omega (arith, length_map_below (λ m. m) k, length-map (below k) (λ m. m)) in
        sym (get_or-map (λ m. m) (below k) n 0 0 low) ∙ get_map_below (λ m. m) k n 0 l

    hangs_in_order : 0 < length t → depth_first t ≡ all_nodes t → IsNumberedDepthFirst t
    hangs_in_order some e n l =
        let rest = flat_map (whole t) (children t 0) in
        let is : 0 ∷ rest ≡ below (length t) = sym (walk_step t r 0) ∙ e in
        let at = λ (k : ℕ) (h : k < length t). ap (λ xs. get_or xs k 0) is ∙ number_below (length t) k h in
        let low : n < length rest = omega (arith, ap length is, length_map_below (λ m. m) (length t), length-map (below (length t)) (λ m. m)) in
        ap (λ m. is_ancestor t (parent_of t (suc n)) m) (sym (at n (omega arith)))
        ∙ ap (λ m. is_ancestor t (parent_of t m) (get_or (0 ∷ rest) n 0)) (sym (at (suc n) l))
        ∙ hangs_at 0 rest n (all_hang some) low

-- a tree in depth-first order is numbered so
pub numbered_in_order : (t : List Node) → IsNumbered t → IsNumberedDepthFirst (in_order t)
numbered_in_order t w =
    let v = in_order_numbered t w in
    hangs_in_order (in_order t) v.rooted (some_node (in_order t) v) (numbered_depth_first t w)
