-- What stays as a tree grows at its end, and what its new node is.
use Rattle.std.proofs.Common.{◌≡◌, ℕ, zero, suc, ◌<◌, List, [], ◌∷◌, ◌++◌, length, drop, refl, ap, sym, ◌∙◌, arith, Bool, true, false, cond, Option, Some, inl, inr, subst, length-append, nat_eq}
use Rattle.std.specs.Prelude.{◌||◌, slice_get, unwrap_or}
use Rattle.std.specs.List.{find}
use Rattle.cw_tree.specs.declared.node.Node.{Node}
use Rattle.cw_tree.specs.Nodes.{passes, is_node, is_strand_kind, is_block_kind, number_in, parent_of, is_strand, below, all_nodes}
use Rattle.cw_tree.specs.Walks.{IsRooted, path, above, has, is_ancestor, is_above, xparent}
use Rattle.cw_tree.specs.Series.{strand_of}
use Rattle.cw_tree.proofs.Lists.{at_or_before}
use Rattle.cw_tree.proofs.Walks.Climbs.{path_step}
use Rattle.cw_tree.proofs.NextNodes.Kept.{KeepsParents, path_kept, above_kept, ancestor_kept, is_above_kept, find_path_kept, strand_of_kept, xparent_kept}

-- a list keeps its members where more come behind
pub get_append : {A : Type 0} → (xs ys : List A) (n : ℕ) → n < length xs → slice_get (xs ++ ys) n ≡ slice_get xs n
get_append [] ys n h = absurd (omega arith)
get_append (x ∷ xs) ys zero h = refl
get_append (x ∷ xs) ys (suc n) h = get_append xs ys n (omega arith)

pub get_next : {A : Type 0} → (xs : List A) (y : A) (ys : List A) → slice_get (xs ++ y ∷ ys) (length xs) ≡ Some y
get_next [] y ys = refl
get_next (x ∷ xs) y ys = get_next xs y ys

pub length_more : {A : Type 0} → (xs : List A) (y : A) → length (xs ++ y ∷ []) ≡ suc (length xs)
length_more xs y = omega (arith, length-append xs (y ∷ []))

-- ## The nodes that were there

module _ (t s : List Node) where
  -- a test that looks at a node alone
  pub node_grown : (p : Node → Bool) (n : ℕ) → n < length t → is_node p (t ++ s) n ≡ is_node p t n
  node_grown p n h = ap (passes p) (get_append t s n h)

  -- a number that a node has
  pub number_grown : (f : Node → ℕ) (n : ℕ) → n < length t → number_in f (slice_get (t ++ s) n) ≡ number_in f (slice_get t n)
  number_grown f n h = ap (number_in f) (get_append t s n h)

  pub keeps_grown : IsRooted t → KeepsParents t (t ++ s)
  keeps_grown r = record { rooted = r; parents = number_grown (λ x. x.parent) }

  module _ (r : IsRooted t) where
    pub path_grown : (n : ℕ) → n < length t → path (t ++ s) n ≡ path t n
    path_grown = path_kept t (t ++ s) (keeps_grown r)

    pub above_grown : (n : ℕ) → n < length t → above (t ++ s) n ≡ above t n
    above_grown = above_kept t (t ++ s) (keeps_grown r)

    pub ancestor_grown : (a n : ℕ) → n < length t → is_ancestor (t ++ s) a n ≡ is_ancestor t a n
    ancestor_grown = ancestor_kept t (t ++ s) (keeps_grown r)

    pub is_above_grown : (a n : ℕ) → n < length t → is_above (t ++ s) a n ≡ is_above t a n
    is_above_grown = is_above_kept t (t ++ s) (keeps_grown r)

    pub strand_of_grown : (n : ℕ) → n < length t → strand_of (t ++ s) n ≡ strand_of t n
    strand_of_grown = strand_of_kept t (t ++ s) (keeps_grown r) (node_grown (λ x. is_strand_kind x.kind))

    pub xparent_grown : (n : ℕ) → n < length t → xparent (t ++ s) n ≡ xparent t n
    xparent_grown = xparent_kept t (t ++ s) (keeps_grown r) (node_grown (λ x. is_block_kind x.kind))

-- ## The new node

unwrap_cond : (b : Bool) (n : ℕ) (o : Option ℕ) → unwrap_or (cond b (Some n) o) 0 ≡ cond b n (unwrap_or o 0)
unwrap_cond true n o = refl
unwrap_cond false n o = refl

pub all_nodes_more : (t : List Node) (x : Node) → all_nodes (t ++ x ∷ []) ≡ all_nodes t ++ length t ∷ []
all_nodes_more t x = ap below (length_more t x)

module _ (t : List Node) (x : Node) where
  pub node_new : (p : Node → Bool) → is_node p (t ++ x ∷ []) (length t) ≡ p x
  node_new p = ap (passes p) (get_next t x [])

  pub number_new : (f : Node → ℕ) → number_in f (slice_get (t ++ x ∷ []) (length t)) ≡ f x
  number_new f = ap (number_in f) (get_next t x [])

  module _ (r : IsRooted t) (there : x.parent < length t) where
    pub rooted_more : IsRooted (t ++ x ∷ [])
    rooted_more n p h =
        elim (at_or_before n (length t) (omega (arith, length_more t x))) [
          | inl old ↦ (let low : parent_of t n < n = r n p old in omega (arith, number_grown t (x ∷ []) (λ y. y.parent) n old))
          | inr new ↦ (let P : ℕ → Type 0 = λ m. parent_of (t ++ x ∷ []) m < m in subst P new (omega (arith, number_new (λ y. y.parent))))
        ]

    pub path_new : path (t ++ x ∷ []) (length t) ≡ length t ∷ path t x.parent
    path_new =
        path_step (t ++ x ∷ []) rooted_more (length t) (omega arith) (omega (arith, length_more t x))
        ∙ ap (λ m. length t ∷ path (t ++ x ∷ []) m) (number_new (λ y. y.parent))
        ∙ ap (λ ns. length t ∷ ns) (path_grown t (x ∷ []) r x.parent there)

    pub above_new : above (t ++ x ∷ []) (length t) ≡ path t x.parent
    above_new = ap (drop 1) path_new

    pub ancestor_new : (a : ℕ) → is_ancestor (t ++ x ∷ []) a (length t) ≡ (nat_eq (length t) a || is_ancestor t a x.parent)
    ancestor_new a = ap (λ ns. has ns a) path_new

    -- what is found on the way up from it, where two tests agree on the nodes that were there
    pub find_above_new : (p q : ℕ → Bool) → ((m : ℕ) → m < length t → p m ≡ q m) → find p (above (t ++ x ∷ []) (length t)) ≡ find q (path t x.parent)
    find_above_new p q agree =
        ap (find p) (above_new ∙ sym (path_grown t (x ∷ []) r x.parent there))
        ∙ find_path_kept t (t ++ x ∷ []) (keeps_grown t (x ∷ []) r) p q agree x.parent there

    -- a strand stands in itself, and any other node in the strand of its parent
    pub strand_of_new : strand_of (t ++ x ∷ []) (length t) ≡ cond (is_strand_kind x.kind) (length t) (strand_of t x.parent)
    strand_of_new =
        let u = t ++ x ∷ [] in
        ap (λ ns. unwrap_or (find (is_strand u) ns) 0) path_new
        ∙ ap (λ b. unwrap_or (cond b (Some (length t)) (find (is_strand u) (path t x.parent))) 0) (node_new (λ y. is_strand_kind y.kind))
        ∙ unwrap_cond (is_strand_kind x.kind) (length t) (find (is_strand u) (path t x.parent))
        ∙ ap (λ ns. cond (is_strand_kind x.kind) (length t) (unwrap_or (find (is_strand u) ns) 0)) (sym (path_grown t (x ∷ []) r x.parent there))
        ∙ ap (cond (is_strand_kind x.kind) (length t)) (strand_of_grown t (x ∷ []) r x.parent there)
