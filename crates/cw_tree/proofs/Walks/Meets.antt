-- The least common ancestor of two nodes: how two walks come to it, and what it is.
use Rattle.std.proofs.Common.{◌≡◌, ◌≢◌, ℕ, ◌<◌, List, ◌∷◌, length, ap, sym, ◌∙◌, arith, Bool, true, false, cond, Some, subst, inl, inr}
use Rattle.std.specs.Prelude.{◌⊎◌, unwrap_or}
use Rattle.std.specs.List.{find}
use Rattle.std.proofs.lemmas.Bool.{cases_Bool}
use Rattle.cw_tree.specs.declared.node.Node.{Node}
use Rattle.cw_tree.specs.Nodes.{parent_of}
use Rattle.cw_tree.specs.Walks.{IsRooted, path, above, is_ancestor, lca}
use Rattle.cw_tree.proofs.Walks.Climbs.{path_split, path_step, by_parent, find_path_same}
use Rattle.cw_tree.proofs.Walks.Ancestors.{ancestor_self, ancestor_step, ancestor_up, ancestor_past, root_ancestor}

find_first : (p : ℕ → Bool) (n : ℕ) (ns : List ℕ) → p n ≡ true → find p (n ∷ ns) ≡ Some n
find_first p n ns e = ap (λ b. cond b (Some n) (find p ns)) e

find_rest : (p : ℕ → Bool) (n : ℕ) (ns : List ℕ) → p n ≡ false → find p (n ∷ ns) ≡ find p ns
find_rest p n ns e = ap (λ b. cond b (Some n) (find p ns)) e

module _ (t : List Node) (r : IsRooted t) where
  -- a walk from the greater of two nodes comes to the same
  pub lca_left : (a b : ℕ) → a < length t → b < length t → b < a → lca t a b ≡ lca t (parent_of t a) b
  lca_left a b ha hb low =
      let test : ℕ → Bool = λ m. is_ancestor t m b in
      ap (λ ns. unwrap_or (find test ns) 0) (path_step t r a (omega arith) ha)
      ∙ ap (λ o. unwrap_or o 0) (find_rest test a (path t (parent_of t a)) (ancestor_past t r a b hb low))

  pub lca_right : (a b : ℕ) → a < length t → b < length t → a < b → lca t a b ≡ lca t a (parent_of t b)
  lca_right a b ha hb low =
      ap (λ o. unwrap_or o 0) (find_path_same t r (λ m. is_ancestor t m b) (λ m. is_ancestor t m (parent_of t b)) a ha (λ m le. let ne : b ≢ m = omega arith in ancestor_step t r m b (omega arith) hb ne))

  -- m is the innermost of the common ancestors of a and b
  pub record IsMeet (a b m : ℕ) : Type 0 where
    pub left : is_ancestor t m a ≡ true
    pub right : is_ancestor t m b ≡ true
    pub innermost : (n : ℕ) → is_ancestor t n a ≡ true → is_ancestor t n b ≡ true → is_ancestor t n m ≡ true

  meet_here : (a b : ℕ) → is_ancestor t a b ≡ true → IsMeet a b a
  meet_here a b e = record { left = ancestor_self t a; right = e; innermost = λ n f g. f }

  meet_up : (a b m : ℕ) → 0 < a → a < length t → is_ancestor t a b ≡ false → IsMeet (parent_of t a) b m → IsMeet a b m
  meet_up a b m p h e w = record {
    left = ancestor_up t r m a p h w.left;
    right = w.right;
    innermost = λ n f g. w.innermost n (sym (ancestor_step t r n a p h (λ same. let P : ℕ → Type 0 = λ x. is_ancestor t x b ≡ true in absurd (cc (e, subst P (sym same) g)))) ∙ f) g;
  }

  pub lca_is_meet : (a b : ℕ) → a < length t → b < length t → IsMeet a b (lca t a b)
  lca_is_meet a b ha hb =
      by_parent t r (λ a. IsMeet a b (lca t a b)) (found 0 (root_ancestor t r b hb)) (λ a p h more. by_case a p h more (cases_Bool (is_ancestor t a b))) a ha where
        found : (a : ℕ) → is_ancestor t a b ≡ true → IsMeet a b (lca t a b)
        found a e =
            let test : ℕ → Bool = λ m. is_ancestor t m b in
            let same : lca t a b ≡ a = ap (λ ns. unwrap_or (find test ns) 0) (path_split t a) ∙ ap (λ o. unwrap_or o 0) (find_first test a (above t a) e) in
            let P : ℕ → Type 0 = λ m. IsMeet a b m in
            subst P (sym same) (meet_here a b e)

        by_case : (a : ℕ) → 0 < a → a < length t → IsMeet (parent_of t a) b (lca t (parent_of t a) b) → (is_ancestor t a b ≡ true) ⊎ (is_ancestor t a b ≡ false) → IsMeet a b (lca t a b)
        by_case a p h more (inl e) = found a e
        by_case a p h more (inr e) =
            let test : ℕ → Bool = λ m. is_ancestor t m b in
            let same : lca t a b ≡ lca t (parent_of t a) b = ap (λ ns. unwrap_or (find test ns) 0) (path_step t r a p h) ∙ ap (λ o. unwrap_or o 0) (find_rest test a (path t (parent_of t a)) e) in
            let P : ℕ → Type 0 = λ m. IsMeet a b m in
            subst P (sym same) (meet_up a b (lca t (parent_of t a) b) p h e more)
