-- An ancestor by cases, and what a search on the way up finds.
use Rattle.std.proofs.Common.{◌≡◌, ℕ, ◌<◌, List, length, sym, ap, ◌∙◌, Bool, true, false, cond, Option, Some, None, inl, inr, subst, refl}
use Rattle.std.specs.Prelude.{◌⊎◌}
use Rattle.std.specs.List.{find}
use Rattle.std.proofs.lemmas.Bool.{cases_eq}
use Rattle.cw_tree.specs.declared.node.Node.{Node}
use Rattle.cw_tree.specs.Nodes.{parent_of}
use Rattle.cw_tree.specs.Walks.{IsRooted, path, is_ancestor}
use Rattle.cw_tree.proofs.Walks.Climbs.{path_step, by_parent}
use Rattle.cw_tree.proofs.Walks.Ancestors.{ancestor_self, ancestor_root, ancestor_step, ancestor_up}

-- which of two a search gave
cond_some : (c : Bool) (n b : ℕ) (o : Option ℕ) → cond c (Some n) o ≡ Some b → ((c ≡ true) × (n ≡ b)) ⊎ ((c ≡ false) × (o ≡ Some b))
cond_some true n b o e = inl (refl, cc e)
cond_some false n b o e = inr (refl, e)

cond_none : (c : Bool) (n : ℕ) (o : Option ℕ) → cond c (Some n) o ≡ None → (c ≡ false) × (o ≡ None)
cond_none true n o e = absurd (cc e)
cond_none false n o e = (refl, e)

module _ (t : List Node) (r : IsRooted t) where
  -- an ancestor is the node itself or one of its parent
  pub ancestor_cases : (a n : ℕ) → 0 < n → n < length t → is_ancestor t a n ≡ true → (n ≡ a) ⊎ (is_ancestor t a (parent_of t n) ≡ true)
  ancestor_cases a n p h e = elim (cases_eq n a) [ inl q ↦ inl q | inr ne ↦ inr (sym (ancestor_step t r a n p h ne) ∙ e) ]

  find_step : (p : ℕ → Bool) (n : ℕ) → 0 < n → n < length t → find p (path t n) ≡ cond (p n) (Some n) (find p (path t (parent_of t n)))
  find_step p n q h = ap (find p) (path_step t r n q h)

  -- what is found on the way up passes the test, is an ancestor, and all other ancestors that pass are ancestors of it
  pub record Found (p : ℕ → Bool) (n b : ℕ) : Type 0 where
    pub passed : p b ≡ true
    pub above : is_ancestor t b n ≡ true
    pub innermost : (a : ℕ) → is_ancestor t a n ≡ true → p a ≡ true → is_ancestor t a b ≡ true

  found_here : (p : ℕ → Bool) (n b : ℕ) → p n ≡ true → n ≡ b → Found p n b
  found_here p n b e same =
      let P : ℕ → Type 0 = λ x. Found p n x in
      subst P same (record { passed = e; above = ancestor_self t n; innermost = λ a g q. g })

  found_up : (p : ℕ → Bool) (n b : ℕ) → 0 < n → n < length t → p n ≡ false → Found p (parent_of t n) b → Found p n b
  found_up p n b q h e w = record {
    passed = w.passed;
    above = ancestor_up t r b n q h w.above;
    innermost = λ a g s. elim (ancestor_cases a n q h g) [ inl z ↦ absurd (cc (ap p z)) | inr z ↦ w.innermost a z s ];
  }

  pub find_found : (p : ℕ → Bool) (b n : ℕ) → n < length t → find p (path t n) ≡ Some b → Found p n b
  find_found p b n h =
      by_parent t r (λ n. find p (path t n) ≡ Some b → Found p n b)
      (λ f. elim (cond_some (p 0) 0 b None f) [ inl z ↦ found_here p 0 b z.0 z.1 | inr z ↦ absurd (cc z.1) ])
      (λ m q s more f. elim (cond_some (p m) m b (find p (path t (parent_of t m))) (sym (find_step p m q s) ∙ f)) [ inl z ↦ found_here p m b z.0 z.1 | inr z ↦ found_up p m b q s z.0 (more z.1) ])
      n h

  -- where nothing is found, no ancestor passes
  pub find_none : (p : ℕ → Bool) (n : ℕ) → n < length t → find p (path t n) ≡ None → (a : ℕ) → is_ancestor t a n ≡ true → p a ≡ false
  find_none p n h f a =
      by_parent t r (λ n. find p (path t n) ≡ None → is_ancestor t a n ≡ true → p a ≡ false)
      (λ f g. let P : ℕ → Type 0 = λ x. p x ≡ false in subst P (sym (ancestor_root t a g)) (cond_none (p 0) 0 None f).0)
      (λ m q s more f g.
      let z = cond_none (p m) m (find p (path t (parent_of t m))) (sym (find_step p m q s) ∙ f) in
      let P : ℕ → Type 0 = λ x. p x ≡ false in
      elim (ancestor_cases a m q s g) [ inl y ↦ subst P y z.0 | inr y ↦ more z.1 y ])
      n h f
