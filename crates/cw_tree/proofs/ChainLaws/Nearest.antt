-- The first node that passes a test on the way up from another, and what pending blocks are above a node.
use Rattle.std.proofs.Common.{◌≡◌, ℕ, ◌<◌, ◌≤◌, List, length, refl, ap, sym, ◌∙◌, arith, Bool, true, false, Option, Some, None, inl, inr, subst}
use Rattle.std.specs.Prelude.{◌⊎◌, not}
use Rattle.std.specs.List.{find}
use Rattle.std.proofs.lemmas.Bool.{cases_Bool, cases_eq, not_from_true, not-false}
use Rattle.std.proofs.lemmas.Option.{same_Some}
use Rattle.cw_tree.specs.declared.node.Node.{Node}
use Rattle.cw_tree.specs.Nodes.{parent_of, is_pending}
use Rattle.cw_tree.specs.Walks.{IsRooted, above, is_ancestor, is_above, nua, conflict}
use Rattle.cw_tree.specs.Accesses.{lets_follow}
use Rattle.cw_tree.proofs.Walks.Climbs.{by_parent, found_above, not_found_above}
use Rattle.cw_tree.proofs.Walks.Ancestors.{ancestor_self, ancestor_above, above_ancestor, above_parent, ancestor_trans, ancestor_le}

module _ (t : List Node) (r : IsRooted t) where
  -- a is the first above n that passes: of the others that pass each is an ancestor of it
  pub record IsFirst (p : ℕ → Bool) (n a : ℕ) : Type 0 where
    pub passes : p a ≡ true
    pub over : is_above t a n ≡ true
    pub innermost : (b : ℕ) → is_above t b n ≡ true → p b ≡ true → is_ancestor t b a ≡ true

  pub first_found : (p : ℕ → Bool) (n : ℕ) → n < length t → (a : ℕ) → find p (above t n) ≡ Some a → IsFirst p n a
  first_found p =
      by_parent t r (λ n. (a : ℕ) → find p (above t n) ≡ Some a → IsFirst p n a) (λ a e. absurd (cc e))
      (λ n s h more a e. by_case n s h more a e (cases_Bool (p (parent_of t n)))) where
        by_case : (n : ℕ) → 0 < n → n < length t → ((a : ℕ) → find p (above t (parent_of t n)) ≡ Some a → IsFirst p (parent_of t n) a) → (a : ℕ) → find p (above t n) ≡ Some a
            → (p (parent_of t n) ≡ true) ⊎ (p (parent_of t n) ≡ false) → IsFirst p n a
        by_case n s h more a e (inl g) =
            let q = parent_of t n in
            let same : q ≡ a = same_Some q a (found_above t r p n q refl s h (sym g) ∙ e) in
            let P : ℕ → Type 0 = λ x. IsFirst p n x in
            subst P same (record {
              passes = g;
              over = above_parent t r q n s h ∙ ancestor_self t q;
              innermost = λ b o f. sym (above_parent t r b n s h) ∙ o;
            })
        by_case n s h more a e (inr g) =
            let q = parent_of t n in
            let w = more a (not_found_above t r p n q refl s h (sym g) ∙ e) in
            record {
              passes = w.passes;
              over = above_parent t r a n s h ∙ above_ancestor t a q w.over;
              innermost = λ b over f.
                  (let up : is_ancestor t b q ≡ true = sym (above_parent t r b n s h) ∙ over in
                  let ne : q ≡ b → ⊥ = λ z. absurd (cc (g, f, ap p z)) in
                  w.innermost b (sym (ancestor_above t b q ne) ∙ up) f);
            }

  pub none_found : (p : ℕ → Bool) (n : ℕ) → n < length t → find p (above t n) ≡ None → (b : ℕ) → is_above t b n ≡ true → p b ≡ false
  none_found p =
      by_parent t r (λ n. find p (above t n) ≡ None → (b : ℕ) → is_above t b n ≡ true → p b ≡ false) (λ e b over. absurd (cc over))
      (λ n s h more e. by_case n s h more e (cases_Bool (p (parent_of t n)))) where
        by_case : (n : ℕ) → 0 < n → n < length t → (find p (above t (parent_of t n)) ≡ None → (b : ℕ) → is_above t b (parent_of t n) ≡ true → p b ≡ false) → find p (above t n) ≡ None
            → (p (parent_of t n) ≡ true) ⊎ (p (parent_of t n) ≡ false) → (b : ℕ) → is_above t b n ≡ true → p b ≡ false
        by_case n s h more e (inl g) b over = absurd (cc (found_above t r p n (parent_of t n) refl s h (sym g) ∙ e))
        by_case n s h more e (inr g) b over =
            let q = parent_of t n in
            let up : is_ancestor t b q ≡ true = sym (above_parent t r b n s h) ∙ over in
            elim (cases_eq q b) [
              | inl z ↦ sym (ap p z) ∙ g
              | inr ne ↦ more (not_found_above t r p n q refl s h (sym g) ∙ e) b (sym (ancestor_above t b q ne) ∙ up)
            ]

  -- what stands above an ancestor of a node's stands above the node
  pub above_from : (b a n : ℕ) → n < length t → is_ancestor t b a ≡ true → is_above t a n ≡ true → is_above t b n ≡ true
  above_from b a n h up over = by_case (cases_eq n b) where
    above_le : (x : ℕ) → is_above t x n ≡ true → x < n
    above_le x f = by_zero (Rattle.std.proofs.lemmas.Bool.cases_lt 0 n) f where
      by_zero : (0 < n) ⊎ (n ≤ 0) → is_above t x n ≡ true → x < n
      by_zero (inl s) g =
          let low : parent_of t n < n = r n s h in
          let le : x ≤ parent_of t n = ancestor_le t r x (parent_of t n) (omega arith) (sym (above_parent t r x n s h) ∙ g) in
          omega arith
      by_zero (inr z) g = let zero_is : n ≡ 0 = omega arith in let P : ℕ → Type 0 = λ m. is_above t x m ≡ true in absurd (cc (subst P zero_is g))

    by_case : (n ≡ b) ⊎ (n ≡ b → ⊥) → is_above t b n ≡ true
    by_case (inr ne) = sym (ancestor_above t b n ne) ∙ ancestor_trans t r b a n h up (above_ancestor t a n over)
    by_case (inl e) =
        let low : a < n = above_le a over in
        let le : b ≤ a = ancestor_le t r b a (omega arith) up in
        absurd (omega arith)

  -- ## Following and conflicts, by all pending blocks above

  -- every pending block above u is above v
  abbrev pub Passes : ℕ → ℕ → Type 0
  Passes u v = (b : ℕ) → is_pending t b ≡ true → is_above t b u ≡ true → is_above t b v ≡ true

  pub follows_passes : (u v : ℕ) → u < length t → v < length t → lets_follow t (nua t u) (nua t v) ≡ true → Passes u v
  follows_passes u v hu hv e b pending over = by_first (nua t u) refl e where
    by_next : (a : ℕ) → is_ancestor t b a ≡ true → (o : Option ℕ) → nua t v ≡ o → lets_follow t (Some a) o ≡ true → is_above t b v ≡ true
    by_next a up None q f = absurd (cc f)
    by_next a up (Some c) q f =
        let w = first_found (is_pending t) v hv c q in
        above_from b c v hv (ancestor_trans t r b a c (there c w.over) up f) w.over where
          there : (c : ℕ) → is_above t c v ≡ true → c < length t
          there c g = let le : c ≤ v = ancestor_le t r c v hv (above_ancestor t c v g) in omega arith

    by_first : (o : Option ℕ) → nua t u ≡ o → lets_follow t o (nua t v) ≡ true → is_above t b v ≡ true
    by_first None q f = absurd (cc (none_found (is_pending t) u hu q b over, pending))
    by_first (Some a) q f = by_next a ((first_found (is_pending t) u hu a q).innermost b over pending) (nua t v) refl f

  pub passes_follows : (u v : ℕ) → u < length t → v < length t → Passes u v → lets_follow t (nua t u) (nua t v) ≡ true
  passes_follows u v hu hv all = by_first (nua t u) refl where
    by_next : (a : ℕ) → is_pending t a ≡ true → is_above t a v ≡ true → (o : Option ℕ) → nua t v ≡ o → lets_follow t (Some a) o ≡ true
    by_next a pending over None q = absurd (cc (none_found (is_pending t) v hv q a over, pending))
    by_next a pending over (Some c) q = (first_found (is_pending t) v hv c q).innermost a over pending

    by_first : (o : Option ℕ) → nua t u ≡ o → lets_follow t o (nua t v) ≡ true
    by_first None q = refl
    by_first (Some a) q = let w = first_found (is_pending t) u hu a q in by_next a w.passes (all a w.passes w.over) (nua t v) refl

  -- an access conflicts with u unless every pending block above u is its ancestor
  pub free_passes : (u v : ℕ) → u < length t → v < length t → conflict t u v ≡ false → (b : ℕ) → is_pending t b ≡ true → is_above t b u ≡ true → is_ancestor t b v ≡ true
  free_passes u v hu hv e b pending over = by_first (nua t u) refl where
    by_first : (o : Option ℕ) → nua t u ≡ o → is_ancestor t b v ≡ true
    by_first None q = absurd (cc (none_found (is_pending t) u hu q b over, pending))
    by_first (Some a) q =
        let free : not (is_ancestor t a v) ≡ false = sym (rw q refl) ∙ e in
        ancestor_trans t r b a v hv ((first_found (is_pending t) u hu a q).innermost b over pending) (not-false (is_ancestor t a v) free)

  pub passes_free : (u v : ℕ) → u < length t → ((b : ℕ) → is_pending t b ≡ true → is_above t b u ≡ true → is_ancestor t b v ≡ true) → conflict t u v ≡ false
  passes_free u v hu all = by_first (nua t u) refl where
    by_first : (o : Option ℕ) → nua t u ≡ o → conflict t u v ≡ false
    by_first None q = rw q refl
    by_first (Some a) q = let w = first_found (is_pending t) u hu a q in rw q (not_from_true (is_ancestor t a v) (all a w.passes w.over))
