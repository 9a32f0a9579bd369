-- The outermost pending block above one node that is not above another, as a walk finds it.
use Rattle.std.proofs.Common.{◌≡◌, ◌≢◌, ℕ, zero, suc, ◌<◌, ◌≤◌, List, ◌∷◌, length, refl, ap, sym, ◌∙◌, arith, Bool, true, false, cond, Option, Some, None, inl, inr, subst}
use Rattle.std.specs.Prelude.{◌⊎◌, not}
use Rattle.std.specs.Option.{option_or}
use Rattle.std.proofs.lemmas.Bool.{and_from, and_right, not_from_true, not_from_false, false_from_ne_true}
use Rattle.cw_tree.specs.declared.node.Node.{Node}
use Rattle.cw_tree.specs.Nodes.{parent_of, is_pending}
use Rattle.cw_tree.specs.Walks.{IsRooted, above, is_ancestor, is_above, outermost, lca, victim, may_fall}
use Rattle.cw_tree.proofs.Walks.Climbs.{above_step, by_parent}
use Rattle.cw_tree.proofs.Walks.Ancestors.{ancestor_above, above_ancestor, ancestor_self, ancestor_step, ancestor_up, ancestor_trans, ancestor_le, ancestor_past, above_parent}
use Rattle.cw_tree.proofs.Walks.Meets.{lca_is_meet}

-- n is on the way up from v to the least common ancestor of u and v
pub record OnWay (t : List Node) (u v n : ℕ) : Type 0 where
  pub there : n < length t
  pub over : is_ancestor t (lca t u v) n ≡ true
  pub under : is_ancestor t n v ≡ true

or_none : (o : Option ℕ) → option_or o None ≡ o
or_none None = refl
or_none (Some m) = refl

or_assoc : (o p q : Option ℕ) → option_or (option_or o p) q ≡ option_or o (option_or p q)
or_assoc None p q = refl
or_assoc (Some m) p q = refl

or_found : (b : Bool) (n : ℕ) (o : Option ℕ) → option_or (cond b (Some n) None) o ≡ cond b (Some n) o
or_found true n o = refl
or_found false n o = refl

module _ (t : List Node) (r : IsRooted t) where
  -- the outermost node above n that passes, or else o, once the walk looked at n's parent q
  outermost_step : (p : ℕ → Bool) (n q : ℕ) (o : Option ℕ) → q ≡ parent_of t n → 0 < n → n < length t → option_or (outermost p (above t q)) (cond (p q) (Some q) o) ≡ option_or (outermost p (above t n)) o
  outermost_step p n q o e s h =
      ap (option_or (outermost p (above t q))) (sym (or_found (p q) q o))
      ∙ sym (or_assoc (outermost p (above t q)) (cond (p q) (Some q) None) o)
      ∙ ap (λ x. option_or (outermost p (x ∷ above t x)) o) e
      ∙ ap (λ ns. option_or (outermost p ns) o) (sym (above_step t r n s h))

  not_above_itself : (n : ℕ) → n < length t → is_above t n n ≡ false
  not_above_itself zero h = refl
  not_above_itself (suc n) h =
      let low : parent_of t (suc n) < suc n = r (suc n) (omega arith) h in
      above_parent t r (suc n) (suc n) (omega arith) h ∙ ancestor_past t r (suc n) (parent_of t (suc n)) (omega arith) (omega arith)

  module _ (u : ℕ) (hu : u < length t) where
    -- what stands above an ancestor of u stands above u
    none_falls : (n : ℕ) → n < length t → is_ancestor t n u ≡ true → outermost (may_fall t u) (above t n) ≡ None
    none_falls =
        by_parent t r (λ n. is_ancestor t n u ≡ true → outermost (may_fall t u) (above t n) ≡ None) (λ e. refl)
        (λ n s h more e.
        let q = parent_of t n in
        let low : q < n = r n s h in
        let le : n ≤ u = ancestor_le t r n u hu e in
        let up : is_ancestor t q u ≡ true = ancestor_trans t r q n u hu (ancestor_up t r q n s h (ancestor_self t q)) e in
        let ne : u ≢ q = omega arith in
        let fails : may_fall t u q ≡ false = and_right (is_pending t q) (not (is_above t q u)) (not_from_true (is_above t q u) (sym (ancestor_above t q u ne) ∙ up)) in
        ap (outermost (may_fall t u)) (above_step t r n s h)
        ∙ ap (λ o. option_or o (cond (may_fall t u q) (Some q) None)) (more up)
        ∙ ap (λ b. cond b (Some q) None) fails)

    module _ (v : ℕ) (hv : v < length t) where
      pub way_start : OnWay t u v v
      way_start = record { there = hv; over = (lca_is_meet t r u v hu hv).right; under = ancestor_self t v }

      way_some : (n : ℕ) → OnWay t u v n → n ≢ lca t u v → 0 < n
      way_some n w ne = let there = w.there in let le : lca t u v ≤ n = ancestor_le t r (lca t u v) n there w.over in omega arith

      pub way_up : (n q : ℕ) → OnWay t u v n → n ≢ lca t u v → q ≡ parent_of t n → OnWay t u v q
      way_up n q w ne e =
          let some : 0 < n = way_some n w ne in
          let there = w.there in
          let low : parent_of t n < n = r n some there in
          let P : ℕ → Type 0 = λ m. OnWay t u v m in
          subst P (sym e) (record {
            there = omega arith;
            over = sym (ancestor_step t r (lca t u v) n some there ne) ∙ w.over;
            under = ancestor_trans t r (parent_of t n) n v hv (ancestor_up t r (parent_of t n) n some there (ancestor_self t (parent_of t n))) w.under;
          })

      not_shared : (n : ℕ) → OnWay t u v n → (n ≢ lca t u v) ⊎ (n ≡ u) → is_above t n u ≡ false
      not_shared n w (inl ne) =
          false_from_ne_true (is_above t n u) (λ f.
          let there = w.there in
          let ge : lca t u v ≤ n = ancestor_le t r (lca t u v) n there w.over in
          let le : n ≤ lca t u v = ancestor_le t r n (lca t u v) (omega arith) ((lca_is_meet t r u v hu hv).innermost n (above_ancestor t n u f) w.under) in
          ne (omega arith))
      not_shared n w (inr same) = let P : ℕ → Type 0 = λ m. is_above t m u ≡ false in subst P (sym same) (not_above_itself u hu)

      -- the walk goes on to n's parent q, which is the outermost so far
      pub takes : (n q : ℕ) (o : Option ℕ) → OnWay t u v n → n ≢ lca t u v → q ≡ parent_of t n → is_pending t q ≡ true → (q ≢ lca t u v) ⊎ (q ≡ u)
          → option_or (outermost (may_fall t u) (above t q)) (Some q) ≡ option_or (outermost (may_fall t u) (above t n)) o
      takes n q o w ne e p own =
          let passes : may_fall t u q ≡ true = and_from (is_pending t q) (not (is_above t q u)) p (not_from_false (is_above t q u) (not_shared q (way_up n q w ne e) own)) in
          ap (λ b. option_or (outermost (may_fall t u) (above t q)) (cond b (Some q) o)) (sym passes) ∙ outermost_step (may_fall t u) n q o e (way_some n w ne) w.there

      -- the walk goes on past n's parent q
      pub passes_by : (n q : ℕ) (o : Option ℕ) → OnWay t u v n → n ≢ lca t u v → q ≡ parent_of t n → may_fall t u q ≡ false
          → option_or (outermost (may_fall t u) (above t q)) o ≡ option_or (outermost (may_fall t u) (above t n)) o
      passes_by n q o w ne e fails =
          ap (λ b. option_or (outermost (may_fall t u) (above t q)) (cond b (Some q) o)) (sym fails) ∙ outermost_step (may_fall t u) n q o e (way_some n w ne) w.there

      -- the least common ancestor stands above u, where it is not u
      pub shared_stays : (n : ℕ) → n ≡ lca t u v → n ≢ u → may_fall t u n ≡ false
      shared_stays n e ne =
          let P : ℕ → Type 0 = λ m. is_ancestor t m u ≡ true in
          let other : u ≢ n = λ q. ne (sym q) in
          and_right (is_pending t n) (not (is_above t n u)) (not_from_true (is_above t n u) (sym (ancestor_above t n u other) ∙ subst P (sym e) (lca_is_meet t r u v hu hv).left))

      -- nothing falls above the least common ancestor
      pub way_end : (n : ℕ) (o : Option ℕ) → OnWay t u v n → n ≡ lca t u v → option_or (outermost (may_fall t u) (above t n)) o ≡ o
      way_end n o w e =
          let P : ℕ → Type 0 = λ m. is_ancestor t m u ≡ true in
          ap (λ x. option_or x o) (none_falls n w.there (subst P (sym e) (lca_is_meet t r u v hu hv).left))

-- before the walk nothing was found
pub nothing_yet : (t : List Node) (u v : ℕ) → option_or (outermost (may_fall t u) (above t v)) None ≡ victim t u v
nothing_yet t u v = or_none (victim t u v)
