-- The outermost of the nodes above one that passes a test, as a walk up finds it, and where two nodes part.
use Rattle.std.proofs.Common.{◌≡◌, ◌≢◌, ℕ, ◌<◌, ◌≤◌, List, [], ◌∷◌, length, refl, ap, sym, ◌∙◌, arith, Bool, true, false, cond, Option, Some, None}
use Rattle.std.specs.Prelude.{◌&&◌, not}
use Rattle.std.specs.Option.{option_or}
use Rattle.std.proofs.lemmas.Bool.{and_from, and_left, and_right}
use Rattle.cw_tree.specs.declared.node.Node.{Node}
use Rattle.cw_tree.specs.Nodes.{parent_of, is_block, is_fork}
use Rattle.cw_tree.specs.Walks.{IsRooted, above, outermost, lca, is_ancestor, is_above}
use Rattle.cw_tree.specs.Series.{parallel}
use Rattle.cw_tree.proofs.Walks.Climbs.{above_step, by_parent}
use Rattle.cw_tree.proofs.Walks.Ancestors.{above_ancestor, ancestor_above, ancestor_le, ancestor_self, ancestor_trans, ancestor_up}
use Rattle.cw_tree.proofs.Walks.Meets.{lca_is_meet}
use Rattle.cw_audit.specs.Apart.{is_apart}

pub or_none : (o : Option ℕ) → option_or o None ≡ o
or_none None = refl
or_none (Some m) = refl

or_assoc : (o p q : Option ℕ) → option_or (option_or o p) q ≡ option_or o (option_or p q)
or_assoc None p q = refl
or_assoc (Some m) p q = refl

or_found : (b : Bool) (n : ℕ) (o : Option ℕ) → option_or (cond b (Some n) None) o ≡ cond b (Some n) o
or_found true n o = refl
or_found false n o = refl

-- what a search found passes
pub outermost_passes : (p : ℕ → Bool) (ns : List ℕ) (b : ℕ) → outermost p ns ≡ Some b → p b ≡ true
outermost_passes p [] b e = absurd (cc e)
outermost_passes p (n ∷ ns) b e = by (outermost p ns) (p n) refl (outermost_passes p ns b) e where
  by : (o : Option ℕ) (x : Bool) → p n ≡ x → (o ≡ Some b → p b ≡ true) → option_or o (cond x (Some n) None) ≡ Some b → p b ≡ true
  by (Some m) x g more h = more h
  by None true g more h = let same : n ≡ b = cc h in sym (ap p same) ∙ g
  by None false g more h = absurd (cc h)

-- a block that is not above u, and a node that is
pub own_block : (t : List Node) (u n : ℕ) → is_block t n ≡ true → is_above t n u ≡ false → is_apart t u n ≡ true
own_block t u n e f = and_from (is_block t n) (not (is_above t n u)) e (ap not f)

pub no_block : (t : List Node) (u n : ℕ) → is_block t n ≡ false → is_apart t u n ≡ false
no_block t u n e = and_left (is_block t n) (not (is_above t n u)) e

shared : (t : List Node) (u n : ℕ) → is_above t n u ≡ true → is_apart t u n ≡ false
shared t u n f = and_right (is_block t n) (not (is_above t n u)) (ap not f)

module _ (t : List Node) (r : IsRooted t) where
  outermost_step : (p : ℕ → Bool) (n q : ℕ) (o : Option ℕ) → q ≡ parent_of t n → 0 < n → n < length t → option_or (outermost p (above t q)) (cond (p q) (Some q) o) ≡ option_or (outermost p (above t n)) o
  outermost_step p n q o e s h =
      ap (option_or (outermost p (above t q))) (sym (or_found (p q) q o))
      ∙ sym (or_assoc (outermost p (above t q)) (cond (p q) (Some q) None) o)
      ∙ ap (λ x. option_or (outermost p (x ∷ above t x)) o) e
      ∙ ap (λ ns. option_or (outermost p ns) o) (sym (above_step t r n s h))

  -- the walk goes on to n's parent q, which passes
  pub walk_takes : (p : ℕ → Bool) (n q : ℕ) (o : Option ℕ) → q ≡ parent_of t n → 0 < n → n < length t → p q ≡ true → option_or (outermost p (above t q)) (Some q) ≡ option_or (outermost p (above t n)) o
  walk_takes p n q o e s h f = ap (λ b. option_or (outermost p (above t q)) (cond b (Some q) o)) (sym f) ∙ outermost_step p n q o e s h

  -- or does not
  pub walk_passes : (p : ℕ → Bool) (n q : ℕ) (o : Option ℕ) → q ≡ parent_of t n → 0 < n → n < length t → p q ≡ false → option_or (outermost p (above t q)) o ≡ option_or (outermost p (above t n)) o
  walk_passes p n q o e s h f = ap (λ b. option_or (outermost p (above t q)) (cond b (Some q) o)) (sym f) ∙ outermost_step p n q o e s h

  pub lca_there : (a b : ℕ) → a < length t → b < length t → lca t a b < length t
  lca_there a b ha hb = let le : lca t a b ≤ a = ancestor_le t r (lca t a b) a ha (lca_is_meet t r a b ha hb).left in omega arith

  -- what is above an ancestor of u is above u
  none_apart : (u : ℕ) → u < length t → (n : ℕ) → n < length t → is_ancestor t n u ≡ true → outermost (is_apart t u) (above t n) ≡ None
  none_apart u hu =
      by_parent t r (λ n. is_ancestor t n u ≡ true → outermost (is_apart t u) (above t n) ≡ None) (λ e. refl)
      (λ n s h more e.
      let q = parent_of t n in
      let low : q < n = r n s h in
      let le : n ≤ u = ancestor_le t r n u hu e in
      let up : is_ancestor t q u ≡ true = ancestor_trans t r q n u hu (ancestor_up t r q n s h (ancestor_self t q)) e in
      let ne : u ≢ q = omega arith in
      let fails : is_apart t u q ≡ false = shared t u q (sym (ancestor_above t q u ne) ∙ up) in
      ap (outermost (is_apart t u)) (above_step t r n s h)
      ∙ ap (λ o. option_or o (cond (is_apart t u q) (Some q) None)) (more up)
      ∙ ap (λ b. cond b (Some q) None) fails)

  -- a walk that comes to what is above u ends
  pub walk_ends : (u n q : ℕ) (o : Option ℕ) → u < length t → q ≡ parent_of t n → 0 < n → n < length t → is_above t q u ≡ true → o ≡ option_or (outermost (is_apart t u) (above t n)) o
  walk_ends u n q o hu e s h f =
      let there : q < length t = (let low : parent_of t n < n = r n s h in omega arith) in
      sym (ap (λ x. option_or x o) (none_apart u hu q there (above_ancestor t q u f))) ∙ walk_passes (is_apart t u) n q o e s h (shared t u q f)

-- ## Two nodes that part at a fork

second_no : (x y z : Bool) → y ≡ true → (not x && not y && z) ≡ false
second_no true y z e = refl
second_no false true z e = refl
second_no false false z e = absurd (cc e)

both_no : (x y z : Bool) → x ≡ false → y ≡ false → (not x && not y && z) ≡ z
both_no false false z e f = refl
both_no true y z e f = absurd (cc e)
both_no false true z e f = absurd (cc f)

pub over_not_parallel : (t : List Node) (a b : ℕ) → is_ancestor t a b ≡ true → parallel t a b ≡ false
over_not_parallel t a b e = ap (λ x. not x && not (is_ancestor t b a) && is_fork t (lca t a b)) e

pub under_not_parallel : (t : List Node) (a b : ℕ) → is_ancestor t b a ≡ true → parallel t a b ≡ false
under_not_parallel t a b e = second_no (is_ancestor t a b) (is_ancestor t b a) (is_fork t (lca t a b)) e

pub parallel_by_fork : (t : List Node) (a b : ℕ) → is_ancestor t a b ≡ false → is_ancestor t b a ≡ false → parallel t a b ≡ is_fork t (lca t a b)
parallel_by_fork t a b e f = both_no (is_ancestor t a b) (is_ancestor t b a) (is_fork t (lca t a b)) e f
