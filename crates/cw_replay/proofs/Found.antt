-- What a look through a list finds.
use Rattle.std.proofs.Common.{◌≡◌, ℕ, zero, suc, ◌<◌, Bool, true, false, ◌||◌, List, [], ◌∷◌, refl, ap, sym, ◌∙◌, arith, cond, inl, inr, ◌⊎◌, Option, None, Some, map}
use Rattle.std.proofs.lemmas.Bool.{false_from_ne_true, or_left, or_right}
use Rattle.std.specs.List.{Contains, find, list_any}
use Rattle.std.specs.Option.{option_or}
use Rattle.cw_tree.specs.Nodes.{below}
use Rattle.cw_tree.specs.Walks.{outermost}
use Rattle.cw_tree.proofs.Lists.{In}
use Rattle.cw_tree.proofs.Members.{below_in, in_below}

module _ {X : Type 0} where
  contains_later : (x : X) (xs : List X) (y : X) → Contains xs y → Contains (x ∷ xs) y
  contains_later x xs y (k, within, e) = (suc k, omega (arith, within), e)

  pub find_contains : (p : X → Bool) (xs : List X) (x : X) → find p xs ≡ Some x → Contains xs x × (p x ≡ true)
  find_contains p [] x e = absurd (cc e)
  find_contains p (y ∷ ys) x e = by_test (p y) refl e (find_contains p ys x) where
    by_test : (b : Bool) → p y ≡ b → cond b (Some y) (find p ys) ≡ Some x → (find p ys ≡ Some x → Contains ys x × (p x ≡ true)) → Contains (y ∷ ys) x × (p x ≡ true)
    by_test true q f more = ((0, omega arith, cc f), cc (q, f))
    by_test false q f more = (contains_later y ys x (more f).0, (more f).1)

  pub any_contains : (p : X → Bool) (xs : List X) → list_any p xs ≡ true → (x : X) × Contains xs x × (p x ≡ true)
  any_contains p [] e = absurd (cc e)
  any_contains p (y ∷ ys) e = by_test (p y) refl (any_contains p ys) where
    by_test : (b : Bool) → p y ≡ b → (list_any p ys ≡ true → (x : X) × Contains ys x × (p x ≡ true)) → (x : X) × Contains (y ∷ ys) x × (p x ≡ true)
    by_test true q more = (y, (0, omega arith, refl), q)
    by_test false q more = (let z = more (sym (ap (λ b. b || list_any p ys) q) ∙ e) in (z.0, contains_later y ys z.0 z.1, z.2))

  any_with : (p : X → Bool) (xs : List X) (x : X) → Contains xs x → p x ≡ true → list_any p xs ≡ true
  any_with p [] x (k, within, f) q = absurd (omega (arith, within))
  any_with p (y ∷ ys) x (zero, within, f) q = or_left (p y) (list_any p ys) (ap p f ∙ q)
  any_with p (y ∷ ys) x (suc k, within, f) q = or_right (p y) (list_any p ys) (any_with p ys x (k, omega (arith, within), f) q)

  pub none_contained : (p : X → Bool) (xs : List X) → list_any p xs ≡ false → (x : X) → Contains xs x → p x ≡ false
  none_contained p xs e x has = false_from_ne_true (p x) (λ q. absurd (cc (e, any_with p xs x has q)))

  pub map_contains : (f : X → ℕ) (xs : List X) (v : ℕ) → In v (map f xs) → (x : X) × Contains xs x × (f x ≡ v)
  map_contains f [] v h = absurd h
  map_contains f (x ∷ xs) v (inl e) = (x, (0, omega arith, refl), sym e)
  map_contains f (x ∷ xs) v (inr h) = let z = map_contains f xs v h in (z.0, contains_later x xs z.0 z.1, z.2)

in_by : (xs : List ℕ) (n : ℕ) → Contains xs n → In n xs
in_by [] n (k, within, e) = absurd (omega (arith, within))
in_by (x ∷ xs) n (zero, within, e) = inl (sym e)
in_by (x ∷ xs) n (suc k, within, e) = inr (in_by xs n (k, omega (arith, within), e))

found_some : (p : ℕ → Bool) (xs : List ℕ) (n : ℕ) → In n xs → p n ≡ true → find p xs ≡ None → ⊥
found_some p [] n h e f = h
found_some p (x ∷ xs) n h e f = by_test (p x) refl h f (found_some p xs n) where
  by_test : (b : Bool) → p x ≡ b → (n ≡ x) ⊎ In n xs → cond b (Some x) (find p xs) ≡ None → (In n xs → p n ≡ true → find p xs ≡ None → ⊥) → ⊥
  by_test true q h f more = absurd (cc f)
  by_test false q (inl same) f more = absurd (cc (q, e, ap p same))
  by_test false q (inr there) f more = more there e f

-- the one number below k that passes is found
pub find_one : (p : ℕ → Bool) (k n : ℕ) → n < k → p n ≡ true → ((m : ℕ) → m < k → p m ≡ true → m ≡ n) → find p (below k) ≡ Some n
find_one p k n h e one = by_found (find p (below k)) refl where
  by_found : (o : Option ℕ) → find p (below k) ≡ o → find p (below k) ≡ Some n
  by_found None f = absurd (found_some p (below k) n (below_in n k h) e f)
  by_found (Some m) f =
      let z = find_contains p (below k) m f in
      let low : m < k = in_below m k (in_by (below k) m z.0) in
      f ∙ ap Some (one m low z.1)

-- the outermost passes
pub outermost_passes : (p : ℕ → Bool) (ns : List ℕ) (n : ℕ) → outermost p ns ≡ Some n → p n ≡ true
outermost_passes p [] n e = absurd (cc e)
outermost_passes p (m ∷ ms) n e = by_rest (outermost p ms) (p m) refl refl e (outermost_passes p ms n) where
  by_rest : (o : Option ℕ) (b : Bool) → outermost p ms ≡ o → p m ≡ b → option_or o (cond b (Some m) None) ≡ Some n → (outermost p ms ≡ Some n → p n ≡ true) → p n ≡ true
  by_rest (Some x) b f q e more = more (f ∙ e)
  by_rest None true f q e more = cc (q, e)
  by_rest None false f q e more = absurd (cc e)
