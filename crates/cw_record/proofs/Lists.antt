-- What lists come to where a filter, a search or a map goes over them, and where one more comes last.
use Rattle.std.proofs.Common.{◌≡◌, ℕ, List, [], ◌∷◌, ◌++◌, map, refl, ap, sym, ◌∙◌, Bool, true, false, cond, Some, inl, inr}
use Rattle.std.specs.Prelude.{◌&&◌, All}
use Rattle.std.specs.List.{filter, find, flat_map}
use Rattle.std.proofs.lemmas.List.Elements.{All-head, All-tail}
use Rattle.cw_tree.proofs.Lists.{In}

pub filter_filter : {X : Type 0} (p q : X → Bool) (xs : List X) → filter q (filter p xs) ≡ filter (λ x. p x && q x) xs
filter_filter p q [] = refl
filter_filter p q (x ∷ xs) =
    by (p x) (filter_filter p q xs) where
      by : (b : Bool) → filter q (filter p xs) ≡ filter (λ y. p y && q y) xs → filter q (cond b (x ∷ filter p xs) (filter p xs)) ≡ cond (b && q x) (x ∷ filter (λ y. p y && q y) xs) (filter (λ y. p y && q y) xs)
      by true h = ap (λ ys. cond (q x) (x ∷ ys) ys) h
      by false h = h

pub filter_none : (p : ℕ → Bool) (ns : List ℕ) → ((n : ℕ) → In n ns → p n ≡ false) → filter p ns ≡ []
filter_none p [] h = refl
filter_none p (n ∷ ns) h = ap (λ b. cond b (n ∷ filter p ns) (filter p ns)) (h n (inl refl)) ∙ filter_none p ns (λ m i. h m (inr i))

pub find_passes : {X : Type 0} (p : X → Bool) (xs : List X) (x : X) → find p xs ≡ Some x → p x ≡ true
find_passes p [] x e = absurd (cc e)
find_passes {X} p (y ∷ ys) x e =
    by (p y) refl (find_passes p ys x) e where
      by : (b : Bool) → p y ≡ b → (find p ys ≡ Some x → p x ≡ true) → cond b (Some y) (find p ys) ≡ Some x → p x ≡ true
      by true q more f = let same : y ≡ x = cc in sym (ap p same) ∙ q
      by false q more f = more f

pub map_back : {X Y : Type 0} (f : X → Y) (g : Y → X) → ((x : X) → g (f x) ≡ x) → (xs : List X) → map g (map f xs) ≡ xs
map_back f g h [] = refl
map_back f g h (x ∷ xs) = ap (λ y. y ∷ map g (map f xs)) (h x) ∙ ap (λ ys. x ∷ ys) (map_back f g h xs)

-- two functions that agree on what passes
pub flat_filter_same : {X Y : Type 0} (p : X → Bool) (f g : X → List Y) (P : X → Type 0) (xs : List X) → All P xs → ((x : X) → P x → p x ≡ true → f x ≡ g x) → flat_map f (filter p xs) ≡ flat_map g (filter p xs)
flat_filter_same p f g P [] h same = refl
flat_filter_same p f g P (x ∷ xs) h same =
    by (p x) refl (flat_filter_same p f g P xs (All-tail P x xs h) same) where
      by : (b : Bool) → p x ≡ b → flat_map f (filter p xs) ≡ flat_map g (filter p xs) → flat_map f (cond b (x ∷ filter p xs) (filter p xs)) ≡ flat_map g (cond b (x ∷ filter p xs) (filter p xs))
      by true e more = ap (λ ys. ys ++ flat_map f (filter p xs)) (same x (All-head P x xs h) e) ∙ ap (λ ys. g x ++ ys) more
      by false e more = more

pub flat_same : {X Y : Type 0} (f g : X → List Y) (P : X → Type 0) (xs : List X) → All P xs → ((x : X) → P x → f x ≡ g x) → flat_map f xs ≡ flat_map g xs
flat_same f g P [] h same = refl
flat_same f g P (x ∷ xs) h same = ap (λ ys. ys ++ flat_map f xs) (same x (All-head P x xs h)) ∙ ap (λ ys. g x ++ ys) (flat_same f g P xs (All-tail P x xs h) same)
