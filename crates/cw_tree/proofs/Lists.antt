-- Members of lists, and tests of some or all of them.
use Rattle.std.proofs.Common.{◌≡◌, ℕ, zero, suc, ◌<◌, List, [], ◌∷◌, length, map, get_or, refl, ap, sym, ◌∙◌, arith, Bool, true, inl, inr, length-append}
use Rattle.std.specs.Prelude.{◌⊎◌}
use Rattle.std.specs.List.{list_any, list_all}
use Rattle.std.proofs.lemmas.Bool.{or_cases, or_left, or_right, and_parts, and_from}
use Rattle.std.proofs.lemmas.List.{same_lists, length-map, get_or-map, get_or_push}
use Rattle.std.proofs.Math.ListN.{get_or-append}
use Rattle.cw_tree.specs.Nodes.{below}

abbrev pub In : {X : Type 0} → X → List X → Type 0
In v [] = ⊥
In v (x ∷ xs) = (v ≡ x) ⊎ In v xs

pub any_from : {X : Type 0} (p : X → Bool) (v : X) (xs : List X) → In v xs → p v ≡ true → list_any p xs ≡ true
any_from p v [] h e = absurd h
any_from p v (x ∷ xs) (inl q) e = or_left (p x) (list_any p xs) (sym (ap p q) ∙ e)
any_from p v (x ∷ xs) (inr h) e = or_right (p x) (list_any p xs) (any_from p v xs h e)

pub any_in : {X : Type 0} (p : X → Bool) (xs : List X) → list_any p xs ≡ true → (v : X) × In v xs × (p v ≡ true)
any_in p [] e = absurd (cc e)
any_in p (x ∷ xs) e = elim (or_cases (p x) (list_any p xs) e) [ inl f ↦ (x, inl refl, f) | inr f ↦ (let z = any_in p xs f in (z.0, inr z.1, z.2)) ]

pub all_in : {X : Type 0} (p : X → Bool) (v : X) (xs : List X) → list_all p xs ≡ true → In v xs → p v ≡ true
all_in p v [] e h = absurd h
all_in p v (x ∷ xs) e (inl q) = ap p q ∙ (and_parts (p x) (list_all p xs) e).0
all_in p v (x ∷ xs) e (inr h) = all_in p v xs (and_parts (p x) (list_all p xs) e).1 h

pub all_from : {X : Type 0} (p : X → Bool) (xs : List X) → ((v : X) → In v xs → p v ≡ true) → list_all p xs ≡ true
all_from p [] h = refl
all_from p (x ∷ xs) h = and_from (p x) (list_all p xs) (h x (inl refl)) (all_from p xs (λ v g. h v (inr g)))

length_below : (k : ℕ) → length (below k) ≡ k
length_below zero = refl
length_below (suc k) = length-append (below k) (k ∷ []) ∙ omega (arith, length_below k)

pub at_or_before : (n k : ℕ) → n < suc k → (n < k) ⊎ (k ≡ n)
at_or_before n k h = grind arith

pub lt_or : (n k : ℕ) → n < suc k → (n ≡ k) ⊎ (n < k)
lt_or n k h = grind arith

get_below : (k n d : ℕ) → n < k → get_or (below k) n d ≡ n
get_below zero n d h = absurd (omega arith)
get_below (suc k) n d h =
    elim (at_or_before n k h) [
      | inl l ↦ get_or-append (below k) (k ∷ []) d n (omega (arith, length_below k)) ∙ get_below k n d l
      | inr e ↦ get_or_push (below k) k d n (length_below k ∙ e) ∙ e
    ]

pub length_map_below : {X : Type 0} (f : ℕ → X) (k : ℕ) → length (map f (below k)) ≡ k
length_map_below f k = length-map (below k) f ∙ length_below k

pub get_map_below : {X : Type 0} (f : ℕ → X) (k n : ℕ) (d : X) → n < k → get_or (map f (below k)) n d ≡ f n
get_map_below f k n d h = get_or-map f (below k) n 0 d (omega (arith, length_below k)) ∙ ap f (get_below k n 0 h)

-- a list that has f's value at each number below its length
pub map_below : {X : Type 0} (f : ℕ → X) (xs : List X) (k : ℕ) → length xs ≡ k → ((n : ℕ) (d : X) → n < k → get_or xs n d ≡ f n) → xs ≡ map f (below k)
map_below f xs k e h = same_lists xs (map f (below k)) (e ∙ sym (length_map_below f k)) (λ n d l. h n d (omega arith) ∙ sym (get_map_below f k n d (omega arith)))
