-- Lists in which nothing stands twice, and which of two members comes first.
use Rattle.std.proofs.Common.{◌≡◌, ℕ, zero, suc, ◌<◌, List, [], ◌∷◌, ◌++◌, length, map, get_or, refl, ap, sym, arith, Bool, true, false, cond, inl, inr, subst, nat_eq}
use Rattle.std.specs.Prelude.{◌⊎◌}
use Rattle.std.specs.List.{filter, flat_map, IsDistinct, AllByRecursion, position_or_len}
use Rattle.std.proofs.lemmas.Bool.{eq-eqb, ne_eqb}
use Rattle.std.proofs.lemmas.List.Sums.{position_or_len_is}
use Rattle.cw_tree.specs.Nodes.{below}
use Rattle.cw_tree.proofs.Lists.{In}
use Rattle.cw_tree.proofs.Members.{in_append, append_in, in_below, in_filter, in_flat, flat_in, map_in, in_map, at_in, in_at}

-- ## Nothing stands twice

abbrev pub Apart : {X : Type 0} → List X → Type 0
Apart [] = Unit {0}
Apart (x ∷ xs) = (In x xs → ⊥) × Apart xs

pub apart_append : {X : Type 0} (xs ys : List X) → Apart xs → Apart ys → ((v : X) → In v xs → In v ys → ⊥) → Apart (xs ++ ys)
apart_append [] ys a b n = b
apart_append (x ∷ xs) ys a b n = ((λ h. elim (in_append x xs ys h) [ inl i ↦ a.0 i | inr j ↦ n x (inl refl) j ]), apart_append xs ys a.1 b (λ v i j. n v (inr i) j))

pub apart_flat : {X Y : Type 0} (f : X → List Y) (xs : List X) → Apart xs → ((x : X) → In x xs → Apart (f x)) → ((x y : X) (v : Y) → In x xs → In y xs → In v (f x) → In v (f y) → x ≡ y) → Apart (flat_map f xs)
apart_flat f [] a each same = tt
apart_flat {X = X} f (x ∷ xs) a each same =
    apart_append (f x) (flat_map f xs) (each x (inl refl)) (apart_flat f xs a.1 (λ y i. each y (inr i)) (λ y z v i j. same y z v (inr i) (inr j)))
    (λ v i j.
    let z = in_flat f v xs j in
    let e : x ≡ z.0 = same x z.0 v (inl refl) (inr z.1) i z.2 in
    let P : X → Type 0 = λ y. In y xs in
    a.0 (subst P (sym e) z.1))

pub apart_map : {X Y : Type 0} (f : X → Y) (xs : List X) → ((x y : X) → In x xs → In y xs → f x ≡ f y → x ≡ y) → Apart xs → Apart (map f xs)
apart_map f [] one a = tt
apart_map {X = X} f (x ∷ xs) one a = (
  λ h.
      let z = in_map f (f x) xs h in
      let P : X → Type 0 = λ y. In y xs in
      a.0 (subst P (sym (one x z.0 (inl refl) (inr z.1) z.2)) z.1),
  apart_map f xs (λ y z i j. one y z (inr i) (inr j)) a.1,
)

pub apart_filter : {X : Type 0} (p : X → Bool) (xs : List X) → Apart xs → Apart (filter p xs)
apart_filter p [] a = tt
apart_filter p (x ∷ xs) a =
    by (p x) (apart_filter p xs a.1) where
      by : (b : Bool) → Apart (filter p xs) → Apart (cond b (x ∷ filter p xs) (filter p xs))
      by true h = ((λ i. a.0 (in_filter p x xs i).0), h)
      by false h = h

pub apart_below : (k : ℕ) → Apart (below k)
apart_below zero = tt
apart_below (suc k) =
    apart_append (below k) (k ∷ []) (apart_below k) ((λ h. h), tt) (λ v i j. let low : v < k = in_below v k i in elim j [ inl e ↦ omega arith | inr z ↦ z ])

pub apart_at : (xs : List ℕ) (i j : ℕ) → Apart xs → i < j → j < length xs → get_or xs i 0 ≡ get_or xs j 0 → ⊥
apart_at [] i j a l h e = omega arith
apart_at (x ∷ xs) i zero a l h e = omega arith
apart_at (x ∷ xs) zero (suc j) a l h e = let P : ℕ → Type 0 = λ y. In y xs in a.0 (subst P (sym e) (at_in xs j (omega arith)))
apart_at (x ∷ xs) (suc i) (suc j) a l h e = apart_at xs i j a.1 (omega arith) (omega arith) e

not_equal : (x : ℕ) (ys : List ℕ) → (In x ys → ⊥) → AllByRecursion (λ y. nat_eq x y ≡ false) ys
not_equal x [] h = tt
not_equal x (y ∷ ys) h = (ne_eqb x y (λ e. h (inl e)), not_equal x ys (λ i. h (inr i)))

pub distinct : (xs : List ℕ) → Apart xs → IsDistinct nat_eq xs
unfolding IsDistinct
distinct [] a = tt
distinct (x ∷ xs) a = (not_equal x xs a.0, distinct xs a.1)

-- a number's place in such a list
pub place_is : (xs : List ℕ) (i : ℕ) → Apart xs → i < length xs → position_or_len (λ m. nat_eq m (get_or xs i 0)) xs ≡ i
place_is xs i a h =
    position_or_len_is (λ m. nat_eq m (get_or xs i 0)) xs i 0 (omega arith) (λ k l. ne_eqb (get_or xs k 0) (get_or xs i 0) (λ e. apart_at xs k i a l h e))
    (λ l. eq-eqb (get_or xs i 0) (get_or xs i 0) refl)

-- ## One ahead of another

abbrev pub Ahead : {X : Type 0} → X → X → List X → Type 0
Ahead a b [] = ⊥
Ahead a b (x ∷ xs) = ((a ≡ x) × In b xs) ⊎ Ahead a b xs

pub ahead_left : {X : Type 0} (a b : X) (xs ys : List X) → Ahead a b xs → Ahead a b (xs ++ ys)
ahead_left a b [] ys h = absurd h
ahead_left a b (x ∷ xs) ys (inl z) = inl (z.0, append_in b xs ys (inl z.1))
ahead_left a b (x ∷ xs) ys (inr h) = inr (ahead_left a b xs ys h)

pub ahead_right : {X : Type 0} (a b : X) (xs ys : List X) → Ahead a b ys → Ahead a b (xs ++ ys)
ahead_right a b [] ys h = h
ahead_right a b (x ∷ xs) ys h = inr (ahead_right a b xs ys h)

pub ahead_both : {X : Type 0} (a b : X) (xs ys : List X) → In a xs → In b ys → Ahead a b (xs ++ ys)
ahead_both a b [] ys h g = absurd h
ahead_both a b (x ∷ xs) ys (inl e) g = inl (e, append_in b xs ys (inr g))
ahead_both a b (x ∷ xs) ys (inr h) g = inr (ahead_both a b xs ys h g)

-- in two pieces
pub ahead_pieces : {X Y : Type 0} (f : X → List Y) (a b : Y) (c d : X) (xs : List X) → Ahead c d xs → In a (f c) → In b (f d) → Ahead a b (flat_map f xs)
ahead_pieces f a b c d [] h i j = absurd h
ahead_pieces {X = X} f a b c d (x ∷ xs) (inl z) i j = let P : X → Type 0 = λ y. In a (f y) in ahead_both a b (f x) (flat_map f xs) (subst P z.0 i) (flat_in f b d xs z.1 j)
ahead_pieces f a b c d (x ∷ xs) (inr h) i j = ahead_right a b (f x) (flat_map f xs) (ahead_pieces f a b c d xs h i j)

-- in one piece
pub ahead_piece : {X Y : Type 0} (f : X → List Y) (a b : Y) (x : X) (xs : List X) → In x xs → Ahead a b (f x) → Ahead a b (flat_map f xs)
ahead_piece f a b x [] h g = absurd h
ahead_piece {X = X} f a b x (y ∷ xs) (inl e) g = let P : X → Type 0 = λ z. Ahead a b (f z) in ahead_left a b (f y) (flat_map f xs) (subst P e g)
ahead_piece f a b x (y ∷ xs) (inr h) g = ahead_right a b (f y) (flat_map f xs) (ahead_piece f a b x xs h g)

pub ahead_map : {X Y : Type 0} (f : X → Y) (a b : X) (xs : List X) → Ahead a b xs → Ahead (f a) (f b) (map f xs)
ahead_map f a b [] h = h
ahead_map f a b (x ∷ xs) (inl z) = inl (ap f z.0, map_in f b xs z.1)
ahead_map f a b (x ∷ xs) (inr h) = inr (ahead_map f a b xs h)

pub ahead_at : (a b : ℕ) (xs : List ℕ) → Ahead a b xs → (i j : ℕ) × (i < j) × (j < length xs) × (get_or xs i 0 ≡ a) × (get_or xs j 0 ≡ b)
ahead_at a b [] h = absurd h
ahead_at a b (x ∷ xs) (inl z) = let y = in_at b xs z.1 in (0, suc y.0, omega arith, omega (arith, y.1), sym z.0, y.2)
ahead_at a b (x ∷ xs) (inr h) = let z = ahead_at a b xs h in (suc z.0, suc z.1, omega (arith, z.2), omega (arith, z.3), z.4, z.5)

pub first_in : {X : Type 0} (a b : X) (xs : List X) → Ahead a b xs → In a xs
first_in a b [] h = h
first_in a b (x ∷ xs) (inl z) = inl z.0
first_in a b (x ∷ xs) (inr h) = inr (first_in a b xs h)

pub second_in : {X : Type 0} (a b : X) (xs : List X) → Ahead a b xs → In b xs
second_in a b [] h = h
second_in a b (x ∷ xs) (inl z) = inr z.1
second_in a b (x ∷ xs) (inr h) = inr (second_in a b xs h)

pub never_itself : {X : Type 0} (a : X) (xs : List X) → Apart xs → Ahead a a xs → ⊥
never_itself a [] d h = h
never_itself {X = X} a (x ∷ xs) d (inl z) = let P : X → Type 0 = λ y. In y xs in d.0 (subst P z.0 z.1)
never_itself a (x ∷ xs) d (inr h) = never_itself a xs d.1 h
