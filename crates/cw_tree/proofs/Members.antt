-- Members of lists that are made by tests, and functions that agree at each member of a list.
use Rattle.std.proofs.Common.{◌≡◌, ℕ, zero, suc, ◌<◌, ◌≤◌, List, [], ◌∷◌, ◌++◌, map, refl, ap, sym, ◌∙◌, arith, Bool, true, false, cond, inl, inr, subst, get_or, Some, length, reverse, ◌+◌, ◌&&◌}
use Rattle.std.specs.Prelude.{◌⊎◌, ◌||◌, All, find}
use Rattle.std.specs.List.{list_any, filter, suffix_len, list_all, prefix_len, flat_map}
use Rattle.std.proofs.lemmas.List.{append-nil, reverse-append}
use Rattle.std.proofs.lemmas.List.Elements.{filter-append, All-tail, All-head, All-nil, All-cons}
use Rattle.cw_tree.specs.Nodes.{below}
use Rattle.cw_tree.proofs.Lists.{In, at_or_before}

pub in_append : {X : Type 0} (v : X) (xs ys : List X) → In v (xs ++ ys) → In v xs ⊎ In v ys
in_append v [] ys h = inr h
in_append v (x ∷ xs) ys (inl e) = inl (inl e)
in_append v (x ∷ xs) ys (inr h) = elim (in_append v xs ys h) [ inl a ↦ inl (inr a) | inr b ↦ inr b ]

pub in_below : (v k : ℕ) → In v (below k) → v < k
in_below v zero h = absurd h
in_below v (suc k) h = elim (in_append v (below k) (k ∷ []) h) [ inl a ↦ (let low : v < k = in_below v k a in omega arith) | inr b ↦ elim b [ inl e ↦ omega arith | inr z ↦ absurd z ] ]

pub append_in : {X : Type 0} (v : X) (xs ys : List X) → In v xs ⊎ In v ys → In v (xs ++ ys)
append_in v [] ys (inl h) = absurd h
append_in v [] ys (inr h) = h
append_in v (x ∷ xs) ys (inl h) = elim h [ inl e ↦ inl e | inr g ↦ inr (append_in v xs ys (inl g)) ]
append_in v (x ∷ xs) ys (inr h) = inr (append_in v xs ys (inr h))

pub in_left : {X : Type 0} (v : X) (xs ys : List X) → In v xs → In v (xs ++ ys)
in_left v xs ys h = append_in v xs ys (inl h)

pub in_right : {X : Type 0} (v : X) (xs ys : List X) → In v ys → In v (xs ++ ys)
in_right v xs ys h = append_in v xs ys (inr h)

pub below_in : (v k : ℕ) → v < k → In v (below k)
below_in v zero h = absurd (omega arith)
below_in v (suc k) h = append_in v (below k) (k ∷ []) (elim (at_or_before v k h) [ inl low ↦ inl (below_in v k low) | inr e ↦ inr (inl (sym e)) ])

kept_cases : {X : Type 0} (b : Bool) (v x : X) (ys : List X) → In v (cond b (x ∷ ys) ys) → ((b ≡ true) × (v ≡ x)) ⊎ In v ys
kept_cases true v x ys (inl e) = inl (refl, e)
kept_cases true v x ys (inr h) = inr h
kept_cases false v x ys h = inr h

pub in_filter : {X : Type 0} (p : X → Bool) (v : X) (xs : List X) → In v (filter p xs) → In v xs × (p v ≡ true)
in_filter p v [] h = absurd h
in_filter p v (x ∷ xs) h = elim (kept_cases (p x) v x (filter p xs) h) [ inl z ↦ (inl z.1, ap p z.1 ∙ z.0) | inr a ↦ (let z = in_filter p v xs a in (inr z.0, z.1)) ]

pub filter_in : {X : Type 0} (p : X → Bool) (v : X) (xs : List X) → In v xs → p v ≡ true → In v (filter p xs)
filter_in p v [] h e = absurd h
filter_in p v (x ∷ xs) h e =
    by (p x) refl (λ i. filter_in p v xs i e) h where
      by : (b : Bool) → p x ≡ b → (In v xs → In v (filter p xs)) → (v ≡ x) ⊎ In v xs → In v (cond b (x ∷ filter p xs) (filter p xs))
      by true f more (inl q) = inl q
      by true f more (inr i) = inr (more i)
      by false f more (inl q) = absurd (let g : true ≡ false = sym e ∙ ap p q ∙ f in cc)
      by false f more (inr i) = more i

pub in_flat : {X Y : Type 0} (f : X → List Y) (v : Y) (xs : List X) → In v (flat_map f xs) → (x : X) × In x xs × In v (f x)
in_flat f v [] h = absurd h
in_flat f v (x ∷ xs) h = elim (in_append v (f x) (flat_map f xs) h) [ inl a ↦ (x, inl refl, a) | inr b ↦ (let z = in_flat f v xs b in (z.0, inr z.1, z.2)) ]

pub flat_in : {X Y : Type 0} (f : X → List Y) (v : Y) (x : X) (xs : List X) → In x xs → In v (f x) → In v (flat_map f xs)
flat_in f v x [] h g = absurd h
flat_in {X = X} f v x (y ∷ xs) (inl e) g = let P : X → Type 0 = λ z. In v (f z) in append_in v (f y) (flat_map f xs) (inl (subst P e g))
flat_in f v x (y ∷ xs) (inr h) g = append_in v (f y) (flat_map f xs) (inr (flat_in f v x xs h g))

pub map_in : {X Y : Type 0} (f : X → Y) (x : X) (xs : List X) → In x xs → In (f x) (map f xs)
map_in f x [] h = absurd h
map_in f x (y ∷ xs) (inl e) = inl (ap f e)
map_in f x (y ∷ xs) (inr h) = inr (map_in f x xs h)

pub in_map : {X Y : Type 0} (f : X → Y) (v : Y) (xs : List X) → In v (map f xs) → (x : X) × In x xs × (v ≡ f x)
in_map f v [] h = absurd h
in_map f v (x ∷ xs) (inl e) = (x, inl refl, e)
in_map f v (x ∷ xs) (inr h) = let z = in_map f v xs h in (z.0, inr z.1, z.2)

pub at_in : (xs : List ℕ) (i : ℕ) → i < length xs → In (get_or xs i 0) xs
at_in [] i h = absurd (omega arith)
at_in (x ∷ xs) zero h = inl refl
at_in (x ∷ xs) (suc i) h = inr (at_in xs i (omega arith))

pub in_at : (v : ℕ) (xs : List ℕ) → In v xs → (i : ℕ) × (i < length xs) × (get_or xs i 0 ≡ v)
in_at v [] h = absurd h
in_at v (x ∷ xs) (inl e) = (0, omega arith, sym e)
in_at v (x ∷ xs) (inr h) = let z = in_at v xs h in (suc z.0, omega (arith, z.1), z.2)

pub all_at : {X : Type 0} (P : X → Type 0) (xs : List X) → All P xs → (v : X) → In v xs → P v
all_at P [] h v i = absurd i
all_at P (x ∷ xs) h v (inl e) = subst P (sym e) (All-head P x xs h)
all_at P (x ∷ xs) h v (inr i) = all_at P xs (All-tail P x xs h) v i

pub all_of : {X : Type 0} (P : X → Type 0) (xs : List X) → ((v : X) → In v xs → P v) → All P xs
all_of P [] f = All-nil P
all_of P (x ∷ xs) f = All-cons P x xs (f x (inl refl)) (all_of P xs (λ v i. f v (inr i)))

pub any_same : {X : Type 0} (p q : X → Bool) (xs : List X) → ((v : X) → In v xs → p v ≡ q v) → list_any p xs ≡ list_any q xs
any_same p q [] e = refl
any_same p q (x ∷ xs) e = ap (λ b. b || list_any p xs) (e x (inl refl)) ∙ ap (λ b. q x || b) (any_same p q xs (λ v h. e v (inr h)))

pub all_same : {X : Type 0} (p q : X → Bool) (xs : List X) → ((v : X) → In v xs → p v ≡ q v) → list_all p xs ≡ list_all q xs
all_same p q [] e = refl
all_same p q (x ∷ xs) e = ap (λ b. b && list_all p xs) (e x (inl refl)) ∙ ap (λ b. q x && b) (all_same p q xs (λ v i. e v (inr i)))

pub filter_same : {X : Type 0} (p q : X → Bool) (xs : List X) → ((v : X) → In v xs → p v ≡ q v) → filter p xs ≡ filter q xs
filter_same p q [] e = refl
filter_same p q (x ∷ xs) e = ap (λ b. cond b (x ∷ filter p xs) (filter p xs)) (e x (inl refl)) ∙ ap (λ ys. cond (q x) (x ∷ ys) ys) (filter_same p q xs (λ v h. e v (inr h)))

pub filter_all : {X : Type 0} (f : X → Bool) (xs : List X) → ((v : X) → In v xs → f v ≡ true) → filter f xs ≡ xs
filter_all f [] g = refl
filter_all f (y ∷ xs) g = ap (λ b. cond b (y ∷ filter f xs) (filter f xs)) (g y (inl refl)) ∙ ap (λ ns. y ∷ ns) (filter_all f xs (λ v i. g v (inr i)))

-- two tests that agree on the members of a list find the same there
pub find_same : {X : Type 0} (p q : X → Bool) (ns : List X) → ((m : X) → In m ns → p m ≡ q m) → find p ns ≡ find q ns
find_same p q [] e = refl
find_same p q (n ∷ ns) e = ap (λ b. cond b (Some n) (find p ns)) (e n (inl refl)) ∙ ap (cond (q n) (Some n)) (find_same p q ns (λ m h. e m (inr h)))

pub map_same : {X Y : Type 0} (f g : X → Y) (xs : List X) → ((v : X) → In v xs → f v ≡ g v) → map f xs ≡ map g xs
map_same f g [] e = refl
map_same f g (x ∷ xs) e = ap (λ y. y ∷ map f xs) (e x (inl refl)) ∙ ap (λ ys. g x ∷ ys) (map_same f g xs (λ v h. e v (inr h)))

pub prefix_same : {X : Type 0} (p q : X → Bool) (xs : List X) → ((v : X) → In v xs → p v ≡ q v) → prefix_len p xs ≡ prefix_len q xs
prefix_same p q [] f = refl
prefix_same p q (x ∷ xs) f =
    ap (λ b. cond b (1 + prefix_len p xs) 0) (f x (inl refl))
    ∙ ap (λ n. cond (q x) (1 + n) 0) (prefix_same p q xs (λ v i. f v (inr i)))

pub in_reverse : {X : Type 0} (v : X) (xs : List X) → In v (reverse xs) → In v xs
in_reverse v [] i = i
in_reverse {X} v (x ∷ xs) i =
    let P : List X → Type 0 = λ ys. In v ys in
    elim (in_append v (reverse xs) (x ∷ []) (subst P (reverse-append (x ∷ []) xs) i)) [
      | inl j ↦ inr (in_reverse v xs j)
      | inr j ↦ elim j [ inl e ↦ inl e | inr n ↦ absurd n ]
    ]

pub suffix_same : {X : Type 0} (p q : X → Bool) (xs : List X) → ((v : X) → In v xs → p v ≡ q v) → suffix_len p xs ≡ suffix_len q xs
suffix_same p q xs f = prefix_same p q (reverse xs) (λ v i. f v (in_reverse v xs i))

-- ## A filter of the numbers below a bound

-- where none passes from k on
pub below_none : (p : ℕ → Bool) (k n : ℕ) → k ≤ n → ((m : ℕ) → k ≤ m → m < n → p m ≡ false) → filter p (below n) ≡ filter p (below k)
below_none p k zero h none = ap (λ x. filter p (below x)) (let same : zero ≡ k = omega arith in same)
below_none p k (suc n) h none =
    elim (at_or_before k (suc n) (omega arith)) [
      | inl l ↦
          filter-append p (below n) (n ∷ [])
          ∙ ap (λ b. filter p (below n) ++ cond b (n ∷ []) []) (none n (omega arith) (omega arith))
          ∙ append-nil (filter p (below n))
          ∙ below_none p k n (omega arith) (λ m a b. none m a (omega arith))
      | inr e ↦ ap (λ x. filter p (below x)) e
    ]

-- where k passes, and none after it
pub below_last : (p : ℕ → Bool) (k n : ℕ) → k < n → p k ≡ true → ((m : ℕ) → k < m → m < n → p m ≡ false) → filter p (below n) ≡ filter p (below k) ++ k ∷ []
below_last p k n h e none =
    below_none p (suc k) n (omega arith) (λ m a b. none m (omega arith) b)
    ∙ filter-append p (below k) (k ∷ [])
    ∙ ap (λ b. filter p (below k) ++ cond b (k ∷ []) []) e
