-- How elements for leaves are put into a list, and that the elements of a line stand as the leaves do.
use Rattle.std.proofs.Common.{◌≡◌, ◌≢◌, ℕ, zero, suc, ◌+◌, ◌<◌, ◌≤◌, List, [], ◌∷◌, ◌++◌, length, map, take, drop, get_or, set, refl, ap, sym, ◌∙◌, arith, append_assoc, Bool, true, false, cond, Option, Some, None, inl, inr, subst, nat_eq, nat_lt, eq-eqb}
use Rattle.std.specs.Prelude.{◌==◌, slice_index, All, Contains}
use Rattle.std.specs.List.{filter, IsDistinct, AllByRecursion}
use Rattle.std.proofs.lemmas.Bool.{cases_eq, cases_lt, ne_eqb}
use Rattle.std.proofs.lemmas.List.{get_or-set_same, get_or-set_other, length-set, length-append, map-append, append-nil, take-append-drop}
use Rattle.std.proofs.lemmas.List.Elements.{Contains-get_or}
use Rattle.std.proofs.Math.Seq.{drop-cons}
use Rattle.cw_order.specs.Order.{put_after, placed_after, position}
use Rattle.cw_order.proofs.Members.{placed_old}
use Rattle.cw_tree.specs.declared.node.Node.{Node}
use Rattle.cw_tree.proofs.Lists.{In}
use Rattle.cw_tree.proofs.Members.{all_at, all_of, in_append, in_at, in_left, in_right, in_filter, filter_in, map_in, map_same}
use Rattle.cw_tree.proofs.Ahead.{Apart, apart_filter, distinct}
use Rattle.cw_sp.specs.Orders.{is_leaf, stands_before}
use Rattle.cw_sp.specs.Lines.{AreInserted, IsWalk, KeepsLeaves, placed_all, put_all}
use Rattle.cw_sp.proofs.Positions.{position_map, stands_filter}

-- ## Elements

not_in : (x : ℕ) (ys : List ℕ) → AllByRecursion (λ y. nat_eq x y ≡ false) ys → In x ys → ⊥
not_in x [] a i = i
not_in x (y ∷ ys) a (inl e) = cc (a.0, eq-eqb x y e)
not_in x (y ∷ ys) a (inr i) = not_in x ys a.1 i

pub apart_of : (xs : List ℕ) → IsDistinct nat_eq xs → Apart xs
unfolding IsDistinct
apart_of [] d = tt
apart_of (x ∷ xs) d = (not_in x xs d.0, apart_of xs d.1)

pub contains : (xs : List ℕ) (x : ℕ) → In x xs → Contains xs x
contains xs x i = let z = in_at x xs i in subst (Contains xs) z.2 (Contains-get_or xs z.0 0 z.1)

pub no_elements : IsDistinct {K = ℕ} nat_eq []
unfolding IsDistinct
no_elements = tt

-- ## What is put into a list

pub there_in : (x : ℕ) (xs : List ℕ) → Contains xs x → In x xs
there_in x [] (k, within, e) = absurd (omega (arith, within))
there_in x (y ∷ ys) (zero, within, e) = inl (sym e)
there_in x (y ∷ ys) (suc k, within, e) = inr (there_in x ys (k, omega (arith, within), e))

put_here : (a : ℕ) (es : List ℕ) (x : ℕ) (xs : List ℕ) → x ≡ a → put_all a es (x ∷ xs) ≡ x ∷ (es ++ xs)
put_here a es x xs q = ap (λ b. cond b (x ∷ (es ++ xs)) (x ∷ put_all a es xs)) (eq-eqb x a q)

put_later : (a : ℕ) (es : List ℕ) (x : ℕ) (xs : List ℕ) → x ≢ a → put_all a es (x ∷ xs) ≡ x ∷ put_all a es xs
put_later a es x xs n = ap (λ b. cond b (x ∷ (es ++ xs)) (x ∷ put_all a es xs)) (ne_eqb x a n)

after_here : (a e x : ℕ) (xs : List ℕ) → x ≡ a → put_after a e (x ∷ xs) ≡ x ∷ e ∷ xs
after_here a e x xs q = ap (λ b. cond b (x ∷ e ∷ xs) (x ∷ put_after a e xs)) (eq-eqb x a q)

after_later : (a e x : ℕ) (xs : List ℕ) → x ≢ a → put_after a e (x ∷ xs) ≡ x ∷ put_after a e xs
after_later a e x xs n = ap (λ b. cond b (x ∷ e ∷ xs) (x ∷ put_after a e xs)) (ne_eqb x a n)

put_behind : (e : ℕ) (es ds xs : List ℕ) → (In e ds → ⊥) → put_all e es (ds ++ e ∷ xs) ≡ ds ++ e ∷ (es ++ xs)
put_behind e es [] xs n = put_here e es e xs refl
put_behind e es (d ∷ ds) xs n = put_later e es d (ds ++ e ∷ xs) (λ q. n (inl (sym q))) ∙ ap (λ ns. d ∷ ns) (put_behind e es ds xs (λ i. n (inr i)))

-- one element, then some before it and some behind it
put_around : (a e : ℕ) (ds es xs : List ℕ) → (In e xs → ⊥) → (In e ds → ⊥) → put_all e es (put_all a ds (put_after a e xs)) ≡ put_all a (ds ++ e ∷ es) xs
put_around a e ds es [] n m = refl
put_around a e ds es (x ∷ xs) n m = elim (cases_eq x a) [
  | inl q ↦
      ap (λ ns. put_all e es (put_all a ds ns)) (after_here a e x xs q)
      ∙ ap (put_all e es) (put_here a ds x (e ∷ xs) q)
      ∙ put_later e es x (ds ++ e ∷ xs) (λ k. n (inl (sym k)))
      ∙ ap (λ ns. x ∷ ns) (put_behind e es ds xs m ∙ sym (append_assoc ds (e ∷ es) xs))
      ∙ sym (put_here a (ds ++ e ∷ es) x xs q)
  | inr k ↦
      ap (λ ns. put_all e es (put_all a ds ns)) (after_later a e x xs k)
      ∙ ap (put_all e es) (put_later a ds x (put_after a e xs) k)
      ∙ put_later e es x (put_all a ds (put_after a e xs)) (λ q. n (inl (sym q)))
      ∙ ap (λ ns. x ∷ ns) (put_around a e ds es xs (λ i. n (inr i)) m)
      ∙ sym (put_later a (ds ++ e ∷ es) x xs k)
]

placed_around : (at : Option ℕ) (e : ℕ) (ds es xs : List ℕ) → (In e xs → ⊥) → (In e ds → ⊥) → placed_all (Some e) es (placed_all at ds (placed_after at e xs)) ≡ placed_all at (ds ++ e ∷ es) xs
placed_around None e ds es xs n m = put_behind e es ds xs m ∙ sym (append_assoc ds (e ∷ es) xs)
placed_around (Some a) e ds es xs n m = put_around a e ds es xs n m

put_old : (a : ℕ) (es xs : List ℕ) (y : ℕ) → In y xs → In y (put_all a es xs)
put_old a es [] y i = i
put_old a es (x ∷ xs) y i = let P : List ℕ → Type 0 = In y in elim (cases_eq x a) [
  | inl q ↦ subst P (sym (put_here a es x xs q)) (elim i [ inl e ↦ inl e | inr j ↦ inr (in_right y es xs j) ])
  | inr n ↦ subst P (sym (put_later a es x xs n)) (elim i [ inl e ↦ inl e | inr j ↦ inr (put_old a es xs y j) ])
]

-- what was there is still there
pub all_old : (at : Option ℕ) (es xs : List ℕ) (y : ℕ) → Contains xs y → Contains (placed_all at es xs) y
all_old None es xs y c = contains (es ++ xs) y (in_right y es xs (there_in y xs c))
all_old (Some a) es xs y c = contains (put_all a es xs) y (put_old a es xs y (there_in y xs c))

put_long : (a : ℕ) (es xs : List ℕ) → length (put_all a es xs) ≤ length es + length xs
put_long a es [] = omega arith
put_long a es (x ∷ xs) = elim (cases_eq x a) [
  | inl q ↦ omega (arith, ap length (put_here a es x xs q), length-append es xs)
  | inr n ↦ (let le : length (put_all a es xs) ≤ length es + length xs = put_long a es xs in omega (arith, ap length (put_later a es x xs n)))
]

pub all_long : (at : Option ℕ) (es xs : List ℕ) → length (placed_all at es xs) ≤ length es + length xs
all_long None es xs = omega (arith, length-append es xs)
all_long (Some a) es xs = put_long a es xs

one_long : (a e : ℕ) (xs : List ℕ) → length (put_after a e xs) ≤ 1 + length xs
one_long a e [] = omega arith
one_long a e (x ∷ xs) = elim (cases_eq x a) [
  | inl q ↦ omega (arith, ap length (after_here a e x xs q))
  | inr n ↦ (let le : length (put_after a e xs) ≤ 1 + length xs = one_long a e xs in omega (arith, ap length (after_later a e x xs n)))
]

pub placed_long : (at : Option ℕ) (e : ℕ) (xs : List ℕ) → length (placed_after at e xs) ≤ 1 + length xs
placed_long None e xs = omega arith
placed_long (Some a) e xs = one_long a e xs

put_none : (a : ℕ) (xs : List ℕ) → put_all a [] xs ≡ xs
put_none a [] = refl
put_none a (x ∷ xs) = elim (cases_eq x a) [ inl q ↦ put_here a [] x xs q | inr n ↦ put_later a [] x xs n ∙ ap (λ ns. x ∷ ns) (put_none a xs) ]

placed_none : (at : Option ℕ) (xs : List ℕ) → xs ≡ placed_all at [] xs
placed_none None xs = refl
placed_none (Some a) xs = sym (put_none a xs)

-- ## Leaves

none_there : (x : ℕ) → Contains [] x → ⊥
none_there x (k, within, e) = omega (arith, within)

-- without leaves nothing is inserted
pub none_inserted : (leaves : List ℕ) (last : Option ℕ) (old elements : List ℕ) → length leaves ≡ 0 → IsDistinct nat_eq old → AreInserted leaves last old elements old elements
none_inserted [] last old elements z d = record { placed = placed_none last old; fresh = λ x h i. none_there x i; others = λ n h. refl; nodes = refl; distinct = d }
none_inserted (x ∷ xs) last old elements z d = absurd (omega (arith, z))

-- what stands before and behind a member of a list in which nothing stands twice
apart_around : (A : List ℕ) (n : ℕ) (B : List ℕ) → Apart (A ++ n ∷ B) → (In n A → ⊥) × (In n B → ⊥) × ((v : ℕ) → In v A → In v B → ⊥)
apart_around [] n B a = ((λ i. i), a.0, λ v i j. i)
apart_around (x ∷ A) n B a =
    let z = apart_around A n B a.1 in
    let P : ℕ → Type 0 = λ y. In y (A ++ n ∷ B) in (
      (λ i. elim i [ inl e ↦ a.0 (subst P e (in_right n A (n ∷ B) (inl refl))) | inr j ↦ z.0 j ]),
      z.1,
      λ v i j. elim i [ inl e ↦ a.0 (subst P e (in_right v A (n ∷ B) (inr j))) | inr k ↦ z.2 v k j ],
    )

module _ (A : List ℕ) (n : ℕ) (B : List ℕ) (a : Apart (A ++ n ∷ B)) (last : Option ℕ) (old elements : List ℕ) (low : n < length elements) (e : ℕ) (new : Contains old e → ⊥) (one : List ℕ) (put : one ≡ placed_after last e old)
    (there : Contains one e) (two first : List ℕ) (f : AreInserted A last one (set elements n e) two first) (three second : List ℕ) (g : AreInserted B (Some e) two first three second) where
  around : (In n A → ⊥) × (In n B → ⊥) × ((v : ℕ) → In v A → In v B → ⊥)
  around = apart_around A n B a

  abbrev left : List ℕ
  left = map (slice_index first) A

  abbrev right : List ℕ
  right = map (slice_index second) B

  element : slice_index second n ≡ e
  element = g.others n (λ c. around.1 (there_in n B c)) ∙ f.others n (λ c. around.0 (there_in n A c)) ∙ get_or-set_same elements n e 0 low

  all : map (slice_index second) (A ++ n ∷ B) ≡ left ++ e ∷ right
  all =
      map-append (slice_index second) A (n ∷ B)
      ∙ ap (λ ns. ns ++ slice_index second n ∷ right) (map_same (slice_index second) (slice_index first) A (λ v i. g.others v (λ c. around.2 v i (there_in v B c))))
      ∙ ap (λ k. left ++ k ∷ right) element

  one_old : (x : ℕ) → Contains old x → Contains one x
  one_old x c = let P : List ℕ → Type 0 = λ ns. Contains ns x in subst P (sym put) (placed_old last e old x c)

  pub two_old : (x : ℕ) → Contains one x → Contains two x
  two_old x c = let P : List ℕ → Type 0 = λ ns. Contains ns x in subst P (sym f.placed) (all_old last left one x c)

  fresh : (x : ℕ) → Contains old x → In x (left ++ e ∷ right) → ⊥
  fresh x c i = let P : ℕ → Type 0 = Contains old in elim (in_append x left (e ∷ right) i) [
    | inl j ↦ f.fresh x (one_old x c) (contains left x j)
    | inr (inl q) ↦ new (subst P q c)
    | inr (inr j) ↦ g.fresh x (two_old x (one_old x c)) (contains right x j)
  ]

  others : (v : ℕ) → (Contains (A ++ n ∷ B) v → ⊥) → slice_index second v ≡ slice_index elements v
  others v not =
      g.others v (λ c. not (contains (A ++ n ∷ B) v (in_right v A (n ∷ B) (inr (there_in v B c)))))
      ∙ f.others v (λ c. not (contains (A ++ n ∷ B) v (in_left v A (n ∷ B) (there_in v A c))))
      ∙ get_or-set_other elements n v e 0 (λ q. not (contains (A ++ n ∷ B) v (in_right v A (n ∷ B) (inl q))))

  -- a leaf, those before it and those behind it
  pub inserted_around : AreInserted (A ++ n ∷ B) last old elements three second
  inserted_around = record {
    placed =
        g.placed
        ∙ ap (λ ns. placed_all (Some e) right ns) (f.placed ∙ ap (λ ns. placed_all last left ns) put)
        ∙ placed_around last e left right old (λ i. new (contains old e i)) (λ i. f.fresh e there (contains left e i))
        ∙ sym (ap (λ ns. placed_all last ns old) all);
    fresh = λ x c i. let P : List ℕ → Type 0 = In x in fresh x c (subst P all (there_in x (map (slice_index second) (A ++ n ∷ B)) i));
    others = others;
    nodes = g.nodes ∙ f.nodes ∙ length-set elements n e;
    distinct = g.distinct;
  }

-- ## A list by one of its members

apart_left : (xs ys : List ℕ) → Apart (xs ++ ys) → Apart xs
apart_left [] ys a = tt
apart_left (x ∷ xs) ys a = ((λ i. a.0 (in_left x xs ys i)), apart_left xs ys a.1)

apart_right : (xs ys : List ℕ) → Apart (xs ++ ys) → Apart ys
apart_right [] ys a = a
apart_right (x ∷ xs) ys a = apart_right xs ys a.1

pub parted : (xs A B : List ℕ) (m : ℕ) → m < length xs → A ≡ take m xs → B ≡ drop (m + 1) xs → A ++ get_or xs m 0 ∷ B ≡ xs
parted xs A B m h f g =
    let next : m + 1 ≡ suc m = omega arith in
    ap (λ ns. ns ++ get_or xs m 0 ∷ B) f
    ∙ ap (λ ns. take m xs ++ get_or xs m 0 ∷ ns) (g ∙ ap (λ j. drop j xs) next)
    ∙ ap (λ ns. take m xs ++ ns) (sym (drop-cons xs m 0 h))
    ∙ take-append-drop m xs

pub is_zero : (n : ℕ) (b : Bool) → b ≡ (n == 0) → b ≡ true → n ≡ 0
is_zero n b e f = elim (cases_eq n 0) [ inl q ↦ q | inr k ↦ absurd (cc (e, f, ne_eqb n 0 k)) ]

pub not_zero : (n : ℕ) (b : Bool) → b ≡ (n == 0) → b ≡ false → 0 < n
not_zero n b e f = elim (cases_lt 0 n) [ inl l ↦ l | inr le ↦ (let q : n ≡ 0 = omega arith in absurd (cc (e, f, eq-eqb n 0 q))) ]

module _ (xs A B : List ℕ) (n : ℕ) (q : A ++ n ∷ B ≡ xs) where
  member : (v : ℕ) → In v (A ++ n ∷ B) → In v xs
  member v i = let P : List ℕ → Type 0 = In v in subst P q i

  pub there_node : (P : ℕ → Type 0) → All P xs → P n
  there_node P h = all_at P xs h n (member n (in_right n A (n ∷ B) (inl refl)))

  pub there_left : (P : ℕ → Type 0) → All P xs → All P A
  there_left P h = all_of P A (λ v i. all_at P xs h v (member v (in_left v A (n ∷ B) i)))

  pub there_right : (P : ℕ → Type 0) → All P xs → All P B
  there_right P h = all_of P B (λ v i. all_at P xs h v (member v (in_right v A (n ∷ B) (inr i))))

  pub once_apart : IsDistinct nat_eq xs → Apart (A ++ n ∷ B)
  once_apart d = let P : List ℕ → Type 0 = Apart in subst P (sym q) (apart_of xs d)

  pub once_left : IsDistinct nat_eq xs → IsDistinct nat_eq A
  once_left d = distinct A (apart_left A (n ∷ B) (once_apart d))

  pub once_right : IsDistinct nat_eq xs → IsDistinct nat_eq B
  once_right d = let a : Apart (n ∷ B) = apart_right A (n ∷ B) (once_apart d) in distinct B a.1

  pub lengths : length A + suc (length B) ≡ length xs
  lengths = sym (length-append A (n ∷ B)) ∙ ap length q

  -- there is room for those before n and for those behind it
  pub room_left : (last : Option ℕ) (e room : ℕ) (old one : List ℕ) → one ≡ placed_after last e old → length old + length xs ≤ room → length one + length A ≤ room
  room_left last e room old one put r = let le = placed_long last e old in omega (arith, r, lengths, ap length put)

  pub room_right : (last : Option ℕ) (e room : ℕ) (old one two es : List ℕ) → one ≡ placed_after last e old → two ≡ placed_all last es one → length es ≡ length A → length old + length xs ≤ room → length two + length B ≤ room
  room_right last e room old one two es put more same r = let le = placed_long last e old in let long = all_long last es one in omega (arith, r, lengths, ap length put, ap length more, same)

-- ## Two leaves

module _ (t : List Node) (order list elements : List ℕ) (k : KeepsLeaves t order list elements) where
  leaf_in : (u : ℕ) → In u order → is_leaf t u ≡ true → In u (filter (is_leaf t) order)
  leaf_in u i leaf = filter_in (is_leaf t) u order i leaf

  pub element_there : (u : ℕ) → In u order → is_leaf t u ≡ true → Contains list (slice_index elements u)
  element_there u i leaf =
      let P : List ℕ → Type 0 = λ ns. Contains ns (slice_index elements u) in
      subst P (sym k.leaves) (contains (map (slice_index elements) (filter (is_leaf t) order)) (slice_index elements u) (map_in (slice_index elements) u (filter (is_leaf t) order) (leaf_in u i leaf)))

  place_of : (u : ℕ) → In u order → is_leaf t u ≡ true → position list (slice_index elements u) ≡ position (filter (is_leaf t) order) u
  place_of u i leaf =
      ap (λ ns. position ns (slice_index elements u)) k.leaves
      ∙ position_map (slice_index elements) u (filter (is_leaf t) order) (let P : List ℕ → Type 0 = Apart in subst P k.leaves (apart_of list k.distinct)) (leaf_in u i leaf)

  -- elements stand as their leaves do
  pub elements_stand : (u v : ℕ) → In u order → In v order → is_leaf t u ≡ true → is_leaf t v ≡ true → stands_before list (slice_index elements u) (slice_index elements v) ≡ stands_before order u v
  elements_stand u v i j leaf other =
      ap (λ n. nat_lt n (position list (slice_index elements v))) (place_of u i leaf)
      ∙ ap (λ n. nat_lt (position (filter (is_leaf t) order) u) n) (place_of v j other)
      ∙ stands_filter (is_leaf t) u v order leaf other

-- ## A whole line

few_pass : (p : ℕ → Bool) (xs : List ℕ) → length (filter p xs) ≤ length xs
few_pass p [] = omega arith
few_pass p (x ∷ xs) = by (p x) (few_pass p xs) where
  by : (b : Bool) → length (filter p xs) ≤ length xs → length (cond b (x ∷ filter p xs) (filter p xs)) ≤ suc (length xs)
  by true le = omega arith
  by false le = omega arith

module _ (t : List Node) (order : List ℕ) (w : IsWalk t order) where
  abbrev leaves : List ℕ
  leaves = filter (is_leaf t) order

  pub leaves_there : (P : ℕ → Type 0) → ((v : ℕ) → v < length t → P v) → All P leaves
  leaves_there P p = all_of P leaves (λ v i. p v (all_at (λ n. n < length t) order w.there v (in_filter (is_leaf t) v order i).0))

  pub leaves_once : IsDistinct nat_eq leaves
  leaves_once = distinct leaves (apart_filter (is_leaf t) order (apart_of order w.once))

  pub leaves_few : length leaves ≤ length t
  leaves_few = let le = few_pass (is_leaf t) order in omega (arith, w.few)

  pub line_filled : (elements list numbers : List ℕ) → length elements ≡ length t → AreInserted leaves None [] elements list numbers → KeepsLeaves t order list numbers
  line_filled elements list numbers many f = record { nodes = f.nodes ∙ many; leaves = f.placed ∙ append-nil (map (slice_index numbers) leaves); distinct = f.distinct }
