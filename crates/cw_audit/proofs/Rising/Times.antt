-- All stamps and ends in one list: they differ exactly where those of any two nodes differ.
use Rattle.std.proofs.Common.{◌≡◌, ℕ, ◌<◌, List, [], ◌∷◌, ◌++◌, length, get_or, ap, sym, ◌∙◌, subst, arith, refl, true, false, cond, nat_eq, nat_lt, inl, inr}
use Rattle.std.specs.Prelude.{◌⊎◌, Bool}
use Rattle.std.specs.List.{IsDistinct, AllByRecursion, flat_map}
use Rattle.std.specs.List.Sorted.{IsPermutation, IsNonDecreasing, IsStrictlyIncreasing}
use Rattle.std.proofs.lemmas.Bool.{cases_eq, eq-eqb, ltb-true, lt-ltb, ne_eqb}
use Rattle.std.proofs.lemmas.List.Sorted.{IsPermutation-sym}
use Rattle.std.proofs.lemmas.Map.Keys.{IsDistinct-head, IsDistinct-tail, IsDistinct-IsPermutation, IsDistinct-from_apart, IsStrictlyIncreasing-from_distinct, sorted_from_strictly_increasing, below_from_sorted}
use Rattle.cw_tree.specs.declared.node.Node.{Node}
use Rattle.cw_tree.specs.Nodes.{stamp_of, end_of, all_nodes}
use Rattle.cw_tree.proofs.Lists.{In}
use Rattle.cw_tree.proofs.Members.{in_append, append_in, in_below, below_in, flat_in}
use Rattle.cw_tree.proofs.Ahead.{Apart, apart_append, apart_flat, apart_below, distinct}
use Rattle.cw_audit.specs.Stamps.{if_some, times_of}

-- ## Lists whose elements differ

none_equal : (x v : ℕ) (ys : List ℕ) → AllByRecursion (λ y. nat_eq x y ≡ false) ys → In v ys → x ≡ v → ⊥
none_equal x v [] h i e = i
none_equal x v (y ∷ ys) h (inl q) e = absurd (cc (h.0, eq-eqb x y (e ∙ q)))
none_equal x v (y ∷ ys) h (inr i) e = none_equal x v ys h.1 i e

apart_from : (xs : List ℕ) → IsDistinct nat_eq xs → Apart xs
apart_from [] d = tt
apart_from (x ∷ xs) d = ((λ i. none_equal x x xs (IsDistinct-head nat_eq x xs d) i refl), apart_from xs (IsDistinct-tail nat_eq x xs d))

pub apart_parts : {X : Type 0} (xs ys : List X) → Apart (xs ++ ys) → Apart xs × Apart ys × ((v : X) → In v xs → In v ys → ⊥)
apart_parts [] ys a = (tt, a, λ v i j. i)
apart_parts {X} (x ∷ xs) ys a =
    let z : Apart xs × Apart ys × ((v : X) → In v xs → In v ys → ⊥) = apart_parts xs ys a.1 in
    ((λ i. a.0 (append_in x xs ys (inl i)), z.0), z.1, λ v i j. apart_here v i j z.2) where
      apart_here : (v : X) → In v (x ∷ xs) → In v ys → ((v : X) → In v xs → In v ys → ⊥) → ⊥
      apart_here v (inl e) j more = (let P : X → Type 0 = λ w. In w ys in a.0 (append_in x xs ys (inr (subst P e j))))
      apart_here v (inr i) j more = more v i j

-- where the elements of joined pieces differ, no two pieces share one
pub pieces_apart : (f : ℕ → List ℕ) (xs : List ℕ) (x y v : ℕ) → Apart (flat_map f xs) → In x xs → In y xs → In v (f x) → In v (f y) → x ≡ y
pieces_apart f [] x y v a i j k l = absurd i
pieces_apart f (z ∷ zs) x y v a i j k l = by i j (λ m n. pieces_apart f zs x y v (apart_parts (f z) (flat_map f zs) a).1 m n k l) where
  z_apart : Apart (f z) × Apart (flat_map f zs) × ((w : ℕ) → In w (f z) → In w (flat_map f zs) → ⊥)
  z_apart = apart_parts (f z) (flat_map f zs) a

  P : ℕ → Type 0
  P w = In v (f w)

  by : In x (z ∷ zs) → In y (z ∷ zs) → (In x zs → In y zs → x ≡ y) → x ≡ y
  by (inl d) (inl e) more = d ∙ sym e
  by (inl d) (inr m) more = absurd (z_apart.2 v (subst P d k) (flat_in f v y zs m l))
  by (inr m) (inl e) more = absurd (z_apart.2 v (subst P e l) (flat_in f v x zs m k))
  by (inr m) (inr n) more = more m n

pub piece_apart : (f : ℕ → List ℕ) (xs : List ℕ) (x : ℕ) → Apart (flat_map f xs) → In x xs → Apart (f x)
piece_apart f [] x a i = absurd i
piece_apart f (z ∷ zs) x a (inl e) = let P : ℕ → Type 0 = λ w. Apart (f w) in subst P (sym e) (apart_parts (f z) (flat_map f zs) a).0
piece_apart f (z ∷ zs) x a (inr m) = piece_apart f zs x (apart_parts (f z) (flat_map f zs) a).1 m

-- ## The stamp and the end of a node

pub in_some : (v s : ℕ) → In v (if_some s) → (v ≡ s) × (0 < s)
in_some v s = by (nat_lt 0 s) refl where
  by : (b : Bool) → nat_lt 0 s ≡ b → In v (cond b (s ∷ []) []) → (v ≡ s) × (0 < s)
  by true e (inl q) = (q, ltb-true 0 s e)
  by true e (inr i) = absurd i
  by false e i = absurd i

pub some_in : (s : ℕ) → 0 < s → In s (if_some s)
some_in s p = let P : Bool → Type 0 = λ b. In s (cond b (s ∷ []) []) in subst P (sym (lt-ltb 0 s p)) (inl refl)

some_apart : (s : ℕ) → Apart (if_some s)
some_apart s = by (nat_lt 0 s) where
  by : (b : Bool) → Apart (cond b (s ∷ []) [])
  by true = ((λ i. i), tt)
  by false = tt

module _ (t : List Node) where
  in_times : (v n : ℕ) → In v (times_of t n) → ((v ≡ stamp_of t n) × (0 < stamp_of t n)) ⊎ ((v ≡ end_of t n) × (0 < end_of t n))
  in_times v n i = elim (in_append v (if_some (stamp_of t n)) (if_some (end_of t n)) i) [ inl a ↦ inl (in_some v (stamp_of t n) a) | inr b ↦ inr (in_some v (end_of t n) b) ]

  stamp_in : (n : ℕ) → 0 < stamp_of t n → In (stamp_of t n) (times_of t n)
  stamp_in n p = append_in (stamp_of t n) (if_some (stamp_of t n)) (if_some (end_of t n)) (inl (some_in (stamp_of t n) p))

  end_in : (n : ℕ) → 0 < end_of t n → In (end_of t n) (times_of t n)
  end_in n p = append_in (end_of t n) (if_some (stamp_of t n)) (if_some (end_of t n)) (inr (some_in (end_of t n) p))

  -- ## All of them

  pub record TimesDiffer : Type 0 where
    pub stamps : (n m : ℕ) → n < length t → m < length t → 0 < stamp_of t n → stamp_of t n ≡ stamp_of t m → n ≡ m
    pub ends : (n m : ℕ) → n < length t → m < length t → 0 < end_of t n → end_of t n ≡ end_of t m → n ≡ m
    pub both : (n m : ℕ) → n < length t → m < length t → 0 < end_of t n → end_of t n ≡ stamp_of t m → ⊥

  pub differ_from : IsDistinct nat_eq (flat_map (times_of t) (all_nodes t)) → TimesDiffer
  differ_from d = record {
    stamps = λ n m a b p e. (let P : ℕ → Type 0 = λ v. In v (times_of t m) in one n m (stamp_of t n) a b (stamp_in n p) (subst P (sym e) (stamp_in m (omega arith))));
    ends = λ n m a b p e. (let P : ℕ → Type 0 = λ v. In v (times_of t m) in one n m (end_of t n) a b (end_in n p) (subst P (sym e) (end_in m (omega arith))));
    both = λ n m a b p e. (
        let P : ℕ → Type 0 = λ v. In v (times_of t m) in
        let same : n ≡ m = one n m (end_of t n) a b (end_in n p) (subst P (sym e) (stamp_in m (omega arith))) in
        let here : end_of t n ≡ stamp_of t n = e ∙ ap (stamp_of t) (sym same) in
        let Q : ℕ → Type 0 = λ v. In v (if_some (stamp_of t n)) in
        let parts = apart_parts (if_some (stamp_of t n)) (if_some (end_of t n)) (piece_apart (times_of t) (all_nodes t) n all (below_in n (length t) a)) in
        parts.2 (end_of t n) (subst Q (sym here) (some_in (stamp_of t n) (omega arith))) (some_in (end_of t n) p));
  } where
    all : Apart (flat_map (times_of t) (all_nodes t))
    all = apart_from (flat_map (times_of t) (all_nodes t)) d

    one : (n m v : ℕ) → n < length t → m < length t → In v (times_of t n) → In v (times_of t m) → n ≡ m
    one n m v a b i j = pieces_apart (times_of t) (all_nodes t) n m v all (below_in n (length t) a) (below_in m (length t) b) i j

  pub from_differ : TimesDiffer → IsDistinct nat_eq (flat_map (times_of t) (all_nodes t))
  from_differ w =
      distinct (flat_map (times_of t) (all_nodes t)) (apart_flat (times_of t) (all_nodes t) (apart_below (length t))
      (λ n i.
      let there : n < length t = in_below n (length t) i in
      apart_append (if_some (stamp_of t n)) (if_some (end_of t n)) (some_apart (stamp_of t n)) (some_apart (end_of t n))
      (λ v a b. (let x = in_some v (stamp_of t n) a in let y = in_some v (end_of t n) b in w.both n n there there y.1 (sym y.0 ∙ x.0))))
      (λ n m v i j a b. one n m v (in_below n (length t) i) (in_below m (length t) j) (in_times v n a) (in_times v m b))) where
        one : (n m v : ℕ) → n < length t → m < length t → ((v ≡ stamp_of t n) × (0 < stamp_of t n)) ⊎ ((v ≡ end_of t n) × (0 < end_of t n))
            → ((v ≡ stamp_of t m) × (0 < stamp_of t m)) ⊎ ((v ≡ end_of t m) × (0 < end_of t m)) → n ≡ m
        one n m v a b (inl x) (inl y) = w.stamps n m a b x.1 (sym x.0 ∙ y.0)
        one n m v a b (inl x) (inr y) = absurd (w.both m n b a y.1 (sym y.0 ∙ x.0))
        one n m v a b (inr x) (inl y) = absurd (w.both n m a b x.1 (sym x.0 ∙ y.0))
        one n m v a b (inr x) (inr y) = w.ends n m a b x.1 (sym x.0 ∙ y.0)

-- ## A sorted list

flips : (x y : ℕ) → nat_eq x y ≡ nat_eq y x
flips x y = elim (cases_eq x y) [ inl e ↦ eq-eqb x y e ∙ sym (eq-eqb y x (sym e)) | inr ne ↦ ne_eqb x y ne ∙ sym (ne_eqb y x (λ e. ne (sym e))) ]

pub rises_from : (xs ys : List ℕ) → IsPermutation xs ys → IsNonDecreasing ys → IsDistinct nat_eq xs → IsStrictlyIncreasing ys
rises_from xs ys p up d = IsStrictlyIncreasing-from_distinct ys up (IsDistinct-IsPermutation nat_eq flips xs ys p d)

pub distinct_from : (xs ys : List ℕ) → IsPermutation xs ys → IsStrictlyIncreasing ys → IsDistinct nat_eq xs
distinct_from xs ys p up =
    IsDistinct-IsPermutation nat_eq flips ys xs (IsPermutation-sym xs ys p)
    (IsDistinct-from_apart nat_eq ys (λ i j d less there.
    let rise = below_from_sorted ys i j d (sorted_from_strictly_increasing ys up) less there in
    ne_eqb (get_or ys i d) (get_or ys j d) (λ e. omega (arith, e))))
