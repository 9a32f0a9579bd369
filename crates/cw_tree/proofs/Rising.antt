-- Lists of numbers that rise: what comes behind them, and that their members tell them.
use Rattle.std.proofs.Common.{◌≡◌, ℕ, zero, suc, ◌+◌, ◌<◌, List, [], ◌∷◌, ◌++◌, map, get_or, refl, ap, sym, ◌∙◌, subst, arith, Bool, true, false, cond, inl, inr}
use Rattle.std.specs.Prelude.{filter}
use Rattle.std.specs.List.Sorted.{IsStrictlyIncreasing}
use Rattle.cw_tree.specs.Nodes.{below}
use Rattle.cw_tree.proofs.Lists.{In}
use Rattle.cw_tree.proofs.Members.{in_append, in_below, in_filter, in_map}
use Rattle.cw_tree.proofs.Ahead.{Apart, Ahead}

-- each is less than all that follow it
abbrev pub Rises : List ℕ → Type 0
Rises [] = Unit {0}
Rises (x ∷ xs) = ((y : ℕ) → In y xs → x < y) × Rises xs

pub rises_more : (xs : List ℕ) (n : ℕ) → Rises xs → ((y : ℕ) → In y xs → y < n) → Rises (xs ++ n ∷ [])
rises_more [] n r low = (λ y i. absurd i, tt)
rises_more (x ∷ xs) n r low = (
  λ y i. elim (in_append y xs (n ∷ []) i) [ inl j ↦ r.0 y j | inr j ↦ elim j [ inl e ↦ (let less = low x (inl refl) in omega arith) | inr z ↦ absurd z ] ],
  rises_more xs n r.1 (λ y i. low y (inr i)),
)

pub below_rises : (k : ℕ) → Rises (below k)
below_rises zero = tt
below_rises (suc k) = rises_more (below k) k (below_rises k) (λ y i. in_below y k i)

rises_kept : (b : Bool) (x : ℕ) (ys : List ℕ) → ((y : ℕ) → In y ys → x < y) → Rises ys → Rises (cond b (x ∷ ys) ys)
rises_kept true x ys low r = (low, r)
rises_kept false x ys low r = r

pub rises_filter : (p : ℕ → Bool) (xs : List ℕ) → Rises xs → Rises (filter p xs)
rises_filter p [] r = tt
rises_filter p (x ∷ xs) r = rises_kept (p x) x (filter p xs) (λ y i. r.0 y (in_filter p y xs i).0) (rises_filter p xs r.1)

pub rises_map : (f : ℕ → ℕ) (xs : List ℕ) → Rises xs → ((a b : ℕ) → In a xs → In b xs → a < b → f a < f b) → Rises (map f xs)
rises_map f [] r h = tt
rises_map f (x ∷ xs) r h =
    ((λ v i. let z = in_map f v xs i in let low : f x < f z.0 = h x z.0 (inl refl) (inr z.1) (r.0 z.0 z.1) in omega (arith, z.2)), rises_map f xs r.1 (λ a b i j. h a b (inr i) (inr j)))

pub rises_increase : (xs : List ℕ) → Rises xs → IsStrictlyIncreasing xs
rises_increase [] r k h = absurd (omega arith)
rises_increase (x ∷ []) r k h = absurd (omega arith)
rises_increase (x ∷ y ∷ xs) r zero h = r.0 y (inl refl)
rises_increase (x ∷ y ∷ xs) r (suc k) h =
    let e : suc (k + 1) ≡ suc k + 1 = omega arith in
    subst (λ n. get_or (y ∷ xs) k 0 < get_or (x ∷ y ∷ xs) n 0) e (rises_increase (y ∷ xs) r.1 k (omega arith))

-- two that have the same members are the same
pub rises_same : (xs ys : List ℕ) → Rises xs → Rises ys → ((v : ℕ) → In v xs → In v ys) → ((v : ℕ) → In v ys → In v xs) → xs ≡ ys
rises_same [] [] r s f g = refl
rises_same [] (y ∷ ys) r s f g = absurd (g y (inl refl))
rises_same (x ∷ xs) [] r s f g = absurd (f x (inl refl))
rises_same (x ∷ xs) (y ∷ ys) r s f g =
    let same : x ≡ y = elim (f x (inl refl)) [
      | inl e ↦ e
      | inr i ↦ elim (g y (inl refl)) [ inl e ↦ sym e | inr j ↦ (let a = s.0 x i in let b = r.0 y j in absurd (omega arith)) ]
    ] in
    let down : (v : ℕ) → In v xs → In v ys = λ v i. elim (f v (inr i)) [ inl e ↦ (let a = r.0 v i in absurd (omega arith)) | inr j ↦ j ] in
    let back : (v : ℕ) → In v ys → In v xs = λ v i. elim (g v (inr i)) [ inl e ↦ (let a = s.0 v i in absurd (omega arith)) | inr j ↦ j ] in
    ap (λ n. n ∷ xs) same ∙ ap (λ ns. y ∷ ns) (rises_same xs ys r.1 s.1 down back)

-- nothing stands twice there
pub rises_apart : (xs : List ℕ) → Rises xs → Apart xs
rises_apart [] r = tt
rises_apart (x ∷ xs) r = ((λ i. let low : x < x = r.0 x i in omega arith), rises_apart xs r.1)

-- the smaller of two members is ahead
pub rises_ahead : (a b : ℕ) (xs : List ℕ) → Rises xs → In a xs → In b xs → a < b → Ahead a b xs
rises_ahead a b [] u i j l = i
rises_ahead a b (x ∷ xs) u (inl e) (inl f) l = absurd (omega arith)
rises_ahead a b (x ∷ xs) u (inl e) (inr j) l = inl (e, j)
rises_ahead a b (x ∷ xs) u (inr i) (inl f) l = absurd (let low : x < a = u.0 a i in omega arith)
rises_ahead a b (x ∷ xs) u (inr i) (inr j) l = inr (rises_ahead a b xs u.1 i j l)
