-- Properties of all elements of lists that are put together.
use Rattle.std.proofs.Common.{List, [], ◌∷◌, ◌++◌, refl, arith}
use Rattle.std.specs.List.{All, Contains}
use Rattle.std.proofs.lemmas.List.Elements.{All-nil, All-cons, All-head, All-tail, All-append, Contains-append_left, Contains-append_right}

module _ {X : Type 0} where
  pub all_front : (P : X → Type 0) (xs ys : List X) → All P (xs ++ ys) → All P xs
  all_front P [] ys h = All-nil P
  all_front P (x ∷ xs) ys h = All-cons P x xs (All-head P x (xs ++ ys) h) (all_front P xs ys (All-tail P x (xs ++ ys) h))

  pub all_back : (P : X → Type 0) (xs ys : List X) → All P (xs ++ ys) → All P ys
  all_back P [] ys h = h
  all_back P (x ∷ xs) ys h = all_back P xs ys (All-tail P x (xs ++ ys) h)

  pub all_one : (P : X → Type 0) (x : X) → P x → All P (x ∷ [])
  all_one P x p = All-cons P x [] p (All-nil P)

  -- one more in the middle
  pub all_more : (P : X → Type 0) (xs : List X) (x : X) (ys : List X) → All P (xs ++ ys) → P x → All P ((xs ++ x ∷ []) ++ ys)
  all_more P xs x ys h p = All-append P (xs ++ x ∷ []) ys (All-append P xs (x ∷ []) (all_front P xs ys h) (all_one P x p)) (all_back P xs ys h)

  pub holds_it : (xs : List X) (x : X) (ys : List X) → Contains ((xs ++ x ∷ []) ++ ys) x
  holds_it xs x ys = Contains-append_left (xs ++ x ∷ []) ys x (Contains-append_right xs (x ∷ []) x (0, omega arith, refl))
