-- What stands in a list that was put in the order of its keys.
use Rattle.std.proofs.Common.{◌≡◌, ◌≢◌, ℕ, ◌<◌, ◌≤◌, List, [], ◌∷◌, ◌++◌, map, refl, ap, sym, ◌∙◌, subst, arith, Bool, true, false, cond, inl, inr, nat_le}
use Rattle.std.specs.Prelude.{◌⊎◌}
use Rattle.std.proofs.lemmas.Bool.{le-leb, leb-true, leb-false}
use Rattle.cw_tree.specs.Accesses.{put_by, by_key}
use Rattle.cw_tree.proofs.Lists.{In}
use Rattle.cw_tree.proofs.Members.{map_in, in_map}
use Rattle.cw_tree.proofs.Ahead.{Apart}
use Rattle.cw_tree.proofs.Rising.{Rises}

-- what has no smaller key than the others goes last
module _ (key : ℕ → ℕ) (x : ℕ) where
  put_before : (b : Bool) (n m : ℕ) (ms ns : List ℕ) → ns ≡ put_by key n ms ++ x ∷ [] → cond b (n ∷ m ∷ ms ++ x ∷ []) (m ∷ ns) ≡ cond b (n ∷ m ∷ ms) (m ∷ put_by key n ms) ++ x ∷ []
  put_before true n m ms ns e = refl
  put_before false n m ms ns e = ap (λ ys. m ∷ ys) e

  put_by_last : (n : ℕ) (ms : List ℕ) → key n ≤ key x → put_by key n (ms ++ x ∷ []) ≡ put_by key n ms ++ x ∷ []
  put_by_last n [] le = ap (λ b. cond b (n ∷ x ∷ []) (x ∷ n ∷ [])) (le-leb (key n) (key x) le)
  put_by_last n (m ∷ ms) le = put_before (nat_le (key n) (key m)) n m ms (put_by key n (ms ++ x ∷ [])) (put_by_last n ms le)

  pub by_key_last : (ns : List ℕ) → ((n : ℕ) → In n ns → key n ≤ key x) → by_key key (ns ++ x ∷ []) ≡ by_key key ns ++ x ∷ []
  by_key_last [] le = refl
  by_key_last (n ∷ ns) le = ap (put_by key n) (by_key_last ns (λ m h. le m (inr h))) ∙ put_by_last n (by_key key ns) (le n (inl refl))

-- nothing comes in
put_cases : {X : Type 0} (b : Bool) (v x y : X) (ys zs : List X) → (In v zs → (v ≡ x) ⊎ In v ys) → In v (cond b (x ∷ y ∷ ys) (y ∷ zs)) → (v ≡ x) ⊎ In v (y ∷ ys)
put_cases true v x y ys zs f h = h
put_cases false v x y ys zs f (inl e) = inr (inl e)
put_cases false v x y ys zs f (inr h) = elim (f h) [ inl e ↦ inl e | inr g ↦ inr (inr g) ]

in_put : {X : Type 0} (key : X → ℕ) (v x : X) (ys : List X) → In v (put_by key x ys) → (v ≡ x) ⊎ In v ys
in_put key v x [] h = h
in_put key v x (y ∷ ys) h = put_cases (nat_le (key x) (key y)) v x y ys (put_by key x ys) (in_put key v x ys) h

pub by_key_in : {X : Type 0} (key : X → ℕ) (v : X) (xs : List X) → In v (by_key key xs) → In v xs
by_key_in key v [] h = h
by_key_in key v (x ∷ xs) h = elim (in_put key v x (by_key key xs) h) [ inl e ↦ inl e | inr g ↦ inr (by_key_in key v xs g) ]

-- and all that was there is
put_there : {X : Type 0} (b : Bool) (v x y : X) (ys zs : List X) → (v ≡ x) ⊎ In v (y ∷ ys) → ((v ≡ x) ⊎ In v ys → In v zs) → In v (cond b (x ∷ y ∷ ys) (y ∷ zs))
put_there true v x y ys zs i f = i
put_there false v x y ys zs (inl e) f = inr (f (inl e))
put_there false v x y ys zs (inr (inl e)) f = inl e
put_there false v x y ys zs (inr (inr i)) f = inr (f (inr i))

put_in : {X : Type 0} (key : X → ℕ) (v x : X) (ys : List X) → (v ≡ x) ⊎ In v ys → In v (put_by key x ys)
put_in key v x [] i = i
put_in key v x (y ∷ ys) i = put_there (nat_le (key x) (key y)) v x y ys (put_by key x ys) i (put_in key v x ys)

pub in_by_key : {X : Type 0} (key : X → ℕ) (v : X) (xs : List X) → In v xs → In v (by_key key xs)
in_by_key key v [] i = i
in_by_key key v (x ∷ xs) (inl e) = put_in key v x (by_key key xs) (inl e)
in_by_key key v (x ∷ xs) (inr i) = put_in key v x (by_key key xs) (inr (in_by_key key v xs i))

-- each once, where it was
apart_put : {X : Type 0} (key : X → ℕ) (x : X) (ys : List X) → (In x ys → ⊥) → Apart ys → Apart (put_by key x ys)
apart_put key x [] out a = (out, tt)
apart_put key x (y ∷ ys) out a = by (apart_put key x ys (λ i. out (inr i)) a.1) (nat_le (key x) (key y)) where
  by : Apart (put_by key x ys) → (b : Bool) → Apart (cond b (x ∷ y ∷ ys) (y ∷ put_by key x ys))
  by more true = (out, a)
  by more false = ((λ i. elim (in_put key y x ys i) [ inl e ↦ out (inl (sym e)) | inr j ↦ a.0 j ]), more)

pub apart_by_key : {X : Type 0} (key : X → ℕ) (xs : List X) → Apart xs → Apart (by_key key xs)
apart_by_key key [] a = tt
apart_by_key key (x ∷ xs) a = apart_put key x (by_key key xs) (λ i. a.0 (by_key_in key x xs i)) (apart_by_key key xs a.1)

-- ## Keys that differ

module _ {X : Type 0} (key : X → ℕ) where
  abbrev KeysRise : List X → Type 0
  KeysRise xs = Rises (map key xs)

  put_rises : (x : X) (ys : List X) → KeysRise ys → (In (key x) (map key ys) → ⊥) → KeysRise (put_by key x ys)
  put_rises x [] r out = ((λ v i. absurd i), tt)
  put_rises x (y ∷ ys) r out = by (nat_le (key x) (key y)) refl (put_rises x ys r.1 (λ i. out (inr i))) where
    by : (b : Bool) → nat_le (key x) (key y) ≡ b → KeysRise (put_by key x ys) → KeysRise (cond b (x ∷ y ∷ ys) (y ∷ put_by key x ys))
    by true e more =
        let le : key x ≤ key y = leb-true (key x) (key y) e in
        let less : key x < key y = (let ne : key x ≢ key y = λ q. out (inl q) in omega arith) in
        ((λ v i. elim i [ inl q ↦ omega arith | inr j ↦ (let up : key y < v = r.0 v j in omega arith) ]), r)
    by false e more =
        let less : key y < key x = leb-false (key x) (key y) e in (
          λ v i.
              let w = in_map key v (put_by key x ys) i in
              let P : ℕ → Type 0 = λ k. key y < k in
              subst P (sym w.2) (
              elim (in_put key w.0 x ys w.1) [
                | inl q ↦ (let same : key w.0 ≡ key x = ap key q in omega arith)
                | inr j ↦ r.0 (key w.0) (map_in key w.0 ys j)
              ]
              ),
          more,
        )

  -- they rise
  pub by_key_rises : (xs : List X) → Apart (map key xs) → KeysRise (by_key key xs)
  by_key_rises [] a = tt
  by_key_rises (x ∷ xs) a =
      put_rises x (by_key key xs) (by_key_rises xs a.1)
      (λ i.
      let w = in_map key (key x) (by_key key xs) i in
      let P : ℕ → Type 0 = λ k. In k (map key xs) in
      a.0 (subst P (sym w.2) (map_in key w.0 xs (by_key_in key w.0 xs w.1))))

-- ## Keys that are the same

-- at each node: they give the same order
module _ (key other : ℕ → ℕ) where
  put_same : (n : ℕ) (ms : List ℕ) → key n ≡ other n → ((m : ℕ) → In m ms → key m ≡ other m) → put_by key n ms ≡ put_by other n ms
  put_same n [] e f = refl
  put_same n (m ∷ ms) e f =
      ap (λ k. cond (nat_le k (key m)) (n ∷ m ∷ ms) (m ∷ put_by key n ms)) e
      ∙ ap (λ k. cond (nat_le (other n) k) (n ∷ m ∷ ms) (m ∷ put_by key n ms)) (f m (inl refl))
      ∙ ap (λ ys. cond (nat_le (other n) (other m)) (n ∷ m ∷ ms) (m ∷ ys)) (put_same n ms e (λ v h. f v (inr h)))

  pub by_key_same : (ns : List ℕ) → ((n : ℕ) → In n ns → key n ≡ other n) → by_key key ns ≡ by_key other ns
  by_key_same [] e = refl
  by_key_same (n ∷ ns) e =
      put_same n (by_key key ns) (e n (inl refl)) (λ m h. e m (inr (by_key_in key m ns h)))
      ∙ ap (put_by other n) (by_key_same ns (λ m h. e m (inr h)))
