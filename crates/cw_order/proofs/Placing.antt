-- Elements placed, taken out and compared, in lists cut at a number.
use Rattle.std.proofs.Common.{ℕ, zero, suc, ◌+◌, ◌<◌, ◌≡◌, ◌≢◌, ◌↔◌, List, [], ◌∷◌, ◌++◌, length, get_or, cond, not, refl, sym, ap, ◌∙◌, subst, arith, eq-eqb, inl, inr}
use Rattle.std.specs.List.{Contains}
use Rattle.std.proofs.lemmas.Bool.{cases_eq, ne_eqb, cases_lt}
use Rattle.cw_order.specs.Links.{Lacks, Rise}
use Rattle.cw_order.specs.Order.{put_after, without, position}
use Rattle.cw_order.proofs.Rising.{rise_places}
use Rattle.cw_order.proofs.Spreading.{read_all}

pub put_after-cut : (front back : List ℕ) (a e : ℕ) → Lacks front a → put_after a e (front ++ a ∷ back) ≡ front ++ a ∷ e ∷ back
put_after-cut [] back a e l = ap (λ b. cond b (a ∷ e ∷ back) (a ∷ put_after a e back)) (eq-eqb a a refl)
put_after-cut (x ∷ front) back a e l =
    ap (λ b. cond b (x ∷ e ∷ front ++ a ∷ back) (x ∷ put_after a e (front ++ a ∷ back))) (ne_eqb x a l.0) ∙ ap (λ z. x ∷ z) (put_after-cut front back a e l.1)

pub without-lacks : (xs : List ℕ) (e : ℕ) → Lacks xs e → without e xs ≡ xs
without-lacks [] e l = refl
without-lacks (x ∷ xs) e l = ap (λ b. cond (not b) (x ∷ without e xs) (without e xs)) (ne_eqb x e l.0) ∙ ap (λ z. x ∷ z) (without-lacks xs e l.1)

pub without-cut : (front back : List ℕ) (e : ℕ) → Lacks (front ++ back) e → without e (front ++ e ∷ back) ≡ front ++ back
without-cut [] back e l = ap (λ b. cond (not b) (e ∷ without e back) (without e back)) (eq-eqb e e refl) ∙ without-lacks back e l
without-cut (x ∷ front) back e l =
    ap (λ b. cond (not b) (x ∷ without e (front ++ e ∷ back)) (without e (front ++ e ∷ back))) (ne_eqb x e l.0) ∙ ap (λ z. x ∷ z) (without-cut front back e l.1)

-- an element stands at its position
pub record StandsAt (xs : List ℕ) (a k : ℕ) : Type 0 where
  pub within : k < length xs
  pub there : get_or xs k 0 ≡ a

pub stands_at : (xs : List ℕ) (a : ℕ) → Contains xs a → StandsAt xs a (position xs a)
stands_at [] a (k, within, e) = absurd (omega arith)
stands_at (x ∷ xs) a c = elim (cases_eq x a) [
  | inl e ↦ subst (StandsAt (x ∷ xs) a) (sym (ap (λ b. cond (not b) (1 + position xs a) 0) (eq-eqb x a e))) (record { within = omega arith; there = e })
  | inr ne ↦ subst (StandsAt (x ∷ xs) a) (sym (ap (λ b. cond (not b) (1 + position xs a) 0) (ne_eqb x a ne) ∙ omega arith)) (later ne c (λ k within e. stands_at xs a (k, within, e)))
] where
  later : x ≢ a → Contains (x ∷ xs) a → ((k : ℕ) → k < length xs → get_or xs k a ≡ a → StandsAt xs a (position xs a)) → StandsAt (x ∷ xs) a (suc (position xs a))
  later ne (zero, within, e) more = absurd (ne e)
  later ne (suc k, within, e) more = let s = more k (omega arith) e in record { within = omega (arith, s.within); there = s.there }

pub get_or-read_all : (labels xs : List ℕ) (k : ℕ) → k < length xs → get_or (read_all labels xs) k 0 ≡ get_or labels (get_or xs k 0) 0
get_or-read_all labels [] k h = absurd (omega arith)
get_or-read_all labels (x ∷ xs) zero h = refl
get_or-read_all labels (x ∷ xs) (suc k) h = get_or-read_all labels xs k (omega arith)

pub length-read_all : (labels xs : List ℕ) → length (read_all labels xs) ≡ length xs
length-read_all labels [] = refl
length-read_all labels (x ∷ xs) = ap suc (length-read_all labels xs)

-- where labels rise along the list, of two elements the one that comes first has the smaller label
pub sooner : (labels xs : List ℕ) (t i j a b : ℕ) → Rise 1 (read_all labels xs) t → StandsAt xs a i → StandsAt xs b j → i < j → get_or labels a 0 < get_or labels b 0
sooner labels xs t i j a b r s u h =
    let less = rise_places 1 (read_all labels xs) t i j (omega arith) r h (omega (arith, length-read_all labels xs, u.within)) in
    let first = get_or-read_all labels xs i s.within ∙ ap (λ x. get_or labels x 0) s.there in
    let second = get_or-read_all labels xs j u.within ∙ ap (λ x. get_or labels x 0) u.there in
    omega (arith, less, first, second)

pub labels-positions : (labels xs : List ℕ) (t a b : ℕ) → Rise 1 (read_all labels xs) t → Contains xs a → Contains xs b → (get_or labels a 0 < get_or labels b 0) ↔ (position xs a < position xs b)
labels-positions labels xs t a b r ca cb = (there, back) where
  back : position xs a < position xs b → get_or labels a 0 < get_or labels b 0
  back h = sooner labels xs t (position xs a) (position xs b) a b r (stands_at xs a ca) (stands_at xs b cb) h

  there : get_or labels a 0 < get_or labels b 0 → position xs a < position xs b
  there h = elim (cases_lt (position xs a) (position xs b)) [
    | inl less ↦ less
    | inr le ↦ elim (cases_eq (position xs a) (position xs b)) [
      | inl e ↦ (let s = stands_at xs a ca in let u = stands_at xs b cb in
          let same : a ≡ b = sym s.there ∙ (ap (λ k. get_or xs k 0) e ∙ u.there) in
          let equal = ap (λ x. get_or labels x 0) same in absurd (omega (arith, h, equal)))
      | inr ne ↦ (let more = sooner labels xs t (position xs b) (position xs a) b a r (stands_at xs b cb) (stands_at xs a ca) (omega (arith, le, ne)) in absurd (omega (arith, h, more)))
    ]
  ]
