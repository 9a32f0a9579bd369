-- What stands in a list after its edits.
use Rattle.std.proofs.Common.{◌≡◌, ◌≢◌, ℕ, zero, suc, ◌+◌, ◌<◌, ◌≤◌, List, [], ◌∷◌, ◌++◌, length, refl, ap, sym, ◌∙◌, arith, Bool, true, false, Some, take, drop, map, eq-eqb, length-take, take-append-drop, inl, inr}
use Rattle.std.specs.Prelude.{◌==◌, ◌&&◌, ◌||◌, nat_le, slice_index, slice_set, if◌then◌else◌}
use Rattle.std.specs.List.{slice_get}
use Rattle.std.proofs.lemmas.Bool.{ne_eqb, leb-true, cases_Bool}
use Rattle.std.proofs.lemmas.List.Edits.{map_over_more}
use Rattle.std.proofs.lemmas.Grind.{get_or_default_zero}
use Rattle.cw_trace.specs.Columns.{parts, part_of, back_to}
use Rattle.cw_tree.specs.Walks.{has}

pub set_get_same : {A : Type 0} → (xs : List A) (i : ℕ) (a : A) → i < length xs → slice_get (slice_set xs i a) i ≡ Some a
set_get_same [] i a h = absurd (omega arith)
set_get_same (x ∷ xs) zero a h = refl
set_get_same (x ∷ xs) (suc i) a h = set_get_same xs i a (omega arith)

pub length_parts : (t f k : ℕ) (os : List ℕ) → length (parts t f k os) ≡ length os
length_parts t f k [] = refl
length_parts t f k (o ∷ os) = ap suc (length_parts t f (suc k) os)

pub parts_at : (t f k : ℕ) (os : List ℕ) (n : ℕ) → n < length os → slice_index (parts t f k os) n ≡ part_of t f (k + n) (slice_index os n)
parts_at t f k [] n h = absurd (omega arith)
parts_at t f k (o ∷ os) zero h = ap (λ m. part_of t f m o) (plus_zero k) where
  plus_zero : (k : ℕ) → k ≡ k + 0
  plus_zero k = omega arith
parts_at t f k (o ∷ os) (suc n) h = parts_at t f (suc k) os n (omega arith) ∙ ap (λ m. part_of t f m (slice_index os n)) (move k n) where
  move : (k n : ℕ) → suc k + n ≡ k + suc n
  move k n = omega arith

-- a list of numbers with one more at its front
pub has_cons_same : (xs : List ℕ) (f : ℕ) → has (f ∷ xs) f ≡ true
has_cons_same xs f = ap (λ b. b || has xs f) (eq-eqb f f refl)

pub has_cons_other : (xs : List ℕ) (f g : ℕ) → g ≢ f → has (f ∷ xs) g ≡ has xs g
has_cons_other xs f g h = ap (λ b. b || has xs g) (ne_eqb f g (λ e. h (sym e)))

-- what the first i columns got does not change those behind
pub parts_ahead : (t f k : ℕ) (xs : List ℕ) (i : ℕ) → i < length xs → slice_index (parts t f k (take i xs) ++ drop i xs) i ≡ slice_index xs i
parts_ahead t f k [] i h = absurd (omega arith)
parts_ahead t f k (x ∷ xs) zero h = refl
parts_ahead t f k (x ∷ xs) (suc i) h = parts_ahead t f (suc k) xs i (omega arith)

parts_next : (t f k : ℕ) (xs : List ℕ) (i : ℕ) → i < length xs → slice_set (parts t f k (take i xs) ++ drop i xs) i (part_of t f (k + i) (slice_index xs i)) ≡ parts t f k (take (suc i) xs) ++ drop (suc i) xs
parts_next t f k [] i h = absurd (omega arith)
parts_next t f k (x ∷ xs) zero h = ap (λ m. part_of t f m x ∷ xs) (plus_zero k) where
  plus_zero : (k : ℕ) → k + 0 ≡ k
  plus_zero k = omega arith
parts_next t f k (x ∷ xs) (suc i) h = ap (λ ys. part_of t f k x ∷ ys) (ap (λ m. slice_set (parts t f (suc k) (take i xs) ++ drop i xs) i (part_of t f m (slice_index xs i))) (move k i) ∙ parts_next t f (suc k) xs i (omega arith)) where
  move : (k i : ℕ) → k + suc i ≡ suc k + i
  move k i = omega arith

-- a loop that gives each column its owner after a split
pub parts_more : (t f : ℕ) (xs ys : List ℕ) (i o : ℕ) → i < length xs → ys ≡ parts t f 0 (take i xs) ++ drop i xs → o ≡ part_of t f i (slice_index ys i) → slice_set ys i o ≡ parts t f 0 (take (i + 1) xs) ++ drop (i + 1) xs
parts_more t f xs ys i o h e q =
    ap (λ o. slice_set ys i o) (q ∙ ap (λ zs. part_of t f i (slice_index zs i)) e ∙ ap (part_of t f i) (parts_ahead t f 0 xs i h)) ∙ ap (λ zs. slice_set zs i (part_of t f i (slice_index xs i))) e
    ∙ ap (λ m. slice_set (parts t f 0 (take i xs) ++ drop i xs) i (part_of t f m (slice_index xs i))) (zero_plus i) ∙ parts_next t f 0 xs i h ∙ ap (λ m. parts t f 0 (take m xs) ++ drop m xs) (add_one i) where
      zero_plus : (i : ℕ) → i ≡ 0 + i
      zero_plus i = omega arith

      add_one : (i : ℕ) → suc i ≡ i + 1
      add_one i = omega arith

pub parts_done : (t f : ℕ) (xs ys : List ℕ) (i : ℕ) → length xs ≤ i → ys ≡ parts t f 0 (take i xs) ++ drop i xs → ys ≡ parts t f 0 xs
parts_done t f xs ys i h e = e ∙ all xs i h 0 where
  all : (xs : List ℕ) (i : ℕ) → length xs ≤ i → (k : ℕ) → parts t f k (take i xs) ++ drop i xs ≡ parts t f k xs
  all [] zero h k = refl
  all [] (suc i) h k = refl
  all (x ∷ xs) zero h k = absurd (omega arith)
  all (x ∷ xs) (suc i) h k = ap (λ zs. part_of t f k x ∷ zs) (all xs i (omega arith) (suc k))

-- a loop that gives each column its owner after a merge
pub back_more : (t f : ℕ) (xs ys : List ℕ) (i o : ℕ) → i < length xs → ys ≡ map (back_to t f) (take i xs) ++ drop i xs → o ≡ back_to t f (slice_index ys i) → slice_set ys i o ≡ map (back_to t f) (take (i + 1) xs) ++ drop (i + 1) xs
back_more t f xs ys i o h e q =
    let same : length ys ≡ length xs = ap length e ∙ kept xs i in
    ap (λ o. slice_set ys i o) q ∙ map_over_more (back_to t f) xs ys i (slice_index ys i) h e (sym (get_or_default_zero ys i (slice_index ys i) (omega arith))) where
      kept : (xs : List ℕ) (i : ℕ) → length (map (back_to t f) (take i xs) ++ drop i xs) ≡ length xs
      kept [] zero = refl
      kept [] (suc i) = refl
      kept (x ∷ xs) zero = refl
      kept (x ∷ xs) (suc i) = ap suc (kept xs i)

-- smaller columns keep their owners in a split
pub parts_before : (t f : ℕ) (xs : List ℕ) → f ≤ length xs → xs ≡ parts t f 0 (take f xs) ++ drop f xs
parts_before t f xs h = sym (ap (λ ys. ys ++ drop f xs) (small (take f xs) 0 (omega (arith, length-take f xs))) ∙ take-append-drop f xs) where
  stays : (k o : ℕ) → k < f → part_of t f k o ≡ o
  stays k o l = ap (λ b. if b then f + 1 else if (o == t) && nat_le f k then f else o) (ne_eqb k (f + 1) (omega arith)) ∙ ap (λ b. if (o == t) && b then f else o) (nat_le_no f k l) ∙ no_and (o == t) where
    nat_le_no : (f k : ℕ) → k < f → nat_le f k ≡ false
    nat_le_no f k l = elim (cases_Bool (nat_le f k)) [ inl e ↦ (let z : f ≤ k = leb-true f k e in absurd (omega arith)) | inr e ↦ e ]

    no_and : (b : Bool) → (if b && false then f else o) ≡ o
    no_and true = refl
    no_and false = refl

  small : (ys : List ℕ) (k : ℕ) → k + length ys ≤ f → parts t f k ys ≡ ys
  small [] k h = refl
  small (y ∷ ys) k h = ap (λ o. o ∷ parts t f (suc k) ys) (stays k y (omega arith)) ∙ ap (λ zs. y ∷ zs) (small ys (suc k) (omega arith))
