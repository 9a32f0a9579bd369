-- The lowest of a stack, and what stands at the end of a list.
use Rattle.std.proofs.Common.{◌≡◌, ◌∙◌, ℕ, zero, suc, ◌+◌, ◌-◌, ◌<◌, ◌≤◌, List, [], ◌∷◌, ◌++◌, length, take, drop, reverse, refl, sym, ap, add-one, arith, append_assoc, length-append}
use Rattle.std.specs.Prelude.{slice_set}
use Rattle.std.proofs.lemmas.List.{length-drop, length-reverse, length-take-le, reverse-append, take-append-drop}
use Rattle.std.proofs.Math.Seq.{drop-append_seam, take-suc-set}
use Rattle.cw_strand.specs.Saving.{lowest}

-- the one list stands at the end of the other
abbrev pub IsEnd : {X : Type 0} → List X → List X → Type 0
IsEnd {X = X} ys xs = (zs : List X) × (xs ≡ zs ++ ys)

pub end_behind : {X : Type 0} {xs ys : List X} (x : X) → IsEnd ys xs → IsEnd ys (x ∷ xs)
end_behind x h = (x ∷ h.0, ap (λ zs. x ∷ zs) h.1)

pub end_of_end : {X : Type 0} {xs ys zs : List X} (y : X) → IsEnd zs ys → IsEnd (y ∷ ys) xs → IsEnd zs xs
end_of_end {xs = xs} {ys = ys} {zs = zs} y h g =
    let whole : g.0 ++ y ∷ ys ≡ (g.0 ++ y ∷ h.0) ++ zs = ap (λ us. g.0 ++ y ∷ us) h.1 ∙ sym (append_assoc g.0 (y ∷ h.0) zs) in
    (g.0 ++ y ∷ h.0, g.1 ∙ whole)

pub lowest_end : {X : Type 0} (n : ℕ) (xs ys : List X) → length ys ≡ n → IsEnd ys xs → lowest n xs ≡ ys
lowest_end n xs ys is h =
    let left : length (h.0 ++ ys) - n ≡ length h.0 = omega (arith, length-append h.0 ys, is) in
    ap (λ us. lowest n us) h.1 ∙ ap (λ k. drop k (h.0 ++ ys)) left ∙ drop-append_seam h.0 ys

-- nothing is left out that there is enough room for
pub lowest_enough : {X : Type 0} (n : ℕ) (xs ys : List X) → lowest n xs ≡ ys → length ys ≡ n → n ≤ length xs
lowest_enough n xs ys is same = omega (arith, ap length is, same, length-drop (length xs - n) xs)

pub lowest_behind : {X : Type 0} (n : ℕ) (x : X) (xs : List X) → n ≤ length xs → lowest n (x ∷ xs) ≡ lowest n xs
lowest_behind n x xs enough = let left : suc (length xs) - n ≡ suc (length xs - n) = omega (arith, enough) in ap (λ k. drop k (x ∷ xs)) left

pub lowest_all : {X : Type 0} (n : ℕ) (xs : List X) → length xs ≡ n → lowest n xs ≡ xs
lowest_all n xs same = lowest_end n xs xs same ([], refl)

lowest_reversed : {X : Type 0} (n : ℕ) (xs : List X) → n ≤ length xs → lowest n (reverse xs) ≡ reverse (take n xs)
lowest_reversed n xs enough =
    let parts : reverse xs ≡ reverse (drop n xs) ++ reverse (take n xs) = ap reverse (sym (take-append-drop n xs)) ∙ reverse-append (take n xs) (drop n xs) in
    lowest_end n (reverse xs) (reverse (take n xs)) (length-reverse (take n xs) ∙ length-take-le n xs enough) (reverse (drop n xs), parts)

-- the oldest n are kept, and another one comes on top of them
pub reopened : (xs : List ℕ) (n x : ℕ) → n < length (reverse xs) → reverse (take (n + 1) (slice_set xs n x)) ≡ x ∷ lowest n (reverse xs)
reopened xs n x less =
    ap (λ m. reverse (take m (slice_set xs n x))) (add-one n)
    ∙ ap reverse (take-suc-set xs n x (omega (arith, less, length-reverse xs)))
    ∙ reverse-append (take n xs) (x ∷ [])
    ∙ ap (λ ys. x ∷ ys) (sym (lowest_reversed n xs (omega (arith, less, length-reverse xs))))

drop_one_more : {X : Type 0} (k : ℕ) (xs : List X) → drop 1 (drop k xs) ≡ drop (suc k) xs
drop_one_more zero xs = refl
drop_one_more (suc k) [] = refl
drop_one_more (suc k) (x ∷ xs) = drop_one_more k xs

pub lowest_less : {X : Type 0} (n : ℕ) (xs : List X) → n < length xs → drop 1 (lowest (suc n) xs) ≡ lowest n xs
lowest_less n xs less =
    let left : suc (length xs - suc n) ≡ length xs - n = omega (arith, less) in
    drop_one_more (length xs - suc n) xs ∙ ap (λ k. drop k xs) left
