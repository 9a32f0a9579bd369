-- Texts and what they begin with, and lines of items.
use Rattle.std.proofs.Common.{◌≡◌, ℕ, suc, zero, List, [], ◌∷◌, ◌++◌, map, take, drop, length, refl, ap, sym, subst, ◌∙◌, append_assoc}
use Rattle.std.specs.List.{flat_map}
use Rattle.cw_sheet.specs.SheetText.{line, spaced}

-- the text is `part`, with `rest` behind it
pub record BeginsWith (text part rest : List ℕ) : Type 0 where
  pub is : text ≡ part ++ rest

pub none_taken : (text : List ℕ) → BeginsWith text [] text
none_taken text = record { is = refl }

-- one part more
pub one_more : {text middle rest : List ℕ} (done part : List ℕ) → BeginsWith text done middle → BeginsWith middle part rest → BeginsWith text (done ++ part) rest
one_more {rest = rest} done part h g = record { is = h.is ∙ ap (λ r. done ++ r) g.is ∙ sym (append_assoc done part rest) }

-- the same part, spelled otherwise
pub same_part : {text part rest : List ℕ} (other : List ℕ) → part ≡ other → BeginsWith text part rest → BeginsWith text other rest
same_part {text} {part} {rest} other same h = subst (λ s. BeginsWith text s rest) same h

-- ## Items behind spaces

-- the text begins with these items, each behind a space
pub data Spaces : List (List ℕ) → List ℕ → List ℕ → Type 0 where
  none : {text : List ℕ} → Spaces [] text text
  item : {text middle rest i : List ℕ} {is : List (List ℕ)} → BeginsWith text (32 ∷ i) middle → Spaces is middle rest → Spaces (i ∷ is) text rest
  some : {text rest : List ℕ} {is : List (List ℕ)} → BeginsWith text (spaced is) rest → Spaces is text rest

pub spaces_begin : {is : List (List ℕ)} {text rest : List ℕ} → Spaces is text rest → BeginsWith text (spaced is) rest
spaces_begin none = record { is = refl }
spaces_begin (item {i = i} {is = is} h g) = one_more (32 ∷ i) (spaced is) h (spaces_begin g)
spaces_begin (some h) = h

-- a line of its items
pub line_of : {text behind_word behind_items rest : List ℕ} (word : List ℕ) (items : List (List ℕ)) →
    BeginsWith text word behind_word → Spaces items behind_word behind_items → BeginsWith behind_items (10 ∷ []) rest → BeginsWith text (line word items) rest
line_of word items h g f = one_more (word ++ spaced items) (10 ∷ []) (one_more word (spaced items) h (spaces_begin g)) f

-- ## Lists of items

pub spaced_map : {A : Type 0} (t : A → List ℕ) (xs : List A) → flat_map (λ x. 32 ∷ t x) xs ≡ spaced (map t xs)
spaced_map t [] = refl
spaced_map t (x ∷ xs) = ap (λ r. (32 ∷ t x) ++ r) (spaced_map t xs)

pub spaced-append : (is js : List (List ℕ)) → spaced (is ++ js) ≡ spaced is ++ spaced js
spaced-append [] js = refl
spaced-append (i ∷ is) js = ap (λ r. (32 ∷ i) ++ r) (spaced-append is js) ∙ sym (append_assoc (32 ∷ i) (spaced is) (spaced js))

-- several items for each
pub spaced_flat : {A : Type 0} (t : A → List (List ℕ)) (xs : List A) → flat_map (λ x. spaced (t x)) xs ≡ spaced (flat_map t xs)
spaced_flat t [] = refl
spaced_flat t (x ∷ xs) = ap (λ r. spaced (t x) ++ r) (spaced_flat t xs) ∙ sym (spaced-append (t x) (flat_map t xs))

-- ## Fronts

pub front_and_rest : {A : Type 0} (n : ℕ) (xs : List A) → take n xs ++ drop (length (take n xs)) xs ≡ xs
front_and_rest zero xs = refl
front_and_rest (suc n) [] = refl
front_and_rest (suc n) (x ∷ xs) = ap (λ ys. x ∷ ys) (front_and_rest n xs)

pub drop_front : (xs ys : List ℕ) → drop (length xs) (xs ++ ys) ≡ ys
drop_front [] ys = refl
drop_front (x ∷ xs) ys = drop_front xs ys

pub take_front : (xs ys : List ℕ) → take (length xs) (xs ++ ys) ≡ xs
take_front [] ys = refl
take_front (x ∷ xs) ys = ap (λ zs. x ∷ zs) (take_front xs ys)
