-- Locals with their numbers.
use Rattle.std.proofs.Common.{◌≡◌, ℕ, zero, suc, ◌-◌, List, [], ◌∷◌, map, length, drop, refl, sym}
use Rattle.std.proofs.lemmas.List.{length-map, drop-map}
use Rattle.cw_strand.specs.Compilation.{slot_of}
use Rattle.cw_compile.specs.Named.{named}
use Rattle.cw_compile.specs.Numbered.{NamesAreNumbered}

-- what a name stands for is its number
pub named-numbered : (xs : List (List ℕ × ℕ)) → NamesAreNumbered xs → (n : List ℕ) → named xs n ≡ slot_of (map (λ x. x.0) xs) n
named-numbered [] are n = refl
named-numbered (x ∷ xs) are n = rw (named-numbered xs are.1 n, are.0, length-map xs (λ x. x.0)) refl

-- the oldest have the same numbers
pub numbered-drop : (k : ℕ) (xs : List (List ℕ × ℕ)) → NamesAreNumbered xs → NamesAreNumbered (drop k xs)
numbered-drop zero xs are = are
numbered-drop (suc k) [] are = tt
numbered-drop (suc k) (x ∷ xs) are = numbered-drop k xs are.1

-- the oldest have the same names
pub names_left : (xs ys : List (List ℕ × ℕ)) (count : ℕ) → ys ≡ drop (length xs - count) xs → map (λ x. x.0) ys ≡ drop (length (map (λ x. x.0) xs) - count) (map (λ x. x.0) xs)
names_left xs ys count is = rw (is, length-map xs (λ x. x.0)) (sym (drop-map (λ x. x.0) (length xs - count) xs))
