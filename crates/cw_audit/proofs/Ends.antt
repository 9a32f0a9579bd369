-- The last of a list.
use Rattle.std.proofs.Common.{◌≡◌, ℕ, ◌+◌, ◌-◌, ◌<◌, List, [], ◌∷◌, ◌++◌, length, get_or, take, ap, sym, ◌∙◌, arith, length-append}
use Rattle.std.proofs.lemmas.List.{take_more, take_all, get_or_push}

pub last_from : (xs : List ℕ) (s : ℕ) → 0 < length xs → get_or xs (length xs - 1) 0 ≡ s → (ys : List ℕ) × (xs ≡ ys ++ s ∷ [])
last_from xs s some e =
    let i = length xs - 1 in
    let whole : take (i + 1) xs ≡ xs = take_all (i + 1) xs (omega arith) in
    (take i xs, sym whole ∙ take_more xs i 0 (omega arith) ∙ ap (λ n. take i xs ++ n ∷ []) e)

pub last_to : (xs ys : List ℕ) (s : ℕ) → xs ≡ ys ++ s ∷ [] → get_or xs (length xs - 1) 0 ≡ s
last_to xs ys s e =
    let len : length ys ≡ length xs - 1 = omega (arith, ap length e, length-append ys (s ∷ [])) in
    ap (λ zs. get_or zs (length xs - 1) 0) e ∙ get_or_push ys s 0 (length xs - 1) len
