-- The innermost fork in whose strand a token stands is the last that it keeps.
use Rattle.std.proofs.Common.{◌≡◌, ◌∙◌, ap, refl, subst, List, [], ◌∷◌, ◌++◌, length, ◌-◌, Some, map, arith}
use Rattle.std.specs.List.{slice_get}
use Rattle.std.proofs.lemmas.List.{reverse-append}
use Rattle.cw_log.specs.declared.token.Open.{Open}
use Rattle.cw_log.specs.declared.token.Token.{Token}
use Rattle.tests_log.specs.declared.kept.Kept.{Kept}
use Rattle.tests_log.specs.Kept.{open_of, opens}

pub innermost : (ks : List Kept) (k : Kept) → slice_get ks (length ks - 1) ≡ Some k → (rest : List Open) × (opens ks ≡ open_of k ∷ rest)
innermost [] k e = absurd (grind arith)
innermost (j ∷ []) k e = ([], ap (λ x. open_of x ∷ []) (grind arith))
innermost (j ∷ i ∷ ks) k e =
    let (rest, q) = innermost (i ∷ ks) k (grind arith) in
    (rest ++ open_of j ∷ [], reverse-append (open_of j ∷ []) (map open_of (i ∷ ks)) ∙ ap (λ os. os ++ open_of j ∷ []) q)

pub none_open : (ks : List Kept) → length ks ≡ 0 → opens ks ≡ []
none_open [] e = refl
none_open (k ∷ ks) e = absurd (omega arith)

pub of_both : (P : Token → Token → Type 0) {x y u v : Token} → x ≡ y → u ≡ v → P x u → P y v
of_both P {x} {y} {u} {v} e f p = subst (λ a. P a v) e (subst (P x) f p)
