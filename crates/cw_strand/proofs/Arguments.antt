-- How the arguments of a call become locals, the last one first.
use Rattle.std.proofs.Common.{◌≡◌, ℕ, zero, suc, ◌-◌, ◌<◌, ◌≤◌, List, [], ◌∷◌, ◌++◌, length, take, drop, reverse, replicate, ℤ, pos, refl, sym, ap, ◌∙◌, arith, append_assoc, add-one}
use Rattle.std.specs.Prelude.{slice_set}
use Rattle.std.proofs.lemmas.List.{drop-set, drop-replicate, reverse-append}
use Rattle.cw_code.specs.declared.instruction.Func.{Func}
use Rattle.cw_strand.specs.Coded.{locals_for}

-- the newest operand becomes the last local that is still to be filled
pub one_taken : (p : ℕ) (v : ℤ) (us vs ls : List ℤ) → 0 < p → p ≤ length ls → us ≡ v ∷ vs → reverse (take p us) ++ drop p ls ≡ reverse (take (p - 1) vs) ++ drop (p - 1) (slice_set ls (p - 1) v)
one_taken zero v us vs ls lt le e = absurd (omega arith)
one_taken (suc k) v us vs ls lt le e =
    let less : k < length ls = omega (arith, le) in
    let k1 : suc k - 1 ≡ k = omega arith in
    let turned : reverse (v ∷ take k vs) ≡ reverse (take k vs) ++ v ∷ [] = reverse-append (v ∷ []) (take k vs) in
    let filled : drop k (slice_set ls k v) ≡ v ∷ drop (suc k) ls = drop-set ls k v less ∙ ap (λ n. v ∷ drop n ls) (add-one k) in
    rw (e, k1) (ap (λ xs. xs ++ drop (suc k) ls) turned ∙ append_assoc (reverse (take k vs)) (v ∷ []) (drop (suc k) ls) ∙ ap (λ xs. reverse (take k vs) ++ xs) (sym filled))

pub rest_taken : (p : ℕ) (v : ℤ) (us vs : List ℤ) → 0 < p → us ≡ v ∷ vs → drop (p - 1) vs ≡ drop p us
rest_taken zero v us vs lt e = absurd (omega arith)
rest_taken (suc k) v us vs lt e = let k1 : suc k - 1 ≡ k = omega arith in rw (e, k1) refl

-- before the first the locals are zeros
pub none_taken : (f : Func) (vs ls : List ℤ) → ls ≡ replicate f.locals (pos 0) → locals_for f vs ≡ reverse (take f.params vs) ++ drop f.params ls
none_taken f vs ls e = rw (e, drop-replicate f.params f.locals (pos 0)) refl
