-- Passes that change nothing, and the places at first.
use Rattle.std.proofs.Common.{◌≡◌, ℕ, zero, suc, ◌+◌, ◌-◌, length, arith, ◌≤◌, None, refl, sym, ap, ◌∙◌}
use Rattle.std.proofs.lemmas.List.{length-replicate}
use Rattle.cw_code.specs.declared.instruction.Func.{Func}
use Rattle.cw_code.specs.declared.instruction.Code.{Code}
use Rattle.cw_code.specs.Rules.{Places, pass, places_after_passes, begun}

-- once a pass changes nothing, no later pass does
pub settled : (c : Code) (f : Func) (size n m : ℕ) (t u : Places) → places_after_passes c f size n t ≡ u → pass c f size u ≡ u → places_after_passes c f size (m + n) t ≡ u
settled c f size n zero t u e s = let z : 0 + n ≡ n = omega arith in ap (λ k. places_after_passes c f size k t) z ∙ e
settled c f size n (suc m) t u e s = let z : suc m + n ≡ suc (m + n) = omega arith in ap (λ k. places_after_passes c f size k t) z ∙ ap (pass c f size) (settled c f size n m t u e s) ∙ s

pub settles_at : (c : Code) (f : Func) (size n all : ℕ) (t u : Places) → n ≤ all → places_after_passes c f size n t ≡ u → pass c f size u ≡ u → places_after_passes c f size all t ≡ u
settles_at c f size n all t u le e s = let z : (all - n) + n ≡ all = omega arith in ap (λ k. places_after_passes c f size k t) (sym z) ∙ settled c f size n (all - n) t u e s

pub length_begun : (f : Func) (n : ℕ) → length (begun f n) ≡ n
length_begun f zero = refl
length_begun f (suc n) = ap suc (length-replicate n None)
