-- The first number below a bound that passes a test.
use Rattle.std.proofs.Common.{◌≡◌, ℕ, zero, suc, ◌+◌, ◌<◌, [], ◌∷◌, ap, sym, ◌∙◌, arith, Bool, true, false, cond, inl, inr, subst, Some, None, add-one}
use Rattle.std.specs.List.{find}
use Rattle.std.specs.Option.{option_or}
use Rattle.std.proofs.lemmas.List.Folds.{find-append}
use Rattle.cw_tree.specs.Nodes.{below}
use Rattle.cw_tree.proofs.Lists.{at_or_before}

pub none_below_more : (p : ℕ → Bool) (n : ℕ) → find p (below n) ≡ None → p n ≡ false → find p (below (n + 1)) ≡ None
none_below_more p n h e = rw add-one (find-append p (below n) (n ∷ []) ∙ ap (λ o. option_or o (cond (p n) (Some n) None)) h ∙ ap (λ b. cond b (Some n) None) e)

pub first_below : (p : ℕ → Bool) (n k : ℕ) → find p (below n) ≡ None → p n ≡ true → n < k → find p (below k) ≡ Some n
first_below p n zero h e l = absurd (omega arith)
first_below p n (suc k) h e l =
    find-append p (below k) (k ∷ [])
    ∙ elim (at_or_before n k l) [
      | inl less ↦ ap (λ o. option_or o (cond (p k) (Some k) None)) (first_below p n k h e less)
      | inr same ↦
          (let P : ℕ → Type 0 = λ m. option_or (find p (below m)) (cond (p m) (Some m) None) ≡ Some n in
          subst P (sym same) (ap (λ o. option_or o (cond (p n) (Some n) None)) h ∙ ap (λ b. cond b (Some n) None) e))
    ]
