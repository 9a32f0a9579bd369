-- What is put back is compared by its parts.
use Rattle.std.proofs.Common.{◌≡◌, true, refl, ap, List, ◌∙◌, subst}
use Rattle.std.specs.Prelude.{◌==◌, ◌&&◌}
use Rattle.std.specs.Bool.{Decides}
use Rattle.std.specs.Ordering.{int_eq}
use Rattle.std.specs.Cmp.Lexicographic.{pointwise, pointwise_decides}
use Rattle.std.proofs.lemmas.Bool.{and_parts, and_from, eqb-true, eq-eqb}
use Rattle.std.proofs.lemmas.Bool.Decides.{Decides-int_eq}
use Rattle.cw_code.specs.declared.Back.{Back}

back_decides : (x y : Back) → Decides ((x.cell == y.cell) && int_eq x.value y.value) (x ≡ y)
back_decides x y = (same, λ e. subst (λ z. (x.cell == z.cell) && int_eq x.value z.value ≡ true) e itself) where
  itself : (x.cell == x.cell) && int_eq x.value x.value ≡ true
  itself = and_from (x.cell == x.cell) (int_eq x.value x.value) (eq-eqb x.cell x.cell refl) ((Decides-int_eq x.value x.value).1 refl)

  same : ((x.cell == y.cell) && int_eq x.value y.value) ≡ true → x ≡ y
  same e =
      let (cell, value) = and_parts (x.cell == y.cell) (int_eq x.value y.value) e in
      ap (λ c. record { cell = c; value = x.value }) (eqb-true x.cell y.cell cell) ∙ ap (λ v. record { cell = y.cell; value = v }) ((Decides-int_eq x.value y.value).0 value)

pub backs_decide : (xs ys : List Back) → Decides (pointwise (λ (x y : Back). (x.cell == y.cell) && int_eq x.value y.value) xs ys) (xs ≡ ys)
backs_decide = pointwise_decides back_decides
