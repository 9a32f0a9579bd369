-- Values and limits are taken as what their lines spell.
use Rattle.std.proofs.Common.{◌≡◌, ℕ, suc, ◌^◌, ◌<◌, true, List, [], ◌∷◌, ◌++◌, codes, ℤ, refl, arith}
use Rattle.std.specs.Fmt.{decimal, signed_decimal}
use Rattle.std.specs.List.{AllByRecursion, list_all}
use Rattle.cw_code.specs.declared.Limits.{Limits}
use Rattle.cw_sheet.specs.Items.{first_item, number, value}
use Rattle.cw_sheet.specs.Laws.{IsValue, LimitsFit}
use Rattle.cw_sheet.specs.Reading.{limits, values}
use Rattle.cw_sheet.specs.SheetText.{decimals, limits_line, line, signed_decimals}
use Rattle.cw_sheet.proofs.SheetText.Read.Items.{all_behind_takes, is_item_byte, number_takes, value_takes, word_takes}
use Rattle.cw_sheet.proofs.SheetText.Read.Taking.{Takes, on_line, ends_there, line_takes, spell, then_takes}

pub values_takes : (w : List ℕ) (zs : List ℤ) (l : ℕ) (rest : List ℕ) → list_all is_item_byte w ≡ true → AllByRecursion IsValue zs →
    Takes (values w (on_line l (line w (signed_decimals zs) ++ rest))) zs rest
values_takes w zs l rest plain fit =
    let items = spell (signed_decimals zs) (10 ∷ rest) in
    line_takes (values w) w (signed_decimals zs) l rest
    (then_takes _ _
    (word_takes w l items plain (ends_there (signed_decimals zs) rest))
    (λ m. then_takes _ _
    (all_behind_takes (λ z. signed_decimal z) IsValue value (λ z l rest small ends. value_takes z l rest small ends) zs m rest fit)
    (λ n. record { line = suc n; is = refl })))

pub number32_takes : (n l : ℕ) (rest : List ℕ) → n < 2 ^ 32 → first_item rest ≡ [] → Takes (number (2 ^ 32) (on_line l ((32 ∷ decimal n) ++ rest))) n rest
number32_takes n l rest low ends = number_takes (2 ^ 32) n l rest low (omega arith) ends

pub number64_takes : (n l : ℕ) (rest : List ℕ) → n < 2 ^ 64 → first_item rest ≡ [] → Takes (number (2 ^ 64) (on_line l ((32 ∷ decimal n) ++ rest))) n rest
number64_takes n l rest low ends = number_takes (2 ^ 64) n l rest low low ends

pub limits_takes : (x : Limits) (l : ℕ) (rest : List ℕ) → LimitsFit x → Takes (limits (on_line l (limits_line x ++ rest))) x rest
limits_takes x l rest fit =
    let end = 10 ∷ rest in
    let four = spell (decimals (x.moves ∷ [])) end in
    let three = spell (decimals (x.strands ∷ x.moves ∷ [])) end in
    let two = spell (decimals (x.aborts ∷ x.strands ∷ x.moves ∷ [])) end in
    let one = spell (decimals (x.size ∷ x.aborts ∷ x.strands ∷ x.moves ∷ [])) end in
    line_takes limits (codes "limits") (decimals (x.fuel ∷ x.size ∷ x.aborts ∷ x.strands ∷ x.moves ∷ [])) l rest
    (then_takes _ _ (number64_takes x.fuel l one fit.fuel refl)
    (λ l1. then_takes _ _ (number32_takes x.size l1 two fit.size refl)
    (λ l2. then_takes _ _ (number32_takes x.aborts l2 three fit.aborts refl)
    (λ l3. then_takes _ _ (number32_takes x.strands l3 four fit.strands refl)
    (λ l4. then_takes _ _ (number64_takes x.moves l4 end fit.moves refl)
    (λ l5. record { line = suc l5; is = refl }))))))
