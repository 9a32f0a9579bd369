-- The code's table is that of the definitions.
use Rattle.std.proofs.Common.{◌≡◌, ℕ, zero, suc, ◌-◌, ◌<◌, Option, None, refl, ap, ◌∙◌, arith}
use Rattle.std.specs.Prelude.{slice_get}
use Rattle.cw_code.specs.declared.table.Row.{Row}
use Rattle.cw_code.specs.declared.table.TheConstants.{TABLE}
use Rattle.cw_code.specs.Table.{rows, row_at}

same_rows : TABLE ≡ rows
same_rows = refl

pub row_found : (op : ℕ) (o : Option Row) → (0 < op → o ≡ slice_get TABLE (op - 1)) → (op ≡ 0 → o ≡ None) → o ≡ row_at op
row_found zero o found none = none refl
row_found (suc n) o found none = found (omega arith) ∙ ap (slice_get TABLE) (let one : suc n - 1 ≡ n = omega arith in one) ∙ ap (λ l. slice_get l n) same_rows
