use Rattle.std.proofs.Common.{◌≡◌, ◌<◌, length, Some, sym, ap, ◌∙◌, subst}
use Rattle.std.specs.Prelude.{slice_get}
use Rattle.cw_code.proofs.Rows.{row_below, nothing_at, innermost_at}
use Rattle.cw_code.proofs.nestings.Nestings.innermost.Goals as goal

pub row_of-requires : goal.row_of-requires
row_of-requires c =
    let low = row_below c.self.inside.rows.items c.self.invariant c.args.self.now c.self.view_is c.args.number c.requires in
    subst (λ xs. c.args.number < length xs) (sym c.deref.ensures.value) low

pub returns-then-number-eq0-clause-none : goal.returns-then-number-eq0-clause-none
returns-then-number-eq0-clause-none c = λ is. nothing_at c.self.inside.rows.items c.self.invariant c.args.self.now c.self.view_is c.args.number c.if-number-eq0.true

pub returns-else-number-eq0-clause-some : goal.returns-else-number-eq0-clause-some
returns-else-number-eq0-clause-some c = λ r is.
    let same : c.row_of.result ≡ r = cc in
    let row : slice_get c.self.inside.rows.items c.args.number ≡ Some r = ap (λ xs. slice_get xs c.args.number) (sym c.deref.ensures.value) ∙ c.row_of.ensures ∙ ap Some same in
    innermost_at c.self.inside.rows.items c.self.invariant c.args.self.now c.self.view_is c.args.number r row c.if-number-eq0.false
