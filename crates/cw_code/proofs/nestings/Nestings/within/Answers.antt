use Rattle.std.proofs.Common.{◌≡◌, ◌<◌, length, Some, sym, ap, ◌∙◌, subst}
use Rattle.std.specs.Prelude.{slice_get}
use Rattle.cw_code.proofs.Rows.{row_below, child_at, grown_not, asked}
use Rattle.cw_code.proofs.nestings.Nestings.within.Goals as goal

pub row_of-requires : goal.row_of-requires
row_of-requires c =
    let low = row_below c.self.inside.rows.items c.self.invariant c.args.self.now c.self.view_is c.args.number c.requires in
    subst (λ xs. c.args.number < length xs) (sym c.deref.ensures.value) low

pub add-requires : goal.add-requires
add-requires c = row_below c.self.inside.rows.items c.self.invariant c.args.self.now c.self.view_is c.args.number c.requires

pub invariant_of-self : goal.invariant_of-self
invariant_of-self c =
    let row : slice_get c.self.inside.rows.items c.args.number ≡ Some c.row_of.result = ap (λ xs. slice_get xs c.args.number) (sym c.deref.ensures.value) ∙ c.row_of.ensures in
    (asked c.self.inside.rows.items c.self.invariant c.args.self.now c.self.view_is c.args.number c.row_of.result c.args.part c.add.new.rows.items c.add.result row (sym c.child-known.ensures ∙ c.if-known-ne0.false) c.add.ensures.err c.add.ensures.number c.add.ensures.ok).table

pub returns-then-known-ne0 : goal.returns-then-known-ne0
returns-then-known-ne0 c =
    let row : slice_get c.self.inside.rows.items c.args.number ≡ Some c.row_of.result = ap (λ xs. slice_get xs c.args.number) (sym c.deref.ensures.value) ∙ c.row_of.ensures in
    let w = child_at c.self.inside.rows.items c.self.invariant c.args.self.now c.self.view_is c.args.number c.row_of.result c.args.part c.child-known.result row c.child-known.ensures c.if-known-ne0.true in
    record { grown = grown_not c.args.self.now; made = w.0; parts = w.1 }

pub returns-else-known-ne0 : goal.returns-else-known-ne0
returns-else-known-ne0 c =
    let row : slice_get c.self.inside.rows.items c.args.number ≡ Some c.row_of.result = ap (λ xs. slice_get xs c.args.number) (sym c.deref.ensures.value) ∙ c.row_of.ensures in
    let w = asked c.self.inside.rows.items c.self.invariant c.args.self.now c.self.view_is c.args.number c.row_of.result c.args.part c.add.new.rows.items c.add.result row (sym c.child-known.ensures ∙ c.if-known-ne0.false) c.add.ensures.err c.add.ensures.number c.add.ensures.ok in
    record { grown = w.grown; made = w.made; parts = w.parts }
