use Rattle.std.proofs.Common.{rules, w64, ◌≡◌, refl, ap, sym, ◌+◌, length, arith}
use mir.Val.{SFits}
use Rattle.std.proofs.lemmas.Int.{to_z-of_z}
use Rattle.cw_compile.proofs.NamingRules.ItemSteps.{adds_cell, adds_function}
use Rattle.cw_compile.proofs.naming.items.Declared.add.Goals as goal

pub returns-in_ok-push-in-Cell : goal.returns-in_ok-push-in-Cell
returns-in_ok-push-in-Cell c = λ ds. rw c.in-Cell.is
    (adds_cell _ _ _ _ ds
    (rw (← c.find.ensures) (sym c.in_ok-declared_new-in-Cell.ensures))
    (sym c.in_ok-size-in-Cell.ensures.exact)
    (rw c.cell_thing.ensures at c.in_ok-add-in-Cell.ensures)
    (ap (λ n. c.args.self.now.elements + n) c.in_ok-size-in-Cell.ensures.size)
    (let fits : SFits w64 c.in-Cell.init = search rules in rw (← c.in_ok-clone-in-Cell.ensures) (simp to_z-of_z at c.in_ok-push-in-Cell.ensures.items)))

pub returns-in_ok-add-in-Func : goal.returns-in_ok-add-in-Func
returns-in_ok-add-in-Func c = λ ds.
    let count : c.len.result ≡ length c.in-Func.params.items = omega (arith, c.len.ensures, c.in-Func.params.ok.0) in
    rw c.in-Func.is
    (adds_function _ _ _ _ ds (rw (← c.find-in-Func.ensures) (sym c.in_ok-declared_new-in-Func.ensures)) (rw count at c.in_ok-add-in-Func.ensures) refl refl)
