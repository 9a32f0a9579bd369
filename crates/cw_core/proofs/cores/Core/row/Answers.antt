use Rattle.std.proofs.Common.{◌<◌, length, refl, ap, subst, arith}
use Rattle.std.proofs.lemmas.Option.{slice_get_read}
use Rattle.cw_core.specs.Kept.{IsRow}
use Rattle.cw_core.specs.State.{CoreState}
use Rattle.cw_core.proofs.cores.Core.row.Goals as goal

pub returns-clause-row : goal.returns-clause-row
returns-clause-row c =
    let seen = ap (λ k. length k.machine.tree) c.self.view_is in
    let low : c.args.n < length c.self.inside.rows.items = omega (arith, c.requires, c.self.invariant.rowed.len, seen) in
    let at = slice_get_read c.self.inside.rows.items (length c.self.inside.rows.items) c.args.n c.index.result.now refl low c.index.ensures in
    let P : CoreState → Type 0 = λ k. IsRow k c.args.n c.index.result.now in
    subst P c.self.view_is (c.self.invariant.rowed.each c.args.n c.index.result.now at)
