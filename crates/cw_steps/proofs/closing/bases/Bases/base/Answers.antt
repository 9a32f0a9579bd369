use Rattle.std.proofs.Common.{rules, arith, sym, ap, ◌≡◌, ◌∙◌, Some}
use Rattle.std.specs.Prelude.{slice_get, vec_len}
use Rattle.std.proofs.lemmas.Option.{slice_get_read}
use Rattle.cw_steps.proofs.Leaving.Bases.{base_is}
use Rattle.cw_steps.proofs.closing.bases.Bases.base.Goals as goal

pub returns-in-Some : goal.returns-in-Some
returns-in-Some c = λ all h.
    let at : slice_get c.args.self.now.table.items c.args.column ≡ Some c.index.result.now =
    slice_get_read c.args.self.now.table.items (vec_len c.args.self.now.table) c.args.column c.index.result.now (search rules) (omega (arith, c.if-place-len.false, c.len.ensures)) c.index.ensures
    in
    sym (base_is c.args.self.now all c.args.column c.in-Some.base h (at ∙ ap Some c.in-Some.is))
