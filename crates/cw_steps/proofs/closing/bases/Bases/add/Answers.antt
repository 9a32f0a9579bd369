use Rattle.std.proofs.Common.{rules, refl, sym, ap, ◌≡◌, ◌+◌, ◌∙◌, arith, Some, None}
use Rattle.std.specs.Prelude.{slice_get, vec_len}
use Rattle.std.proofs.lemmas.Option.{slice_get_read}
use Rattle.cw_steps.proofs.Leaving.Bases.{none_is, one_more}
use Rattle.cw_steps.proofs.closing.bases.Bases.add.Goals as goal

pub returns : goal.returns
returns c = λ ls l column nodes h.
    let at : slice_get c.args.self.now.table.items c.args.column ≡ Some c.index.result.now =
    slice_get_read c.args.self.now.table.items (vec_len c.args.self.now.table) c.args.column c.index.result.now (search rules) (omega (arith, c.if-place-len.false, c.len.ensures)) c.index.ensures
    in
    let empty : c.index.result.now ≡ None = none_is c.index.result.now (sym c.is_some.ensures ∙ c.if-is_some.false) in
    let grown : c.in-Some.next ≡ c.args.self.now.count + c.in-Ok.more = search rules in
    let many : c.in-Ok.more ≡ c.args.nodes = search rules in
    one_more c.args.self.now _ c.args.column ls l column (at ∙ ap Some empty) refl (omega (arith, grown, many, nodes)) h
