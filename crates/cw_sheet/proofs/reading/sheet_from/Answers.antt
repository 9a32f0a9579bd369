use Rattle.std.proofs.Common.{sym, subst, ◌∙◌}
use Rattle.std.proofs.lemmas.Result.{err_from_is_err_and}
use Rattle.cw_text.specs.Syntax.{source_of}
use Rattle.cw_sheet.specs.Taking.{FailsWith, place_of}
use Rattle.cw_sheet.proofs.Whole.{source_is}
use Rattle.cw_sheet.proofs.reading.sheet_from.Goals as goal

pub returns-in_err-rest : goal.returns-in_err-rest
returns-in_err-rest c =
    let p = err_from_is_err_and c.from_residual-in_err-rest.result c.from_residual-in_err-rest.ensures.1 in
    let s = source_of c.in_ok-ast.ast in
    rw (p.1, p.2)
    (subst (FailsWith c.in_err-rest.field-0.0) (sym (source_is (place_of c.args.cursor) (place_of c.heading.new.self) c.in_ok-heading.ensures s (place_of c.source.new.cursor) c.in_ok-ast.ensures)) (c.in_err-rest.ensures s))

pub returns : goal.returns
returns c =
    let s = source_of c.in_ok-ast.ast in
    source_is (place_of c.args.cursor) (place_of c.heading.new.self) c.in_ok-heading.ensures s (place_of c.source.new.cursor) c.in_ok-ast.ensures ∙ c.in_ok-rest.ensures s
