use Rattle.std.proofs.Common.{ap, sym, ◌∙◌}
use Rattle.std.proofs.lemmas.Result.{err_from_is_err_and}
use Rattle.cw_text.specs.Syntax.{source_of}
use Rattle.cw_text.specs.Text.{reading}
use Rattle.cw_sheet.specs.Reading.{canonical, longest_source}
use Rattle.cw_sheet.specs.Taking.{place_of}
use Rattle.cw_sheet.proofs.Counted.{source_from, source_is, takes_as}
use Rattle.cw_sheet.proofs.Taking.{took_into}
use Rattle.cw_sheet.proofs.source_in.source.Goals as goal

pub returns-in_err-bytes : goal.returns-in_err-bytes
returns-in_err-bytes c =
    let p = err_from_is_err_and c.from_residual-in_err-bytes.result c.from_residual-in_err-bytes.ensures.1 in
    let start = place_of c.args.cursor.now in
    rw (p.1, p.2) (source_is start ∙ took_into _ _ _ (source_from start.line) c.in_ok-count.ensures.taken ∙ c.in_err-bytes.ensures start.line)

pub returns : goal.returns
returns c =
    let start = place_of c.args.cursor.now in
    let at = place_of c.source_bytes.new.cursor in
    let bytes = c.in_ok-bytes.bytes.now in
    takes_as c.canonical.result source_of (canonical c.line-line.result bytes (reading 2 longest_source bytes) at) _ at
    (source_is start ∙ took_into _ _ _ (source_from start.line) c.in_ok-count.ensures.taken ∙ c.in_ok-bytes.ensures start.line ∙ ap (λ l. canonical l bytes (reading 2 longest_source bytes) at) (sym c.line-line.ensures.line))
    (c.canonical.ensures at)
