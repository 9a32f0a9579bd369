use Rattle.std.proofs.Common.{ℕ, sym, subst, length}
use Rattle.cw_code.specs.declared.instruction.Code.{Code}
use Rattle.cw_strand.specs.Coded.{MainTakes}
use Rattle.cw_strand.specs.Compilation.{code_of}
use Rattle.cw_sheet.specs.Contents.{contents_of}
use Rattle.cw_audit.proofs.words.takes_its_words.Goals as goal

pub returns : goal.returns
returns c =
    let p = c.args.program.now in
    let ws = c.args.sheet.now.words in
    let n = c.len.result in
    let is = c.requires in
    let L : ℕ → Type 0 = λ k. MainTakes p.code p.main k in
    let P : Code → Type 0 = λ code. MainTakes code p.main (length ws) in
    let Q : ℕ → Type 0 = λ main. MainTakes (code_of (contents_of c.args.sheet.now).source.items) main (length ws) in (
      λ e. subst Q is.main (subst P is.code (subst L c.len.ensures (c.takes_words.ensures.0 e))),
      λ w. c.takes_words.ensures.1 (subst L (sym c.len.ensures) (subst P (sym is.code) (subst Q (sym is.main) w))),
    )
