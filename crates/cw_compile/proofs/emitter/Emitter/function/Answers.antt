use Rattle.std.proofs.Common.{◌≡◌, ◌∙◌, length, refl, sym}
use Rattle.cw_text.specs.Syntax.{block_of}
use Rattle.cw_strand.specs.Compilation.{most}
use Rattle.cw_compile.proofs.Most.{most_is_peak, length-params}
use Rattle.cw_compile.proofs.emitter.Emitter.function.Goals as goal

pub returns-clause-func : goal.returns-clause-func
returns-clause-func c =
    let n = length c.args.params.now in
    let count : c.count-params.result ≡ n = c.count-params.ensures ∙ rw (c.in_ok-params.ensures, c.in_ok-forget.ensures) (length-params c.args.params.now c.args.self.now.slots) in
    let most : c.emit-3.new.self.most ≡ most n (block_of c.args.body.now) =
    rw (c.in_ok-emit-3.ensures, c.in_ok-emit-2.ensures, c.in_ok-emit.ensures, c.in_ok-block.ensures, ← c.count-params.ensures, count) (sym (most_is_peak n (block_of c.args.body.now))) in
    rw (count, most, c.place-start.ensures, c.place.ensures) refl
