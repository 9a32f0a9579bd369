use Rattle.std.proofs.Common.{◌+◌, ◌∙◌, arith}
use Rattle.std.proofs.lemmas.List.{drop-drop}
use Rattle.cw_compile.proofs.Declarations.{drop_next}
use Rattle.cw_compile.proofs.locals.Locals.forget.Goals as goal

pub loop-self-preserved : goal.loop-self-preserved
loop-self-preserved g c =
    let one = c.in_ok-forget_newest.ensures.ok in
    let gone = c.loop-self.invariant.fewer in
    record {
      left = rw one (drop_next c.loop-self.self c.args.count (omega arith) ∙ c.loop-self.invariant.left);
      fewer = (gone.0 + 1, rw (one, gone.1) (drop-drop 1 gone.0 c.args.self.now));
    }
