use Rattle.std.proofs.Common.{◌≡◌, ap, ◌∙◌, arith}
use Rattle.std.specs.Prelude.{not}
use Rattle.std.proofs.lemmas.Bool.{eq-eqb}
use Rattle.cw_audit.proofs.Spanning.Between.{not_over_itself}
use Rattle.cw_audit.proofs.spans.Spans.is_above.Goals as goal

pub returns-else-a-n : goal.returns-else-a-n
returns-else-a-n c =
    let same : c.args.a ≡ c.args.n = omega arith in
    ap not (eq-eqb c.args.a c.args.n same) ∙ not_over_itself c.args.tree.now c.nodes.ensures.numbered c.args.a c.args.n c.requires.n same
