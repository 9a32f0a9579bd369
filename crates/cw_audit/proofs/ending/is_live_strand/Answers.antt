use Rattle.std.proofs.Common.{ap, sym, ◌∙◌, arith, length, ◌<◌}
use Rattle.std.specs.Prelude.{◌&&◌}
use Rattle.cw_tree.specs.Accesses.{is_live}
use Rattle.cw_tree.proofs.Lists.{length_map_below}
use Rattle.cw_tree.proofs.Walks.There.{strand_there}
use Rattle.cw_audit.proofs.Living.{live_read}
use Rattle.cw_audit.proofs.ending.is_live_strand.Goals as goal

pub bounds-lives-n : goal.bounds-lives-n
bounds-lives-n c =
    let t = c.args.tree.now in
    let there : c.args.n < length t = strand_there t c.args.n (sym c.is_strand.ensures ∙ c.if-is_strand.true) in
    omega (arith, ap length c.requires, length_map_below (is_live t) (length t))

pub returns-then-is_strand : goal.returns-then-is_strand
returns-then-is_strand c =
    let t = c.args.tree.now in
    let strand = sym c.is_strand.ensures ∙ c.if-is_strand.true in
    live_read t c.args.lives.now (length t) c.args.n c.requires (strand_there t c.args.n strand) ∙ sym (ap (λ b. b && is_live t c.args.n) strand)
