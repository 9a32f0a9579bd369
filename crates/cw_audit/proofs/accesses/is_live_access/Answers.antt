use Rattle.std.proofs.Common.{ap, sym, ◌∙◌, arith, length}
use Rattle.std.specs.Prelude.{◌&&◌}
use Rattle.cw_tree.specs.Accesses.{is_live}
use Rattle.cw_tree.proofs.Lists.{length_map_below}
use Rattle.cw_audit.proofs.Living.{live_read}
use Rattle.cw_audit.proofs.accesses.is_live_access.Goals as goal

pub bounds-lives-n : goal.bounds-lives-n
bounds-lives-n c = omega (arith, ap length c.requires.lives, length_map_below (is_live c.args.tree.now) (length c.args.tree.now))

pub returns-then-is_access : goal.returns-then-is_access
returns-then-is_access c =
    let t = c.args.tree.now in
    live_read t c.args.lives.now (length t) c.args.n c.requires.lives c.requires.there ∙ sym (ap (λ b. b && is_live t c.args.n) (sym c.is_access.ensures ∙ c.if-is_access.true))
