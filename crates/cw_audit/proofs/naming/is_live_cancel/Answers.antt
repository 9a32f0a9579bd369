use Rattle.std.proofs.Common.{ap, sym, ◌∙◌, arith, length}
use Rattle.std.specs.Prelude.{◌&&◌, is_some}
use Rattle.cw_tree.specs.Accesses.{is_live}
use Rattle.cw_tree.proofs.Lists.{length_map_below}
use Rattle.cw_audit.specs.Backs.{list_told}
use Rattle.cw_audit.proofs.GivenUp.{map_some}
use Rattle.cw_audit.proofs.Living.{live_read}
use Rattle.cw_audit.proofs.naming.is_live_cancel.Goals as goal

pub bounds-lives-n : goal.bounds-lives-n
bounds-lives-n c = omega (arith, ap length c.requires.lives, length_map_below (is_live c.args.tree.now) (length c.args.tree.now))

pub returns-then-lives-n : goal.returns-then-lives-n
returns-then-lives-n c =
    let t = c.args.tree.now in
    let live = live_read t c.args.lives.now (length t) c.args.n c.requires.lives c.requires.there in
    c.is_some.ensures ∙ sym (map_some (λ back. back.now) c.list_told.result) ∙ ap is_some c.list_told.ensures ∙ ap (λ b. b && is_some (list_told t c.args.n)) (sym c.if-lives-n.true ∙ live)

pub returns-else-lives-n : goal.returns-else-lives-n
returns-else-lives-n c =
    let t = c.args.tree.now in
    let live = live_read t c.args.lives.now (length t) c.args.n c.requires.lives c.requires.there in
    c.if-lives-n.false ∙ ap (λ b. b && is_some (list_told t c.args.n)) (sym c.if-lives-n.false ∙ live)
