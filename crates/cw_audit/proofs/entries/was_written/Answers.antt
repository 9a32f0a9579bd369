use Rattle.std.proofs.Common.{◌≡◌, arith, ap, sym, ◌∙◌, length, rules, true, Some}
use Rattle.cw_tree.specs.Accesses.{is_live}
use Rattle.cw_tree.proofs.Lists.{length_map_below}
use Rattle.cw_audit.specs.LiveAccesses.{cell_accessed}
use Rattle.cw_audit.proofs.Living.{live_read}
use Rattle.cw_audit.proofs.Shown.{shows_write}
use Rattle.cw_audit.proofs.entries.was_written.Goals as goal

pub bounds-lives-write : goal.bounds-lives-write
bounds-lives-write c = omega (arith, ap length c.requires.lives, length_map_below (is_live c.args.tree.now) (length c.args.tree.now))

pub returns : goal.returns
returns c e =
    let t = c.args.tree.now in
    let n = c.args.write in
    let live : is_live t n ≡ true = sym (live_read t c.args.lives.now (length t) n c.requires.lives c.requires.write) ∙ c.if-not-lives-write.false in
    let cell : cell_accessed t n ≡ Some c.args.cell = sym c.cell_accessed.ensures ∙ c.in-Some.is ∙ ap Some (search rules) in
    shows_write t c.args.block c.args.stamp c.args.cell n live cell (sym c.has_written.ensures ∙ e)
