use Rattle.std.proofs.Common.{◌≡◌, ap, sym, ◌∙◌, arith, length, refl, true, false}
use Rattle.cw_tree.specs.Accesses.{is_live}
use Rattle.cw_tree.proofs.Lists.{length_map_below}
use Rattle.cw_audit.proofs.Living.{live_read}
use Rattle.cw_audit.proofs.cancels.live_cancel_holds.Goals as goal

pub bounds-lives-n : goal.bounds-lives-n
bounds-lives-n c = omega (arith, ap length c.requires.lives, length_map_below (is_live c.args.tree.now) (length c.args.tree.now))

pub returns-then-not-lives-n : goal.returns-then-not-lives-n
returns-then-not-lives-n c =
    let t = c.args.tree.now in
    let n = c.args.n in
    let gone : is_live t n ≡ false = sym (live_read t c.args.lives.now (length t) n c.requires.lives c.requires.there) ∙ c.if-not-lives-n.true in
    (λ e live. absurd (cc (live, gone)), λ w. refl)

pub returns : goal.returns
returns c =
    let t = c.args.tree.now in
    let n = c.args.n in
    let lives : is_live t n ≡ true = sym (live_read t c.args.lives.now (length t) n c.requires.lives c.requires.there) ∙ c.if-not-lives-n.false in
    (λ e live. c.cancel_holds.ensures.0 e, λ w. c.cancel_holds.ensures.1 (w lives))
