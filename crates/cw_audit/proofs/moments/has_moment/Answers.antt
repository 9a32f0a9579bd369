use Rattle.cw_audit.proofs.Timing.{moment_from, moment_to}
use Rattle.cw_audit.proofs.moments.has_moment.Goals as goal

pub returns-then-is_under : goal.returns-then-is_under
returns-then-is_under c =
    let t = c.args.tree.now in
    let x = c.args.conflict.now in
    let asker = c.requires.asker in
    let floor = c.requires.floors.each x.asker asker in
    let after_block = c.requires.firsts.each c.args.block c.requires.block in
    let after_asker = c.requires.firsts.each x.asker asker in (
      λ e. moment_from t x c.args.block _ floor ((after_block _).1 (c.is_under.ensures.0 c.if-is_under.true)) ((after_asker x.last).1 (c.is_under-then-is_under.ensures.0 e)),
      λ h. c.is_under-then-is_under.ensures.1 ((after_asker x.last).0 (moment_to t x c.args.block _ floor h).1),
    )

pub returns-else-is_under : goal.returns-else-is_under
returns-else-is_under c =
    let t = c.args.tree.now in
    let x = c.args.conflict.now in
    let floor = c.requires.floors.each x.asker c.requires.asker in
    let after_block = c.requires.firsts.each c.args.block c.requires.block in (
      λ e. absurd (cc (e, c.if-is_under.false)),
      λ h. c.is_under.ensures.1 ((after_block _).0 (moment_to t x c.args.block _ floor h).0),
    )
