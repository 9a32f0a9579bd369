use Rattle.std.proofs.Common.{rules}
use Rattle.cw_log.specs.Tokens.{AreOfOneFork}
use Rattle.tests_log.specs.Kept.{open_of}
use Rattle.tests_log.proofs.Innermost.{innermost, none_open, of_both}
use Rattle.tests_log.proofs.token.StrandToken.is_beside.Goals as goal

pub returns-in-Some : goal.returns-in-Some
returns-in-Some c = λ t.
    let (b, e) = c.both.ensures t in
    let (rest, q) = innermost c.self.inside.forks.items c.in-Some.kept.now (search rules) in
    of_both AreOfOneFork c.self.view_is c.right.view_is (record {
      inner = open_of c.in-Some.kept.now;
      outer = rest;
      left = q;
      fork = c.is_beside.ensures b;
      right = none_open c.right.inside.forks.items (search rules);
    })
