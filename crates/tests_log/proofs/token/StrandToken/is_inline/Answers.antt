use Rattle.std.proofs.Common.{rules, subst}
use Rattle.cw_log.specs.Tokens.{IsInline}
use Rattle.tests_log.specs.Kept.{open_of}
use Rattle.tests_log.proofs.Innermost.{innermost}
use Rattle.tests_log.proofs.token.StrandToken.is_inline.Goals as goal

pub returns-in-Some : goal.returns-in-Some
returns-in-Some c = λ t.
    let (rest, q) = innermost c.self.inside.forks.items c.in-Some.kept.now (search rules) in
    subst IsInline c.self.view_is (record { inner = open_of c.in-Some.kept.now; outer = rest; there = q; side = c.is_inline.ensures t })
