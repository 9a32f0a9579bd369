use Rattle.std.proofs.Common.{rules, ◌≡◌, ℕ, ◌<◌, subst}
use Rattle.cw_log.specs.declared.board.Forked.{Forked}
use Rattle.cw_log.specs.declared.board.Forked.TheVariants.{Two}
use Rattle.cw_log.specs.declared.token.Token.{Token}
use Rattle.cw_log.specs.Answers.{Forks}
use Rattle.cw_log.specs.Tokens.{forked, right_of}
use Rattle.cw_steps.specs.declared.table.StrandToken.{StrandToken}
use Rattle.cw_steps.specs.Stands.{token_of}
use Rattle.cw_board.proofs.named.NamedBoardSharedBoard.fork.Goals as goal

pub returns-in-Ok-Two-clause-ok : goal.returns-in-Ok-Two-clause-ok
returns-in-Ok-Two-clause-ok g c =
    let Tells : Forked StrandToken → Type 0 = Forks token_of (token_of c.token.inside.token) in
    let tells : Tells (Two c.in-Ok-Two.fork c.in-Ok-Two.left c.in-Ok-Two.right) = subst Tells c.in-Ok-Two.field-0-is c.in-Ok-Two.ensures.ok in
    let same : token_of c.token.inside.token ≡ c.args.token = search rules in
    let Is : Token → Type 0 = λ x.
    (0 < c.in-Ok-Two.fork) × ((stamp : ℕ) × (token_of c.in-Ok-Two.left ≡ forked x stamp c.in-Ok-Two.fork)) × ((column : ℕ) × (token_of c.in-Ok-Two.right ≡ right_of x c.in-Ok-Two.fork column)) in
    subst Is same tells
