-- Laws: what stays true of a strand that goes on.
use Rattle.std.specs.Prelude.{ℕ}
use Rattle.cw_tree.specs.declared.node.Kind.{Kind}
use Rattle.cw_tree.specs.declared.node.BlockState.{BlockState}
use Rattle.cw_log.specs.declared.token.Token.{Token}
use Rattle.cw_log.specs.Tokens.{GoesFree, IsLater, made, began, ended, forked, right_of, once_split}

abbrev pub GoesOnAfterNodes : Type 0
GoesOnAfterNodes = (budget stamp : ℕ) (kind : Kind) (x : Token) → GoesFree budget x → GoesFree budget (made x kind stamp)

abbrev pub GoesOnInBlocks : Type 0
GoesOnInBlocks = (budget stamp : ℕ) (x : Token) → GoesFree budget x → IsLater x stamp → GoesFree budget (began x stamp)

abbrev pub GoesOnBehindBlocks : Type 0
GoesOnBehindBlocks = (budget end : ℕ) (state : BlockState) (x : Token) → GoesFree budget x → GoesFree budget (ended x state end)

-- both strands of a fork go on, the right one once its fork is split
abbrev pub BothGoOn : Type 0
BothGoOn = (budget stamp fork column : ℕ) (x : Token) → GoesFree budget x → GoesFree budget (forked x stamp fork) × GoesFree budget (once_split (right_of x fork column))
