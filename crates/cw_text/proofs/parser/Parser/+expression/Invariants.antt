use Rattle.std.proofs.Common.{[], ◌∷◌, ◌+◌, ◌-◌, ◌*◌}
use Rattle.cw_text.specs.Cursor.{count_of_lexemes}
use Rattle.cw_text.specs.Grammar.{operand, products, sums}
use Rattle.cw_text.specs.Parser.{ahead}
use Rattle.cw_text.proofs.Turns.{HasRead, HasReadArguments}
use Rattle.cw_text.proofs.parser.Parser.+expression.Given as goal

abbrev pub decreases-prefixed : goal.decreases-prefixed
decreases-prefixed l = 7 * (200 - l.self.now.depth)

abbrev pub decreases-bracketed : goal.decreases-bracketed
decreases-bracketed l = 7 * (200 - l.self.now.depth)

abbrev pub decreases-named : goal.decreases-named
decreases-named l = 7 * (200 - l.self.now.depth) + 1

abbrev pub decreases-arguments : goal.decreases-arguments
decreases-arguments l = 7 * (200 - l.self.now.depth)

abbrev pub decreases-argument_list : goal.decreases-argument_list
decreases-argument_list l = 7 * (200 - l.self.now.depth) + 6

abbrev pub decreases-operand : goal.decreases-operand
decreases-operand l = 7 * (200 - l.self.now.depth) + 2

abbrev pub decreases-product : goal.decreases-product
decreases-product l = 7 * (200 - l.self.now.depth) + 3

abbrev pub decreases-sum : goal.decreases-sum
decreases-sum l = 7 * (200 - l.self.now.depth) + 4

abbrev pub decreases-expr : goal.decreases-expr
decreases-expr l = 7 * (200 - l.self.now.depth) + 5

abbrev pub invariant-product-loop-op : goal.invariant-product-loop-op
invariant-product-loop-op l = HasRead (operand ∷ products ∷ []) products l.fn.self l.self l.left

abbrev pub decreases-product-loop-op : goal.decreases-product-loop-op
decreases-product-loop-op l = count_of_lexemes (ahead l.self)

abbrev pub invariant-sum-loop-op : goal.invariant-sum-loop-op
invariant-sum-loop-op l = HasRead (operand ∷ products ∷ sums ∷ []) sums l.fn.self l.self l.left

abbrev pub decreases-sum-loop-op : goal.decreases-sum-loop-op
decreases-sum-loop-op l = count_of_lexemes (ahead l.self)

abbrev pub invariant-argument_list-loop-self : goal.invariant-argument_list-loop-self
invariant-argument_list-loop-self l = HasReadArguments l.fn.self l.self l.list.items l.height

abbrev pub decreases-argument_list-loop-self : goal.decreases-argument_list-loop-self
decreases-argument_list-loop-self l = count_of_lexemes (ahead l.self)
