use Rattle.std.proofs.Common.{nat_lt, inr}
use Rattle.cw_board.proofs.Rolls.{low_kept}
use Rattle.cw_board.proofs.rolling.cut_from.Goals as goal

pub returns-then-may_roll-clause-low : goal.returns-then-may_roll-clause-low
returns-then-may_roll-clause-low c = λ most low. low_kept most c.args.cell.now c.roll.new.self (λ e. nat_lt e.mark.stamp c.args.stamp) c.roll.ensures.entries low

pub returns-then-may_roll-clause-left : goal.returns-then-may_roll-clause-left
returns-then-may_roll-clause-left c = inr (record { stamp = c.args.stamp; first = c.roll.ensures.first; entries = c.roll.ensures.entries; cleaned = c.roll.ensures.cleaned })
