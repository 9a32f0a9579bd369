use Rattle.std.proofs.Common.{rules, ℕ, subst}
use mathlib.Core.Option.{none}
use Rattle.atomic_table.specs.Table.{step}
use Rattle.cw_steps.specs.Views.{LeavesIt}
use Rattle.cw_steps.proofs.Steps.Turning.{takes_at, took_free, took_not}
use Rattle.cw_steps.proofs.calls.take_as.Goals as goal

pub compare_exchange-found-requires : goal.compare_exchange-found-requires
compare_exchange-found-requires g c = (search rules, search rules, takes_at _ _ _ _ _ _ c.args.slot _ _ c.requires.what.0 c.requires.what.1 (search rules) c.requires.there)

pub returns-clause-taken : goal.returns-clause-taken
returns-clause-taken g c = λ t. took_free _ _ _ _ _ _ (step c.args.table.now.table_id.slots c.turn_word-word.result 0 1 none) _ _ _ c.requires.what.0 c.requires.what.2 c.requires.what.1 t c.compare_exchange-found.ensures.2

pub returns-clause-refused : goal.returns-clause-refused
returns-clause-refused g c = λ t. subst (λ (i : ℕ). LeavesIt i c.args.seat.now.me c.compare_exchange-found.new.seat.me) c.turn_word-word.ensures (took_not _ _ _ (step c.args.table.now.table_id.slots c.turn_word-word.result 0 1 none) _ _ _ t c.compare_exchange-found.ensures.2)
