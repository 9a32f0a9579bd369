use Rattle.cw_tree.proofs.ChainLaws.Change.{conflicts_at, conflicts_grow, conflicts_close, newest_grow, newest_close}
use Rattle.cw_tree.proofs.laws.conflicts_at_places.Goals as goal

pub returns : goal.returns
returns c = record { place = conflicts_at; grow = conflicts_grow; close = conflicts_close; newest_grow = newest_grow; newest_close = newest_close }
