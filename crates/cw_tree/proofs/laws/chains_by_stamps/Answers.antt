use Rattle.cw_tree.proofs.ChainLaws.Stamps.{stamps_grow, stamps_close, stamps_extend, parts_of_stamps, each_stamp_follows, some_of_stamps, stamps_beneath, stamp_conflicts_grow, stamp_conflicts_close}
use Rattle.cw_tree.proofs.laws.chains_by_stamps.Goals as goal

pub returns : goal.returns
returns c = record { grow = stamps_grow; close = stamps_close; extend = stamps_extend; parts = parts_of_stamps; each = each_stamp_follows; some = some_of_stamps; beneath = stamps_beneath; conflicts_grow = stamp_conflicts_grow; conflicts_close = stamp_conflicts_close }
