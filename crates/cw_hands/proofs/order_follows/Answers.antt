use Rattle.cw_hands.proofs.Laws.Order.{order_is_kept}
use Rattle.cw_hands.proofs.Shared.Order.{order_follows}
use Rattle.cw_hands.proofs.order_follows.Goals as goal

pub returns : goal.returns
returns c = record { follows = order_follows; kept = order_is_kept }
