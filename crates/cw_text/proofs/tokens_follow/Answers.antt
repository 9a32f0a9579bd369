use Rattle.cw_text.proofs.Places.{follow}
use Rattle.cw_text.proofs.tokens_follow.Goals as goal

pub returns : goal.returns
returns c = follow
