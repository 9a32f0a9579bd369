-- Compiled code wants what the source wants.
use Rattle.std.proofs.Common.{ℤ, List}
use Rattle.cw_text.specs.Syntax.{Declaration}
use Rattle.cw_code.specs.declared.Limits.{Limits}
use Rattle.cw_strand.specs.Running.{Settles}
use Rattle.cw_strand.specs.Pasts.{WantTheSame}
use Rattle.cw_strand.specs.Meaning as meaning
use Rattle.cw_strand.specs.Laws.{IsFaultless, compiled}
use Rattle.cw_strand.proofs.Following.{IsFollowed, want_the_same}
use Rattle.cw_strand.proofs.Sharing.{over_syntax, over_code, Alike, answered_alike, joined_alike}
use Rattle.cw_strand.proofs.Compiled.{steps}
use Rattle.cw_strand.proofs.ElementCount.{element_count}
use Rattle.cw_strand.proofs.MainCode.{functions_named, starts}

module _ (ds : List Declaration) (words : List ℤ) (limits : Limits) (faultless : IsFaultless ds words) where
  is_followed : IsFollowed (over_syntax ds words limits) (over_code ds words limits) (Alike ds words limits)
  is_followed = record {
    elements = element_count ds;
    first = starts ds words limits faultless;
    step = steps ds words limits (functions_named ds faultless.named);
    answered = answered_alike ds words limits;
    joined = joined_alike ds words limits;
  }

  -- where both settle
  pub same_wants : Settles (over_syntax ds words limits) → Settles (over_code ds words limits) → WantTheSame (meaning.strands_of_syntax ds words limits) (compiled ds words limits)
  same_wants settles settled = want_the_same (over_syntax ds words limits) (over_code ds words limits) (Alike ds words limits) is_followed settles settled
