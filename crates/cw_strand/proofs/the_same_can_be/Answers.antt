use Rattle.cw_strand.proofs.Pasts.{can_be, can_be_back, want_back}
use Rattle.cw_strand.proofs.the_same_can_be.Goals as goal

pub returns : goal.returns
returns g c = record {
  pasts = λ s t same p. (can_be s t same p, can_be_back s t same p);
  back = λ s t same. want_back s t same;
}
