use Rattle.cw_open.proofs.Reordered.History.{cells_stay, journals_stay, ends_stay, cancels_stay, refusals_stay, rolls_back_stays, faults_stay}
use Rattle.cw_open.proofs.closed_in_order.Goals as goal

pub returns : goal.returns
returns c = record {
  cells = cells_stay;
  journals = journals_stay;
  ends = ends_stay;
  cancels = cancels_stay;
  refusals = refusals_stay;
  rolls_back = rolls_back_stays;
  faults = faults_stay;
}
