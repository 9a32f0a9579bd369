-- What the machine in memory shows of itself at the end.
use Rattle.std.proofs.Common.{◌≡◌, ℕ, refl, Option, Some, None, List}
use Rattle.std.specs.Option.{unwrap_or}
use Rattle.cw_strand.specs.declared.want.Want.{Want}
use Rattle.cw_strand.specs.declared.want.Want.TheVariants.{Fault}
use Rattle.cw_tree.specs.declared.picks.Turn.{Turn}
use Rattle.cw_job.specs.Jobs.{Job}
use Rattle.cw_serial.specs.declared.ends.SerialEnd.TheVariants as last
use Rattle.cw_serial.specs.Machine.{Machine, stands_at, end_of_strand, end_of_named}
use Rattle.cw_job.specs.Room.Strands.{StrandState, strands_of_job}
use Rattle.cw_serial.specs.InMemory.{before_end, want_before_end}
use Rattle.cw_serial.specs.Orders.{at_named, end_from}

module _ (job : Job) (m : Machine StrandState) (name place : ℕ) where
  by_want : (w : Want) → unwrap_or (stands_at (strands_of_job job) name w) (last.Stuck place) ≡ end_from (before_end (Some w)) name place
  by_want (Fault k) = refl
  by_want _ = refl

  by_strand : (o : Option StrandState) → unwrap_or (end_of_strand (strands_of_job job) name o) (last.Stuck place) ≡ end_from (want_before_end (strands_of_job job) o) name place
  by_strand None = refl
  by_strand (Some a) = by_want ((strands_of_job job).want a)

  pub end_named : (o : Option (List Turn)) → unwrap_or (end_of_named (strands_of_job job) m name o) (last.Stuck place) ≡ end_from (want_before_end (strands_of_job job) (at_named job m o)) name place
  end_named None = refl
  end_named (Some q) = by_strand (at_named job m (Some q))
