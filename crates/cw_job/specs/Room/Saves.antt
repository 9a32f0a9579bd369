-- What is kept of the begin of a block, and which strands may go back to it.
use Rattle.std.specs.Prelude.{◌≡◌, ℕ}
use Rattle.cw_code.specs.declared.program.Program.{Program}
use Rattle.cw_strand.specs.declared.want.Want.TheVariants.{Begin}
use Rattle.cw_strand.specs.Standing.{StandsWanting}
use Rattle.cw_strand.specs.Saving.{Kept, kept_of, Inside, StaysIn, StandsLike}
use Rattle.cw_job.specs.Jobs.{Job}
use Rattle.cw_job.specs.Room.Strands.{StrandState, strands_of_job}

-- `saved` is what is kept of `begin`, the begin of a block of the program.
unfoldable pub IsSavedOf : Program → Kept → StrandState → Type 0
IsSavedOf program saved begin = (begin.want ≡ Begin) × (StandsWanting program.code Begin begin.state × (saved ≡ kept_of begin.state))

-- The two strands are in the same state, whatever each spent and counted.
unfoldable pub StandsAs : (now there : StrandState) → Type 0
StandsAs now there = StandsLike now.state there.state

-- `saved` was kept at the begin of a block. The strand is in the state of one that is inside the block and does not
-- want the block's own end.
pub record MayRollBack (saved : Kept) (now : StrandState) : Type 0 where
  pub job : Job
  pub begin : StrandState
  pub is_saved : IsSavedOf job.program saved begin
  pub there : StrandState
  pub forks : ℕ
  pub inner : ℕ
  pub inside : Inside (strands_of_job job) begin forks inner there
  pub stays : StaysIn ((strands_of_job job).want there) inner
  pub like : StandsAs now there
