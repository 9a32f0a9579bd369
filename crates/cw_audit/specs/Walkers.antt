-- What a walk over a tree has in memory, and what that means.
use Rattle.std.specs.Prelude.{◌≡◌, map, Option, Some, None, option_map, All}
use Rattle.cw_code.specs.declared.program.Program.{Program}
use Rattle.cw_strand.specs.Strands.{Strands}
use Rattle.cw_tree.specs.Nodes.{all_nodes}
use Rattle.cw_tree.specs.Shape.{IsTree}
use Rattle.cw_tree.specs.Accesses.{is_live}
use Rattle.cw_job.specs.declared.standing.Standing.{Standing}
use Rattle.cw_job.specs.Jobs.{job_of_task}
use Rattle.cw_job.specs.Room.Strands.{StrandState, IsOf, state_of, strands_of_job}
use Rattle.cw_audit.specs.declared.strands.told.Told.{Told}
use Rattle.cw_audit.specs.declared.strands.walker.Walker.{Walker}
use Rattle.cw_audit.specs.Later.{AreLaters}
use Rattle.cw_audit.specs.Visits.{WalkSpot, IsPlaceOf}

-- the strands of the job that a sheet tells of
abbrev pub law_of_told : Told → Strands StrandState
law_of_told told = strands_of_job (job_of_task told.task)

-- what is passed along with the tree is right
pub record IsTold (told : Told) : Type 0 where
  pub tree : IsTree told.tree.now
  pub laters : AreLaters told.tree.now told.laters.now
  pub lives : told.lives.now ≡ map (is_live told.tree.now) (all_nodes told.tree.now)
  pub place : IsPlaceOf told.tree.now told.end.now told.place

abbrev pub state_there : Option Standing → Option StrandState
state_there = option_map state_of

-- where the strands of a walker are
abbrev pub spot_of : Walker → WalkSpot StrandState
spot_of w = record { now = state_there w.strand; kept = map state_there w.kept }

-- a strand in memory, if there is one, is of the program
abbrev pub IsOfIfThere : Program → Option Standing → Type 0
IsOfIfThere program None = Unit {0}
IsOfIfThere program (Some x) = IsOf program x

-- so are all strands of a walker
pub record HasStrandsOf (program : Program) (w : Walker) : Type 0 where
  pub strand : IsOfIfThere program w.strand
  pub kept : All (IsOfIfThere program) w.kept
