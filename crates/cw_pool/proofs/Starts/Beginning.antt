-- A run that begins.
use Rattle.std.proofs.Common.{◌≡◌, List, [], sym, refl, subst, false}
use Rattle.std.proofs.lemmas.List.Elements.{All-nil}
use Rattle.cw_strand.specs.Strands.{of_main, stays}
use Rattle.cw_job.specs.Jobs.{Job}
use Rattle.cw_job.specs.Room.Strands.{strands_of_job}
use Rattle.cw_log.specs.declared.token.Token.{Token}
use Rattle.cw_log.specs.Tokens.{root_token}
use Rattle.cw_course.specs.Courses.{nothing, starts}
use Rattle.cw_course.specs.Trails.{opens}
use Rattle.cw_body.specs.Bodies.{InBlocks, goes_from}
use Rattle.cw_pool.specs.declared.task.Mode.TheVariants as mode
use Rattle.cw_pool.specs.declared.task.Below.{Below}
use Rattle.cw_pool.specs.declared.task.Base.TheVariants as base
use Rattle.cw_pool.specs.Tasks as waiting
use Rattle.cw_pool.specs.Tasks.{Start, Fits, IsFree, IsRun, IsRunning}

abbrev first : Job → Start
first job = record { state = (strands_of_job job).start; begins = []; above = []; column = 0; from = 0; at = 0; fork = 0; split = false }

fits_root : (job : Job) → Fits root_token (first job) opens nothing
fits_root job = record { own = refl; joined = refl; strand = refl; place = refl; around = refl; falling = tt; fork = refl; split = refl }

free_root : (job : Job) → IsFree job root_token
free_root job = record { on = record { stop = refl; told = refl; unspent = All-nil _ }; none = All-nil _ }

module _ {T J : Type 0} (job : Job) (of : T → Token) where
  main_at_root : IsRun job → IsRunning {T = T} {J = J} job of root_token (goes_from job.program (strands_of_job job).start) mode.Goes [] base.Root
  main_at_root run = record {
    run = run;
    lowest = first job;
    based = refl;
    start = first job;
    trail = opens;
    course = nothing;
    reached = ([], of_main stays);
    written = fits_root job;
    below = waiting.bottom;
    stands = record { now = (strands_of_job job).start; stands = record { leads = tt; goes = starts }; there = refl; free = free_root job; phase = refl };
  }

  -- the strand of main, with the root's token
  pub main_begins : (x : Token) (body : InBlocks) (bs : List (Below T J)) → IsRun job → x ≡ root_token → body ≡ goes_from job.program (strands_of_job job).start → bs ≡ []
      → IsRunning job of x body mode.Goes bs base.Root
  main_begins x body bs run root start none =
      subst (λ (y : Token). IsRunning job of y body mode.Goes bs base.Root) (sym root)
      (subst (λ (b : InBlocks). IsRunning job of root_token b mode.Goes bs base.Root) (sym start)
      (subst (λ (us : List (Below T J)). IsRunning job of root_token (goes_from job.program (strands_of_job job).start) mode.Goes us base.Root) (sym none) (main_at_root run)))
