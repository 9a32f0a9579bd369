-- What a strand comes to by itself is the same in each job of its program.
use Rattle.std.proofs.Common.{◌≡◌, ℕ, zero, suc, List, [], ℤ, Bool, refl, ap, sym, ◌∙◌, subst}
use Rattle.std.specs.Prelude.{if◌then◌else◌}
use Rattle.cw_code.specs.declared.Limits.{Limits}
use Rattle.cw_code.specs.declared.instruction.Code.{Code}
use Rattle.cw_code.specs.declared.program.Program.{Program}
use Rattle.cw_strand.specs.declared.want.Want.{Want}
use Rattle.cw_strand.specs.declared.want.Want.TheVariants.{Done, Sync}
use Rattle.cw_strand.specs.declared.want.Given.{Given}
use Rattle.cw_strand.specs.declared.want.Given.TheVariants.{Nothing}
use Rattle.cw_strand.specs.Meaning.{stores_and_steps_left}
use Rattle.cw_strand.specs.Running.{LocalStep, on, wants, stuck, Running, Standing as Stands, stand_by, stand_within, stand}
use Rattle.cw_strand.specs.Coded.{State, runs, step, steps_left, with_value, left, joined}
use Rattle.cw_strand.specs.Standing.{StandsIn, StandsWanting}
use Rattle.cw_job.specs.declared.runner.Runner.{Runner}
use Rattle.cw_job.specs.declared.standing.Standing.{Standing}
use Rattle.cw_job.specs.Jobs.{Job, bare_job}
use Rattle.cw_job.specs.Room.Strands.{StrandState, state_of, strands_of_job, IsOf}
use Rattle.cw_job.specs.Room.Saves.{StandsAs}
use Rattle.cw_job.specs.Room.Runners.{IsAt, IsRunner, state_in}

module _ {S : Type 0} (r q : Running S) where
  by : (s : S) (x : LocalStep S) (go to : S → Stands S) → ((t : S) → go t ≡ to t) → stand_by r s x go ≡ stand_by q s x to
  by s (on t) go to same = same t
  by s (wants w t) go to same = refl
  by s stuck go to same = refl

module _ (code : Code) (main other : ℕ) (words others : List ℤ) (limits most : Limits) where
  within : (n : ℕ) (s : State) → stand_within (runs code main words limits) n s ≡ stand_within (runs code other others most) n s
  within zero s = by (runs code main words limits) (runs code other others most) s (step code s) (λ t. record { want = Done; state = t }) (λ t. record { want = Done; state = t }) (λ t. refl)
  within (suc n) s = by (runs code main words limits) (runs code other others most) s (step code s) (λ t. stand_within (runs code main words limits) n t) (λ t. stand_within (runs code other others most) n t) (λ t. within n t)

  pub same_stand : (s : State) → stand (runs code main words limits) s ≡ stand (runs code other others most) s
  same_stand s = within (stores_and_steps_left s.limits (steps_left code s) s.size) s

-- it does not matter in which job of its program a state goes on by itself
pub comes_to : (job : Job) (program : Program) (s : State) → job.program ≡ program
    → stand (runs program.code program.main [] (bare_job program).limits) s ≡ stand (runs job.program.code job.program.main job.words job.limits) s
comes_to job program s same =
    let P : Program → Type 0 = λ p. stand (runs p.code p.main [] (bare_job p).limits) s ≡ stand (runs job.program.code job.program.main job.words job.limits) s in
    let there : P job.program = same_stand job.program.code job.program.main job.program.main [] job.words (bare_job job.program).limits job.limits s in
    subst P same there

-- ## What a strand on its way comes to

module _ (job : Job) (program : Program) (same : job.program ≡ program) where
  pub answer_in : (a : StrandState) (given : Given) → (strands_of_job (bare_job program)).answer a given ≡ (strands_of_job job).answer a given
  unfolding strands_of_job
  answer_in a given = comes_to job program (with_value given a.state) same

  pub right_in : (x : Standing) (a : StrandState) → x.strand ≡ a.state → (strands_of_job (bare_job program)).answer (state_of x) Nothing ≡ (strands_of_job job).right a
  unfolding strands_of_job state_of
  right_in x a at = comes_to job program x.strand same ∙ ap (stand (runs job.program.code job.program.main job.words job.limits)) at

  pub left_in : (x : Standing) (a : StrandState) → x.strand ≡ left a.state → (strands_of_job (bare_job program)).answer (state_of x) Nothing ≡ (strands_of_job job).left a
  unfolding strands_of_job state_of
  left_in x a at = comes_to job program x.strand same ∙ ap (stand (runs job.program.code job.program.main job.words job.limits)) at

  pub joined_in : (x : Standing) (a l : StrandState) → x.strand ≡ joined a.state l.state → (strands_of_job (bare_job program)).answer (state_of x) Nothing ≡ (strands_of_job job).joined a l
  unfolding strands_of_job state_of
  joined_in x a l at = comes_to job program x.strand same ∙ ap (stand (runs job.program.code job.program.main job.words job.limits)) at

-- ## How it stands

-- a sync asks for no more than that the strand stands in its code
pub at_sync : (program : Program) (x : Standing) → x.want ≡ Sync → StandsIn program.code x.strand → IsOf program x
unfolding IsOf
at_sync program x w stands = record {
  stands = stands;
  beside = λ e. absurd (cc (w, e));
  begun = λ e. absurd (cc (w, e));
}

-- a join changes only what was spent and counted
pub joined_as : (x : Standing) (a : StrandState) (l : State) → x.strand ≡ joined a.state l → StandsAs (state_of x) a
unfolding StandsAs state_of
joined_as x a l at = let P : State → Type 0 = λ s. s ≡ record a.state { fuel = s.fuel; size = s.size } in subst P (sym at) refl

-- ## At its want

pub at_state : (program : Program) (x : Runner) → IsAt x → state_in program x ≡ state_of x.standing
unfolding state_in IsAt
at_state program x at = ap (λ (b : Bool). if b then (strands_of_job (bare_job program)).answer (state_of x.standing) Nothing else state_of x.standing) at

-- once it ran there
pub ran_to : (program : Program) (x y : Runner) → state_in program y ≡ state_in program x → IsAt y → state_of y.standing ≡ state_in program x
ran_to program x y same at = sym (at_state program y at) ∙ same

-- it wants there what it comes to
pub wanting : (program : Program) (x y : Runner) (w : Want) → state_in program y ≡ state_in program x → IsAt y → IsRunner program y → (strands_of_job (bare_job program)).want (state_in program x) ≡ w
    → StandsWanting program.code w y.standing.strand
unfolding strands_of_job state_of IsRunner IsOf
wanting program x y w same at is e =
    let there : y.standing.want ≡ w = ap (λ (a : StrandState). a.want) (ran_to program x y same at) ∙ e in
    subst (λ (v : Want). StandsWanting program.code v y.standing.strand) there is
