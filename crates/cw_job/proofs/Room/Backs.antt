-- Which strand stands where another one does, and which may go back to the begin of a block.
use Rattle.std.proofs.Common.{◌≡◌, ◌∙◌, refl, ap, sym, subst}
use Rattle.cw_code.specs.declared.program.Program.{Program}
use Rattle.cw_strand.specs.declared.want.Want.{Want}
use Rattle.cw_strand.specs.declared.want.Want.TheVariants.{Begin}
use Rattle.cw_strand.specs.Coded.{State}
use Rattle.cw_strand.specs.Saving.{Kept, kept_of, MayGoBack as MayGo}
use Rattle.cw_strand.specs.Standing.{StandsWanting}
use Rattle.cw_job.specs.declared.standing.Standing.{Standing}
use Rattle.cw_job.specs.Room.Strands.{StrandState, state_of, strands_of_job}
use Rattle.cw_job.specs.Room.Saves.{IsSavedOf, StandsAs, MayRollBack}

pub stands_as_it : (a : StrandState) → StandsAs a a
unfolding StandsAs
stands_as_it a = refl

pub may_go : (saved : Kept) (x : StrandState) → MayRollBack saved x → MayGo saved x.state
unfolding strands_of_job IsSavedOf StandsAs
may_go saved x m = record {
  code = m.job.program.code;
  sound = m.job.program.sound;
  main = m.job.program.main;
  words = m.job.words;
  limits = m.job.limits;
  begin = m.begin;
  wants = m.is_saved.0;
  stands = m.is_saved.1.0;
  is_kept = m.is_saved.1.1;
  there = m.there;
  forks = m.forks;
  inner = m.inner;
  inside = m.inside;
  stays = m.stays;
  like = m.like;
}

-- what has the begin's state and wants a begin is the begin
pub begin_is : (saved : Kept) (x : StrandState) (m : MayRollBack saved x) (s : State) → ((g : MayGo saved x.state) → s ≡ g.begin.state) → record { want = Begin; state = s } ≡ m.begin
unfolding IsSavedOf may_go
begin_is saved x m s is = ap (λ (y : State). record { want = Begin; state = y }) (is (may_go saved x m)) ∙ ap (λ (w : Want). record { want = w; state = m.begin.state }) (sym m.is_saved.0)

-- and stands so in its program
pub begin_wanting : (saved : Kept) (x : StrandState) (m : MayRollBack saved x) (s : State) → ((g : MayGo saved x.state) → s ≡ g.begin.state) → StandsWanting m.job.program.code Begin s
unfolding IsSavedOf may_go
begin_wanting saved x m s is = subst (λ (y : State). StandsWanting m.job.program.code Begin y) (sym (is (may_go saved x m))) m.is_saved.1.0

-- what is kept of a strand at a begin
pub saved_of : (program : Program) (saved : Kept) (x : Standing) → x.want ≡ Begin → StandsWanting program.code x.want x.strand → saved ≡ kept_of x.strand → IsSavedOf program saved (state_of x)
unfolding IsSavedOf state_of
saved_of program saved x e stands is = (e, (subst (λ (w : Want). StandsWanting program.code w x.strand) e stands, is))
