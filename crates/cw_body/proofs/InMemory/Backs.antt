-- A strand somewhere inside the blocks around it may go back to the begin of each, at its want or on its way there.
use Rattle.std.proofs.Common.{◌≢◌, ℕ, suc, ◌-◌, List, [], ◌∷◌}
use Rattle.cw_code.specs.declared.program.Program.{Program}
use Rattle.cw_strand.specs.declared.want.Want.TheVariants.{End}
use Rattle.cw_strand.specs.Strands.{Strands}
use Rattle.cw_job.specs.Jobs.{bare_job}
use Rattle.cw_job.specs.Room.Strands.{StrandState}
use Rattle.cw_job.specs.Room.Saves.{MayRollBack, StandsAs}
use Rattle.cw_job.proofs.Room.Backs.{stands_as_it}
use Rattle.cw_body.specs.declared.begin.Begin.{Begin}
use Rattle.cw_body.specs.Bodies.{strands_of_program}
use Rattle.cw_body.specs.InMemory.{begin_of, IsInsideEach, IsSomewhereInside, IsSomewhereInsideEach, IsKept}
use Rattle.cw_body.proofs.InMemory.Answered.{stays_other}

-- it is at its want
pub at_each : (s : Strands StrandState) (level : ℕ) (a : StrandState) (n : ℕ) (bs : List Begin) → IsInsideEach s level a n bs → IsSomewhereInsideEach s level a a bs
at_each s level a n [] h = tt
at_each s level a n (b ∷ bs) h =
    (record { since = h.0.since; there = a; forks = level - b.level; inner = n; inside = h.0.inside; stays = λ off. stays_other (s.want a) n off; like = stands_as_it a }, at_each s level a (suc n) bs h.1)

-- it is on its way: at the place of a strand that was inside, with a want that is no end
pub way_each : (s : Strands StrandState) (level k : ℕ) (next place there : StrandState) → s.want there ≢ End → StandsAs place there → (n m : ℕ) (bs : List Begin) → IsInsideEach s level there n bs → IsInsideEach s k next m bs
    → IsSomewhereInsideEach s k next place bs
way_each s level k next place there off like n m [] h g = tt
way_each s level k next place there off like n m (b ∷ bs) h g =
    (record { since = g.0.since; there = there; forks = level - b.level; inner = n; inside = h.0.inside; stays = λ any. stays_other (s.want there) n off; like = like }, way_each s level k next place there off like (suc n) (suc m) bs h.1 g.1)

abbrev pub may_go_back : (program : Program) (level : ℕ) (next place : StrandState) (b : Begin) (bs : List Begin) → IsKept program b bs → IsSomewhereInside (strands_of_program program) level next place b → (strands_of_program program).want next ≢ End → MayRollBack b.saved place
may_go_back program level next place b bs kept h off = record {
  job = bare_job program;
  begin = begin_of b;
  is_saved = kept.saved;
  there = h.there;
  forks = h.forks;
  inner = h.inner;
  inside = h.inside;
  stays = h.stays off;
  like = h.like;
}
