-- How a strand stands in the blocks around it after each call.
use Rattle.std.proofs.Common.{◌≡◌, ◌≢◌, ℕ, ◌+◌, ◌-◌, ◌<◌, List, ◌∷◌, map, refl, ap, sym, ◌∙◌, subst, arith, true}
use Rattle.std.specs.Prelude.{All}
use Rattle.cw_code.specs.declared.program.Program.{Program}
use Rattle.cw_strand.specs.declared.want.Want.{Want}
use Rattle.cw_strand.specs.declared.want.Want.TheVariants as want
use Rattle.cw_strand.specs.declared.want.Given.{Given}
use Rattle.cw_strand.specs.declared.want.Given.TheVariants.{Nothing}
use Rattle.cw_strand.specs.Strands.{Strands, is_over}
use Rattle.cw_strand.specs.Saving.{Inside, begun}
use Rattle.cw_job.specs.declared.runner.Runner.{Runner}
use Rattle.cw_job.specs.Room.Strands.{StrandState}
use Rattle.cw_job.specs.Room.Runners.{IsRunner, place_of, state_in}
use Rattle.cw_job.specs.Room.Saves.{IsSavedOf, StandsAs}
use Rattle.cw_job.proofs.Room.Backs.{stands_as_it}
use Rattle.cw_body.specs.declared.begin.Begin.{Begin}
use Rattle.cw_body.specs.declared.stage.Stage.{Stage}
use Rattle.cw_body.specs.declared.stage.Stage.TheVariants.{Goes, GaveUp, Lost}
use Rattle.cw_body.specs.Bodies.{PendingBegin, AnswersAct, strands_of_program}
use Rattle.cw_body.specs.InMemory.{begin_of, shown, IsInside, IsInsideEach, IsSomewhereInsideEach, IsKept, StandsSo}
use Rattle.cw_body.proofs.InMemory.Answered.{act_each, begin_each, end_each}
use Rattle.cw_body.proofs.InMemory.Forks.{right_each, joined_each}
use Rattle.cw_body.proofs.InMemory.Backs.{at_each, way_each}

over_no_end : (w : Want) → is_over w ≡ true → w ≢ want.End
over_no_end w over e = let o = ap is_over e in cc (o, over)

module _ (program : Program) where
  abbrev s : Strands StrandState
  s = strands_of_program program

  -- the strand at its next want
  abbrev next : Runner → StrandState
  next x = state_in program x

  pub going : (st : Stage) (level : ℕ) (x : Runner) (bs : List Begin) → st ≡ Goes → StandsSo program st level x bs → IsRunner program x × IsInsideEach s level (next x) 0 bs × IsSomewhereInsideEach s level (next x) (place_of x) bs
  going st level x bs e h = let P : Stage → Type 0 = λ v. StandsSo program v level x bs in subst P e h

  goes : (st : Stage) (level : ℕ) (x : Runner) (bs : List Begin) → st ≡ Goes → IsRunner program x → IsInsideEach s level (next x) 0 bs → IsSomewhereInsideEach s level (next x) (place_of x) bs → StandsSo program st level x bs
  goes st level x bs e is inside back = let P : Stage → Type 0 = λ v. StandsSo program v level x bs in subst P (sym e) (is, inside, back)

  -- it is at its want
  pub goes_so : (st : Stage) (level : ℕ) (x : Runner) (a : StrandState) (bs : List Begin) → st ≡ Goes → IsRunner program x → place_of x ≡ next x → next x ≡ a → IsInsideEach s level a 0 bs → StandsSo program st level x bs
  goes_so st level x a bs e is place at h =
      let Q : StrandState → Type 0 = λ v. IsInsideEach s level v 0 bs in
      let R : StrandState → Type 0 = λ v. IsSomewhereInsideEach s level (next x) v bs in
      let inside : IsInsideEach s level (next x) 0 bs = subst Q (sym at) h in
      goes st level x bs e is inside (subst R (sym place) (at_each s level (next x) 0 bs inside))

  -- it is on its way to its want
  pub goes_on_way : (st : Stage) (level k : ℕ) (x : Runner) (a there : StrandState) (bs : List Begin) → st ≡ Goes → IsRunner program x → StandsAs (place_of x) there → s.want there ≢ want.End → next x ≡ a
      → IsInsideEach s level there 0 bs → IsInsideEach s k a 0 bs → StandsSo program st k x bs
  goes_on_way st level k x a there bs e is like off at h g =
      let Q : StrandState → Type 0 = λ v. IsInsideEach s k v 0 bs in
      let inside : IsInsideEach s k (next x) 0 bs = subst Q (sym at) g in
      goes st k x bs e is inside (way_each s level k (next x) (place_of x) there off like 0 0 bs h inside)

  pub given_up : (st : Stage) (level : ℕ) (x : Runner) (bs : List Begin) → st ≡ GaveUp → StandsSo program st level x bs → IsSomewhereInsideEach s level (next x) (place_of x) bs
  given_up st level x bs e h = let P : Stage → Type 0 = λ v. StandsSo program v level x bs in subst P e h

  pub gave_up_so : (st : Stage) (level : ℕ) (x : Runner) (bs : List Begin) → st ≡ GaveUp → IsSomewhereInsideEach s level (next x) (place_of x) bs → StandsSo program st level x bs
  gave_up_so st level x bs e h = let P : Stage → Type 0 = λ v. StandsSo program v level x bs in subst P (sym e) h

  pub gives_up_so : (before st : Stage) (level : ℕ) (x : Runner) (bs : List Begin) → before ≢ Lost → st ≡ GaveUp → StandsSo program before level x bs → StandsSo program st level x bs
  gives_up_so Goes st level x bs off e h = gave_up_so st level x bs e h.2
  gives_up_so GaveUp st level x bs off e h = gave_up_so st level x bs e h
  gives_up_so Lost st level x bs off e h = absurd (off refl)

  module _ (before st : Stage) (level : ℕ) (x y : Runner) (going_on : before ≡ Goes) (goes : st ≡ Goes) (is : IsRunner program y) where
    inside : (bs : List Begin) → StandsSo program before level x bs → IsInsideEach s level (next x) 0 bs
    inside bs h = (going before level x bs going_on h).1

    -- at its next want
    module _ (place : place_of y ≡ next y) where
      pub ran_so : (bs : List Begin) → next y ≡ next x → StandsSo program before level x bs → StandsSo program st level y bs
      ran_so bs at h = goes_so st level y (next x) bs goes is place at (inside bs h)

      pub answered_so : (given : Given) (bs : List Begin) → AnswersAct s.elements (s.want (next x)) given → next y ≡ s.answer (next x) given → StandsSo program before level x bs → StandsSo program st level y bs
      answered_so given bs act at h = goes_so st level y (s.answer (next x) given) bs goes is place at (act_each s level (next x) given act 0 bs (inside bs h))

      pub begun_so : (b : Begin) (bs : List Begin) → s.want (next x) ≡ want.Begin → b.level ≡ level → begin_of b ≡ next x → next y ≡ s.answer (next x) Nothing → StandsSo program before level x bs → StandsSo program st level y (b ∷ bs)
      begun_so b bs w same snap at h =
          let P : StrandState → Type 0 = λ v. Inside s v 0 0 (s.answer (next x) Nothing) in
          let Q : ℕ → Type 0 = λ k. Inside s (begin_of b) k 0 (s.answer (next x) Nothing) in
          let none : 0 ≡ level - b.level = omega (arith, same) in
          let here : IsInside s level (s.answer (next x) Nothing) 0 b = record { since = omega (arith, same); inside = subst Q none (subst P (sym snap) begun) } in
          goes_so st level y (s.answer (next x) Nothing) (b ∷ bs) goes is place at (here, begin_each s level (next x) w 0 bs (inside bs h))

      pub ended_so : (b : Begin) (bs : List Begin) → s.want (next x) ≡ want.End → next y ≡ s.answer (next x) Nothing → StandsSo program before level x (b ∷ bs) → StandsSo program st level y bs
      ended_so b bs w at h = goes_so st level y (s.answer (next x) Nothing) bs goes is place at (end_each s level (next x) w 0 bs (inside (b ∷ bs) h).1)

    -- on its way from its last want
    pub right_so : (bs : List Begin) → s.want (next x) ≡ want.Fork → place_of y ≡ next x → next y ≡ s.right (next x) → StandsSo program before level x bs → StandsSo program st (level + 1) y bs
    right_so bs w place at h =
        let P : StrandState → Type 0 = λ v. StandsAs v (next x) in
        goes_on_way st level (level + 1) y (s.right (next x)) (next x) bs goes is (subst P (sym place) (stands_as_it (next x))) (λ e. cc (w, e)) at (inside bs h) (right_each s level (next x) w 0 bs (inside bs h))

    pub joined_so : (left : StrandState) (bs : List Begin) → is_over (s.want (next x)) ≡ true → All (λ (p : PendingBegin). 0 < p.forks) (map (shown level) bs) → StandsAs (place_of y) (next x) → next y ≡ s.joined (next x) left
        → StandsSo program before level x bs → StandsSo program st (level - 1) y bs
    joined_so left bs over none like at h =
        goes_on_way st level (level - 1) y (s.joined (next x) left) (next x) bs goes is like (over_no_end (s.want (next x)) over) at (inside bs h) (joined_each s level (next x) left over 0 bs none (inside bs h))

  -- the begin of a block that begins is kept
  pub begin_kept : (st : Stage) (level : ℕ) (x : Runner) (b : Begin) (bs : List Begin) → st ≡ Goes → s.want (next x) ≡ want.Begin → IsSavedOf program b.saved (next x) → b.level ≡ level → begin_of b ≡ next x → StandsSo program st level x bs → IsKept program b bs
  begin_kept st level x b bs e w saved same snap h =
      let at : next x ≡ begin_of b = sym snap in
      let P : StrandState → Type 0 = λ v. IsSavedOf program b.saved v in
      let Q : StrandState → Type 0 = λ v. IsInsideEach s b.level v 0 bs in
      let R : ℕ → Type 0 = λ k. IsInsideEach s k (next x) 0 bs in
      record { saved = subst P at saved; begins = ap s.want (sym at) ∙ w; inside = subst Q at (subst R (sym same) (going st level x bs e h).1) }
