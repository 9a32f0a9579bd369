use Rattle.std.proofs.Common.{◌≡◌, ◌≢◌, ◌∙◌, ◌-◌, List, ◌∷◌, map, ap, sym, subst}
use Rattle.cw_strand.specs.declared.want.Want.TheVariants as want
use Rattle.cw_job.specs.Room.Saves.{MayRollBack}
use Rattle.cw_job.specs.Room.Runners.{place_of, state_in}
use Rattle.cw_body.specs.declared.begin.Begin.{Begin}
use Rattle.cw_body.specs.declared.body.Body.TheInside.{Inside}
use Rattle.cw_body.specs.declared.stage.Stage.TheVariants.{Goes, GaveUp}
use Rattle.cw_body.specs.Bodies.{InBlocks, back_to, seen_from, strands_of_program, want_of, went_back}
use Rattle.cw_body.specs.InMemory.{begin_of, in_blocks, shown, AreKept, IsSomewhereInside, IsKept, StandsSo}
use Rattle.cw_body.proofs.InMemory.Backs.{may_go_back}
use Rattle.cw_body.proofs.InMemory.Calls.{given_up, goes_so}
use Rattle.cw_body.proofs.InMemory.Shown.{seen_as, shown_from}
use Rattle.cw_body.proofs.body.Body.back.Goals as goal

-- a strand that gave up inside the innermost of its blocks
record Gave (x : Inside) (b : Begin) (rest : List Begin) : Type 0 where
  kept : IsKept x.program.value b rest
  around : AreKept x.program.value rest
  inside : IsSomewhereInside (strands_of_program x.program.value) x.level (state_in x.program.value x.runner) (place_of x.runner) b
  no_end : want_of (in_blocks x) ≢ want.End

gave : (x : Inside) (v : InBlocks) (b : Begin) (rest : List Begin) → in_blocks x ≡ v → x.begins ≡ b ∷ rest → v.stage ≡ GaveUp → want_of v ≢ want.End
    → AreKept x.program.value x.begins → StandsSo x.program.value x.stage.value x.level x.runner x.begins → Gave x b rest
gave x v b rest is e stage off kept stands =
    let P : InBlocks → Type 0 = λ u. want_of u ≢ want.End in
    let K : List Begin → Type 0 = λ bs. AreKept x.program.value bs in
    let S : List Begin → Type 0 = λ bs. StandsSo x.program.value x.stage.value x.level x.runner bs in
    let up : x.stage.value ≡ GaveUp = ap (λ (u : InBlocks). u.stage) is ∙ stage in
    let each = given_up x.program.value x.stage.value x.level x.runner (b ∷ rest) up (subst S e stands) in
    let all = subst K e kept in
    record { kept = all.0; around = all.1; inside = each.0; no_end = subst P (sym is) off }

abbrev may : (x : Inside) (b : Begin) (rest : List Begin) → Gave x b rest → MayRollBack b.saved (place_of x.runner)
may x b rest g = may_go_back x.program.value x.level (state_in x.program.value x.runner) (place_of x.runner) b rest g.kept g.inside g.no_end

pub back-requires : goal.back-requires
back-requires c =
    let x = c.self.inside in
    let b = c.in-Some.begin in
    may x b c.pop.new.self (gave x c.args.self.now b c.pop.new.self c.self.view_is c.in-Some.ensures c.requires.stage c.requires.end c.self.invariant.kept c.self.invariant.stands)

here : (c : goal.After-drop-begin-2) → Gave c.self.inside c.in-Some.begin c.pop.new.self
here c = gave c.self.inside c.args.self.now c.in-Some.begin c.pop.new.self c.self.view_is c.in-Some.ensures c.requires.stage c.requires.end c.self.invariant.kept c.self.invariant.stands

at : (c : goal.After-drop-begin-2) → state_in c.self.inside.program.value c.back.new.self ≡ begin_of c.in-Some.begin
at c = c.back.ensures.back (may c.self.inside c.in-Some.begin c.pop.new.self (here c)) c.self.inside.program.value

pub invariant_of-self : goal.invariant_of-self
invariant_of-self c =
    let x = c.self.inside in
    let b = c.in-Some.begin in
    let g = here c in
    record {
      kept = g.around;
      stands = goes_so x.program.value c.of.result.value b.level c.back.new.self (begin_of b) c.pop.new.self c.of.ensures (c.back.ensures.runner (may x b c.pop.new.self g)) (c.back.ensures.place x.program.value) (at c) g.kept.inside;
    }

pub returns-clause-back : goal.returns-clause-back
returns-clause-back c =
    let x = c.self.inside in
    let b = c.in-Some.begin in
    let rest = c.pop.new.self in
    let z : Inside = record { runner = c.back.new.self; level = b.level; begins = rest; program = x.program; stage = c.of.result } in
    let P : InBlocks → Type 0 = λ v. in_blocks z ≡ went_back v in
    let Q : List Begin → Type 0 = λ bs. in_blocks z ≡ back_to (map (shown x.level) bs) (in_blocks x) in
    let e : x.begins ≡ b ∷ rest = c.in-Some.ensures in
    subst P c.self.view_is
    (subst Q (sym e)
    (seen_as x.program.value c.of.result.value Goes (state_in x.program.value c.back.new.self) (begin_of b) (map (shown b.level) rest) (map (seen_from (x.level - b.level)) (map (shown x.level) rest)) c.of.ensures (at c) (shown_from x.level b.level rest (here c).inside.since)))

pub returns-clause-begin : goal.returns-clause-begin
returns-clause-begin c =
    let s = strands_of_program c.self.inside.program.value in
    ap s.want (at c) ∙ (here c).kept.begins
