use Rattle.std.proofs.Common.{◌≡◌, ◌∙◌, ◌<◌, List, ◌∷◌, length, ap, sym, subst}
use Rattle.cw_body.specs.declared.begin.Begin.{Begin}
use Rattle.cw_body.specs.declared.stage.Stage.TheVariants.{GaveUp}
use Rattle.cw_body.specs.Bodies.{InBlocks}
use Rattle.cw_body.specs.InMemory.{AreKept, StandsSo}
use Rattle.cw_body.proofs.InMemory.Calls.{given_up, gave_up_so}
use Rattle.cw_body.proofs.InMemory.Shown.{innermost}
use Rattle.cw_body.proofs.body.Body.forget.Goals as goal

pub invariant_of-self : goal.invariant_of-self
invariant_of-self c =
    let x = c.self.inside in
    let rest = c.pop-rolled.new.self in
    let gave : x.stage.value ≡ GaveUp = ap (λ (v : InBlocks). v.stage) c.self.view_is ∙ c.requires.stage in
    let L : InBlocks → Type 0 = λ v. 0 < length v.begins in
    let K : List Begin → Type 0 = λ bs. AreKept x.program.value bs in
    let S : List Begin → Type 0 = λ bs. StandsSo x.program.value x.stage.value x.level x.runner bs in
    let (b, e) = innermost x.level c.pop-rolled.result x.begins rest c.pop-rolled.ensures (subst L (sym c.self.view_is) c.requires.block) in
    record {
      kept = (subst K e c.self.invariant.kept).1;
      stands = gave_up_so x.program.value x.stage.value x.level x.runner rest gave (given_up x.program.value x.stage.value x.level x.runner (b ∷ rest) gave (subst S e c.self.invariant.stands)).1;
    }
