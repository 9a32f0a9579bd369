use Rattle.std.proofs.Common.{◌≢◌, sym, subst}
use Rattle.cw_body.specs.declared.stage.Stage.TheVariants.{Lost}
use Rattle.cw_body.specs.Bodies.{InBlocks}
use Rattle.cw_body.proofs.InMemory.Calls.{gives_up_so}
use Rattle.cw_body.proofs.body.Body.gives_up.Goals as goal

pub invariant_of-self : goal.invariant_of-self
invariant_of-self c =
    let x = c.self.inside in
    let P : InBlocks → Type 0 = λ v. v.stage ≢ Lost in
    record {
      kept = c.self.invariant.kept;
      stands = gives_up_so x.program.value x.stage.value c.of.result.value x.level x.runner x.begins (subst P (sym c.self.view_is) c.requires) c.of.ensures c.self.invariant.stands;
    }
