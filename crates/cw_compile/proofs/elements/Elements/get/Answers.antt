use Rattle.std.proofs.Common.{◌∙◌, sym, ap}
use Rattle.std.specs.Option.{option_map}
use Rattle.cw_compile.specs.declared.elements.Extent.{Extent}
use Rattle.cw_compile.proofs.Extents.{first_element}
use Rattle.cw_compile.proofs.elements.Elements.get.Goals as goal

pub returns-in-Some : goal.returns-in-Some
returns-in-Some c = ap (option_map (λ (x : Extent). x.base)) (sym c.in-Some.is ∙ c.find.ensures) ∙ sym (first_element c.args.self.now c.args.name.now)

pub returns-in-None : goal.returns-in-None
returns-in-None c = ap (option_map (λ (x : Extent). x.base)) (sym c.in-None.is ∙ c.find.ensures) ∙ sym (first_element c.args.self.now c.args.name.now)
