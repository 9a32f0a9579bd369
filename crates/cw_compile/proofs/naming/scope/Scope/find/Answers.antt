use Rattle.std.proofs.Common.{◌∙◌, sym, ap}
use Rattle.std.specs.Option.{option_map}
use Rattle.cw_compile.specs.NamingRules.Scopes.{thing_of}
use Rattle.cw_compile.proofs.NamingRules.Found.{find-map}
use Rattle.cw_compile.proofs.naming.scope.Scope.find.Goals as goal

pub returns : goal.returns
returns c =
    let found = find-map c.args.name.now c.self.inside.things in
    let got = ap (λ o. option_map thing_of o) (c.copied.ensures ∙ c.get.ensures.value) in
    rw (← c.self.view_is) (got ∙ (rw c.as_str.ensures (sym found)))
