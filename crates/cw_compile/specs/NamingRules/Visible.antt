-- What is visible at a place in a function.
use Rattle.std.specs.Prelude.{◌≡◌, ℕ, List, map, ◌++◌}
use Rattle.cw_strand.specs.Names.{Scope}
use Rattle.cw_compile.specs.declared.naming.scope.Thing.{Thing}
use Rattle.cw_compile.specs.declared.naming.visible.Visible.{Visible}
use Rattle.cw_compile.specs.NamingRules.Scopes.{thing_of}

-- the scope of a place: its locals, and the items
abbrev pub visible_in : Visible → Scope
visible_in v = map (λ x. (x.0, thing_of x.1)) v.locals ++ v.items.now

-- What was visible still is, perhaps with more locals on it.
abbrev pub StaysVisible : Visible → Visible → Type 0
StaysVisible old new = (inner : List (List ℕ × Thing)) × (new ≡ record old { locals = inner ++ old.locals })
