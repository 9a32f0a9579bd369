use Rattle.std.proofs.Common.{◌≡◌, drop}
use Rattle.cw_text.specs.Syntax.{terms_of}
use Rattle.cw_strand.specs.Names.{in_terms}
use Rattle.cw_compile.specs.NamingRules.Visible.{visible_in}
use Rattle.cw_compile.proofs.naming.checking.+expression.Given as goal

abbrev pub invariant-in_call-loop-arg : goal.invariant-in_call-loop-arg
invariant-in_call-loop-arg l = in_terms (visible_in l.visible) (terms_of l.args) ≡ in_terms (visible_in l.visible) (terms_of (drop l.arg-index l.args))
