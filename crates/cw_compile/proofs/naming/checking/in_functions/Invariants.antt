use Rattle.std.proofs.Common.{◌≡◌, drop, map}
use Rattle.cw_text.specs.Syntax.{declaration_of}
use Rattle.cw_strand.specs.Names.{in_functions}
use Rattle.cw_compile.proofs.naming.checking.in_functions.Given as goal

abbrev pub invariant-loop-item : goal.invariant-loop-item
invariant-loop-item l = in_functions l.names (map declaration_of l.items) ≡ in_functions l.names (map declaration_of (drop l.item-index l.items))
