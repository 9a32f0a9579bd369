use Rattle.std.proofs.Common.{map, drop}
use Rattle.cw_text.specs.Syntax.{declaration_of}
use Rattle.cw_compile.specs.NamingRules.Items.{IsSameWith}
use Rattle.cw_compile.proofs.naming.items.Declared.of_items.Given as goal

abbrev pub invariant-loop-item : goal.invariant-loop-item
invariant-loop-item l = IsSameWith (map declaration_of l.items) l.initial.declared (map declaration_of (drop l.item-index l.items)) l.declared
