use Rattle.std.proofs.Common.{◌≡◌, ℕ, List, drop, map}
use Rattle.std.specs.Prelude.{unwrap_or}
use Rattle.cw_text.specs.Syntax.{declaration_of}
use Rattle.cw_strand.specs.Compilation.{function_names, number_from}
use Rattle.cw_compile.specs.Named.{value_named}
use Rattle.cw_compile.proofs.functions.Functions.of_items.Given as goal

abbrev pub invariant-loop-item : goal.invariant-loop-item
invariant-loop-item l = (n : List ℕ) → unwrap_or (value_named l.numbers n) (number_from l.count n (function_names (map declaration_of (drop l.item-index l.items)))) ≡ number_from 0 n (function_names (map declaration_of l.items))
