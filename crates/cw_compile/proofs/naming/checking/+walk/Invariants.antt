use Rattle.std.proofs.Common.{◌≡◌, drop}
use Rattle.cw_text.specs.Syntax.{block_of}
use Rattle.cw_strand.specs.Names.{in_block}
use Rattle.cw_compile.specs.NamingRules.Visible.{StaysVisible, visible_in}
use Rattle.cw_compile.proofs.naming.checking.+walk.Given as goal

abbrev pub invariant-in_block-loop-statement : goal.invariant-in_block-loop-statement
invariant-in_block-loop-statement l = record {
  faults : in_block (visible_in l.initial.visible) l.around (block_of l.body) ≡ in_block (visible_in l.visible) l.around (block_of (drop l.statement-index l.body));
  keeps : StaysVisible l.initial.visible l.visible;
}
