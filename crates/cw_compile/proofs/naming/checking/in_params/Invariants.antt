use Rattle.std.proofs.Common.{◌≡◌, drop}
use Rattle.cw_strand.specs.Names.{in_params, scope_with_params}
use Rattle.cw_compile.specs.NamingRules.Visible.{visible_in}
use Rattle.cw_compile.proofs.naming.checking.in_params.Given as goal

abbrev pub invariant-loop-word : goal.invariant-loop-word
invariant-loop-word l = record {
  faults : in_params (visible_in l.initial.visible) l.params ≡ in_params (visible_in l.visible) (drop l.word-index l.params);
  visible : scope_with_params (visible_in l.visible) (drop l.word-index l.params) ≡ scope_with_params (visible_in l.initial.visible) l.params;
}
