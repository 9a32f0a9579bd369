use Rattle.std.proofs.Common.{◌≡◌, ◌++◌, ◌-◌, map}
use Rattle.std.specs.List.{range_with_len}
use Rattle.cw_text.specs.Syntax.{statement_of}
use Rattle.cw_gen.specs.Load.{spawned_group}
use Rattle.cw_gen.proofs.load.push_calls.Given as goal

abbrev pub invariant-loop-place : goal.invariant-loop-place
invariant-loop-place l = map statement_of l.body.items ++ map spawned_group (range_with_len l.place (l.groups - l.place)) ≡ map statement_of l.fn.body.items ++ map spawned_group (range_with_len 0 l.groups)
