use Rattle.std.proofs.Common.{◌≡◌, ◌++◌, ◌-◌, ◌*◌, map}
use Rattle.std.specs.Prelude.{min}
use Rattle.std.specs.List.{range_with_len}
use Rattle.cw_text.specs.Syntax.{declaration_of}
use Rattle.cw_gen.specs.Load.{group, group_count, group_function, state_after, transfers}
use Rattle.cw_gen.proofs.load.push_groups.Given as goal

abbrev pub invariant-loop-place : goal.invariant-loop-place
invariant-loop-place l = record {
  functions : map declaration_of l.items.items ++ map (λ k. group_function k (group k (transfers l.count l.count))) (range_with_len l.place (group_count l.count - l.place))
      ≡ map declaration_of l.fn.items.items ++ map (λ k. group_function k (group k (transfers l.count l.count))) (range_with_len 0 (group_count l.count));
  state : l.draws ≡ state_after (min (16 * l.place) l.count) l.count;
}
