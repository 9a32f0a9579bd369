use Rattle.std.proofs.Common.{◌≡◌, ◌++◌, ◌-◌, map}
use Rattle.cw_text.specs.Syntax.{statement_of}
use Rattle.cw_gen.specs.Load.{spawned_transfer, state_after, transfers}
use Rattle.cw_gen.proofs.load.transfers.Given as goal

abbrev pub invariant-loop-drawn : goal.invariant-loop-drawn
invariant-loop-drawn l = record {
  calls : map statement_of l.body.items ++ map spawned_transfer (transfers (l.count - l._drawn) l.draws) ≡ map spawned_transfer (transfers l.count l.fn.draws);
  state : state_after (l.count - l._drawn) l.draws ≡ state_after l.count l.fn.draws;
}
