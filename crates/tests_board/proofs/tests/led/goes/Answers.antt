use Rattle.std.proofs.Common.{◌∙◌}
use Rattle.tests_board.proofs.tests.led.goes.Goals as goal

pub returns : goal.returns
returns c = λ t.
    let (g, r) = c.both-2.ensures t in
    let (u, f) = c.both.ensures r in
    let (strand_is, fork_is, split_is, phase_is, stop_is, told_is, sides, waiting) = c.requires in record {
      on = record { stop = stop_is; told = told_is; unspent = c.is_unspent.ensures u };
      phase = phase_is ∙ c.is_going.ensures g;
      free = c.is_free.ensures f;
    }
