use Rattle.cw_top.proofs.Pieces.{Takes-gives, TakesAtMost-append, WhyStopped-later}
use Rattle.std.proofs.Common.{rules}
use Rattle.cw_top.proofs.reading.read_all.Goals as goal

pub pieces-preserved : goal.pieces-preserved
pieces-preserved g c = record {
  few = c.in_ok-count.ensures.few;
  later = search rules;
  none = search rules;
  given = Takes-gives _ _ _ _ _ _ c.pieces.invariant.given c.in_ok-count.ensures.given;
}

pub returns-in_err-count-clause-why : goal.returns-in_err-count-clause-why
returns-in_err-count-clause-why g c = let why = WhyStopped-later _ _ _ _ c.pieces.invariant.later c.in_err-count.ensures.why in search rules

pub returns-in_err-count-clause-taken : goal.returns-in_err-count-clause-taken
returns-in_err-count-clause-taken g c = TakesAtMost-append _ _ _ c.pieces.bytes.items c.args.most c.pieces.invariant.few c.pieces.invariant.given c.in_err-count.ensures.taken
