-- Worker w is there, and what it makes is the move of the definition.
use Rattle.std.proofs.Common.{sym, ◌∙◌}
use Rattle.std.proofs.lemmas.Result.{on_ok_weaker}
use Rattle.cw_sim.proofs.InMemory.Moves.{runs_so, moves_idle, runs_there, has_body_there, may_die, moves_dying, may_act, moves_acting}
use Rattle.cw_sim.proofs.moves.Driver.make_move.Goals as goal

pub returns-in_default : goal.returns-in_default
returns-in_default c =
    on_ok_weaker c.steal.result
    (λ comes z may. moves_idle c.args.self.now c.args.w z may (runs_so c.args.self.now c.args.w z may c.index.result.now c.index.ensures ∙ c.in_default.is) c.steal.new.self (comes z may))
    c.steal.ensures

pub is_dying-requires : goal.is_dying-requires
is_dying-requires c =
    let s = c.args.self.now in
    let z = c.requires.0 in
    let may = c.requires.1 in
    runs_there s c.args.w z may c.in-Some.strand (runs_so s c.args.w z may c.index.result.now c.index.ensures ∙ c.in-Some.is)

pub die-requires : goal.die-requires
die-requires c =
    let s = c.args.self.now in
    let z = c.requires.0 in
    let may = c.requires.1 in
    (z, may_die s c.args.w z may c.in-Some.strand (runs_so s c.args.w z may c.index.result.now c.index.ensures ∙ c.in-Some.is) (sym c.is_dying.ensures ∙ c.if-is_dying.true))

pub returns-then-is_dying : goal.returns-then-is_dying
returns-then-is_dying c =
    let s = c.args.self.now in
    on_ok_weaker c.die.result
    (λ comes z may.
    moves_dying s c.args.w z may c.in-Some.strand (runs_so s c.args.w z may c.index.result.now c.index.ensures ∙ c.in-Some.is) (sym c.is_dying.ensures ∙ c.if-is_dying.true) c.die.new.self (comes z))
    c.die.ensures

pub at-requires : goal.at-requires
at-requires c =
    let s = c.args.self.now in
    let z = c.requires.0 in
    let may = c.requires.1 in
    has_body_there s c.args.w z may c.in-Some.strand (runs_so s c.args.w z may c.index.result.now c.index.ensures ∙ c.in-Some.is)

pub do_want-requires : goal.do_want-requires
do_want-requires c =
    let s = c.args.self.now in
    let z = c.requires.0 in
    let may = c.requires.1 in (
      z,
      may_act s c.args.w z may c.in-Some.strand (runs_so s c.args.w z may c.index.result.now c.index.ensures ∙ c.in-Some.is) (sym c.is_dying.ensures ∙ c.if-is_dying.false)
          c.at.result.now c.at.ensures c.want-want.result c.want-want.ensures,
    )

pub returns : goal.returns
returns c =
    let s = c.args.self.now in
    on_ok_weaker c.do_want.result
    (λ comes z may.
    moves_acting s c.args.w z may c.in-Some.strand (runs_so s c.args.w z may c.index.result.now c.index.ensures ∙ c.in-Some.is) (sym c.is_dying.ensures ∙ c.if-is_dying.false)
    c.at.result.now c.at.ensures c.want-want.result c.want-want.ensures c.do_want.new.self (comes z))
    c.do_want.ensures
