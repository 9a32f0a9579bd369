use Rattle.cw_board.proofs.Boards.{joined_is, one_fork_too, waits_beside, weighed_is}
use Rattle.cw_board.proofs.board.Board.join.Goals as goal

pub join_seat-requires-clause-strand : goal.join_seat-requires-clause-strand
join_seat-requires-clause-strand c = λ e.
    let l = c.weigh.ensures in
    let r = c.weigh-2.ensures in (
      (weighed_is c.args.self.now c.args.right c.weigh-2.new.token c.requires.of.1 r.table r.me r.track r.token).room,
      waits_beside c.weigh.new.token c.weigh-2.new.token (one_fork_too _ _ _ _ l.token r.token c.requires.fork),
    )

pub returns-clause-of : goal.returns-clause-of
returns-clause-of c =
    let l = c.weigh.ensures in
    let r = c.weigh-2.ensures in
    let h = weighed_is c.args.self.now c.args.left c.weigh.new.token c.requires.of.0 l.table l.me l.track l.token in
    let g = weighed_is c.args.self.now c.args.right c.weigh-2.new.token c.requires.of.1 r.table r.me r.track r.token in
    let e = c.join_seat.ensures in
    joined_is c.args.self.now c.weigh.new.token c.weigh-2.new.token c.join_seat.new.token h g (one_fork_too _ _ _ _ l.token r.token c.requires.fork) e.table e.view e.slots e.room (e.both_as g.here)
