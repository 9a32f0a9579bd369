use Rattle.std.proofs.Common.{refl}
use Rattle.cw_steps.specs.declared.view.View.{View}
use Rattle.cw_steps.specs.Tracks.{track_of}
use Rattle.cw_steps.proofs.Tracks.{Agrees, agrees_too, turned_agrees}
use Rattle.cw_steps.proofs.table.StrandToken.next_branch.Goals as goal

pub invariant_of-self : goal.invariant_of-self
invariant_of-self c =
    let t = c.args.self.now in
    let v : View = t.seat.me.0 in
    let was : Agrees (track_of t.track) v = record { column = t.column; gap = t.gap; word = t.word; outer = t.outer; coming = t.coming; arounds = t.arounds; within = t.within } in
    let now : Agrees (track_of c.turn.new.self) v = agrees_too _ _ v v c.turn.ensures.track refl (turned_agrees v (track_of t.track) was) in
    record { column = now.column; gap = now.gap; word = now.word; halt_is = t.halt_is; outer = now.outer; coming = now.coming; arounds = now.arounds; within = now.within }
