use Rattle.std.proofs.Common.{◌∙◌, ap}
use Rattle.cw_steps.specs.declared.view.View.{View}
use Rattle.cw_steps.specs.Tracks.{track_of}
use Rattle.cw_steps.specs.Stands.{stands_for}
use Rattle.cw_steps.proofs.Tracks.{Agrees, agrees_too, drawn_agrees, drawn_stands}
use Rattle.cw_steps.proofs.table.Shared.draw.Goals as goal

pub invariant_of-token : goal.invariant_of-token
invariant_of-token c =
    let t = c.args.token.now in
    let v : View = t.seat.me.0 in
    let same = ap (λ m. m.0) c.draw_as-number.ensures.seat in
    let was : Agrees (track_of t.track) v = record { column = t.column; gap = t.gap; word = t.word; outer = t.outer; coming = t.coming; arounds = t.arounds; within = t.within } in
    let now : Agrees (track_of c.draw.new.self) c.draw_as-number.new.seat.me.0 = agrees_too _ _ _ _ c.draw.ensures.track same (drawn_agrees v (track_of t.track) was c.args.what c.draw_as-number.result t.stop c.requires.block) in
    record { column = now.column; gap = now.gap; word = now.word; halt_is = ap (λ (u : View). u.halt) same ∙ t.halt_is; outer = now.outer; coming = now.coming; arounds = now.arounds; within = now.within }

pub returns-clause-token : goal.returns-clause-token
returns-clause-token c =
    let t = c.args.token.now in
    (λ i. stands_for (c.draw.ensures.track i) (c.draw_as-number.ensures.seat i).0 t.stop) ∙ drawn_stands t.seat.me.0 t.stop c.args.what c.draw_as-number.result (track_of t.track)
