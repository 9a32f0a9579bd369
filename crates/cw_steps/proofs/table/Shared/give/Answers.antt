use Rattle.std.proofs.Common.{◌∙◌, ap}
use Rattle.cw_steps.specs.declared.view.View.{View}
use Rattle.cw_steps.specs.Tracks.{track_of}
use Rattle.cw_steps.specs.Stands.{stands_for}
use Rattle.cw_steps.proofs.Tracks.{Agrees, agrees_too, brought_agrees, brought_stands}
use Rattle.cw_steps.proofs.table.Shared.give.Goals as goal

pub invariant_of-token : goal.invariant_of-token
invariant_of-token c =
    let t = c.args.token.now in
    let v : View = t.seat.me.0 in
    let same = ap (λ m. m.0) c.give_as.ensures.seat in
    let was : Agrees (track_of t.track) v = record { column = t.column; gap = t.gap; word = t.word; outer = t.outer; coming = t.coming; arounds = t.arounds; within = t.within } in
    let now : Agrees (track_of c.bring.new.self) c.give_as.new.seat.me.0 = agrees_too _ _ _ _ c.bring.ensures.track same (brought_agrees v (track_of t.track) was c.args.home) in
    record { column = now.column; gap = now.gap; word = now.word; halt_is = ap (λ (u : View). u.halt) same ∙ t.halt_is; outer = now.outer; coming = now.coming; arounds = now.arounds; within = now.within }

pub returns-clause-token : goal.returns-clause-token
returns-clause-token c =
    let t = c.args.token.now in
    (λ i. stands_for (c.bring.ensures.track i) (c.give_as.ensures.seat i).0 t.stop) ∙ brought_stands t.seat.me.0 t.stop c.args.home (track_of t.track)

pub give_as-requires-clause-held : goal.give_as-requires-clause-held
give_as-requires-clause-held c = let h = c.requires.held in (h.lies, h.held.turn, h.held.slot, h.whole)
