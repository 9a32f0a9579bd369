use Rattle.std.proofs.Common.{◌∙◌, ap, sym}
use Rattle.cw_steps.specs.declared.view.View.{View}
use Rattle.cw_steps.specs.Tracks.{track_of, halt_of}
use Rattle.cw_steps.specs.Stands.{stands_for}
use Rattle.cw_steps.proofs.Tracks.{joined_stands, Agrees, agrees_too, joined_agrees, here_both, halts_kept}
use Rattle.cw_steps.proofs.table.Shared.join_strand.Goals as goal

pub invariant_of-token : goal.invariant_of-token
invariant_of-token c =
    let t = c.args.token.now in
    let d = c.args.ending in
    let v : View = t.seat.me.0 in
    let same = ap (λ m. m.0) c.join_as.ensures.seat ∙ here_both t.track.behind t.track.second v d.seat.me.0 c.requires.here.0 in
    let was : Agrees (track_of t.track) v = record { column = t.column; gap = t.gap; word = t.word; outer = t.outer; coming = t.coming; arounds = t.arounds; within = t.within } in
    let now : Agrees (track_of c.take_in.new.self) c.join_as.new.seat.me.0 = agrees_too _ _ _ _ c.take_in.ensures.track same (joined_agrees v (track_of t.track) was (track_of d.track) d.seat.me.0 c.requires.fork) in
    record {
      column = now.column;
      gap = now.gap;
      word = now.word;
      halt_is = ap (λ (u : View). u.halt) same ∙ halts_kept v.halt d.seat.me.0.halt t.stop d.stop t.halt_is d.halt_is ∙ ap halt_of (sym c.first_stop.ensures);
      outer = now.outer;
      coming = now.coming;
      arounds = now.arounds;
      within = now.within;
    }

pub returns-clause-token : goal.returns-clause-token
returns-clause-token c =
    let t = c.args.token.now in
    let d = c.args.ending in
    let same = ap (λ m. m.0) c.join_as.ensures.seat ∙ here_both t.track.behind t.track.second t.seat.me.0 d.seat.me.0 c.requires.here.0 in
    (λ i. stands_for (c.take_in.ensures.track i) (same i) (c.first_stop.ensures i)) ∙ joined_stands t.seat.me.0 t.stop (track_of t.track) (track_of d.track) d.seat.me.0 d.stop c.requires.fork
