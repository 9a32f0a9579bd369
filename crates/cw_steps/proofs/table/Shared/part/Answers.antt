use Rattle.std.proofs.Common.{◌∙◌, length, sym}
use Rattle.std.specs.Prelude.{None}
use Rattle.cw_steps.specs.declared.view.View.{View}
use Rattle.cw_steps.specs.Around.{caught_up}
use Rattle.cw_steps.specs.Tracks.{arounds_of, are_within, track_of}
use Rattle.cw_steps.specs.Stands.{stands_for}
use Rattle.cw_steps.proofs.Tracks.{Agrees, parted_stands, right_around, right_stands, right_within}
use Rattle.cw_steps.proofs.table.Shared.part.Goals as goal

pub returns-clause-token : goal.returns-clause-token
returns-clause-token c =
    let t = c.args.token.now in
    (λ i. stands_for (c.part-begin.ensures.left i) (c.part_as-right.ensures.left i).0 t.stop) ∙ parted_stands t.seat.me.0 t.stop (track_of t.track)

pub returns-clause-new_token : goal.returns-clause-new_token
returns-clause-new_token c = λ a e.
    let t = c.args.token.now in
    (λ i. stands_for (c.part-begin.ensures.right i) (c.part_as-right.ensures.right i).0 None) ∙ right_stands t.seat.me.0 t.stop (track_of t.track) a e t.coming

pub invariant_of-result-clause-arounds : goal.invariant_of-result-clause-arounds
invariant_of-result-clause-arounds c =
    let t = c.args.token.now in
    let v : View = t.seat.me.0 in
    let was : Agrees (track_of t.track) v = record { column = t.column; gap = t.gap; word = t.word; outer = t.outer; coming = t.coming; arounds = t.arounds; within = t.within } in
    let track = c.part-begin.ensures.right in
    let seat = c.part_as-right.ensures.right in
    (λ i. caught_up (track i).behind (track i).second (seat i).0.arounds) ∙ right_around (track_of t.track) v t.track.first t.track.ahead v.coming was ∙ sym (λ i. arounds_of (track i).pending (track i).outer)

pub invariant_of-result-clause-within : goal.invariant_of-result-clause-within
invariant_of-result-clause-within c =
    let t = c.args.token.now in
    (λ i. are_within (length (c.part-begin.ensures.right i).pending) (c.part-begin.ensures.right i).outer) ∙ right_within (track_of t.track) t.track.first t.track.ahead
