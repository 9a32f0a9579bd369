use Rattle.std.proofs.Common.{rules, sym, ap, ◌∙◌, ◌≡◌, [], ◌∷◌, ◌++◌, append_assoc, append-nil, map, ◌+◌}
use Rattle.cw_tree.specs.declared.conflict.Conflict.{Conflict}
use Rattle.cw_course.specs.Closings.{conflicts_of}
use Rattle.cw_steps.specs.Leaving.{logs_of_track}
use Rattle.cw_steps.specs.Tracks.{track_of}
use Rattle.cw_steps.proofs.Leaving.Told.{told_more}
use Rattle.cw_steps.proofs.closing.conflicts.conflicts_of.Goals as goal

pub loop-log-init : goal.loop-log-init
loop-log-init c =
    let all = logs_of_track c.args.track.now in
    let own = (track_of c.args.track.now).own in
    (search rules, search rules, ([], search rules, told_more all [] own c.new-list.result.items c.add_moved.new.list.items c.in_ok-base.base (search rules) (c.in_ok-base.ensures all c.requires) (search rules)))

pub loop-log-preserved : goal.loop-log-preserved
loop-log-preserved c =
    let (f, g, (front, q, h)) = c.loop-log.invariant in
    let all = logs_of_track c.args.track.now in
    let own = (track_of c.args.track.now).own in
    let e : c.loop-log.log-iterator ≡ c.in-Some.log.now ∷ c.next.new.self = search rules in (
      search rules,
      search rules,
      (
        front ++ c.in-Some.log.now ∷ [],
        q ∙ (ap (λ r. front ++ r) e ∙ sym (append_assoc front (c.in-Some.log.now ∷ []) c.next.new.self)),
        told_more all (own ∷ front) c.in-Some.log.now c.loop-log.list.items c.add_moved-in-loop-log.new.list.items c.in_ok-base-2.base h (c.in_ok-base-2.ensures all c.requires)
            (c.in_ok-add_moved-2.ensures ∙ ap (λ cs. c.loop-log.list.items ++ map (λ (x : Conflict). record x { asker = c.in_ok-base-2.base + x.asker }) cs) c.as_slice-in-loop-log.ensures),
      ),
    )

pub returns : goal.returns
returns c =
    let (f, g, (front, q, h)) = c.loop-log.invariant in
    let all = logs_of_track c.args.track.now in
    let e : c.loop-log.log-iterator ≡ [] = search rules in
    c.from_vec.ensures ∙ h ∙ ap (λ ls. conflicts_of all ((track_of c.args.track.now).own ∷ ls)) (sym (q ∙ (ap (λ r. front ++ r) e ∙ append-nil front)))
