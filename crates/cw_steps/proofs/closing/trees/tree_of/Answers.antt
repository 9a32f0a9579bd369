use Rattle.std.proofs.Common.{rules, sym, ap, ◌∙◌, ◌≡◌, [], ◌∷◌, ◌++◌, append_assoc, append-nil, length}
use Rattle.cw_course.specs.Closings.{hung, put_together}
use Rattle.cw_steps.specs.Leaving.{logs_of_track}
use Rattle.cw_steps.specs.Tracks.{track_of}
use Rattle.cw_steps.proofs.Leaving.Trees.{root_first, tree_more}
use Rattle.cw_steps.proofs.closing.trees.tree_of.Goals as goal

pub loop-log-init : goal.loop-log-init
loop-log-init c =
    let all = logs_of_track c.args.track.now in
    let own = (track_of c.args.track.now).own in
    (search rules, search rules, ([], search rules, root_first all own c.in_ok-tree.tree c.in_ok-number.field-0 (c.in_ok-number.ensures all c.requires) (search rules) (c.in_ok-tree.ensures ∙ ap (hung 0 0) (search rules))))

pub loop-log-preserved : goal.loop-log-preserved
loop-log-preserved c =
    let (f, g, (front, q, h)) = c.loop-log.invariant in
    let all = logs_of_track c.args.track.now in
    let own = (track_of c.args.track.now).own in
    let e : c.loop-log.log-iterator ≡ c.in-Some.log.now ∷ c.next.new.self = search rules in (
      search rules,
      search rules,
      (
        front ++ c.in-Some.log.now ∷ [],
        q ∙ (ap (λ r. front ++ r) e ∙ sym (append_assoc front (c.in-Some.log.now ∷ []) c.next.new.self)),
        tree_more all (own ∷ front) c.in-Some.log.now c.loop-log.tree c.hang_log.new.tree c.in-Ok.under h (c.in-Ok.ensures all c.requires)
            (c.in-Ok-hang_log.ensures ∙ ap (λ ns. c.loop-log.tree ++ hung (length c.loop-log.tree) c.in-Ok.under ns) c.as_slice-in-loop-log.ensures),
      ),
    )

pub returns : goal.returns
returns c =
    let (f, g, (front, q, h)) = c.loop-log.invariant in
    let all = logs_of_track c.args.track.now in
    let e : c.loop-log.log-iterator ≡ [] = search rules in
    h ∙ ap (λ ls. put_together all 0 ((track_of c.args.track.now).own ∷ ls)) (sym (q ∙ (ap (λ r. front ++ r) e ∙ append-nil front)))
