use Rattle.std.proofs.Common.{rules, sym, ap, ◌∙◌, ◌≡◌, [], ◌∷◌, ◌++◌, append_assoc, append-nil}
use Rattle.cw_course.specs.Closings.{last_conflict, last_of_conflicts}
use Rattle.cw_steps.specs.Tracks.{track_of}
use Rattle.cw_steps.proofs.Leaving.Bases.{none_more}
use Rattle.cw_steps.proofs.Leaving.Told.{last_found, last_none, victim_or_none}
use Rattle.cw_steps.proofs.closing.halts.last_victim.Goals as goal

pub returns-then-log-column : goal.returns-then-log-column
returns-then-log-column c =
    let (f, g, (front, q, h)) = c.loop-log.invariant in
    let own = (track_of c.args.track.now).own in
    let log = c.in-Some.log.now in
    let e : c.loop-log.log-iterator ≡ log ∷ c.next.new.self = search rules in
    c.last_of-then-log-column.ensures ∙ ap (λ cs. victim_or_none (last_of_conflicts cs)) c.as_slice-then-log-column.ensures
    ∙ ap victim_or_none (sym (last_found (own ∷ front) c.next.new.self log c.args.column h c.if-log-column.true))
    ∙ ap (λ ls. victim_or_none (last_conflict (own ∷ ls) c.args.column)) (sym (q ∙ ap (λ r. front ++ r) e))

pub loop-log-preserved : goal.loop-log-preserved
loop-log-preserved c =
    let (f, g, (front, q, h)) = c.loop-log.invariant in
    let log = c.in-Some.log.now in
    let e : c.loop-log.log-iterator ≡ log ∷ c.next.new.self = search rules in (
      search rules,
      search rules,
      (
        front ++ log ∷ [],
        q ∙ (ap (λ r. front ++ r) e ∙ sym (append_assoc front (log ∷ []) c.next.new.self)),
        (h.0, none_more c.args.column front log h.1 c.if-log-column.false),
      ),
    )

pub returns : goal.returns
returns c =
    let (f, g, (front, q, h)) = c.loop-log.invariant in
    let own = (track_of c.args.track.now).own in
    let e : c.loop-log.log-iterator ≡ [] = search rules in
    ap victim_or_none (sym (last_none (own ∷ front) c.args.column h))
    ∙ ap (λ ls. victim_or_none (last_conflict (own ∷ ls) c.args.column)) (sym (q ∙ (ap (λ r. front ++ r) e ∙ append-nil front)))
