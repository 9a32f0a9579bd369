use Rattle.std.proofs.Common.{rules, subst, sym, ap, refl, ◌∙◌, ◌≡◌, [], ◌∷◌, ◌++◌, append_assoc, append-nil}
use Rattle.cw_steps.specs.Leaving.{HasBases}
use Rattle.cw_steps.specs.Tracks.{track_of}
use Rattle.cw_steps.proofs.closing.bases.bases_of.Goals as goal

pub loop-log-init : goal.loop-log-init
loop-log-init c = (search rules, search rules, ([], search rules, c.in_ok-add.ensures [] (track_of c.args.track.now).own refl (search rules) c.in_ok-bases.ensures))

pub loop-log-preserved : goal.loop-log-preserved
loop-log-preserved c =
    let (f, g, (front, q, h)) = c.loop-log.invariant in
    let own = (track_of c.args.track.now).own in
    let e : c.loop-log.log-iterator ≡ c.in-Some.log.now ∷ c.next.new.self = search rules in (
      search rules,
      search rules,
      (
        front ++ c.in-Some.log.now ∷ [],
        q ∙ (ap (λ r. front ++ r) e ∙ sym (append_assoc front (c.in-Some.log.now ∷ []) c.next.new.self)),
        c.in_ok-add-2.ensures (own ∷ front) c.in-Some.log.now refl (sym c.len-in-loop-log.ensures) h,
      ),
    )

pub returns : goal.returns
returns c =
    let (f, g, (front, q, h)) = c.loop-log.invariant in
    let e : c.loop-log.log-iterator ≡ [] = search rules in
    subst (λ ls. HasBases c.loop-log.bases ((track_of c.args.track.now).own ∷ ls)) (sym (q ∙ (ap (λ r. front ++ r) e ∙ append-nil front))) h
