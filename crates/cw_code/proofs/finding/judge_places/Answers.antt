use Rattle.std.proofs.Common.{◌≡◌, ◌+◌, sym, ap, ◌∙◌, subst, add-one}
use Rattle.std.specs.Prelude.{slice_get}
use Rattle.cw_code.specs.Rules.{Places, earliest, faults_at, known_at, place_faults}
use Rattle.cw_code.specs.Nested.{seen}
use Rattle.cw_code.proofs.Fold.{earliest_append}
use Rattle.cw_code.proofs.Rows.{grown_twice}
use Rattle.cw_code.proofs.Seen.{seen_grown}
use Rattle.cw_code.proofs.finding.judge_places.Goals as goal

pub loop-n-preserved : goal.loop-n-preserved
loop-n-preserved c =
    let f = c.args.func.now in
    let code = c.args.code.now in
    let best = c.args.best in
    let n = c.loop-n.n in
    let p = f.start + n in
    let ns = c.args.nestings.now in
    let t = seen ns c.args.places.now in
    let same = seen_grown ns c.loop-n.nestings c.args.places.now c.loop-n.invariant.grown c.requires.places in
    let here = subst (λ (x : Places). c.in_ok-first.first ≡ earliest c.loop-n.first (faults_at code f x p (slice_get code.instrs p) (known_at f x p))) same c.in_ok-first.ensures.first in
    let faults = faults_at code f t p (slice_get code.instrs p) (known_at f t p) in
    record {
      first = here ∙ ap (λ x. earliest x faults) c.loop-n.invariant.first ∙ sym (earliest_append best (place_faults code f t n) faults) ∙ ap (λ k. earliest best (place_faults code f t k)) (sym (add-one n));
      grown = grown_twice ns c.loop-n.nestings c.judge_place.new.nestings c.loop-n.invariant.grown c.judge_place.ensures.grown;
    }
