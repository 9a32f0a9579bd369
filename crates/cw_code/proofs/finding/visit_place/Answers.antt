use Rattle.std.proofs.Common.{◌≡◌, ◌+◌, ◌<◌, Some, None, length, sym, ap, ◌∙◌, subst, arith}
use Rattle.std.specs.Prelude.{slice_get, slice_index_or}
use Rattle.cw_code.specs.Rules.{effect_of, next_of, target_of, onwards, passed}
use Rattle.cw_code.specs.Nested.{AreBelow, IsBelow, level_on_arrival, situation_at}
use Rattle.cw_code.proofs.Fold.{next_inside, target_inside}
use Rattle.cw_code.proofs.Rows.{grown_twice}
use Rattle.cw_code.proofs.Seen.{Leaves, below_grown, give_below, length_given, visit_seen}
use Rattle.cw_code.proofs.finding.visit_place.Goals as goal

pub offer-requires : goal.offer-requires
offer-requires c =
    let f = c.args.func.now in
    (c.requires.inside.1, λ q is. next_inside f (f.start + c.args.n) _ q (sym c.next.ensures ∙ is))

pub offer-requires-in-Some-places : goal.offer-requires-in-Some-places
offer-requires-in-Some-places c =
    let f = c.args.func.now in
    (ap length c.offer.ensures ∙ (length_given f _ _ _ c.args.places.now ∙ c.requires.inside.1), λ q is. target_inside f c.in-Some.instr c.effect_at-effect.result q (sym c.target.ensures ∙ is))

pub returns-in_ok-away-in-Some-places-clause-length : goal.returns-in_ok-away-in-Some-places-clause-length
returns-in_ok-away-in-Some-places-clause-length c =
    let f = c.args.func.now in
    ap length c.offer-in-Some-places.ensures ∙ (length_given f _ _ _ c.offer.new.places ∙ (ap length c.offer.ensures ∙ length_given f _ _ _ c.args.places.now))

pub returns-in_ok-away-in-Some-places-clause-grown : goal.returns-in_ok-away-in-Some-places-clause-grown
returns-in_ok-away-in-Some-places-clause-grown c = grown_twice c.args.nestings.now c.ahead.new.nestings c.after.new.nestings c.ahead.ensures.grown c.after.ensures.grown

pub returns-in_ok-away-in-Some-places-clause-below : goal.returns-in_ok-away-in-Some-places-clause-below
returns-in_ok-away-in-Some-places-clause-below c =
    let f = c.args.func.now in
    let count = length c.after.new.nestings in
    let p = f.start + c.args.n in
    let first = below_grown c.ahead.new.nestings c.after.new.nestings c.args.places.now c.after.ensures.grown (below_grown c.args.nestings.now c.ahead.new.nestings c.args.places.now c.ahead.ensures.grown c.requires.places) in
    let low : c.in_ok-ahead-in-Some-places.ahead.nesting < count = omega (arith, c.in_ok-ahead-in-Some-places.ensures.made, c.after.ensures.grown.longer) in
    let second = subst (AreBelow count) (sym c.offer.ensures) (give_below count f c.next.result p c.in_ok-ahead-in-Some-places.ahead c.args.places.now low first) in
    subst (AreBelow count) (sym c.offer-in-Some-places.ensures) (give_below count f c.target.result p c.in_ok-away-in-Some-places.away c.offer.new.places c.in_ok-away-in-Some-places.ensures.made second)

pub returns-in_ok-away-in-Some-places-clause-visited : goal.returns-in_ok-away-in-Some-places-clause-visited
returns-in_ok-away-in-Some-places-clause-visited c =
    let f = c.args.func.now in
    let code = c.args.code.now in
    let i = c.in-Some.instr in
    let p = f.start + c.args.n in
    let ns = c.args.nestings.now in
    let ms = c.ahead.new.nestings in
    let ls = c.after.new.nestings in
    let a = c.in-Some-places.arrival in
    let known : slice_index_or c.args.places.now c.args.n None ≡ Some a = c.in-Some-places.is in
    let e = c.effect_at-effect.ensures in
    let w : Leaves code f p ns ms ls c.args.places.now c.ahead.ensures.grown c.after.ensures.grown c.requires.places i (effect_of i) a.level c.in_ok-ahead-in-Some-places.ahead c.in_ok-away-in-Some-places.away = record {
      low = subst (λ o. IsBelow (length ns) (level_on_arrival o)) known (c.requires.places c.args.n);
      made = c.in_ok-ahead-in-Some-places.ensures.made;
      on = c.in_ok-ahead-in-Some-places.ensures.leaves ∙ ap (λ x. onwards code i x (situation_at ns a.level)) e;
      off = c.in_ok-away-in-Some-places.ensures.leaves ∙ ap (λ x. passed code i x (situation_at ms a.level)) e;
    } in
    visit_seen code f p ns ms ls c.args.places.now c.ahead.ensures.grown c.after.ensures.grown c.requires.places c.args.n i a c.in_ok-ahead-in-Some-places.ahead c.in_ok-away-in-Some-places.away c.offer.new.places c.offer-in-Some-places.new.places c.next.result c.target.result (slice_get code.instrs p)
    w c.in-Some.ensures known (c.next.ensures ∙ ap (next_of f p) e) c.offer.ensures (c.target.ensures ∙ ap (target_of f i) e) c.offer-in-Some-places.ensures
