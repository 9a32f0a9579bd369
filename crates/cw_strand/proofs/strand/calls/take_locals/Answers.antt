use Rattle.std.proofs.Common.{◌≡◌, ◌∙◌, rules, arith, length, replicate, pos, ap, SFits, w64}
use Rattle.std.proofs.lemmas.Int.{to_z-of_z}
use Rattle.std.proofs.lemmas.List.{length-set}
use Rattle.cw_strand.proofs.Arguments.{none_taken, one_taken, rest_taken}
use Rattle.cw_strand.proofs.strand.calls.take_locals.Goals as goal

pub loop-place-init : goal.loop-place-init
loop-place-init c = record {
  locals = let zeros : c.in_ok-locals.locals.items ≡ replicate c.args.func.now.locals (pos 0) = search rules in none_taken c.args.func.now c.args.operands.now c.in_ok-locals.locals.items zeros;
  rest = search rules;
  count = search rules;
  room = search rules;
}

pub loop-place-preserved : goal.loop-place-preserved
loop-place-preserved c =
    let fits : SFits w64 c.in-Some.value = search rules in
    let v = c.loop-place.invariant in
    simp (to_z-of_z w64 c.in-Some.value fits) (record {
      locals = v.locals ∙ one_taken c.loop-place.place c.in-Some.value c.loop-place.operands c.pop.new.self c.loop-place.locals.items (omega arith) (omega arith) c.in-Some.ensures;
      rest = rest_taken c.loop-place.place c.in-Some.value c.loop-place.operands c.pop.new.self (omega arith) c.in-Some.ensures ∙ v.rest;
      count = length-set _ _ _ ∙ v.count;
      room = omega (arith, ap length c.in-Some.ensures);
    })
