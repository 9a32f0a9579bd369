use Rattle.std.proofs.Common.{◌+◌, ◌<◌, length, arith, sym, ap, ◌∙◌, subst}
use Rattle.cw_code.specs.Rules.{begun, size_of}
use Rattle.cw_code.specs.Nested.{seen, AreBelow}
use Rattle.cw_code.proofs.Seen.{none_seen, none_below, length_none, ends_here}
use Rattle.cw_code.proofs.finding.situations.Goals as goal

pub loop-init : goal.loop-init
loop-init c =
    let f = c.args.func.now in
    let ns = c.args.nestings.now in
    let some = subst (λ ms. 0 < length ms) (sym c.requires.nothing) (omega arith) in
    record {
      passed = ap (seen ns) c.in_ok-places.ensures ∙ none_seen ns f (size_of f) c.requires.nothing;
      long = ap length c.in_ok-places.ensures ∙ length_none f (size_of f);
      below = subst (AreBelow (length ns)) (sym c.in_ok-places.ensures) (none_below (length ns) f (size_of f) some);
    }

pub returns-then-branch-clause-known : goal.returns-then-branch-clause-known
returns-then-branch-clause-known c =
    let f = c.args.func.now in
    ends_here c.args.code.now f (size_of f) c.loop.counter c.loop.places.len (size_of f + size_of f) (begun f (size_of f)) c.loop.nestings c.turn.new.nestings c.turn.new.places c.loop.places.items c.deref_mut.result.now
    c.turn.ensures.grown c.loop.invariant.below (omega arith) c.loop.invariant.passed c.deref_mut.ensures.value (c.in_ok-turn.ensures.same c.if-branch.true) c.in_ok-turn.ensures.passed (sym c.loop.places.ok.0)
