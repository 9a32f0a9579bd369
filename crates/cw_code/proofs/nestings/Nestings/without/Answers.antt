use Rattle.std.proofs.Common.{◌≡◌, ◌<◌, ◌++◌, ◌∷◌, true, length, replicate, IfOk, refl, sym, ap, ◌∙◌, subst, arith}
use Rattle.cw_code.specs.Rules.{is_part, without_part}
use Rattle.cw_code.specs.Nested.{parts_at, IsGrown}
use Rattle.cw_code.proofs.Parts.{other_part, one_of_two, one_before, without_behind, without_first}
use Rattle.cw_code.proofs.Rows.{grown_not}
use Rattle.cw_code.proofs.nestings.Nestings.without.Goals as goal

pub again-requires : goal.again-requires
again-requires c = let r = c.in-Some.ensures.some c.in-Some.found refl in omega (arith, r.1, c.loop-found.invariant.below)

pub returns-then-is_part-clause-grown : goal.returns-then-is_part-clause-grown
returns-then-is_part-clause-grown c = subst (λ ns. IsGrown ns c.again.new.self) c.loop-found.invariant.same c.again.ensures.grown

pub returns-then-is_part-clause-parts : goal.returns-then-is_part-clause-parts
returns-then-is_part-clause-parts c =
    let r = c.in-Some.ensures.some c.in-Some.found refl in
    let q = c.other_kind.result in
    let kind = c.other_kind.ensures in
    let found : is_part c.args.part c.in-Some.found.part ≡ true = sym c.is_part.ensures ∙ c.if-is_part.true in
    let all : parts_at c.args.self.now c.args.number ≡ replicate c.loop-found.passed q ++ c.in-Some.found.part ∷ parts_at c.loop-found.self c.in-Some.found.outer =
    ap (λ ns. parts_at ns c.args.number) (sym c.loop-found.invariant.same) ∙ c.loop-found.invariant.parts q kind ∙ ap (λ ps. replicate c.loop-found.passed q ++ ps) r.0
    in
    let left : without_part c.args.part (parts_at c.args.self.now c.args.number) ≡ replicate c.loop-found.passed q ++ parts_at c.loop-found.self c.in-Some.found.outer =
    ap (without_part c.args.part) all ∙ without_behind c.args.part q c.loop-found.passed _ kind ∙ ap (λ ps. replicate c.loop-found.passed q ++ ps) (without_first c.args.part c.in-Some.found.part _ found)
    in
    subst (λ ps. IfOk c.again.result (λ n. parts_at c.again.new.self n ≡ ps)) (sym left) c.again.ensures.parts

pub overflow_add-passed : goal.overflow_add-passed
overflow_add-passed c =
    let r = c.in-Some.ensures.some c.in-Some.found refl in
    omega (arith, r.1, c.loop-found.invariant.room, c.ranges.number.fits)

pub loop-found-smaller : goal.loop-found-smaller
loop-found-smaller c = (c.in-Some.ensures.some c.in-Some.found refl).1

pub loop-found-preserved : goal.loop-found-preserved
loop-found-preserved c =
    let r = c.in-Some.ensures.some c.in-Some.found refl in
    record {
      same = c.loop-found.invariant.same;
      below = omega (arith, r.1, c.loop-found.invariant.below);
      room = omega (arith, r.1, c.loop-found.invariant.room);
      parts = λ q ne.
          let kind : c.in-Some.found.part ≡ q = one_of_two c.args.part c.in-Some.found.part q (sym c.is_part.ensures ∙ c.if-is_part.false) ne in
          c.loop-found.invariant.parts q ne ∙ ap (λ ps. replicate c.loop-found.passed q ++ ps) (r.0 ∙ ap (λ x. x ∷ parts_at c.loop-found.self c.in-Some.found.outer) kind) ∙ one_before q c.loop-found.passed _;
    }

pub returns-clause-grown : goal.returns-clause-grown
returns-clause-grown c = subst (IsGrown c.args.self.now) (sym c.loop-found.invariant.same) (grown_not c.args.self.now)

pub returns-clause-made : goal.returns-clause-made
returns-clause-made c = subst (λ ns. c.args.number < length ns) (sym c.loop-found.invariant.same) c.requires

pub returns-clause-parts : goal.returns-clause-parts
returns-clause-parts c =
    let o = other_part c.args.part in
    let q = o.0 in
    let all : parts_at c.loop-found.self c.args.number ≡ replicate c.loop-found.passed q ++ parts_at c.loop-found.self c.loop-found.around = c.loop-found.invariant.parts q o.1 in
    let nothing = c.in_default.ensures.none refl in
    let kept : without_part c.args.part (parts_at c.loop-found.self c.args.number) ≡ parts_at c.loop-found.self c.args.number =
    ap (without_part c.args.part) all ∙ without_behind c.args.part q c.loop-found.passed _ o.1 ∙ ap (λ ps. replicate c.loop-found.passed q ++ without_part c.args.part ps) nothing
    ∙ sym (all ∙ ap (λ ps. replicate c.loop-found.passed q ++ ps) nothing)
    in
    sym kept ∙ ap (λ ns. without_part c.args.part (parts_at ns c.args.number)) c.loop-found.invariant.same
