use Rattle.std.proofs.Common.{rules, ◌≡◌, ap, sym, ◌∙◌, refl, SFits, w64}
use Rattle.std.proofs.lemmas.Int.{to_z-of_z}
use Rattle.cw_strand.specs.declared.want.Given.TheVariants.{Nothing}
use Rattle.cw_tree.specs.declared.node.Kind.TheVariants.{Out}
use Rattle.cw_log.specs.Tokens.{made}
use Rattle.cw_pool.proofs.Tasks.Acting.{acts, acts_last}
use Rattle.cw_pool.proofs.moves.put_out.Goals as goal

pub invariant_of-now-in-Ok-answer : goal.invariant_of-now-in-Ok-answer
invariant_of-now-in-Ok-answer g c =
    let (stamp, e0) = c.in-Ok.ensures.ok in
    let signed : SFits w64 c.in-Some-Out.value = search rules in
    let e : g.B.SharedBoard.of c.out.new.token ≡ made (g.B.SharedBoard.of c.now.inside.token) (Out c.in-Some-Out.value) stamp =
    e0 ∙ ap (λ v. made (g.B.SharedBoard.of c.now.inside.token) (Out v) stamp) (to_z-of_z w64 c.in-Some-Out.value signed) in
    acts _ _ _ _ _ _ _ _ _ _ stamp Nothing c.in-Goes.is c.now.invariant (sym (c.in-Some-Out.ensures g.J.RunName.job) ∙ c.in-Some-Out.field-0-is, refl) e (c.in-Ok-answer.ensures.ok g.J.RunName.job (sym c.args.scene.now.program_of))

pub invariant_of-now-in-Err : goal.invariant_of-now-in-Err
invariant_of-now-in-Err g c =
    let (stamp, e0) = c.in-Ok.ensures.ok in
    let signed : SFits w64 c.in-Some-Out.value = search rules in
    let e : g.B.SharedBoard.of c.out.new.token ≡ made (g.B.SharedBoard.of c.now.inside.token) (Out c.in-Some-Out.value) stamp =
    e0 ∙ ap (λ v. made (g.B.SharedBoard.of c.now.inside.token) (Out v) stamp) (to_z-of_z w64 c.in-Some-Out.value signed) in
    acts_last _ _ _ _ _ _ _ _ _ _ _ stamp Nothing c.in-Goes.is c.now.invariant (sym (c.in-Some-Out.ensures g.J.RunName.job) ∙ c.in-Some-Out.field-0-is, refl) e c.halt.ensures
