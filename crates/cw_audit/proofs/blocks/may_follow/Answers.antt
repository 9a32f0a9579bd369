use Rattle.std.proofs.Common.{ℕ, sym, ◌∙◌, subst}
use Rattle.std.proofs.lemmas.Option.{same_Some}
use Rattle.cw_tree.specs.Journals.{EndedBetween}
use Rattle.cw_audit.proofs.blocks.may_follow.Goals as goal

pub returns-in-Some-clause-ended : goal.returns-in-Some-clause-ended
returns-in-Some-clause-ended c =
    let P : ℕ → Type 0 = λ x. EndedBetween c.args.tree.now x c.args.next in (
      λ e u is. subst P (same_Some c.in-Some.access u (sym c.in-Some.is ∙ is)) (c.ended_between.ensures.ended.0 e),
      λ all. c.ended_between.ensures.ended.1 (all c.in-Some.access c.in-Some.is),
    )
