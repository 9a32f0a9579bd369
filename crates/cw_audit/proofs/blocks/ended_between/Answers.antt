use Rattle.std.proofs.Common.{◌≡◌, ℕ, sym, ◌∙◌, subst, Some, false, inl, inr}
use Rattle.std.proofs.lemmas.Bool.{cases_Bool}
use Rattle.cw_tree.proofs.Walks.There.{stamp_is}
use Rattle.cw_audit.specs.Ended.{EndedUpTo, has_ended_by}
use Rattle.cw_audit.proofs.Shortcuts.{open_above, open_aside}
use Rattle.cw_audit.proofs.blocks.ended_between.Goals as goal

pub returns-in-Some-clause-ended : goal.returns-in-Some-clause-ended
returns-in-Some-clause-ended c =
    let t = c.args.tree.now in
    let u = c.args.access in
    let v = c.args.next in
    let b = c.in-Some.block in
    let time = sym (stamp_is t v c.node.result.now c.node.ensures) in
    let P : ℕ → Type 0 = λ s. EndedUpTo t s u (Some b) in
    let Q : ℕ → Type 0 = λ s. has_ended_by t s b ≡ false in
    let r = c.nodes.ensures.numbered.rooted in
    let up = subst P time c.in-Some.ensures.ended in (
      λ e. open_above t r u v c.requires.next b up (sym c.is_above.ensures ∙ e),
      λ all. elim (cases_Bool c.is_above.result) [ inl e ↦ e | inr e ↦ absurd (open_aside t r u v c.requires.next b up (subst Q time c.in-Some.ensures.open) (sym c.is_above.ensures ∙ e) all) ],
    )
