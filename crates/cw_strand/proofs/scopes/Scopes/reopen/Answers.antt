use Rattle.std.proofs.Common.{◌∙◌, ◌<◌, ◌∷◌, ℕ, List, length, ap, reverse, subst, sym}
use Rattle.cw_strand.specs.Saving.{lowest}
use Rattle.cw_strand.proofs.Lowest.{reopened}
use Rattle.cw_strand.proofs.scopes.Scopes.reopen.Goals as goal

pub returns : goal.returns
returns c =
    let n = c.args.below in
    let less = subst (λ (ns : List ℕ). n < length ns) (sym c.self.view_is) c.requires in
    ap reverse c.truncate.ensures.items ∙ reopened c.self.inside.forks.items n 0 less ∙ ap (λ (ns : List ℕ). 0 ∷ lowest n ns) c.self.view_is
