use Rattle.std.proofs.Common.{◌≡◌, ◌+◌, ◌∙◌, sym, subst}
use Rattle.std.specs.Prelude.{MatchOption, vec_len}
use Rattle.cw_steps.proofs.Tracks.Pending.{popped}
use Rattle.cw_steps.proofs.track.pending.pop_innermost.Goals as goal

pub returns-clause-block : goal.returns-clause-block
returns-clause-block c =
    let old = c.args.pending.now in
    let new = c.pop.new.self in
    (popped old.items new.items c.pop.result c.pop.ensures.items
    (λ e. sym old.ok.0 ∙ (subst (λ o. MatchOption o ((vec_len old ≡ 0) × (vec_len new ≡ 0)) (λ _. vec_len new + 1 ≡ vec_len old)) e c.pop.ensures.cases).0)).0

pub returns-clause-rest : goal.returns-clause-rest
returns-clause-rest c =
    let old = c.args.pending.now in
    let new = c.pop.new.self in
    (popped old.items new.items c.pop.result c.pop.ensures.items
    (λ e. sym old.ok.0 ∙ (subst (λ o. MatchOption o ((vec_len old ≡ 0) × (vec_len new ≡ 0)) (λ _. vec_len new + 1 ≡ vec_len old)) e c.pop.ensures.cases).0)).1
