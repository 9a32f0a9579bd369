use Rattle.std.proofs.Common.{rules, ◌≡◌, subst}
use Rattle.std.specs.Prelude.{All}
use Rattle.std.proofs.lemmas.List.Elements.{All-append}
use Rattle.cw_tree.specs.declared.conflict.Conflict.{Conflict}
use Rattle.cw_log.specs.Tokens.{IsOn, conflicts_in}
use Rattle.cw_log.proofs.Conflicts.{all_in}
use Rattle.tests_log.proofs.token.StrandToken.is_on.Goals as goal

pub returns : goal.returns
returns c = λ t.
    let (a, m) = c.both.ensures t in
    let P : Conflict → Type 0 = λ k. k.attempt ≡ c.args.budget → ⊥ in
    subst (IsOn c.args.budget) c.self.view_is (record {
      stop = search rules;
      told = search rules;
      unspent = All-append P c.self.inside.conflicts.items (conflicts_in c.self.inside.joined)
          (subst (λ ks. All P ks) c.as_slice.ensures.value (c.are_unspent.ensures a))
          (all_in P c.self.inside.joined (c.all_unspent.ensures m));
    })
