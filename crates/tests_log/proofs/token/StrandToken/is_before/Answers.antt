use Rattle.std.proofs.Common.{rules, ◌<◌, subst}
use Rattle.std.specs.Prelude.{All}
use Rattle.std.proofs.lemmas.List.Elements.{All-append}
use Rattle.cw_tree.specs.declared.conflict.Conflict.{Conflict}
use Rattle.cw_log.specs.Tokens.{IsLater, conflicts_in}
use Rattle.cw_log.proofs.Conflicts.{all_in}
use Rattle.tests_log.proofs.token.StrandToken.is_before.Goals as goal

pub returns : goal.returns
returns c = λ t.
    let (a, m, o) = c.all_three.ensures t in
    let P : Conflict → Type 0 = λ k. k.victim < c.args.stamp in
    subst (λ x. IsLater x c.args.stamp) c.self.view_is (record {
      some = c.requires;
      around = subst (λ bs. All (λ b. b < c.args.stamp) bs) (search rules) (c.are_before-around.ensures a);
      victims = All-append P c.self.inside.conflicts.items (conflicts_in c.self.inside.joined)
          (subst (λ ks. All P ks) c.as_slice.ensures.value (c.victims_before-own.ensures m))
          (all_in P c.self.inside.joined (c.joined_before-joined.ensures o));
    })
