use Rattle.std.proofs.Common.{rules, subst, sym, ap, ◌∙◌, ◌≡◌, [], ◌∷◌, ◌++◌, append_assoc, append-nil}
use Rattle.std.specs.Prelude.{Contains}
use Rattle.std.proofs.lemmas.List.Elements.{All-push}
use Rattle.cw_log.specs.Tokens.{conflicts_in}
use Rattle.cw_log.proofs.Conflicts.{all_in}
use Rattle.tests_log.specs.Kept.{HasVictim, HasNoVictim}
use Rattle.tests_log.proofs.Victims.{one_in}
use Rattle.tests_log.proofs.conditions.have_victim.Goals as goal

pub returns-then-has_victim : goal.returns-then-has_victim
returns-then-has_victim c =
    let (f, g, (front, q, none)) = c.loop-log.invariant in
    let e : c.loop-log.log-iterator ≡ c.in-Some.log.now ∷ c.next.new.self = search rules in
    let there : HasVictim c.in-Some.log.now.conflicts c.args.begin = search rules in
    let (k, h, v) = there in
    (k, subst (λ ls. Contains (conflicts_in ls) k) (sym (q ∙ ap (λ r. front ++ r) e)) (one_in front c.in-Some.log.now c.next.new.self k h), v)

pub loop-log-preserved : goal.loop-log-preserved
loop-log-preserved c =
    let (f, g, (front, q, none)) = c.loop-log.invariant in
    let e : c.loop-log.log-iterator ≡ c.in-Some.log.now ∷ c.next.new.self = search rules in
    let spared : HasNoVictim c.in-Some.log.now.conflicts c.args.begin = search rules in (
      search rules,
      search rules,
      (
        front ++ c.in-Some.log.now ∷ [],
        q ∙ (ap (λ r. front ++ r) e ∙ sym (append_assoc front (c.in-Some.log.now ∷ []) c.next.new.self)),
        All-push (λ l. HasNoVictim l.conflicts c.args.begin) front c.in-Some.log.now none spared,
      ),
    )

pub returns : goal.returns
returns c =
    let (f, g, (front, q, none)) = c.loop-log.invariant in
    let e : c.loop-log.log-iterator ≡ [] = search rules in
    subst (λ ls. HasNoVictim (conflicts_in ls) c.args.begin) (sym (q ∙ (ap (λ r. front ++ r) e ∙ append-nil front)))
    (all_in (λ x. x.victim ≡ c.args.begin → ⊥) front none)
