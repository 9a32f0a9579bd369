use Rattle.std.proofs.Common.{◌≡◌, List, subst}
use Rattle.std.specs.Prelude.{All}
use Rattle.std.proofs.lemmas.List.Elements.{All-append}
use Rattle.cw_tree.specs.declared.conflict.Conflict.{Conflict}
use Rattle.cw_log.specs.declared.log.Log.{Log}
use Rattle.cw_log.specs.Tokens.{conflicts_in}
use Rattle.cw_log.proofs.Conflicts.{all_in}
use Rattle.tests_board.proofs.tests.led.is_unspent.Goals as goal

pub returns : goal.returns
returns c = λ t.
    let (a, m) = c.both.ensures t in
    let P : Conflict → Type 0 = λ k. k.attempt ≡ c.args.budget → ⊥ in
    All-append P c.args.token.now.track.conflicts.items (conflicts_in c.args.token.now.track.joined)
    (subst (λ (ks : List Conflict). All P ks) c.conflicts.ensures (c.are_unspent.ensures a))
    (all_in P c.args.token.now.track.joined (subst (λ (ls : List Log). All (λ (l : Log). All P l.conflicts) ls) c.joined_logs.ensures (c.all_unspent.ensures m)))
