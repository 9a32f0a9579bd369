use Rattle.std.proofs.Common.{ℕ, List, subst, reverse}
use Rattle.std.specs.Prelude.{Contains}
use Rattle.std.proofs.lemmas.List.Elements.{Contains-append_left}
use Rattle.cw_tree.specs.declared.conflict.Conflict.{Conflict}
use Rattle.cw_log.specs.Tokens.{conflicts_in}
use Rattle.cw_steps.specs.Tracks.{begins}
use Rattle.cw_board.proofs.Refusing.{begins_back}
use Rattle.tests_board.proofs.tests.led.is_felled.Goals as goal

pub returns : goal.returns
returns c = λ t.
    let (k, there, w) = c.has_victim.ensures t in
    let (block, pending, is) = w in (
      k,
      Contains-append_left c.args.token.now.track.conflicts.items (conflicts_in c.args.token.now.track.joined) k (subst (λ (ks : List Conflict). Contains ks k) c.conflicts.ensures there),
      subst (λ (ns : List ℕ). Contains ns k.victim) c.pending.ensures.around
          (subst (λ (n : ℕ). Contains (begins (reverse c.pending.result.now)) n) is (begins_back c.pending.result.now block pending)),
    )
