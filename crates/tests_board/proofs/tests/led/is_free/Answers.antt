use Rattle.std.proofs.Common.{◌≡◌, ℕ, List, subst, sym}
use Rattle.std.specs.Prelude.{All, Contains}
use Rattle.std.proofs.lemmas.List.Elements.{All-append, All-weaker}
use Rattle.cw_tree.specs.declared.conflict.Conflict.{Conflict}
use Rattle.cw_log.specs.declared.log.Above.{Above}
use Rattle.cw_log.specs.declared.log.Log.{Log}
use Rattle.cw_log.specs.Tokens.{conflicts_in, Fells}
use Rattle.cw_log.proofs.Conflicts.{all_in}
use Rattle.cw_steps.specs.Stands.{token_of}
use Rattle.tests_board.proofs.Led.{none_begins}
use Rattle.tests_board.proofs.tests.led.is_free.Goals as goal

pub returns : goal.returns
returns c = λ t.
    let (a, m) = c.both.ensures t in
    let blocks : List Above = c.pending-blocks.result.now in
    let own : List Conflict = c.args.token.now.track.conflicts.items in
    let joined : List Log = c.args.token.now.track.joined in
    let Q : Conflict → Type 0 = λ k. All (λ (b : Above). b.begin ≡ k.victim → ⊥) blocks in
    All-weaker Q (λ k. Fells (token_of c.args.token.now) k → ⊥)
    (λ k q h. none_begins blocks k.victim q (subst (λ (ns : List ℕ). Contains ns k.victim) (sym c.pending-blocks.ensures.around) h))
    _
    (All-append Q own (conflicts_in joined) (subst (λ (ks : List Conflict). All Q ks) c.conflicts.ensures (c.are_free.ensures a))
    (all_in Q joined (subst (λ (ls : List Log). All (λ (l : Log). All Q l.conflicts) ls) c.joined_logs.ensures (c.all_free.ensures m))))
