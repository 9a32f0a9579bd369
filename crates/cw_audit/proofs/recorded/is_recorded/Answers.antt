use Rattle.cw_audit.proofs.Recording.{recorded_from, some_last, some_block, recorded_told, recorded_moment, asker_there}
use Rattle.cw_audit.proofs.recorded.is_recorded.Goals as goal

pub returns-in_default : goal.returns-in_default
returns-in_default c = (λ e. absurd (cc e), λ w. let z = some_last c.args.tree.now c.args.conflict.now c.requires.stamps w in absurd (c.in_default.ensures z.0 z.1))

pub returns-in_default-node_at : goal.returns-in_default-node_at
returns-in_default-node_at c = (λ e. absurd (cc e), λ w. let z = some_block c.args.tree.now c.args.conflict.now c.requires.stamps w in absurd (c.in_default-node_at.ensures z.0 z.1))

pub returns-then-not-is_told : goal.returns-then-not-is_told
returns-then-not-is_told c = (
  λ e. absurd (cc e),
  λ w. absurd (cc (c.if-not-is_told.true, c.is_told.ensures.1 (recorded_told c.args.tree.now c.args.conflict.now c.requires.stamps w c.in-Some.access c.in-Some-node_at.block c.in-Some.ensures c.in-Some-node_at.ensures))),
)

pub has_moment-requires-clause-asker : goal.has_moment-requires-clause-asker
has_moment-requires-clause-asker c = let told = c.is_told.ensures.0 c.if-not-is_told.false in asker_there c.args.tree.now c.args.conflict.now told.met.asker

pub returns : goal.returns
returns c =
    let t = c.args.tree.now in
    let x = c.args.conflict.now in (
      λ e. recorded_from t x c.in-Some.access c.in-Some-node_at.block (c.is_told.ensures.0 c.if-not-is_told.false) (c.has_moment.ensures.0 e),
      λ w. c.has_moment.ensures.1 (recorded_moment t x c.requires.stamps w c.in-Some.access c.in-Some-node_at.block c.in-Some.ensures c.in-Some-node_at.ensures),
    )
