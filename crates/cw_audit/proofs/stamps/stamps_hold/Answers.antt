use Rattle.std.proofs.Common.{◌↔◌, ℕ, ◌<◌, length}
use Rattle.std.specs.Prelude.{IsTrue}
use Rattle.std.proofs.lemmas.Result.{IfOk-weaker}
use Rattle.cw_tree.specs.Shape.{AreStamps}
use Rattle.cw_audit.specs.Latest.{ComesLate}
use Rattle.cw_audit.proofs.Rising.Parts.{stamps_from, own_to, distinct_to, last_to, late_to, stamps_last}
use Rattle.cw_audit.proofs.stamps.stamps_hold.Goals as goal

pub returns-then-not-have_their_stamps : goal.returns-then-not-have_their_stamps
returns-then-not-have_their_stamps c = (λ e. absurd (cc e), λ s. absurd (cc (c.have_their_stamps.ensures.1 (own_to c.args.tree.now s), c.if-not-have_their_stamps.true)))

pub returns-then-not-branch : goal.returns-then-not-branch
returns-then-not-branch c = (λ e. absurd (cc e), λ s. absurd (cc (c.in_ok-times_differ.ensures.1 (distinct_to c.args.tree.now s), c.if-not-branch.true)))

pub returns-then-not-blocks_end_last : goal.returns-then-not-blocks_end_last
returns-then-not-blocks_end_last c = (λ e. absurd (cc e), λ s. absurd (cc (c.blocks_end_last.ensures.1 (last_to c.args.tree.now s), c.if-not-blocks_end_last.true)))

pub returns : goal.returns
returns c =
    let t = c.args.tree.now in
    let own = c.have_their_stamps.ensures.0 c.if-not-have_their_stamps.false in
    let distinct = c.in_ok-times_differ.ensures.0 c.if-not-branch.false in
    let last = c.blocks_end_last.ensures.0 c.if-not-blocks_end_last.false in
    IfOk-weaker c.stamps_rise.result (λ b. IsTrue b ↔ ((m : ℕ) → m < length t → ComesLate t m)) (λ b. IsTrue b ↔ AreStamps t)
    (λ b w. stamps_last t b (late_to t) (stamps_from t own distinct last) w) c.stamps_rise.ensures
