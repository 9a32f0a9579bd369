use Rattle.std.proofs.Common.{◌≡◌, true, ap, sym, ◌∙◌, refl, rules, Some, None}
use Rattle.cw_tree.specs.Nodes.{is_block, parent_of, stamp_of}
use Rattle.cw_tree.specs.Accesses.{live_accesses}
use Rattle.cw_tree.specs.Cancels.{put_back}
use Rattle.cw_tree.proofs.Walks.There.{stamp_is}
use Rattle.cw_audit.specs.Backs.{list_told}
use Rattle.cw_audit.proofs.Backs.{cancel_none, cancel_from, cancel_to}
use Rattle.cw_audit.proofs.cancels.cancel_holds.Goals as goal

pub returns-in_default : goal.returns-in_default
returns-in_default c =
    let t = c.args.tree.now in
    let none : list_told t c.args.n ≡ None = sym c.list_told.ensures ∙ search rules in
    (λ e. cancel_none t c.args.first.now c.args.n none, λ w. refl)

pub returns-then-not-is_block : goal.returns-then-not-is_block
returns-then-not-is_block c =
    let t = c.args.tree.now in
    let n = c.args.n in
    let told : list_told t n ≡ Some c.in-Some.back.now = sym c.list_told.ensures ∙ search rules in
    (λ e. absurd (cc e), λ w. absurd (cc (c.if-not-is_block.true, c.is_block.ensures ∙ ap (is_block t) c.parent-block.ensures.parent ∙ (cancel_to t c.args.first.now n c.in-Some.back.now told w).0)))

pub returns : goal.returns
returns c =
    let t = c.args.tree.now in
    let n = c.args.n in
    let first = c.args.first.now in
    let back = c.in-Some.back.now in
    let told : list_told t n ≡ Some back = sym c.list_told.ensures ∙ search rules in
    let block : is_block t (parent_of t n) ≡ true = sym (ap (is_block t) c.parent-block.ensures.parent) ∙ sym c.is_block.ensures ∙ c.if-not-is_block.false in
    let same : put_back t first (live_accesses t) c.parent-block.result c.node.result.now.stamp ≡ put_back t first (live_accesses t) (parent_of t n) (stamp_of t n) =
    ap (λ b. put_back t first (live_accesses t) b c.node.result.now.stamp) c.parent-block.ensures.parent
    ∙ ap (put_back t first (live_accesses t) (parent_of t n)) (sym (stamp_is t n c.node.result.now c.node.ensures))
    in (
      λ e. cancel_from t first n back told block (c.is_put_back.ensures.0 e ∙ same),
      λ w. c.is_put_back.ensures.1 ((cancel_to t first n back told w).1 ∙ sym same),
    )
