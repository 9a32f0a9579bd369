use Rattle.std.proofs.Common.{ℕ, refl, subst, ap, ◌∙◌}
use Rattle.cw_steps.specs.declared.view.View.{View}
use Rattle.cw_steps.specs.Views.{newest_aim, newest_change, newest_tier, tier_of, Holding}
use Rattle.cw_steps.specs.declared.view.Slot.TheVariants as slot
use Rattle.cw_board.specs.Boards.{cells_in}
use Rattle.cw_board.specs.Turns.{HasTaken}
use Rattle.cw_board.proofs.Boards.{at_rest_quiet}
use Rattle.cw_board.proofs.Holding.{aim_now, has_tier_too, holding, holds_now, holds_other, lay_now, lies_there, quiet_now, tier_lies, tier_now}
use Rattle.cw_board.proofs.board.Board.hold_tier.Goals as goal

pub take_turn-requires-clause-quiet : goal.take_turn-requires-clause-quiet
take_turn-requires-clause-quiet g c = at_rest_quiet c.args.self.now c.args.token.now c.requires

pub take_tier-requires-clause-held : goal.take_tier-requires-clause-held
take_tier-requires-clause-held g c =
    let b = c.args.self.now in
    let t = c.args.token.now in
    let u = c.take_turn.new.token in
    let e = c.take_turn.ensures in
    let taken : HasTaken b c.args.aim (cells_in b) t u = subst (λ (n : ℕ). HasTaken b c.args.aim n t u) c.cells-place.ensures e.taken in
    let lies = tier_lies _ _ taken.takes.lay (tier_now b c.args.aim (cells_in b) t u taken refl).whole in
    (lies.0, subst (Holding u (cells_in b)) lies.1 (holding b (cells_in b) taken.takes.lay t u (holds_now b c.args.aim (cells_in b) t u taken c.requires e.table)))

pub returns-clause-held : goal.returns-clause-held
returns-clause-held g c =
    let b = c.args.self.now in
    let t = c.args.token.now in
    let u = c.take_turn.new.token in
    let e = c.take_turn.ensures in
    let o = c.take_tier.ensures in
    let taken : HasTaken b c.args.aim (cells_in b) t u = subst (λ (n : ℕ). HasTaken b c.args.aim n t u) c.cells-place.ensures e.taken in
    holds_other b (cells_in b) taken.takes.lay slot.Empty t u c.take_tier.new.token (holds_now b c.args.aim (cells_in b) t u taken c.requires e.table) o.table o.view o.slots o.track o.token

pub returns-clause-tier : goal.returns-clause-tier
returns-clause-tier g c =
    let b = c.args.self.now in
    let t = c.args.token.now in
    let u = c.take_turn.new.token in
    let e = c.take_turn.ensures in
    let o = c.take_tier.ensures in
    let taken : HasTaken b c.args.aim (cells_in b) t u = subst (λ (n : ℕ). HasTaken b c.args.aim n t u) c.cells-place.ensures e.taken in
    let h = holds_now b c.args.aim (cells_in b) t u taken c.requires e.table in
    has_tier_too b taken.takes.lay (slot.Tier c.take_tier.result) u c.take_tier.new.token (lies_there b (cells_in b) taken.takes.lay (slot.Tier c.take_tier.result) t u _ h o.out) o.view (tier_now b c.args.aim (cells_in b) t u taken refl)

pub returns-clause-lay : goal.returns-clause-lay
returns-clause-lay g c =
    let b = c.args.self.now in
    let t = c.args.token.now in
    let u = c.take_turn.new.token in
    let e = c.take_turn.ensures in
    let o = c.take_tier.ensures in
    let taken : HasTaken b c.args.aim (cells_in b) t u = subst (λ (n : ℕ). HasTaken b c.args.aim n t u) c.cells-place.ensures e.taken in
    let h = holds_now b c.args.aim (cells_in b) t u taken c.requires e.table in
    ap (λ (v : View). newest_tier v.turns) o.view ∙ lay_now b c.args.aim (cells_in b) t u taken ∙ ap tier_of (lies_there b (cells_in b) taken.takes.lay (slot.Tier c.take_tier.result) t u _ h o.out)

pub returns-clause-aim : goal.returns-clause-aim
returns-clause-aim g c =
    let b = c.args.self.now in
    let t = c.args.token.now in
    let u = c.take_turn.new.token in
    let taken : HasTaken b c.args.aim (cells_in b) t u = subst (λ (n : ℕ). HasTaken b c.args.aim n t u) c.cells-place.ensures c.take_turn.ensures.taken in
    ap (λ (v : View). newest_aim v.turns) c.take_tier.ensures.view ∙ aim_now b c.args.aim (cells_in b) t u taken

pub returns-clause-quiet : goal.returns-clause-quiet
returns-clause-quiet g c =
    let b = c.args.self.now in
    let t = c.args.token.now in
    let u = c.take_turn.new.token in
    let taken : HasTaken b c.args.aim (cells_in b) t u = subst (λ (n : ℕ). HasTaken b c.args.aim n t u) c.cells-place.ensures c.take_turn.ensures.taken in
    ap (λ (v : View). newest_change v.turns) c.take_tier.ensures.view ∙ quiet_now b c.args.aim (cells_in b) t u taken
