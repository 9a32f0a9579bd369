use Rattle.std.proofs.Common.{◌∙◌, ap, arith}
use Rattle.cw_steps.specs.Stands.{brought_token}
use Rattle.cw_steps.specs.Tracks.{track_of}
use Rattle.cw_steps.specs.Views.{newest_tier, view_of}
use Rattle.cw_steps.specs.declared.view.Slot.TheVariants as slot
use Rattle.cw_board.specs.Boards.{cells_in}
use Rattle.cw_board.proofs.Showing.{as_shown, shown_brings, shown_holds, shown_tier}
use Rattle.cw_board.proofs.board.Board.leave_changed.Goals as goal

pub show_tier-requires-clause-few : goal.show_tier-requires-clause-few
show_tier-requires-clause-few c = omega (arith, c.requires.tier.whole.1, c.requires.tier.few)

pub leave_tier-requires-clause-held : goal.leave_tier-requires-clause-held
leave_tier-requires-clause-held c =
    let h = c.requires.held in
    (h.0, h.1, shown_holds c.args.self.now c.args.tier c.args.token.now c.show_tier.new.token c.show_tier.ensures.shown h.1 h.0 h.2)

pub leave_tier-requires-clause-tier : goal.leave_tier-requires-clause-tier
leave_tier-requires-clause-tier c = shown_tier c.args.self.now c.args.tier c.args.token.now c.show_tier.new.token c.show_tier.ensures.shown (slot.Tier c.args.tier) c.requires.tier

pub leave_tier-requires-clause-brings : goal.leave_tier-requires-clause-brings
leave_tier-requires-clause-brings c = shown_brings c.args.self.now c.args.tier c.args.token.now c.show_tier.new.token c.show_tier.ensures.shown c.args.home c.args.tier c.requires.brings

pub leave_tier-requires-clause-shown : goal.leave_tier-requires-clause-shown
leave_tier-requires-clause-shown c =
    as_shown c.args.self.now c.args.tier c.args.token.now c.show_tier.new.token c.show_tier.ensures.shown (newest_tier (view_of c.show_tier.new.token).turns) (cells_in c.args.self.now) c.requires.held.2.turn

pub returns-clause-token : goal.returns-clause-token
returns-clause-token c = c.leave_tier.ensures.token ∙ ap (λ x. brought_token c.args.home x) c.show_tier.ensures.shown.token

pub returns-clause-word : goal.returns-clause-word
returns-clause-word c = c.leave_tier.ensures.word ∙ ap (λ k. (track_of k).word) c.show_tier.ensures.shown.track
