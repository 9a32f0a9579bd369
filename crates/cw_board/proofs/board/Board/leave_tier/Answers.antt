use Rattle.std.proofs.Common.{ℕ, ◌≡◌, ◌∙◌, ap, refl, sym, subst}
use Rattle.cw_steps.specs.declared.draw.Home.{Home}
use Rattle.cw_steps.specs.declared.draw.Home.TheVariants as home
use Rattle.cw_steps.specs.declared.view.View.{View}
use Rattle.cw_steps.specs.Homes.{ComesHome, IsAsShown, MayGive}
use Rattle.cw_steps.specs.Tracks.{brought, track_of, TrackParts}
use Rattle.cw_steps.specs.Views.{key_of, newest_aim, newest_change, newest_tier}
use Rattle.cw_steps.specs.declared.view.Slot.TheVariants as slot
use Rattle.cw_board.specs.Boards.{cells_in}
use Rattle.cw_board.proofs.Holding.{given_is, gives_tier, has_tier_too, holds_other, tier_gap}
use Rattle.cw_board.proofs.board.Board.leave_tier.Goals as goal

-- what comes with a turn leaves the word of the gap
word_brought : (m : Home) → (c : TrackParts) → (brought m c).word ≡ c.word
word_brought (home.Refused x) c = refl
word_brought (home.Split fork used) c = refl
word_brought home.Plain c = refl
word_brought (home.Merge fork used) c = refl
word_brought (home.Inline used) c = refl
word_brought (home.Early before used) c = refl

pub give-requires-clause-held : goal.give-requires-clause-held
give-requires-clause-held c =
    let b = c.args.self.now in
    let u = c.args.token.now in
    let v = c.put_tier.new.token in
    let o = c.put_tier.ensures in
    let h = c.requires.held in
    let now = holds_other b (cells_in b) h.1 (slot.Tier c.args.tier) h.0 u v h.2 o.table o.view o.slots o.track o.token in
    subst (λ (n : ℕ). MayGive (key_of b.shared) v n c.args.home) (sym c.cells-place.ensures)
    (gives_tier b c.args.tier c.args.home h.0 v now (has_tier_too b (slot.Tier c.args.tier) (slot.Tier c.args.tier) u v refl o.view c.requires.tier)
    (subst (λ (w : View). ComesHome w.fork w.phase (newest_aim w.turns) c.args.home (newest_tier w.turns) (slot.Tier c.args.tier)) (sym o.view) c.requires.brings)
    (subst (λ (w : View). IsAsShown (newest_tier w.turns) (newest_change w.turns) (slot.Tier c.args.tier)) (sym o.view) c.requires.shown))

pub returns-clause-of : goal.returns-clause-of
returns-clause-of c =
    let b = c.args.self.now in
    let u = c.args.token.now in
    let v = c.put_tier.new.token in
    let o = c.put_tier.ensures in
    let h = c.requires.held in
    let e = c.give.ensures in
    let now = holds_other b (cells_in b) h.1 (slot.Tier c.args.tier) h.0 u v h.2 o.table o.view o.slots o.track o.token in
    given_is b (cells_in b) (slot.Tier c.args.tier) h.0 v c.give.new.token c.args.home now e.table e.view e.slots e.kept.1 e.token c.requires.home
    (tier_gap b (slot.Tier c.args.tier) v c.args.home c.requires.home (has_tier_too b (slot.Tier c.args.tier) (slot.Tier c.args.tier) u v refl o.view c.requires.tier))

pub returns-clause-word : goal.returns-clause-word
returns-clause-word c =
    ap (λ k. k.word) c.give.ensures.track ∙ word_brought c.args.home (track_of c.put_tier.new.token.track) ∙ ap (λ k. (track_of k).word) c.put_tier.ensures.track
