use Rattle.std.proofs.Common.{ℕ, ◌∙◌, ◌∷◌, ap, sym, subst}
use Rattle.atomic_table.specs.Table.{rest}
use Rattle.cw_steps.specs.Homes.{MayGive}
use Rattle.cw_steps.specs.Views.{key_of}
use Rattle.cw_steps.specs.declared.view.Slot.TheVariants as slot
use Rattle.cw_board.specs.Boards.{cells_in}
use Rattle.cw_steps.specs.Tracks.{track_of}
use Rattle.cw_board.proofs.Forking.{brought_pending, gives_fork, part_kept}
use Rattle.cw_board.proofs.board.Board.make_fork.Goals as goal

pub give-requires-clause-held : goal.give-requires-clause-held
give-requires-clause-held c =
    let b = c.args.self.now in
    let u = c.args.token.now in
    let v = c.put_tier.new.token in
    let h = c.requires.held in
    let d = c.draw.ensures in
    let o = c.put_tier.ensures in
    subst (λ (n : ℕ). MayGive (key_of b.shared) v n c.args.home) (sym c.cells-place.ensures)
    (gives_fork b c.args.left c.args.right c.args.gap c.draw.result u.track.behind u.track.second h.1 c.args.tier c.args.home h.0 u v h.2 (o.view ∙ d.view)
    (o.slots ∙ ap (λ ys. (cells_in b, slot.Tier c.args.tier) ∷ rest ys) (d.slots ∙ h.2.slots)) c.requires.tier c.requires.comes c.requires.brings)

pub returns-clause-spare : goal.returns-clause-spare
returns-clause-spare c =
    let u = c.args.token.now in
    let d = c.draw.ensures in
    let o = c.put_tier.ensures in
    let e = c.give.ensures in
    part_kept u.track c.give.new.token.track
    (ap (λ k. k.pending) e.track ∙ brought_pending c.args.home (track_of c.put_tier.new.token.track) ∙ ap (λ k. (track_of k).pending) o.track ∙ ap (λ k. k.pending) d.track)
    (e.kept.0 ∙ ap (λ k. k.spare) o.track ∙ d.kept.0) c.requires.ready.1
