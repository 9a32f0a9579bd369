use Rattle.std.proofs.Common.{ℕ, ◌∙◌, refl, sym, subst, arith}
use Rattle.cw_steps.specs.declared.view.View.{View}
use Rattle.cw_steps.specs.Views.{columns_for, key_of, view_of, CanFork}
use Rattle.cw_board.proofs.Forking.{can_fork_inline, inline_is, tier_same}
use Rattle.cw_board.proofs.board.Board.fork_inline.Goals as goal

pub returns-clause-of : goal.returns-clause-of
returns-clause-of c =
    let h = c.requires.held in
    let m = c.make_fork.ensures.made in
    inline_is c.args.self.now c.column-column.result c.column-column.result c.gap-gap.result m.0 h.1 h.0 c.args.token c.make_fork.new.token h.2 m.1

pub make_fork-requires-clause-comes : goal.make_fork-requires-clause-comes
make_fork-requires-clause-comes c =
    let v : View = view_of c.args.token in
    tier_same (columns_for c.column-column.result c.column-column.result) v.turns c.requires.quiet ∙ c.requires.lay

pub make_fork-requires-clause-brings : goal.make_fork-requires-clause-brings
make_fork-requires-clause-brings c = (c.used-used.ensures, omega (arith, c.used-used.ensures, c.requires.tier.whole.0, c.requires.tier.whole.1, c.requires.full), refl)

pub make_fork-requires-clause-fits : goal.make_fork-requires-clause-fits
make_fork-requires-clause-fits c =
    let t = c.args.token in
    let v : View = view_of t in
    let key = key_of c.args.self.now.shared in
    subst (λ (n : ℕ). CanFork key v n n c.gap-gap.result) (t.column ∙ sym c.column-column.ensures) (subst (λ (g : ℕ). CanFork key v v.column v.column g) (t.gap ∙ sym c.gap-gap.ensures)
    (can_fork_inline key v c.requires.held.2.turn c.requires.aim c.requires.tier.few c.requires.tier.gap c.requires.full c.requires.quiet))
