use Rattle.std.proofs.Common.{◌≡◌, ◌∙◌, ◌∷◌, ◌++◌, [], ℕ, ℤ, ap, refl, subst, sym, rules, to_z, of_z, SFits, w64}
use Rattle.std.specs.Prelude.{unwrap_or}
use Rattle.std.proofs.lemmas.Int.{to_z-of_z}
use Rattle.atomic_table.specs.Table.{rest}
use Rattle.cw_log.specs.Tokens.{made}
use Rattle.cw_steps.specs.declared.view.Slot.TheVariants as slot
use Rattle.cw_steps.specs.Stands.{token_of}
use Rattle.cw_stack.specs.Cells.{CellParts, entries_value}
use Rattle.cw_steps.specs.declared.draw.Home.TheVariants as home
use Rattle.cw_steps.specs.Homes.{CellComesHome, LeavesCell}
use Rattle.cw_steps.specs.Views.{cell_with, newest_aim, view_of}
use Rattle.cw_board.proofs.Accessing.{access_is, gives_access, leaves_access, low_more_now, may_access, newest_low, same_kind}
use Rattle.cw_board.proofs.board.Board.make_access.Goals as goal

pub access-requires-clause-later : goal.access-requires-clause-later
access-requires-clause-later c = newest_low (view_of c.args.token.now).seen c.draw-stamp.result c.args.held.entries c.draw-stamp.ensures.later c.requires.low

pub give-requires-clause-held : goal.give-requires-clause-held
give-requires-clause-held c =
    let h = c.requires.held in
    let d = c.draw-stamp.ensures in
    let o = c.swap_cell.ensures in
    let lay = c.requires.lies.lay in
    let signed : SFits w64 c.value_after-value.result = search rules in
    let x : ℤ = to_z w64 (of_z w64 c.value_after-value.result) in
    let value : x ≡ unwrap_or c.args.write (entries_value c.args.held) = to_z-of_z w64 c.value_after-value.result signed ∙ c.value_after-value.ensures in
    let left : ℕ → CellParts = λ k. record lay { entries = lay.entries ++ record { mark = record { strand = k; stamp = c.draw-stamp.result }; wrote = c.is_some-wrote.result; value = x; old = entries_value lay } ∷ [] } in
    gives_access c.args.self.now c.args.cell c.draw-stamp.result c.is_some-wrote.result x h.1 (slot.Cell c.access.new.self) h.0 c.args.token.now c.swap_cell.new.token h.2 d.later (o.view ∙ d.view)
    (o.slots ∙ ap (λ ys. (c.args.cell, slot.Cell c.access.new.self) ∷ rest ys) (d.slots ∙ h.2.slots)) c.access.new.self refl c.requires.cell
    (low_more_now (view_of c.args.token.now).seen c.draw-stamp.result c.args.held c.access.new.self _ _ _ d.later refl c.requires.low c.access.ensures.entries)
    (subst (λ q. CellComesHome c.args.cell home.Plain (newest_aim (view_of c.args.token.now).turns) (cell_with (record { strand = (view_of c.args.token.now).column; stamp = c.draw-stamp.result }) c.is_some-wrote.result x q) (slot.Cell c.access.new.self))
    (sym c.requires.lies.there) (
      tt,
      subst (λ (k : ℕ). LeavesCell (newest_aim (view_of c.args.token.now).turns) (left k) c.access.new.self) (c.column.ensures ∙ ap (λ k. k.column) d.track ∙ sym c.args.token.now.column)
          (leaves_access (newest_aim (view_of c.args.token.now).turns) c.requires.lies.lay c.args.held c.access.new.self (record { strand = c.column.result; stamp = c.draw-stamp.result }) c.is_some-wrote.result c.args.write x
          c.requires.lies.same c.access.ensures.first c.access.ensures.cleaned c.access.ensures.entries c.is_some-wrote.ensures value),
    ))

pub returns-clause-of : goal.returns-clause-of
returns-clause-of c =
    let h = c.requires.held in
    let d = c.draw-stamp.ensures in
    let o = c.swap_cell.ensures in
    let e = c.give.ensures in
    access_is c.args.self.now c.args.cell c.draw-stamp.result _ _ h.1 (slot.Cell c.access.new.self) h.0 c.args.token.now c.swap_cell.new.token h.2 d.later (o.view ∙ d.view)
    (o.slots ∙ ap (λ ys. (c.args.cell, slot.Cell c.access.new.self) ∷ rest ys) (d.slots ∙ h.2.slots)) c.give.new.token e.table e.view e.slots (e.kept.1 ∙ ap (λ k. k.room) o.track ∙ d.kept.1) (e.token ∙ o.token ∙ d.token)

pub returns-clause-token : goal.returns-clause-token
returns-clause-token c =
    let d = c.draw-stamp.ensures in
    let o = c.swap_cell.ensures in
    let e = c.give.ensures in
    (c.draw-stamp.result, e.token ∙ o.token ∙ d.token ∙ ap (λ k. made (token_of c.args.token.now) k c.draw-stamp.result) (same_kind c.args.cell c.args.write _ _ c.is_some-wrote.ensures))

pub draw-stamp-requires-clause-fits : goal.draw-stamp-requires-clause-fits
draw-stamp-requires-clause-fits c =
    let h = c.requires.held in
    let signed : SFits w64 c.value_after-value.result = search rules in
    let x : ℤ = to_z w64 (of_z w64 c.value_after-value.result) in
    let value : x ≡ unwrap_or c.args.write (entries_value c.args.held) = to_z-of_z w64 c.value_after-value.result signed ∙ c.value_after-value.ensures in
    may_access c.args.self.now c.args.cell h.1 h.0 c.args.token.now c.args.held c.is_some-wrote.result c.args.write x h.2 c.requires.cell c.requires.lies c.requires.asked c.is_some-wrote.ensures value
