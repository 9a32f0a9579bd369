-- Serves `HasReturned`: a token that took turns and gave them back.
use Rattle.std.proofs.Common.{◌≡◌, ℕ, ◌≤◌, ◌∙◌, ap, sym, subst, arith}
use Rattle.std.specs.Prelude.{IsTrue, is_some}
use Rattle.cw_steps.specs.Leaving.{HasReturned}
use Rattle.cw_steps.specs.declared.draw.Aim.{Aim}
use Rattle.cw_steps.specs.declared.table.StrandToken.{StrandToken}
use Rattle.cw_steps.specs.declared.view.Slot.{Slot}
use Rattle.cw_steps.specs.Stands.{token_of}
use Rattle.cw_steps.specs.Tracks.{HasRoom}
use Rattle.cw_steps.specs.Views.{held_by, newest_aim, newest_cell, newest_slot, older, view_of, IsTokenOf}
use Rattle.cw_board.specs.declared.board.Board.{Board}
use Rattle.cw_board.specs.Boards.{IsOf}
use Rattle.cw_stack.specs.Cells.{CellParts}
use Rattle.cw_board.specs.Turns.{at_rest, HasCell, IsHolding}
use Rattle.cw_board.proofs.Boards.{is_now}
use Rattle.cw_board.proofs.Sound.{sound_later}

-- it is still one of its board
pub returned_with : (b : Board) (t t' : StrandToken) → IsOf b t → IsTokenOf b.shared t' → HasReturned t.seat.me t'.seat.me → HasRoom t'.track → token_of t' ≡ token_of t → IsOf b t'
returned_with b t t' h table returned room token =
    is_now b t' (record (view_of t) { seen = returned.seen; notes = returned.notes }) (token_of t) table (ap (λ m. m.0) returned.after) token (ap (λ m. m.1) returned.after ∙ h.slots)
    room h.here h.turns h.gap h.gaps h.lists (sound_later (token_of t) (view_of t).room (view_of t).seen returned.seen returned.later h.sound)

pub returned_is : (b : Board) (t t' : StrandToken) → IsOf b t → IsTokenOf b.shared t' → HasReturned t.seat.me t'.seat.me → t'.track.room ≡ t.track.room → token_of t' ≡ token_of t → IsOf b t'
returned_is b t t' h table returned room token = returned_with b t t' h table returned (subst (λ r. IsTrue (is_some r)) (sym room) h.room) token

-- all turns that it took were given back
pub returned_from : (t t' : StrandToken) → at_rest (view_of t') ≡ at_rest (view_of t) → (view_of t').turns ≡ (view_of t).turns → held_by t' ≡ held_by t → (view_of t).seen ≤ (view_of t').seen → HasReturned t.seat.me t'.seat.me
returned_from t t' rest turns slots later = record {
  seen = (view_of t').seen;
  notes = (view_of t').notes;
  later = later;
  after = λ i. (record (rest i) { turns = turns i; seen = (view_of t').seen; notes = (view_of t').notes }, slots i);
}

-- the word of its gap is what it was
pub word_kept : (t t' : StrandToken) → HasReturned t.seat.me t'.seat.me → t'.track.word ≡ t.track.word
word_kept t t' h = sym t'.word ∙ ap (λ m. m.0.word) h.after ∙ t.word

-- no number that it knows is forgotten
pub returned_later : (t t' : StrandToken) → HasReturned t.seat.me t'.seat.me → (view_of t).seen ≤ (view_of t').seen
returned_later t t' h = subst (λ m. (view_of t).seen ≤ m.0.seen) (sym h.after) h.later

-- it still has the cell that it had
pub returned_cell : (a : Aim) (x : CellParts) (t t' : StrandToken) → HasCell a x t → HasReturned t.seat.me t'.seat.me → HasCell a x t'
returned_cell a x t t' g h = record { lay = g.lay; aim = ap (λ m. newest_aim m.0.turns) h.after ∙ g.aim; there = ap (λ m. newest_cell m.0.turns) h.after ∙ g.there; same = g.same }

-- it still has the turn that it had
pub returned_holds : (b : Board) (n : ℕ) (y : Slot) (s t t' : StrandToken) → IsHolding b n y s t → IsTokenOf b.shared t' → HasReturned t.seat.me t'.seat.me → t'.track ≡ t.track → token_of t' ≡ token_of t → IsHolding b n y s t'
returned_holds b n y s t t' g table h track token = record {
  was = g.was;
  table = table;
  turn = ap (λ m. newest_slot m.0.turns) h.after ∙ g.turn;
  alone = ap (λ m. older m.0.turns) h.after ∙ g.alone;
  slots = ap (λ m. m.1) h.after ∙ g.slots;
  later = omega (arith, g.later, returned_later t t' h);
  rest = ap (λ m. at_rest m.0) h.after ∙ g.rest;
  track = track ∙ g.track;
  token = token ∙ g.token;
}
