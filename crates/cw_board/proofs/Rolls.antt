-- Serves `roll`: a token that takes accesses out of cells, while its joined logs are lent.
use Rattle.std.proofs.Common.{◌≡◌, ℕ, Bool, ◌≤◌, ◌∙◌, ◌∷◌, ◌++◌, [], List, ap, sym, subst, arith, nat_lt, inl, inr}
use Rattle.std.specs.Prelude.{All, IsTrue, is_some, filter}
use Rattle.std.proofs.lemmas.List.Elements.{All-nil, All-cons, All-head, All-tail, All-filter}
use Rattle.cw_tree.specs.declared.conflict.Conflict.{Conflict}
use Rattle.cw_log.specs.declared.token.Token.{Token}
use Rattle.cw_log.specs.Tokens.{conflicts_in}
use Rattle.cw_stack.specs.Cells.{CellParts}
use Rattle.cw_tree.specs.declared.access.Entry.{Entry}
use Rattle.cw_steps.specs.declared.view.Slot.TheVariants as slot
use Rattle.cw_steps.specs.declared.draw.Aim.TheVariants as aims
use Rattle.cw_steps.specs.declared.draw.Home.TheVariants as home
use Rattle.cw_steps.specs.declared.table.StrandToken.{StrandToken}
use Rattle.cw_steps.specs.declared.view.Slot.{Slot}
use Rattle.cw_steps.specs.declared.view.View.{View}
use Rattle.cw_steps.specs.Homes.{IsAsItLay, LeavesCell}
use Rattle.cw_steps.specs.Leaving.{HasReturned}
use Rattle.cw_steps.specs.Stands.{token_of}
use Rattle.cw_steps.specs.Views.{gave_view, view_of, IsLowCell}
use Rattle.cw_board.specs.declared.board.Board.{Board}
use Rattle.cw_board.specs.Boards.{IsOf}
use Rattle.cw_board.specs.Sound.{IsSoundToken}
use Rattle.cw_board.specs.Turns.{at_rest, IsHolding}
use Rattle.cw_board.proofs.Boards.{is_now}
use Rattle.cw_board.proofs.Returning.{returned_from, returned_with}

-- a turn that was held is given back
pub gives_back : (b : Board) (n : ℕ) (y : Slot) (t u v : StrandToken) → IsHolding b n y t u → IsOf b v → view_of v ≡ gave_view home.Plain (view_of u) → HasReturned t.seat.me v.seat.me
gives_back b n y t u v h of view = returned_from t v (ap at_rest view ∙ h.rest) (of.turns ∙ sym h.was.turns) (of.slots ∙ sym h.was.slots) (subst (λ (w : View). (view_of t).seen ≤ w.seen) (sym view) h.later)

-- ## Logs that are lent

front_all : (P : Conflict → Type 0) (xs ys : List Conflict) → All P (xs ++ ys) → All P (xs ++ [])
front_all P [] ys h = All-nil P
front_all P (x ∷ xs) ys h = All-cons P x (xs ++ []) (All-head P x (xs ++ ys) h) (front_all P xs ys (All-tail P x (xs ++ ys) h))

sound_lent : (x : Token) (room seen : ℕ) → IsSoundToken x room seen → IsSoundToken (record x { joined = [] }) room seen
sound_lent x room seen h = record {
  begun = h.begun;
  waiting = h.waiting;
  path = h.path;
  outer = h.outer;
  own = h.own;
  outer_own = h.outer_own;
  numbers = h.numbers;
  around = h.around;
  outer_around = h.outer_around;
  victims = front_all (λ (c : Conflict). c.victim ≤ seen) x.own.conflicts (conflicts_in x.joined) h.victims;
}

pub lent_is : (b : Board) (t t' : StrandToken) → IsOf b t → t'.seat ≡ t.seat → t'.track.room ≡ t.track.room → token_of t' ≡ record (token_of t) { joined = [] } → IsOf b t'
lent_is b t t' h seat room token =
    is_now b t' (view_of t) (record (token_of t) { joined = [] }) (ap (λ s. s.table_id) seat ∙ h.table) (ap (λ s. s.me.0) seat) token (ap (λ s. s.me.1) seat ∙ h.slots)
    (subst (λ r. IsTrue (is_some r)) (sym room) h.room) h.here h.turns h.gap h.gaps (omega (arith, h.lists)) (sound_lent (token_of t) (view_of t).room (view_of t).seen h.sound)

-- u is t without its joined logs, v what was given back since, and t' has them again
module _ (b : Board) (t u v t' : StrandToken) (lent : u.seat ≡ t.seat) (g : HasReturned u.seat.me v.seat.me) (seat : t'.seat ≡ v.seat) where
  pub kept_returned : HasReturned t.seat.me t'.seat.me
  kept_returned = subst (λ s. HasReturned s.me t'.seat.me) lent (subst (λ s. HasReturned u.seat.me s.me) (sym seat) g)

  module _ (left : token_of u ≡ record (token_of t) { joined = [] }) (given : token_of v ≡ token_of u) (kept : token_of t' ≡ record (token_of v) { joined = (token_of t).joined }) where
    pub kept_token : token_of t' ≡ token_of t
    kept_token = kept ∙ ap (λ (x : Token). record x { joined = (token_of t).joined }) (given ∙ left)

    pub kept_is : IsOf b t → IsOf b v → t'.track.room ≡ v.track.room → IsOf b t'
    kept_is h of room = returned_with b t t' h (ap (λ s. s.table_id) seat ∙ of.table) kept_returned (subst (λ r. IsTrue (is_some r)) (sym room) of.room) kept_token

-- ## Entries that are taken out

pub low_kept : (most : ℕ) (x y : CellParts) (p : Entry → Bool) → y.entries ≡ filter p x.entries → IsLowCell most (slot.Cell x) → IsLowCell most (slot.Cell y)
low_kept most x y p e low = subst (All (λ (k : Entry). k.mark.stamp ≤ most)) (sym e) (All-filter p (λ (k : Entry). k.mark.stamp ≤ most) x.entries low)

-- what was undone of a cell that is as it lay was undone of what lay there
pub undone_since : (c d e : CellParts) → IsAsItLay c d → LeavesCell aims.Undo d e → LeavesCell aims.Undo c e
undone_since c d e same (inl kept) = inl (kept.0 ∙ same.0, kept.1 ∙ same.1, kept.2 ∙ same.2)
undone_since c d e same (inr cut) = inr (record { stamp = cut.stamp; first = cut.first ∙ same.0; entries = cut.entries ∙ ap (filter (λ (x : Entry). nat_lt x.mark.stamp cut.stamp)) same.1; cleaned = cut.cleaned ∙ same.2 })
