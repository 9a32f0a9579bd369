-- Serves `HasWaited` and `HasTaken`: a token that waits for a turn.
use Rattle.std.proofs.Common.{◌≡◌, ◌∙◌, ◌+◌, ◌∷◌, [], List, length, ◌<◌, ◌≤◌, ℕ, ap, refl, sym, subst, arith, inl}
use Rattle.std.specs.Prelude.{All, IsTrue, is_some, IsSomeAnd, Result, Ok, Err, OnOk, OnErr}
use Rattle.cw_steps.specs.declared.draw.Home.{Home}
use Rattle.cw_steps.specs.declared.view.Whereabouts.{Whereabouts}
use Rattle.cw_steps.specs.Tracks.{HasRoom}
use Rattle.atomic_table.specs.Table.{rest}
use Rattle.cw_log.specs.declared.log.Log.{Log}
use Rattle.cw_log.specs.declared.token.Token.{Token}
use Rattle.cw_trace.specs.Columns as columns
use Rattle.cw_trace.specs.Traces.{Traces}
use Rattle.cw_trace.proofs.Marks.Edits.{length_parts}
use Rattle.cw_steps.specs.declared.draw.Home.TheVariants as home
use Rattle.cw_steps.specs.declared.view.Slot.{Slot}
use Rattle.cw_steps.specs.declared.view.Slot.TheVariants as slot
use Rattle.cw_steps.specs.declared.view.View.{View}
use Rattle.cw_steps.specs.declared.draw.Aim.{Aim}
use Rattle.cw_steps.specs.declared.table.StrandToken.{StrandToken}
use Rattle.cw_steps.specs.Stands.{brought_token, token_of}
use Rattle.cw_stack.specs.Cells.{CellParts}
use Rattle.cw_steps.specs.declared.draw.Aim.TheVariants as aims
use Rattle.cw_steps.specs.Homes.{CellComesHome, ComesHome, IsAsItLay, IsAsShown, IsOfCell, LeavesCell, MayGive}
use Rattle.cw_steps.specs.Views.{cell_in, gap_home, gave_view, held_by, key_of, newest_aim, newest_cell, newest_change, newest_slot, newest_tier, newest_used, older, tier_of, took_view, view_of, IsLowCell, IsQuiet, IsTierOf, IsTokenOf, Holding}
use Rattle.cw_board.specs.Boards.{cells_in, columns_of, IsOf}
use Rattle.cw_board.specs.declared.board.Board.{Board}
use Rattle.cw_board.specs.Sound.{IsSoundToken}
use Rattle.cw_board.specs.Turns.{at_rest, HasCell, HasTier, HasWaited, HasTaken, IsHolding, IsOfTier}
use Rattle.cw_board.proofs.Sound.{sound_brought, sound_later}
use Rattle.cw_board.proofs.Boards.{is_now}
use Rattle.cw_board.proofs.Showing.{cell_shown}

pub waits_not : (t : StrandToken) → HasWaited t t
waits_not t = record { notes = (view_of t).notes; me = refl; track = refl; stop = refl; token = refl }

-- ## What lies in the slot

module _ (b : Board) (why : Aim) (n : ℕ) (t u : StrandToken) (h : HasTaken b why n t u) where
  abbrev now : View
  now = took_view n why h.takes.lay h.takes.used h.takes.clock (record (view_of t) { notes = h.notes })

  view_now : view_of u ≡ now
  view_now = ap (λ m. m.0) h.takes.after

  pub holds_now : IsOf b t → IsTokenOf b.shared u → IsHolding b n h.takes.lay t u
  holds_now of table = record {
    was = of;
    table = table;
    turn = ap (λ (v : View). newest_slot v.turns) view_now;
    alone = ap (λ (v : View). older v.turns) view_now ∙ of.turns;
    slots = ap (λ m. m.1) h.takes.after ∙ ap (λ ys. (n, h.takes.lay) ∷ ys) of.slots;
    later = subst (λ (v : View). (view_of t).seen ≤ v.seen) (sym view_now) h.takes.later;
    rest = ap at_rest view_now;
    track = h.track;
    token = h.token;
  }

  pub lay_now : newest_tier (view_of u).turns ≡ tier_of h.takes.lay
  lay_now = ap (λ (v : View). newest_tier v.turns) view_now

  pub cell_now : newest_cell (view_of u).turns ≡ cell_in h.takes.lay
  cell_now = ap (λ (v : View). newest_cell v.turns) view_now

  pub aim_now : newest_aim (view_of u).turns ≡ why
  aim_now = ap (λ (v : View). newest_aim v.turns) view_now

  pub quiet_now : IsQuiet (view_of u)
  quiet_now = ap (λ (v : View). newest_change v.turns) view_now

  pub tier_now : n ≡ cells_in b → HasTier b h.takes.lay u
  tier_now last = record {
    few = subst (λ (v : View). newest_used v.turns ≤ columns_of b) (sym view_now) h.takes.few;
    column = subst (λ (v : View). v.column < newest_used v.turns) (sym view_now) h.takes.column;
    gap = subst (λ (v : View). v.gap < newest_used v.turns) (sym view_now) h.takes.gap;
    whole = subst (λ (v : View). IsTierOf (columns_of b) (newest_used v.turns) h.takes.lay) (sym view_now) (h.takes.whole.tier last);
  }

-- what a slot that was written has, of the list of those that are out
abbrev first_slot : List (ℕ × Slot) → Slot
first_slot [] = slot.Empty
first_slot (x ∷ xs) = x.1

-- another thing lies there now
pub holds_other : (b : Board) (n : ℕ) (y z : Slot) (t u u' : StrandToken) → IsHolding b n y t u → IsTokenOf b.shared u' → view_of u' ≡ view_of u → held_by u' ≡ (n, z) ∷ rest (held_by u)
    → u'.track ≡ u.track → token_of u' ≡ token_of u → IsHolding b n z t u'
holds_other b n y z t u u' h table view slots track token = record {
  was = h.was;
  table = table;
  turn = ap (λ (v : View). newest_slot v.turns) view ∙ h.turn;
  alone = ap (λ (v : View). older v.turns) view ∙ h.alone;
  slots = slots ∙ ap (λ ys. (n, z) ∷ rest ys) h.slots;
  later = subst (λ (v : View). (view_of t).seen ≤ v.seen) (sym view) h.later;
  rest = ap at_rest view ∙ h.rest;
  track = track ∙ h.track;
  token = token ∙ h.token;
}

pub holding : (b : Board) (n : ℕ) (y : Slot) (t u : StrandToken) → IsHolding b n y t u → Holding u n y
holding b n y t u h = record { turn = h.turn; slot = h.slots ∙ ap (λ ys. (n, y) ∷ rest ys) (sym h.slots) }

pub lies_there : (b : Board) (n : ℕ) (y z : Slot) (t u : StrandToken) (ys : List (ℕ × Slot)) → IsHolding b n y t u → held_by u ≡ (n, z) ∷ ys → y ≡ z
lies_there b n y z t u ys h e = ap first_slot (sym h.slots ∙ e)

pub tier_lies : (limit used : ℕ) (y : Slot) → IsTierOf limit used y → (x : Traces) × (y ≡ slot.Tier x)
tier_lies limit used (slot.Tier x) h = (x, refl)
tier_lies limit used (slot.Cell x) h = absurd h
tier_lies limit used slot.Empty h = absurd h

pub has_tier_too : (b : Board) (y z : Slot) (u u' : StrandToken) → y ≡ z → view_of u' ≡ view_of u → HasTier b y u → HasTier b z u'
has_tier_too b y z u u' same view h = record {
  few = subst (λ (v : View). newest_used v.turns ≤ columns_of b) (sym view) h.few;
  column = subst (λ (v : View). v.column < newest_used v.turns) (sym view) h.column;
  gap = subst (λ (v : View). v.gap < newest_used v.turns) (sym view) h.gap;
  whole = subst (λ (v : View). IsTierOf (columns_of b) (newest_used v.turns) z) (sym view) (subst (IsTierOf (columns_of b) (newest_used (view_of u).turns)) same h.whole);
}

pub tier_gap : (b : Board) (y : Slot) (u : StrandToken) (m : Home) → IsOfTier m → HasTier b y u → gap_home m (view_of u).column (view_of u).gap < columns_of b
tier_gap b y u (home.Refused c) of h = absurd of
tier_gap b y u home.Plain of h = omega (arith, h.gap, h.few)
tier_gap b y u (home.Split fork used) of h = omega (arith, h.column, h.few)
tier_gap b y u (home.Merge fork used) of h = omega (arith, h.gap, h.few)
tier_gap b y u (home.Inline used) of h = omega (arith, h.gap, h.few)
tier_gap b y u (home.Early before used) of h = omega (arith, h.gap, h.few)

pub cell_gap : (b : Board) (n : ℕ) (y : Slot) (t u : StrandToken) → IsHolding b n y t u → (view_of u).gap < columns_of b
cell_gap b n y t u h = subst (λ (k : ℕ). k < columns_of b) (sym (ap (λ (v : View). v.gap) h.rest)) h.was.gap

-- a split has as many columns as there were
pub split_used : {A B : Type 0} (r : Result A B) (f : ℕ) (x y : Traces) → OnOk r (y.columns ≡ columns.split_at f x.columns) → OnErr r (y ≡ x) → columns.used y.columns ≡ columns.used x.columns
split_used (Ok a) f x y ok err = ap columns.used ok ∙ length_parts (columns.owner x.columns f) f 0 x.columns.owners
split_used (Err a) f x y ok err = ap (λ z. columns.used z.columns) err

-- ## The turn is given back

-- a token that has a turn owns what it did
pub lists_held : (b : Board) (n : ℕ) (y : Slot) (t u : StrandToken) → IsHolding b n y t u → length (token_of u).joined + 1 ≤ (view_of u).owns
lists_held b n y t u h = subst (λ (k : ℕ). length (token_of u).joined + 1 ≤ k) (sym (ap (λ (v : View). v.owns) h.rest)) (subst (λ (x : Token). length x.joined + 1 ≤ (view_of t).owns) (sym h.token) h.was.lists)

brought_joined : (m : Home) (x : Token) → (brought_token m x).joined ≡ x.joined
brought_joined (home.Refused c) x = refl
brought_joined home.Plain x = refl
brought_joined (home.Split fork used) x = refl
brought_joined (home.Merge fork used) x = refl
brought_joined (home.Inline used) x = refl
brought_joined (home.Early before used) x = refl

lists_given : (b : Board) (n : ℕ) (y : Slot) (t u : StrandToken) (m : Home) → IsHolding b n y t u → length (brought_token m (token_of u)).joined + 1 ≤ (view_of u).owns
lists_given b n y t u m h = subst (λ (ls : List Log). length ls + 1 ≤ (view_of u).owns) (sym (brought_joined m (token_of u))) (lists_held b n y t u h)

-- what was done left the token as it was, or it may go on now
pub given_is : (b : Board) (n : ℕ) (y : Slot) (t u u' : StrandToken) (m : Home) → IsHolding b n y t u → IsTokenOf b.shared u' → view_of u' ≡ gave_view m (view_of u) → held_by u' ≡ rest (held_by u)
    → u'.track.room ≡ u.track.room → token_of u' ≡ brought_token m (token_of u) → IsOfTier m → gap_home m (view_of u).column (view_of u).gap < columns_of b → IsOf b u'
given_is b n y t u u' m h table view slots room token home gap =
    is_now b u' (gave_view m (view_of u)) (brought_token m (token_of u)) table view token (slots ∙ ap (λ ys. rest ys) h.slots)
    (subst (λ r. IsTrue (is_some r)) (sym room) (subst HasRoom (sym h.track) h.was.room))
    (ap (λ (v : View). v.here) h.rest ∙ h.was.here) h.alone gap
    (subst (All (λ (o : Whereabouts). o.gap < columns_of b)) (sym (ap (λ (v : View). v.outer) h.rest)) h.was.gaps)
    (lists_given b n y t u m h)
    (sound_brought m (token_of u) (view_of u).room (view_of u).seen home
    (subst (λ x. IsSoundToken x (view_of u).room (view_of u).seen) (sym h.token)
    (subst (λ r. IsSoundToken (token_of t) r (view_of u).seen) (sym (ap (λ (v : View). v.room) h.rest)) (sound_later (token_of t) (view_of t).room (view_of t).seen (view_of u).seen h.later h.was.sound))))

-- a cell that is as it lay may come home, whatever the turn was taken for
pub as_it_lay : (a : Aim) (c d : CellParts) → IsAsItLay c d → LeavesCell a c d
as_it_lay aims.Undo c d same = inl same
as_it_lay aims.Access c d same = same
as_it_lay aims.Look c d same = same
as_it_lay aims.Fork c d same = same
as_it_lay aims.Split c d same = same
as_it_lay aims.Merge c d same = same

pub cell_comes : (n : ℕ) (m : Home) (a : Aim) (x : CellParts) (u : StrandToken) → IsOfCell n m → HasCell a x u → CellComesHome n m (newest_aim (view_of u).turns) (newest_cell (view_of u).turns) (slot.Cell x)
cell_comes n m a x u of h = (of, subst (λ o. IsSomeAnd o (λ y. LeavesCell (newest_aim (view_of u).turns) y x)) (sym h.there) (as_it_lay (newest_aim (view_of u).turns) h.lay x h.same))

-- as `give` asks it
pub gives_cell : (b : Board) (n : ℕ) (x : CellParts) (m : Home) (t u : StrandToken) → IsHolding b n (slot.Cell x) t u → n < cells_in b → IsLowCell (view_of u).seen (slot.Cell x)
    → CellComesHome n m (newest_aim (view_of u).turns) (newest_cell (view_of u).turns) (slot.Cell x) → MayGive (key_of b.shared) u n m
gives_cell b n x m t u h less low comes = record {
  lies = slot.Cell x;
  held = holding b n (slot.Cell x) t u h;
  whole = record { cell = λ z. low; tier = λ e. absurd (omega (arith, less, e)) };
  tier = tt;
  cell = comes;
  shown = cell_shown (newest_tier (view_of u).turns) (newest_change (view_of u).turns) x;
}

pub gives_tier : (b : Board) (x : Traces) (m : Home) (t u : StrandToken) → IsHolding b (cells_in b) (slot.Tier x) t u → HasTier b (slot.Tier x) u → ComesHome (view_of u).fork (view_of u).phase (newest_aim (view_of u).turns) m (newest_tier (view_of u).turns) (slot.Tier x)
    → IsAsShown (newest_tier (view_of u).turns) (newest_change (view_of u).turns) (slot.Tier x) → MayGive (key_of b.shared) u (cells_in b) m
gives_tier b x m t u h tier brings shown = record {
  lies = slot.Tier x;
  held = holding b (cells_in b) (slot.Tier x) t u h;
  whole = record { cell = λ less. absurd (omega (arith, less)); tier = λ e. tier.whole };
  tier = brings;
  cell = tt;
  shown = shown;
}
