-- Serves `make_access`: a token that makes an access of a cell that it holds.
use Rattle.std.proofs.Common.{◌≡◌, ◌∙◌, ◌-◌, ◌<◌, ◌≤◌, ◌∷◌, ◌++◌, [], List, ℕ, zero, suc, ap, refl, sym, subst, arith, Bool, false, length}
use Rattle.std.specs.Prelude.{ℤ, All, IsTrue, is_some, unwrap_or, map, IfSome, IsSomeAnd, Option, Some, None, slice_get}
use Rattle.std.proofs.lemmas.List.Elements.{All-nil, All-cons, All-head, All-tail, All-weaker}
use Rattle.atomic_table.specs.Table.{rest}
use Rattle.cw_tree.specs.declared.access.Entry.{Entry}
use Rattle.cw_tree.specs.declared.access.Mark.{Mark}
use Rattle.cw_tree.specs.Accesses.{cell_value}
use Rattle.cw_tree.specs.AccessStacks.{written_by}
use Rattle.cw_stack.specs.Cells.{CellParts, entries_value, entry_of, newest_entry}
use Rattle.cw_tree.specs.declared.conflict.Conflict.{Conflict}
use Rattle.cw_log.specs.Answers.{IsAround, kind_of_answer}
use Rattle.cw_log.specs.Tokens.{made}
use Rattle.cw_steps.specs.declared.draw.Draw.TheVariants as draw
use Rattle.cw_steps.specs.declared.draw.Home.TheVariants as home
use Rattle.cw_steps.specs.declared.table.StrandToken.{StrandToken}
use Rattle.cw_steps.specs.declared.view.Slot.{Slot}
use Rattle.cw_steps.specs.declared.view.Slot.TheVariants as slot
use Rattle.cw_steps.specs.declared.draw.Aim.{Aim}
use Rattle.cw_steps.specs.declared.draw.Aim.TheVariants as aims
use Rattle.cw_steps.specs.declared.view.Turn.{Turn}
use Rattle.cw_steps.specs.declared.view.Key.{Key}
use Rattle.cw_steps.specs.declared.view.View.{View}
use Rattle.cw_steps.specs.declared.view.Whereabouts.{Whereabouts}
use Rattle.cw_steps.specs.Stands.{brought_token, token_of}
use Rattle.cw_steps.specs.Tracks.{kind_of_access, HasRoom}
use Rattle.cw_steps.specs.Homes.{CellComesHome, ComesHome, IsAsItLay, IsAsShown, LeavesCell, MayGive}
use Rattle.cw_steps.specs.Views.{cell_with, drew_view, gave_view, held_by, key_of, newest_aim, newest_cell, newest_change, newest_slot, newest_tier, older, view_of, with_access, CanAccess, HasAsked, IsLowCell, IsTokenOf}
use Rattle.cw_board.specs.declared.board.Board.{Board}
use Rattle.cw_board.specs.Boards.{cells_in, columns_of, IsOf}
use Rattle.cw_board.specs.Sound.{IsSoundToken}
use Rattle.cw_board.specs.Turns.{HasCell, IsHolding}
use Rattle.cw_board.proofs.Boards.{is_now}
use Rattle.cw_board.proofs.Holding.{as_it_lay, lists_held}
use Rattle.cw_board.proofs.Showing.{cell_shown}
use Rattle.cw_board.proofs.Sound.{around_low, sound_made, sound_later, sound_refused}

low_at : (P : Entry → Type 0) (es : List Entry) (k : ℕ) → All P es → IfSome (slice_get es k) P
low_at P [] k all = tt
low_at P (e ∷ es) zero all = All-head P e es all
low_at P (e ∷ es) (suc k) all = low_at P es k (All-tail P e es all)

-- the newest entry is older than a number that is drawn
pub newest_low : (seen n : ℕ) (es : List Entry) → seen < n → All (λ (e : Entry). e.mark.stamp ≤ seen) es → IfSome (newest_entry es) (λ e. e.mark.stamp < n)
newest_low seen n es less all = low_at (λ (e : Entry). e.mark.stamp < n) es (length es - 1)
    (All-weaker (λ (e : Entry). e.mark.stamp ≤ seen) (λ (e : Entry). e.mark.stamp < n) (λ e l. omega (arith, l, less)) es all)

all_more : (P : Entry → Type 0) (es : List Entry) (e : Entry) → All P es → P e → All P (es ++ e ∷ [])
all_more P [] e all p = All-cons P e [] p (All-nil P)
all_more P (x ∷ es) e all p = All-cons P x (es ++ e ∷ []) (All-head P x es all) (all_more P es e (All-tail P x es all) p)

-- with the entry of the access, whose number is the greatest
pub low_more_now : (seen n : ℕ) (x y : CellParts) (mark : Mark) (write : Option ℤ) (value : ℤ) → seen < n → mark.stamp ≡ n → IsLowCell seen (slot.Cell x) → y.entries ≡ x.entries ++ entry_of mark write value ∷ [] → IsLowCell n (slot.Cell y)
low_more_now seen n x y mark write value less same low grown = subst (All (λ (e : Entry). e.mark.stamp ≤ n)) (sym grown)
    (all_more (λ (e : Entry). e.mark.stamp ≤ n) x.entries (entry_of mark write value)
    (All-weaker (λ (e : Entry). e.mark.stamp ≤ seen) (λ (e : Entry). e.mark.stamp ≤ n) (λ e l. omega (arith, l, less)) x.entries low) (omega (arith, same)))

pub same_kind : (c : ℕ) (o : Option ℤ) (wrote : Bool) (v : ℤ) → wrote ≡ is_some o → kind_of_access c wrote v ≡ kind_of_answer c o v
same_kind c None wrote v e = ap (λ b. kind_of_access c b v) e
same_kind c (Some x) wrote v e = ap (λ b. kind_of_access c b v) e

-- what an access makes of the turns
module _ (m : Mark) (w : Bool) (x : ℤ) where
  slot_access : (ts : List Turn) → newest_slot (with_access m w x ts) ≡ newest_slot ts
  slot_access [] = refl
  slot_access (t ∷ ts) = refl

  aim_access : (ts : List Turn) → newest_aim (with_access m w x ts) ≡ newest_aim ts
  aim_access [] = refl
  aim_access (t ∷ ts) = refl

  cell_access : (ts : List Turn) → newest_cell (with_access m w x ts) ≡ cell_with m w x (newest_cell ts)
  cell_access [] = refl
  cell_access (t ∷ ts) = refl

  older_access : (ts : List Turn) → older (with_access m w x ts) ≡ older ts
  older_access [] = refl
  older_access (t ∷ ts) = refl

value_of_same : (c d : CellParts) → IsAsItLay c d → entries_value d ≡ entries_value c
value_of_same c d same = ap (λ (f : ℤ). cell_value f (map written_by d.entries)) same.0 ∙ ap (λ es. cell_value c.first (map written_by es)) same.1

-- the cell goes home with the entry of the access
pub leaves_access : (a : Aim) (lay x x' : CellParts) (m : Mark) (w : Bool) (write : Option ℤ) (value : ℤ) → IsAsItLay lay x → x'.first ≡ x.first → x'.cleaned ≡ x.cleaned
    → x'.entries ≡ x.entries ++ entry_of m write (entries_value x) ∷ [] → w ≡ is_some write → value ≡ unwrap_or write (entries_value x)
    → LeavesCell a (record lay { entries = lay.entries ++ record { mark = m; wrote = w; value = value; old = entries_value lay } ∷ [] }) x'
leaves_access a lay x x' m w write value same first cleaned grown wrote left =
    let v : entries_value x ≡ entries_value lay = value_of_same lay x same in
    as_it_lay a (record lay { entries = lay.entries ++ record { mark = m; wrote = w; value = value; old = entries_value lay } ∷ [] }) x' (
      first ∙ same.0,
      grown ∙ ap (λ (es : List Entry). es ++ entry_of m write (entries_value x) ∷ []) same.1
          ∙ ap (λ (b : Bool). lay.entries ++ record { mark = m; wrote = b; value = unwrap_or write (entries_value x); old = entries_value x } ∷ []) (sym wrote)
          ∙ ap (λ (k : ℤ). lay.entries ++ record { mark = m; wrote = w; value = k; old = entries_value x } ∷ []) (sym left)
          ∙ ap (λ (k : ℤ). lay.entries ++ record { mark = m; wrote = w; value = value; old = k } ∷ []) v,
      cleaned ∙ same.2,
    )

-- a question about the newest entry of a cell is one about that of a cell with the same entries
asked_same : (key : Key) (v : View) (c d : CellParts) → d.entries ≡ c.entries → HasAsked key v c → HasAsked key v d
asked_same key v c d same h = subst (λ (es : List Entry). HasAsked key v (record c { entries = es })) (sym same) h

-- what a read answers is the value that the cell has
pub reads_value : (o : Option ℤ) (w : Bool) (v x : ℤ) → w ≡ is_some o → x ≡ unwrap_or o v → w ≡ false → x ≡ v
reads_value None w v x is left none = left
reads_value (Some k) w v x is left none = absurd (cc (sym none ∙ is))

pub may_access : (b : Board) (n : ℕ) (y : Slot) (t u : StrandToken) (c : CellParts) (wrote : Bool) (write : Option ℤ) (x : ℤ) → IsHolding b n y t u → n < cells_in b → HasCell aims.Access c u → HasAsked (key_of b.shared) (view_of u) c
    → wrote ≡ is_some write → x ≡ unwrap_or write (entries_value c) → CanAccess (key_of b.shared) (view_of u) n wrote x
may_access b n y t u c wrote write x h less has asked is left = record {
  there = less;
  turn = h.turn;
  aim = has.aim;
  asked = subst (λ o. IsSomeAnd o (HasAsked (key_of b.shared) (view_of u))) (sym has.there) (asked_same (key_of b.shared) (view_of u) c has.lay (sym has.same.1) asked);
  read = λ none. subst (λ o. IsSomeAnd o (λ d. x ≡ entries_value d)) (sym has.there) (reads_value write wrote (entries_value c) x is left none ∙ value_of_same has.lay c has.same);
}

module _ (b : Board) (n stamp : ℕ) (wrote : Bool) (x : ℤ) (y z : Slot) (t u v : StrandToken) (h : IsHolding b n y t u) (later : (view_of u).seen < stamp)
    (view : view_of v ≡ drew_view (draw.Access n wrote x) u.track.behind u.track.second stamp (view_of u)) (slots : held_by v ≡ (n, z) ∷ []) where
  abbrev drawn_now : View
  drawn_now = drew_view (draw.Access n wrote x) u.track.behind u.track.second stamp (view_of u)

  -- as `give` asks it
  pub gives_access : (left : CellParts) → z ≡ slot.Cell left → n < cells_in b → IsLowCell stamp z
      → CellComesHome n home.Plain (newest_aim (view_of u).turns) (cell_with (record { strand = (view_of u).column; stamp = stamp }) wrote x (newest_cell (view_of u).turns)) (slot.Cell left) → MayGive (key_of b.shared) v n home.Plain
  gives_access left is less low comes =
      let m : Mark = record { strand = (view_of u).column; stamp = stamp } in
      let ts : List Turn = (view_of u).turns in record {
        lies = z;
        held = record { turn = ap (λ (w : View). newest_slot w.turns) view ∙ slot_access m wrote x ts ∙ h.turn; slot = slots ∙ ap (λ ys. (n, z) ∷ rest ys) (sym slots) };
        whole = record { cell = λ l. subst (λ (w : View). IsLowCell w.seen z) (sym view) low; tier = λ e. absurd (omega (arith, less, e)) };
        tier = subst (ComesHome (view_of v).fork (view_of v).phase (newest_aim (view_of v).turns) home.Plain (newest_tier (view_of v).turns)) (sym is) tt;
        cell = subst (CellComesHome n home.Plain (newest_aim (view_of v).turns) (newest_cell (view_of v).turns)) (sym is)
            (subst (λ (w : View). CellComesHome n home.Plain (newest_aim w.turns) (newest_cell w.turns) (slot.Cell left)) (sym view)
            (subst (λ (a : Aim). CellComesHome n home.Plain a (newest_cell (with_access m wrote x ts)) (slot.Cell left)) (sym (aim_access m wrote x ts))
            (subst (λ o. CellComesHome n home.Plain (newest_aim ts) o (slot.Cell left)) (sym (cell_access m wrote x ts)) comes)));
        shown = subst (IsAsShown (newest_tier (view_of v).turns) (newest_change (view_of v).turns)) (sym is) (cell_shown (newest_tier (view_of v).turns) (newest_change (view_of v).turns) left);
      }

  pub access_is : (v' : StrandToken) → IsTokenOf b.shared v' → view_of v' ≡ gave_view home.Plain (view_of v) → held_by v' ≡ rest (held_by v) → v'.track.room ≡ u.track.room
      → token_of v' ≡ made (token_of u) (kind_of_access n wrote x) stamp → IsOf b v'
  access_is v' table gave held room token =
      is_now b v' (gave_view home.Plain drawn_now) (made (token_of u) (kind_of_access n wrote x) stamp) table (gave ∙ ap (gave_view home.Plain) view) token (held ∙ ap (λ ys. rest ys) slots)
      (subst (λ r. IsTrue (is_some r)) (sym room) (subst HasRoom (sym h.track) h.was.room))
      (ap (λ (w : View). w.here) h.rest ∙ h.was.here) (older_access (record { strand = (view_of u).column; stamp = stamp }) wrote x (view_of u).turns ∙ h.alone)
      (subst (λ (k : ℕ). k < columns_of b) (sym (ap (λ (w : View). w.gap) h.rest)) h.was.gap)
      (subst (All (λ (o : Whereabouts). o.gap < columns_of b)) (sym (ap (λ (w : View). w.outer) h.rest)) h.was.gaps)
      (lists_held b n y t u h)
      (sound_made (token_of u) (view_of u).room (view_of u).seen
      (subst (λ q. IsSoundToken q (view_of u).room (view_of u).seen) (sym h.token)
      (subst (λ r. IsSoundToken (token_of t) r (view_of u).seen) (sym (ap (λ (w : View). w.room) h.rest)) (sound_later (token_of t) (view_of t).room (view_of t).seen (view_of u).seen h.later h.was.sound)))
      drawn_now.room stamp (omega arith) later (kind_of_access n wrote x))

-- a refused access is noted
pub refused_is : (b : Board) (n : ℕ) (y : Slot) (t u u' : StrandToken) (c : Conflict) → IsHolding b n y t u → IsTokenOf b.shared u' → view_of u' ≡ gave_view (home.Refused c) (view_of u) → held_by u' ≡ rest (held_by u)
    → u'.track.room ≡ u.track.room → token_of u' ≡ brought_token (home.Refused c) (token_of u) → IsAround (token_of u) c.victim → IsOf b u'
refused_is b n y t u u' c h table view slots room token around =
    let sound : IsSoundToken (token_of u) (view_of u).room (view_of u).seen =
    subst (λ q. IsSoundToken q (view_of u).room (view_of u).seen) (sym h.token)
    (subst (λ r. IsSoundToken (token_of t) r (view_of u).seen) (sym (ap (λ (w : View). w.room) h.rest)) (sound_later (token_of t) (view_of t).room (view_of t).seen (view_of u).seen h.later h.was.sound)) in
    is_now b u' (gave_view (home.Refused c) (view_of u)) (brought_token (home.Refused c) (token_of u)) table view token (slots ∙ ap (λ ys. rest ys) h.slots)
    (subst (λ r. IsTrue (is_some r)) (sym room) (subst HasRoom (sym h.track) h.was.room))
    (ap (λ (w : View). w.here) h.rest ∙ h.was.here) h.alone
    (subst (λ (k : ℕ). k < columns_of b) (sym (ap (λ (w : View). w.gap) h.rest)) h.was.gap)
    (subst (All (λ (o : Whereabouts). o.gap < columns_of b)) (sym (ap (λ (w : View). w.outer) h.rest)) h.was.gaps)
    (lists_held b n y t u h)
    (sound_refused (token_of u) (view_of u).room (view_of u).seen (record c { asker = length (token_of u).own.nodes }) sound (around_low (token_of u) (view_of u).seen c.victim sound.around around))
