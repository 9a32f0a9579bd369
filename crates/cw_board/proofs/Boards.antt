-- Serves `IsOf`: a token that makes steps is still one of its board.
use Rattle.std.proofs.Common.{◌≡◌, ℕ, ◌+◌, ◌-◌, ◌*◌, ◌<◌, ◌≤◌, ◌∙◌, List, [], ◌∷◌, length, length-append, arith, ap, sym, refl, subst, true}
use Rattle.std.specs.Prelude.{ℤ, Bool, All, IsTrue, is_some}
use Rattle.std.proofs.lemmas.List.Elements.{All-nil, All-head, All-tail}
use Rattle.cw_code.specs.declared.Back.{Back}
use Rattle.cw_tree.specs.declared.access.Entry.{Entry}
use Rattle.cw_tree.specs.declared.conflict.Conflict.{Conflict}
use Rattle.cw_log.specs.declared.token.Open.{Open}
use Rattle.cw_log.specs.declared.token.Token.{Token}
use Rattle.cw_steps.specs.declared.table.StrandToken.{StrandToken}
use Rattle.cw_steps.specs.declared.track.Stood.{Stood}
use Rattle.cw_steps.specs.declared.view.View.{View}
use Rattle.cw_steps.specs.declared.view.Whereabouts.{Whereabouts}
use Rattle.cw_steps.specs.Tracks.{state_of_end, track_of, HasRoom, IsBeside, WaitsBeside}
use Rattle.cw_steps.specs.Stands.{open_forks, token_of}
use Rattle.cw_steps.specs.Around.{caught_up, outwards}
use Rattle.cw_steps.specs.Views.{cells_of, held_by, newest_change, root_view, view_of, drew_view, marked_view, joined_view, both_view, stood_at, further_out, share, IsQuiet, IsTokenOf}
use Rattle.cw_steps.specs.declared.draw.Draw.TheVariants as draw
use Rattle.cw_tree.specs.declared.node.Kind.TheVariants as kind
use Rattle.cw_log.specs.declared.token.Side.{Side}
use Rattle.cw_log.specs.declared.token.Side.TheVariants.{Beside, First, Second}
use Rattle.cw_log.specs.declared.log.Log.{Log}
use Rattle.cw_log.specs.Tokens.{made, began, ended, turned, turned_by, taken_in, root_token, AreOfOneFork, HasBlock}
use Rattle.cw_board.proofs.Sound.{sound_made, sound_began, sound_ended, sound_turned, sound_joined}
use Rattle.cw_steps.proofs.Tracks.{here_both}
use Rattle.cw_board.specs.declared.board.Board.{Board}
use Rattle.atomic_table.specs.Table.{Me}
use Rattle.cw_steps.specs.declared.view.Key.{Key}
use Rattle.cw_steps.specs.declared.view.Slot.{Slot}
use Rattle.cw_steps.specs.Leaving.{AreFoundJournals}
use Rattle.cw_board.specs.Boards.{columns_of, AreOfCells, IsOf}
use Rattle.cw_board.specs.Sound.{AreLow, IsSoundToken}

-- the token has this view now, and stands for this
pub is_now : (b : Board) (t : StrandToken) (w : View) (x : Token) → IsTokenOf b.shared t → view_of t ≡ w → token_of t ≡ x → held_by t ≡ [] → HasRoom t.track
    → w.here ≡ true → w.turns ≡ [] → w.gap < columns_of b → All (λ (o : Whereabouts). o.gap < columns_of b) w.outer → length x.joined + 1 ≤ w.owns → IsSoundToken x w.room w.seen → IsOf b t
is_now b t w x table view token slots room here turns gap gaps lists sound = record {
  lists = subst (λ (u : View). length (token_of t).joined + 1 ≤ u.owns) (sym view) (subst (λ (y : Token). length y.joined + 1 ≤ w.owns) (sym token) lists);
  table = table;
  here = ap (λ u. u.here) view ∙ here;
  turns = ap (λ u. u.turns) view ∙ turns;
  slots = slots;
  gap = subst (λ (u : View). u.gap < columns_of b) (sym view) gap;
  gaps = subst (λ (u : View). All (λ (o : Whereabouts). o.gap < columns_of b) u.outer) (sym view) gaps;
  room = room;
  sound = subst (λ (u : View). IsSoundToken (token_of t) u.room u.seen) (sym view) (subst (λ y. IsSoundToken y w.room w.seen) (sym token) sound);
}

-- a token between two calls changes nothing
pub at_rest_quiet : (b : Board) (t : StrandToken) → IsOf b t → IsQuiet (view_of t)
at_rest_quiet b t h = ap newest_change h.turns

root_sound : IsSoundToken root_token root_view.room root_view.seen
root_sound = record {
  begun = 0;
  waiting = [];
  path = refl;
  outer = tt;
  own = omega arith;
  outer_own = tt;
  numbers = omega arith;
  around = All-nil (λ b. b ≤ 0);
  outer_around = All-nil (λ (o : Open). AreLow 0 o.around);
  victims = All-nil (λ (c : Conflict). c.victim ≤ 0);
}

pub root_is : (b : Board) (t : StrandToken) → IsTokenOf b.shared t → view_of t ≡ root_view → held_by t ≡ [] → HasRoom t.track → token_of t ≡ root_token → 0 < columns_of b → IsOf b t
root_is b t table view slots room token some_columns =
    is_now b t root_view root_token table view token slots room refl refl some_columns (All-nil (λ (o : Whereabouts). o.gap < columns_of b)) (omega arith) root_sound

-- ## Steps

module _ (b : Board) (t t' : StrandToken) (h : IsOf b t) (table : IsTokenOf b.shared t') (slots : held_by t' ≡ held_by t) (room : t'.track.room ≡ t.track.room) where
  has_room : HasRoom t'.track
  has_room = subst (λ r. IsTrue (is_some r)) (sym room) h.room

  module _ (n : ℕ) (less : (view_of t).seen < n) where
    pub out_is : (v : ℤ) → view_of t' ≡ drew_view (draw.Out v) t.track.behind t.track.second n (view_of t) → token_of t' ≡ made (token_of t) (kind.Out v) n → IsOf b t'
    out_is v view token = is_now b t' (drew_view (draw.Out v) t.track.behind t.track.second n (view_of t)) (made (token_of t) (kind.Out v) n) table view token (slots ∙ h.slots) has_room h.here h.turns h.gap h.gaps h.lists
        (sound_made (token_of t) (view_of t).room (view_of t).seen h.sound ((view_of t).room - 1 + share * 0) n (omega arith) less (kind.Out v))

    pub cancelled_is : (back : List Back) → view_of t' ≡ drew_view (draw.Cancel back) t.track.behind t.track.second n (view_of t) → token_of t' ≡ made (token_of t) (kind.Cancel back) n → IsOf b t'
    cancelled_is back view token = is_now b t' (drew_view (draw.Cancel back) t.track.behind t.track.second n (view_of t)) (made (token_of t) (kind.Cancel back) n) table view token (slots ∙ h.slots) has_room h.here h.turns h.gap h.gaps h.lists
        (sound_made (token_of t) (view_of t).room (view_of t).seen h.sound ((view_of t).room - 1 + share * 0) n (omega arith) less (kind.Cancel back))

    pub began_is : view_of t' ≡ drew_view draw.Begin t.track.behind t.track.second n (view_of t) → token_of t' ≡ began (token_of t) n → IsOf b t'
    began_is view token = is_now b t' (drew_view draw.Begin t.track.behind t.track.second n (view_of t)) (began (token_of t) n) table view token (slots ∙ h.slots) has_room h.here h.turns h.gap h.gaps h.lists
        (sound_began (token_of t) (view_of t).room (view_of t).seen h.sound ((view_of t).room - 1 + share * 0) n (omega arith) less)

    pub ended_is : (aborted : Bool) → view_of t' ≡ drew_view (draw.End aborted) t.track.behind t.track.second n (view_of t) → token_of t' ≡ ended (token_of t) (state_of_end aborted) n → HasBlock (token_of t) → IsOf b t'
    ended_is aborted view token block = is_now b t' (drew_view (draw.End aborted) t.track.behind t.track.second n (view_of t)) (ended (token_of t) (state_of_end aborted) n) table view token (slots ∙ h.slots) has_room h.here h.turns h.gap h.gaps h.lists
        (sound_ended (token_of t) (view_of t).room (view_of t).seen h.sound ((view_of t).room - 1 + share * 0) n (omega arith) less (state_of_end aborted) block)

  pub marked_is : (w x : ℕ) → view_of t' ≡ marked_view w x (view_of t) → token_of t' ≡ token_of t → IsOf b t'
  marked_is w x view token = is_now b t' (marked_view w x (view_of t)) (token_of t) table view token (slots ∙ h.slots) has_room h.here h.turns h.gap h.gaps h.lists h.sound

-- ## From strand to strand

joined_by : (x : Token) (o : Open) (os : List Open) (s : Side) → (turned_by x (record o { side = s } ∷ os)).joined ≡ x.joined
joined_by x o os (Beside fork) = refl
joined_by x o os (First right) = refl
joined_by x o os Second = refl

joined_from : (x : Token) (os : List Open) → (turned_by x os).joined ≡ x.joined
joined_from x [] = refl
joined_from x (o ∷ os) = joined_by x o os o.side

turned_joined : (x : Token) → (turned x).joined ≡ x.joined
turned_joined x = joined_from x x.forks

pub turned_is : (b : Board) (t t' : StrandToken) → IsOf b t → t'.seat ≡ t.seat → t'.track.room ≡ t.track.room → token_of t' ≡ turned (token_of t) → IsOf b t'
turned_is b t t' h seat room token =
    is_now b t' (view_of t) (turned (token_of t)) (ap (λ s. s.table_id) seat ∙ h.table) (ap (λ s. s.me.0) seat) token (ap (λ s. s.me.1) seat ∙ h.slots)
    (subst (λ r. IsTrue (is_some r)) (sym room) h.room) h.here h.turns h.gap h.gaps (subst (λ (ls : List Log). length ls + 1 ≤ (view_of t).owns) (sym (turned_joined (token_of t))) h.lists) (sound_turned (token_of t) (view_of t).room (view_of t).seen h.sound)

beside_from : (os : List Stood) (ws : List (List ℕ)) (o : Open) (rest : List Open) (fork : ℕ) → open_forks os ws ≡ o ∷ rest → o.side ≡ Beside fork → WaitsBeside os
beside_from [] ws o rest fork e f = absurd (cc e)
beside_from (s ∷ ss) ws o rest fork e f = subst IsBeside (sym (ap (λ os. side_of_first os) e ∙ f)) tt where
  side_of_first : List Open → Side
  side_of_first [] = Second
  side_of_first (p ∷ ps) = p.side

pub waits_beside : (t u : StrandToken) → AreOfOneFork (token_of t) (token_of u) → WaitsBeside (track_of t.track).outer
waits_beside t u f = beside_from (track_of t.track).outer (outwards (caught_up t.track.behind t.track.second (view_of t).arounds)) f.inner f.outer (token_of u).fork f.left f.fork

pub one_fork_too : (x x' y y' : Token) → x' ≡ x → y' ≡ y → AreOfOneFork x y → AreOfOneFork x' y'
one_fork_too x x' y y' e f h = subst (λ z. AreOfOneFork z y') (sym e) (subst (λ z. AreOfOneFork x z) (sym f) h)

stood_gap : (n : ℕ) (v : View) (ws : List Whereabouts) → v.gap < n → All (λ (o : Whereabouts). o.gap < n) ws → (stood_at v ws).gap < n
stood_gap n v [] l all = l
stood_gap n v (o ∷ os) l all = All-head (λ (p : Whereabouts). p.gap < n) o os all

out_gaps : (n : ℕ) (ws : List Whereabouts) → All (λ (o : Whereabouts). o.gap < n) ws → All (λ (o : Whereabouts). o.gap < n) (further_out ws)
out_gaps n [] all = all
out_gaps n (o ∷ os) all = All-tail (λ (p : Whereabouts). p.gap < n) o os all

pub joined_is : (b : Board) (t u t' : StrandToken) → IsOf b t → IsOf b u → AreOfOneFork (token_of t) (token_of u) → IsTokenOf b.shared t' → view_of t' ≡ joined_view t.track.behind t.track.second (view_of t) (view_of u)
    → held_by t' ≡ held_by t → t'.track.room ≡ t.track.room → token_of t' ≡ taken_in (token_of t) (token_of u) → IsOf b t'
joined_is b t u t' h g f table view slots room token =
    is_now b t' (both_view t.track.behind t.track.second (view_of t) (view_of u)) (taken_in (token_of t) (token_of u)) table (view ∙ here_both t.track.behind t.track.second (view_of t) (view_of u) g.here) token (slots ∙ h.slots)
    (subst (λ r. IsTrue (is_some r)) (sym room) h.room) h.here h.turns (stood_gap (columns_of b) (view_of t) (view_of t).outer h.gap h.gaps) (out_gaps (columns_of b) (view_of t).outer h.gaps)
    (omega (arith, h.lists, g.lists, length-append (token_of t).joined ((token_of u).own ∷ (token_of u).joined)))
    (sound_joined (token_of t) (token_of u) (view_of t).room (view_of t).seen (view_of u).room (view_of u).seen h.sound g.sound f.inner f.outer f.left)

-- a look at the clock changed nothing
pub weighed_is : (b : Board) (t t' : StrandToken) → IsOf b t → IsTokenOf b.shared t' → t'.seat.me ≡ t.seat.me → t'.track ≡ t.track → token_of t' ≡ token_of t → IsOf b t'
weighed_is b t t' h table me track token =
    is_now b t' (view_of t) (token_of t) table (ap (λ m. m.0) me) token (ap (λ m. m.1) me ∙ h.slots) (subst HasRoom (sym track) h.room) h.here h.turns h.gap h.gaps h.lists h.sound

-- what a closed table leaves of its cells
pub cells_left : (key : Key) (me : Me Slot View) (js : List (List Entry)) → AreFoundJournals key me js → AreOfCells (cells_of key) js
cells_left key me js h = record {
  many = h.many;
  each = λ n es e. let j = h.each n es e in record { first = j.cell.first; rising = j.rising; steps = j.steps };
}
