-- Serves `HasForked`: a token that forks, and both that come of it.
use Rattle.std.proofs.Common.{◌≡◌, ◌≢◌, ◌∙◌, ◌+◌, ◌-◌, ◌<◌, ◌≤◌, ◌∷◌, [], List, ℕ, suc, ap, refl, sym, subst, arith, Bool, true, false, length, eq-eqb}
use Rattle.std.specs.Prelude.{All, IsTrue, is_some, Option, Some, None, ◌==◌, if◌then◌else◌}
use Rattle.std.proofs.lemmas.List.{length-reverse}
use Rattle.std.proofs.lemmas.List.Elements.{All-nil, All-cons}
use Rattle.std.proofs.lemmas.Bool.{ne_eqb}
use Rattle.atomic_table.specs.Table.{rest}
use Rattle.cw_log.specs.Tokens.{branched, forked, right_of}
use Rattle.cw_steps.specs.declared.view.Change.{Change}
use Rattle.cw_steps.specs.declared.view.Key.{Key}
use Rattle.cw_steps.specs.declared.draw.Draw.TheVariants as draw
use Rattle.cw_steps.specs.declared.draw.Home.{Home}
use Rattle.cw_steps.specs.declared.draw.Home.TheVariants as home
use Rattle.cw_steps.specs.declared.table.StrandToken.{StrandToken}
use Rattle.cw_steps.specs.declared.track.Ahead.{Ahead}
use Rattle.cw_steps.specs.declared.view.Slot.{Slot}
use Rattle.cw_steps.specs.declared.view.Slot.TheVariants as slot
use Rattle.cw_trace.specs.Columns as columns
use Rattle.cw_trace.specs.Traces.{Traces}
use Rattle.cw_steps.specs.declared.view.Turn.{Turn}
use Rattle.cw_steps.specs.declared.view.View.{View}
use Rattle.cw_steps.specs.declared.view.Whereabouts.{Whereabouts}
use Rattle.cw_steps.specs.Stands.{drawn_token, right_token, token_of}
use Rattle.cw_steps.specs.declared.track.Track.{Track}
use Rattle.cw_steps.specs.Tracks.{TrackParts, brought, track_of, CanPart, HasRoom, HasSpare}
use Rattle.cw_steps.specs.Around.{caught_up, innermost}
use Rattle.cw_steps.specs.Homes.{ComesHome, MayGive}
use Rattle.cw_steps.specs.declared.draw.Aim.{Aim}
use Rattle.cw_steps.specs.declared.draw.Aim.TheVariants as aims
use Rattle.cw_steps.specs.Views.{columns_for, drew_view, gave_view, held_by, key_of, newest_aim, newest_change, newest_slot, newest_tier, newest_used, older, parted_view, new_seat_view, right_view, cells_of, CanFork, IsQuiet, IsShown, IsShownAhead, IsTierOf, share, view_of, with_change, with_come, with_more, IsTokenOf}
use Rattle.cw_board.specs.declared.board.Board.{Board}
use Rattle.cw_board.specs.Boards.{cells_in, columns_of, IsOf}
use Rattle.cw_board.specs.Sound.{IsSoundToken}
use Rattle.cw_board.specs.Turns.{HasForked, HasShown, IsHolding}
use Rattle.cw_board.proofs.Boards.{is_now}
use Rattle.cw_board.proofs.Holding.{lists_held}
use Rattle.cw_board.proofs.Showing.{aim_changed, as_it_was, change_now, slot_changed, tier_changed, used_changed}
use Rattle.cw_board.proofs.Sound.{sound_branched, sound_forked, sound_later, sound_right}

-- the turn with the tier that a change brought
module _ (t : Turn) where
  slot_come : (o : Option Change) → (with_come o t).slot ≡ t.slot
  slot_come None = refl
  slot_come (Some ch) = refl

  aim_come : (o : Option Change) → (with_come o t).aim ≡ t.aim
  aim_come None = refl
  aim_come (Some ch) = refl

  quiet_come : (o : Option Change) → t.change ≡ o → (with_come o t).change ≡ None
  quiet_come None e = e
  quiet_come (Some ch) e = refl

-- a fork takes k more columns, with the tier that was shown
module _ (k : ℕ) where
  pub newest_more : (ts : List Turn) → newest_slot (with_more k ts) ≡ newest_slot ts
  newest_more [] = refl
  newest_more (t ∷ ts) = ap Some (slot_come t t.change)

  pub older_more : (ts : List Turn) → older (with_more k ts) ≡ older ts
  older_more [] = refl
  older_more (t ∷ ts) = refl

  pub used_more : (n : ℕ) (ts : List Turn) → newest_slot ts ≡ Some n → newest_used (with_more k ts) ≡ newest_used ts + k
  used_more n [] e = absurd (cc e)
  used_more n (t ∷ ts) e = refl

  pub aim_more : (ts : List Turn) → newest_aim (with_more k ts) ≡ newest_aim ts
  aim_more [] = refl
  aim_more (t ∷ ts) = aim_come t t.change

  -- no change of the tier is under way after the draw
  pub quiet_more : (ts : List Turn) → newest_change (with_more k ts) ≡ None
  quiet_more [] = refl
  quiet_more (t ∷ ts) = quiet_come t t.change refl

  -- nothing was changed before
  pub tier_same : (ts : List Turn) → newest_change ts ≡ None → newest_tier (with_more k ts) ≡ newest_tier ts
  tier_same [] e = refl
  tier_same (t ∷ ts) e = ap (λ o. (with_come o t).tier) e

  -- the tier that was shown lies there after the draw
  pub tier_more : (ch : Change) (ts : List Turn) → newest_change ts ≡ Some ch → newest_tier (with_more k ts) ≡ Some ch.come
  tier_more ch [] e = absurd (cc e)
  tier_more ch (t ∷ ts) e = ap (λ o. (with_come o t).tier) e

module _ (b : Board) (left right gap stamp : ℕ) (y : Slot) (t u u' : StrandToken) (h : IsHolding b (cells_in b) y t u) (f : HasForked b left right gap stamp u u') where
  abbrev now : View
  now = gave_view home.Plain (drew_view (draw.Fork left right gap) u.track.behind u.track.second stamp (view_of u))

  some_gap : gap < columns_of b
  some_gap = omega (arith, f.fits.within, f.fits.few)

  here_now : now.here ≡ true
  here_now = ap (λ (v : View). v.here) h.rest ∙ h.was.here

  turns_now : now.turns ≡ []
  turns_now = older_more (columns_for left right) (view_of u).turns ∙ h.alone

  own_gap : (view_of u).gap < columns_of b
  own_gap = subst (λ (n : ℕ). n < columns_of b) (sym (ap (λ (v : View). v.gap) h.rest)) h.was.gap

  own_gaps : All (λ (o : Whereabouts). o.gap < columns_of b) (view_of u).outer
  own_gaps = subst (All (λ (o : Whereabouts). o.gap < columns_of b)) (sym (ap (λ (v : View). v.outer) h.rest)) h.was.gaps

  gaps_if : (r : Bool) → All (λ (o : Whereabouts). o.gap < columns_of b) (if r then (view_of u).outer else record { column = (view_of u).column; gap = (view_of u).gap; word = (view_of u).word } ∷ (view_of u).outer)
  gaps_if true = own_gaps
  gaps_if false = All-cons (λ (o : Whereabouts). o.gap < columns_of b) (record { column = (view_of u).column; gap = (view_of u).gap; word = (view_of u).word }) (view_of u).outer own_gap own_gaps

  has_room : HasRoom u'.track
  has_room = subst (λ r. IsTrue (is_some r)) (sym f.room) (subst HasRoom (sym h.track) h.was.room)

  -- what it stands for is sound before the fork
  sound_before : IsSoundToken (token_of u) (view_of u).room (view_of u).seen
  sound_before = subst (λ x. IsSoundToken x (view_of u).room (view_of u).seen) (sym h.token)
      (subst (λ r. IsSoundToken (token_of t) r (view_of u).seen) (sym (ap (λ (v : View). v.room) h.rest)) (sound_later (token_of t) (view_of t).room (view_of t).seen (view_of u).seen h.later h.was.sound))

  sound_if : (r : Bool) (room : ℕ) → (view_of u).room ≤ room + 1 → IsSoundToken (if r then branched (token_of u) stamp else forked (token_of u) stamp left) room stamp
  sound_if true room paid = sound_branched (token_of u) (view_of u).room (view_of u).seen sound_before room stamp paid f.later
  sound_if false room paid = sound_forked (token_of u) (view_of u).room (view_of u).seen sound_before room stamp paid f.later left

  owned : length (token_of u).joined + 1 ≤ (view_of u).owns
  owned = lists_held b (cells_in b) y t u h

  lists_if : (r : Bool) → length (if r then branched (token_of u) stamp else forked (token_of u) stamp left).joined + 1 ≤ (view_of u).owns + (if r then 0 else 1)
  lists_if true = omega (arith, owned)
  lists_if false = omega (arith, owned)

  lists_two : (r : Bool) → r ≡ false → length (if r then branched (token_of u) stamp else forked (token_of u) stamp left).joined + 1 ≤ (view_of u).owns + (if r then 0 else 1) - 1
  lists_two true e = absurd (cc e)
  lists_two false e = omega (arith, owned)

  -- a fork in its strand's own column
  pub inline_is : IsOf b u'
  inline_is = is_now b u' now (drawn_token (draw.Fork left right gap) stamp (token_of u)) f.table f.view f.token f.slots has_room here_now turns_now some_gap (gaps_if (left == right)) (lists_if (left == right))
      (sound_if (left == right) now.room (omega arith))

  -- a fork with two columns, whose right strand's seat is split off
  module _ (apart : left ≢ right) where
    off : (left == right) ≡ false
    off = ne_eqb left right apart

    two : columns_for left right ≡ 2
    two = ap {B = ℕ} (λ (r : Bool). if r then 0 else 2) off

    pub left_is : (u'' : StrandToken) (behind : ℕ) (second : Bool) → IsTokenOf b.shared u'' → view_of u'' ≡ parted_view false behind second (view_of u') → held_by u'' ≡ held_by u' → u''.track.room ≡ u'.track.room → token_of u'' ≡ token_of u' → IsOf b u''
    left_is u'' behind second table view slots room token =
        is_now b u'' (parted_view false behind second now) (drawn_token (draw.Fork left right gap) stamp (token_of u)) table (view ∙ ap (parted_view false behind second) f.view) (token ∙ f.token) (slots ∙ f.slots)
        (subst (λ r. IsTrue (is_some r)) (sym room) has_room) here_now turns_now some_gap (gaps_if (left == right)) (lists_two (left == right) off)
        (sound_if (left == right) (now.room - share) (omega (arith, two)))

    pub right_is : (a : Ahead) (r : StrandToken) (behind : ℕ) (second : Bool) → IsTokenOf b.shared r → view_of r ≡ new_seat_view false behind second (view_of u') → held_by r ≡ [] → HasRoom r.track → token_of r ≡ right_token (token_of u') a → IsOf b r
    right_is a r behind second table view slots room token =
        let seat : View = new_seat_view false behind second now in
        let coming : now.coming ≡ Some (record { fork = left; column = right; gap = gap }) = ap (λ (q : Bool). if q then (view_of u).coming else Some (record { fork = left; column = right; gap = gap })) off in
        let view' : view_of r ≡ right_view (Some (record { fork = left; column = right; gap = gap })) (innermost (caught_up behind second now.arounds)) now =
        view ∙ ap (new_seat_view false behind second) f.view ∙ ap (λ c. right_view c (innermost (caught_up behind second now.arounds)) now) coming in
        is_now b r (right_view (Some (record { fork = left; column = right; gap = gap })) (innermost (caught_up behind second now.arounds)) now) (right_token (drawn_token (draw.Fork left right gap) stamp (token_of u)) a)
        table view' (token ∙ ap (λ x. right_token x a) f.token) slots room refl refl some_gap (All-nil (λ (o : Whereabouts). o.gap < columns_of b)) (omega arith)
        (sound_right (drawn_token (draw.Fork left right gap) stamp (token_of u)) (now.room - share) stamp a (sound_if (left == right) (now.room - share) (omega (arith, two))))

    -- what both stand for
    left_stands : drawn_token (draw.Fork left right gap) stamp (token_of u) ≡ forked (token_of u) stamp left
    left_stands = ap (λ (q : Bool). if q then branched (token_of u) stamp else forked (token_of u) stamp left) off

    pub ahead_now : u'.track.ahead ≡ Some (record { fork = left; node = length (token_of u).own.nodes; column = right; gap = gap })
    ahead_now = ap (λ c. c.ahead) f.track ∙ ap (λ (q : Bool). if q then u.track.ahead else Some (record { fork = left; node = length (token_of u).own.nodes; column = right; gap = gap })) off

    pub left_forks : (u'' : StrandToken) → token_of u'' ≡ token_of u' → token_of u'' ≡ forked (token_of u) stamp left
    left_forks u'' token = token ∙ f.token ∙ left_stands

    pub right_forks : (r : StrandToken) → token_of r ≡ right_token (token_of u') (record { fork = left; node = length (token_of u).own.nodes; column = right; gap = gap }) → token_of r ≡ right_of (token_of u) left right
    right_forks r token = token ∙ ap (λ x. right_token x (record { fork = left; node = length (token_of u).own.nodes; column = right; gap = gap })) (f.token ∙ left_stands)

-- ## What a fork asks

pub can_fork_two : (key : Key) (v : View) (left right gap : ℕ) → newest_slot v.turns ≡ Some (cells_of key) → newest_aim v.turns ≡ aims.Fork → left ≡ newest_used v.turns → right ≡ left + 1 → left + 2 ≤ key.columns → gap ≤ left
    → gap ≡ (if v.word == 0 then v.gap else left) → IsShown v.word v.column v.turns → CanFork key v left right gap
can_fork_two key v left right gap turn aim first next few low used shown =
    let off : (left == right) ≡ false = ne_eqb left right (λ e. omega arith) in
    let two : columns_for left right ≡ 2 = ap {B = ℕ} (λ (r : Bool). if r then 0 else 2) off in
    record {
      turn = turn;
      aim = aim;
      one = first ∙ sym (ap {B = ℕ} (λ (r : Bool). if r then v.column else newest_used v.turns) off);
      other = omega (arith, next, ap {B = ℕ} (λ (r : Bool). if r then left else suc left) off);
      few = omega (arith, first, few, two);
      within = omega (arith, first, low, two);
      full = λ e. absurd (omega (arith, next, e));
      gap_used = used ∙ sym (ap {B = ℕ} (λ (r : Bool). if r then v.gap else if v.word == 0 then v.gap else left) off);
      shown = subst (λ (n : ℕ). IsShownAhead n v.word v.column v.turns) (sym two) shown;
    }

-- once its columns were shown
pub can_fork_shown : (b : Board) (left gap : ℕ) (lay x : Traces) (y : Slot) (t u u' : StrandToken) → IsHolding b (cells_in b) y t u → HasShown b x u u' → newest_aim (view_of u).turns ≡ aims.Fork → newest_tier (view_of u).turns ≡ Some lay
    → x.columns ≡ columns.forked (view_of u).word (view_of u).column lay.columns → left ≡ newest_used (view_of u).turns → left + 2 ≤ columns_of b → gap ≤ left → gap ≡ (if (view_of u).word == 0 then (view_of u).gap else left)
    → CanFork (key_of b.shared) (view_of u') left (left + 1) gap
can_fork_shown b left gap lay x y t u u' h s aim lies forked first few low used =
    let v : View = view_of u in
    let w : View = record v { turns = with_change (Some s.change) v.turns } in
    subst (λ (a : View). CanFork (key_of b.shared) a left (left + 1) gap) (sym s.view)
    (can_fork_two (key_of b.shared) w left (left + 1) gap (slot_changed (Some s.change) v.turns ∙ h.turn) (aim_changed (Some s.change) v.turns ∙ aim) (first ∙ sym (used_changed (Some s.change) v.turns)) refl few low used (record {
      lay = lay;
      lies = tier_changed (Some s.change) v.turns ∙ lies;
      change = s.change;
      there = change_now (Some s.change) (cells_in b) v.turns h.turn;
      even = s.even;
      forked = ap (λ (c : Traces). c.columns) s.comes ∙ forked;
    }))

pub can_fork_inline : (key : Key) (v : View) → newest_slot v.turns ≡ Some (cells_of key) → newest_aim v.turns ≡ aims.Fork → newest_used v.turns ≤ key.columns → v.gap < newest_used v.turns → key.columns < newest_used v.turns + 2 → IsQuiet v
    → CanFork key v v.column v.column v.gap
can_fork_inline key v turn aim few low full quiet =
    let on : (v.column == v.column) ≡ true = eq-eqb v.column v.column refl in
    let none : columns_for v.column v.column ≡ 0 = ap {B = ℕ} (λ (r : Bool). if r then 0 else 2) on in
    record {
      turn = turn;
      aim = aim;
      one = sym (ap {B = ℕ} (λ (r : Bool). if r then v.column else newest_used v.turns) on);
      other = sym (ap {B = ℕ} (λ (r : Bool). if r then v.column else suc v.column) on);
      few = omega (arith, few, none);
      within = omega (arith, low, none);
      full = λ e. full;
      gap_used = sym (ap {B = ℕ} (λ (r : Bool). if r then v.gap else if v.word == 0 then v.gap else v.column) on);
      shown = subst (λ (n : ℕ). IsShownAhead n v.word v.column v.turns) (sym none) quiet;
    }

-- as `give` asks it
pub gives_fork : (b : Board) (left right gap n behind : ℕ) (second : Bool) (y : Slot) (x : Traces) (m : Home) (t u v : StrandToken) → IsHolding b (cells_in b) y t u
    → view_of v ≡ drew_view (draw.Fork left right gap) behind second n (view_of u) → held_by v ≡ (cells_in b, slot.Tier x) ∷ [] → IsTierOf (columns_of b) (newest_used (view_of u).turns + columns_for left right) (slot.Tier x)
    → newest_tier (with_more (columns_for left right) (view_of u).turns) ≡ Some x → ComesHome (view_of u).fork (view_of u).phase (newest_aim (view_of u).turns) m (Some x) (slot.Tier x) → MayGive (key_of b.shared) v (cells_in b) m
gives_fork b left right gap n behind second y x m t u v h view slots tier comes brings =
    let k : ℕ = columns_for left right in
    let w : View = view_of u in
    let lay : newest_tier (view_of v).turns ≡ Some x = ap (λ (a : View). newest_tier a.turns) view ∙ comes in record {
      lies = slot.Tier x;
      held = record {
        turn = ap (λ (a : View). newest_slot a.turns) view ∙ newest_more k w.turns ∙ h.turn;
        slot = slots ∙ ap (λ ys. (cells_in b, slot.Tier x) ∷ rest ys) (sym slots);
      };
      whole = record {
        cell = λ less. absurd (omega (arith, less));
        tier = λ e. subst (λ (i : ℕ). IsTierOf (columns_of b) i (slot.Tier x)) (sym (ap (λ (a : View). newest_used a.turns) view ∙ used_more k (cells_in b) w.turns h.turn)) tier;
      };
      tier = subst (λ (a : View). ComesHome a.fork a.phase (newest_aim a.turns) m (newest_tier a.turns) (slot.Tier x)) (sym view)
          (subst (λ (a : Aim). ComesHome w.fork w.phase a m (newest_tier (with_more k w.turns)) (slot.Tier x)) (sym (aim_more k w.turns))
          (subst (λ o. ComesHome w.fork w.phase (newest_aim w.turns) m o (slot.Tier x)) (sym comes) brings));
      cell = tt;
      shown = as_it_was x (newest_tier (view_of v).turns) (newest_change (view_of v).turns) lay (ap (λ (a : View). newest_change a.turns) view ∙ quiet_more k w.turns);
    }

-- ## Room for what a right strand begins with

pub brought_pending : (m : Home) (c : TrackParts) → (brought m c).pending ≡ c.pending
brought_pending home.Plain c = refl
brought_pending (home.Refused k) c = refl
brought_pending (home.Split fork used) c = refl
brought_pending (home.Merge fork used) c = refl
brought_pending (home.Inline used) c = refl
brought_pending (home.Early before used) c = refl

pub part_kept : (c c' : Track) → (track_of c').pending ≡ (track_of c).pending → c'.spare ≡ c.spare → CanPart c → CanPart c'
part_kept c c' e f h =
    let same : length c.pending.items ≡ length c'.pending.items = sym (length-reverse c.pending.items) ∙ ap length (sym e) ∙ length-reverse c'.pending.items in
    subst (HasSpare (length c'.pending.items)) (sym f) (subst (λ (n : ℕ). HasSpare n c.spare) same h)
