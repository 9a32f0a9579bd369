-- Serves `HasShown`: a tier whose changed words are stored between an odd version and the next even one.
use Rattle.std.proofs.Common.{below_more, ◌≡◌, ◌∙◌, ◌+◌, ◌<◌, ◌≤◌, ◌∷◌, [], List, ℕ, ap, refl, sym, subst, arith, Bool, true, false, length, eq-eqb, inl, inr}
use Rattle.std.specs.Prelude.{◌⊎◌, ◌==◌, ◌||◌, if◌then◌else◌, All, Contains, Option, Some, None, IsSomeAnd, slice_index}
use Rattle.std.proofs.lemmas.Bool.{or_right}
use Rattle.std.proofs.lemmas.List.Elements.{All-nil, All-cons, All-head, All-weaker, Contains-append_right}
use Rattle.cw_tree.specs.Walks.{has}
use Rattle.cw_stack.specs.Cells.{CellParts}
use Rattle.cw_trace.specs.declared.tier.Row.{Row}
use Rattle.cw_trace.specs.Columns as columns
use Rattle.cw_trace.specs.Traces.{Traces}
use Rattle.cw_trace.proofs.Touching.{has_at}
use Rattle.cw_steps.specs.declared.draw.Aim.{Aim}
use Rattle.cw_steps.specs.declared.draw.Home.{Home}
use Rattle.cw_steps.specs.declared.places.Place.{Place}
use Rattle.cw_steps.specs.declared.places.Place.TheVariants.{Owner, Lead, Up, Opening, Closing}
use Rattle.cw_steps.specs.declared.table.StrandToken.{StrandToken}
use Rattle.cw_steps.specs.declared.view.Change.{Change}
use Rattle.cw_steps.specs.declared.view.Slot.{Slot}
use Rattle.cw_steps.specs.declared.view.Slot.TheVariants as slot
use Rattle.cw_steps.specs.declared.view.Turn.{Turn}
use Rattle.cw_steps.specs.declared.view.View.{View}
use Rattle.cw_steps.specs.Homes.{ComesHome, IsAsShown}
use Rattle.cw_steps.specs.Places.{places_of_column, word_of_place}
use Rattle.cw_steps.specs.Stands.{token_of}
use Rattle.cw_steps.specs.Words.{row_of, row_value, AreSameRows, IsUntouched}
use Rattle.cw_steps.specs.Views.{even_view, held_by, key_of, newest_aim, newest_change, newest_slot, newest_tier, newest_used, odd_view, older, stored_all, stored_view, view_of, with_change, CanChange, CanMakeEven, CanStoreRow, IsTierOf, IsTokenOf, IsUnderWay}
use Rattle.cw_board.specs.declared.board.Board.{Board}
use Rattle.cw_board.specs.Boards.{cells_in, columns_of}
use Rattle.cw_board.specs.Turns.{at_rest, is_of_fork, places_changed, HasShown, HasTier, IsChanged, IsHolding}
use Rattle.cw_board.proofs.Naming.{closing_blank, lead_blank, opening_blank, up_blank}

-- ## The newest turn, with a change

module _ (o : Option Change) where
  pub slot_changed : (ts : List Turn) → newest_slot (with_change o ts) ≡ newest_slot ts
  slot_changed [] = refl
  slot_changed (t ∷ ts) = refl

  pub used_changed : (ts : List Turn) → newest_used (with_change o ts) ≡ newest_used ts
  used_changed [] = refl
  used_changed (t ∷ ts) = refl

  pub tier_changed : (ts : List Turn) → newest_tier (with_change o ts) ≡ newest_tier ts
  tier_changed [] = refl
  tier_changed (t ∷ ts) = refl

  pub aim_changed : (ts : List Turn) → newest_aim (with_change o ts) ≡ newest_aim ts
  aim_changed [] = refl
  aim_changed (t ∷ ts) = refl

  pub older_changed : (ts : List Turn) → older (with_change o ts) ≡ older ts
  older_changed [] = refl
  older_changed (t ∷ ts) = refl

  pub change_now : (n : ℕ) (ts : List Turn) → newest_slot ts ≡ Some n → newest_change (with_change o ts) ≡ o
  change_now n [] e = absurd (cc e)
  change_now n (t ∷ ts) e = refl

abbrev with_turns : View → List Turn → View
with_turns v ts = record v { turns = ts }

-- ## Words that are stored

-- those at these places, newest first, and then those that were stored before
abbrev with_words : (cells columns : ℕ) → List Place → (before : List ℕ) → List ℕ
with_words cells columns [] before = before
with_words cells columns (p ∷ ps) before = with_words cells columns ps (word_of_place cells columns p ∷ before)

abbrev AreStored : (cells columns : ℕ) → (stored : List ℕ) → List Place → Type 0
AreStored cells columns stored ps = All (λ (p : Place). Contains stored (word_of_place cells columns p)) ps

abbrev after_words : (cells columns : ℕ) → List Place → Change → Change
after_words cells columns ps ch = record ch { stored = with_words cells columns ps ch.stored }

word_in_turns : (w : ℕ) (v : View) (ch : Change) (ts : List Turn) → stored_view w (with_turns v (with_change (Some ch) ts)) ≡ with_turns v (with_change (Some (record ch { stored = w ∷ ch.stored })) ts)
word_in_turns w v ch [] = refl
word_in_turns w v ch (t ∷ ts) = refl

words_in_turns : (cells columns : ℕ) (ps : List Place) (v : View) (ch : Change) (ts : List Turn)
    → stored_all cells columns ps (with_turns v (with_change (Some ch) ts)) ≡ with_turns v (with_change (Some (after_words cells columns ps ch)) ts)
words_in_turns cells columns [] v ch ts = refl
words_in_turns cells columns (p ∷ ps) v ch ts =
    let w : ℕ = word_of_place cells columns p in
    ap (stored_all cells columns ps) (word_in_turns w v ch ts) ∙ words_in_turns cells columns ps v (record ch { stored = w ∷ ch.stored }) ts

even_in_turns : (v : View) (ch : Change) (ts : List Turn) → even_view (with_turns v (with_change (Some ch) ts)) ≡ with_turns v (with_change (Some (record ch { even = true })) ts)
even_in_turns v ch [] = refl
even_in_turns v ch (t ∷ ts) = refl

word_kept : (cells columns : ℕ) (ps : List Place) (before : List ℕ) (w : ℕ) → Contains before w → Contains (with_words cells columns ps before) w
word_kept cells columns [] before w c = c
word_kept cells columns (p ∷ ps) before w c =
    let first : ℕ = word_of_place cells columns p in
    word_kept cells columns ps (first ∷ before) w (Contains-append_right (first ∷ []) before w c)

words_stored : (cells columns : ℕ) (ps : List Place) (before : List ℕ) → AreStored cells columns (with_words cells columns ps before) ps
words_stored cells columns [] before = All-nil (λ (p : Place). Contains before (word_of_place cells columns p))
words_stored cells columns (p ∷ ps) before =
    let first : ℕ = word_of_place cells columns p in
    All-cons (λ (q : Place). Contains (with_words cells columns ps (first ∷ before)) (word_of_place cells columns q)) p ps
    (word_kept cells columns ps (first ∷ before) first (0, omega arith, refl)) (words_stored cells columns ps (first ∷ before))

words_kept : (cells columns : ℕ) (more ps : List Place) (before : List ℕ) → AreStored cells columns before ps → AreStored cells columns (with_words cells columns more before) ps
words_kept cells columns more ps before h =
    All-weaker (λ (p : Place). Contains before (word_of_place cells columns p)) (λ (p : Place). Contains (with_words cells columns more before) (word_of_place cells columns p))
    (λ p c. word_kept cells columns more before (word_of_place cells columns p) c) ps h

-- ## The words of a column whose changed words were stored

-- what holds of each word of a row
whole_row : (P : Place → Type 0) (i : ℕ) → P (Owner i) → P (Lead i) → P (Up i) → P (Opening i) → P (Closing i) → All P (places_of_column i)
whole_row P i owner lead up opening closing =
    All-cons P (Owner i) (Lead i ∷ Up i ∷ Opening i ∷ Closing i ∷ []) owner (All-cons P (Lead i) (Up i ∷ Opening i ∷ Closing i ∷ []) lead
    (All-cons P (Up i) (Opening i ∷ Closing i ∷ []) up (All-cons P (Opening i) (Closing i ∷ []) opening (All-cons P (Closing i) [] closing (All-nil P)))))

module _ (cells limit f : ℕ) (lay come : Traces) (changed : IsChanged f lay come) (stored : List ℕ) (i : ℕ) (less : i < columns.used come.columns) where
  abbrev IsRight : Place → Type 0
  IsRight p = Contains stored (word_of_place cells limit p) ⊎ IsUntouched lay come i p

  was_unnamed : is_of_fork f i ≡ false → columns.is_trace come.columns i ≡ false → (i < columns.used lay.columns) × (columns.is_trace lay.columns i ≡ false)
  was_unnamed other unnamed = elim (changed.unnamed i less unnamed) [
    | inl e ↦ absurd (cc (other, ap (λ (r : Bool). r || (i == f + 1)) (eq-eqb i f e)))
    | inr (inl e) ↦ absurd (cc (other, or_right (i == f) (i == f + 1) (eq-eqb i (f + 1) e)))
    | inr (inr h) ↦ h
  ]

  owner_alone : is_of_fork f i ≡ false → columns.is_trace come.columns i ≡ false → AreStored cells limit stored (Owner i ∷ []) → All IsRight (places_of_column i)
  owner_alone other unnamed h =
      let was = was_unnamed other unnamed in
      whole_row IsRight i (inl (All-head (λ (p : Place). Contains stored (word_of_place cells limit p)) (Owner i) [] h)) (inr (was.0, lead_blank come i unnamed ∙ sym (lead_blank lay i was.1)))
      (inr (was.0, up_blank come i unnamed ∙ sym (up_blank lay i was.1))) (inr (was.0, opening_blank come i unnamed ∙ sym (opening_blank lay i was.1)))
      (inr (was.0, closing_blank come i unnamed ∙ sym (closing_blank lay i was.1)))

  stored_right : AreStored cells limit stored (places_changed f come.columns i) → All IsRight (places_of_column i)
  stored_right = by (is_of_fork f i) (columns.is_trace come.columns i) refl refl where
    whole : AreStored cells limit stored (places_of_column i) → All IsRight (places_of_column i)
    whole h = All-weaker (λ (p : Place). Contains stored (word_of_place cells limit p)) IsRight (λ p c. inl c) (places_of_column i) h

    by : (r s : Bool) → is_of_fork f i ≡ r → columns.is_trace come.columns i ≡ s → AreStored cells limit stored (if r || s then places_of_column i else Owner i ∷ []) → All IsRight (places_of_column i)
    by true s d e h = whole h
    by false true d e h = whole h
    by false false d e h = owner_alone d e h

  same_right : i < columns.used lay.columns → row_of come i ≡ row_of lay i → All IsRight (places_of_column i)
  same_right was same =
      let right : (p : Place) → IsRight p = λ p. inr (was, ap (λ (r : Row). row_value r p) same) in
      whole_row IsRight i (right (Owner i)) (right (Lead i)) (right (Up i)) (right (Opening i)) (right (Closing i))

-- ## While words are stored

-- A change to `come` at fork `f` is under way, and of the first `count` columns of the list each word that may have changed was
-- stored.
pub record IsShowing (b : Board) (f : ℕ) (come : Traces) (listed : List ℕ) (count : ℕ) (u u' : StrandToken) : Type 0 where
  pub change : Change
  pub comes : change.come ≡ come
  pub odd : change.even ≡ false
  pub rows : (k : ℕ) → k < count → AreStored (cells_in b) (columns_of b) change.stored (places_changed f come.columns (slice_index listed k))
  pub table : IsTokenOf b.shared u'
  pub view : view_of u' ≡ record (view_of u) { turns = with_change (Some change) (view_of u).turns }
  pub slots : held_by u' ≡ held_by u
  pub track : u'.track ≡ u.track
  pub stop : u'.stop ≡ u.stop
  pub token : token_of u' ≡ token_of u

-- it may begin
pub can_change : (b : Board) (y : Slot) (t u : StrandToken) (f : ℕ) (lay come : Traces) → IsHolding b (cells_in b) y t u → newest_change (view_of u).turns ≡ None → columns.used come.columns ≤ columns_of b → IsChanged f lay come
    → CanChange (key_of b.shared) (view_of u) come
can_change b y t u f lay come h quiet few changed = record { turn = h.turn; quiet = quiet; few = few; labels = changed.labels }

pub shows_none : (b : Board) (f : ℕ) (come : Traces) (listed : List ℕ) (u u' : StrandToken) → IsTokenOf b.shared u' → view_of u' ≡ odd_view come (view_of u) → held_by u' ≡ held_by u → u'.track ≡ u.track → u'.stop ≡ u.stop → token_of u' ≡ token_of u
    → IsShowing b f come listed 0 u u'
shows_none b f come listed u u' table view slots track stop token = record {
  change = record { come = come; stored = []; even = false };
  comes = refl;
  odd = refl;
  rows = λ k less. absurd (omega arith);
  table = table;
  view = view;
  slots = slots;
  track = track;
  stop = stop;
  token = token;
}

module _ (b : Board) (f : ℕ) (come : Traces) (listed : List ℕ) (u u' : StrandToken) (turn : newest_slot (view_of u).turns ≡ Some (cells_in b)) where
  abbrev under_way : (count : ℕ) (s : IsShowing b f come listed count u u') → IsUnderWay (key_of b.shared) (view_of u')
  under_way count s = record {
    turn = ap (λ (v : View). newest_slot v.turns) s.view ∙ slot_changed (Some s.change) (view_of u).turns ∙ turn;
    change = s.change;
    there = ap (λ (v : View). newest_change v.turns) s.view ∙ change_now (Some s.change) (cells_in b) (view_of u).turns turn;
    odd = s.odd;
  }

  pub can_store : (count column : ℕ) (row : Row) → IsShowing b f come listed count u u' → column < columns.used come.columns → columns.used come.columns ≤ columns_of b → row ≡ row_of come column → CanStoreRow (key_of b.shared) (view_of u') column row
  can_store count column row s less few is = record {
    under_way = under_way count s;
    used = subst (λ (c : Traces). column < columns.used c.columns) (sym s.comes) less;
    low = omega (arith, less, few);
    same = is ∙ ap (λ c. row_of c column) (sym s.comes);
  }

  pub shows_more : (count column : ℕ) (u'' : StrandToken) → IsShowing b f come listed count u u' → slice_index listed count ≡ column → IsTokenOf b.shared u'' → view_of u'' ≡ stored_all (cells_in b) (columns_of b) (places_changed f come.columns column) (view_of u')
      → held_by u'' ≡ held_by u' → u''.track ≡ u'.track → u''.stop ≡ u'.stop → token_of u'' ≡ token_of u' → IsShowing b f come listed (count + 1) u u''
  shows_more count column u'' s at table view slots track stop token =
      let ps : List Place = places_changed f come.columns column in
      let now : List ℕ = with_words (cells_in b) (columns_of b) ps s.change.stored in
      record {
        change = after_words (cells_in b) (columns_of b) ps s.change;
        comes = s.comes;
        odd = s.odd;
        rows = below_more (λ (k : ℕ). AreStored (cells_in b) (columns_of b) now (places_changed f come.columns (slice_index listed k))) count
            (λ k less. words_kept (cells_in b) (columns_of b) ps (places_changed f come.columns (slice_index listed k)) s.change.stored (s.rows k less))
            (subst (λ (i : ℕ). AreStored (cells_in b) (columns_of b) now (places_changed f come.columns i)) (sym at) (words_stored (cells_in b) (columns_of b) ps s.change.stored));
        table = table;
        view = view ∙ ap (stored_all (cells_in b) (columns_of b) ps) s.view ∙ words_in_turns (cells_in b) (columns_of b) ps (view_of u) s.change (view_of u).turns;
        slots = slots ∙ s.slots;
        track = track ∙ s.track;
        stop = stop ∙ s.stop;
        token = token ∙ s.token;
      }

  -- Each word of each column in use was stored, or did not change.
  pub can_make_even : (count : ℕ) (lay : Traces) → IsShowing b f come listed count u u' → listed ≡ come.touched → length listed ≤ count → newest_tier (view_of u).turns ≡ Some lay → IsChanged f lay come → CanMakeEven (key_of b.shared) (view_of u')
  can_make_even count lay s same all lies changed = record {
    under_way = under_way count s;
    lay = lay;
    lies = ap (λ (v : View). newest_tier v.turns) s.view ∙ tier_changed (Some s.change) (view_of u).turns ∙ lies;
    stored = subst (λ (c : Traces). (i : ℕ) → i < columns.used c.columns → All (λ (p : Place). Contains s.change.stored (word_of_place (cells_in b) (columns_of b) p) ⊎ IsUntouched lay c i p) (places_of_column i)) (sym s.comes)
        (λ i less. by i less (changed.touched i less));
  } where
    at : (i : ℕ) → has come.touched i ≡ true → AreStored (cells_in b) (columns_of b) s.change.stored (places_changed f come.columns i)
    at i e =
        let z = has_at listed i (subst (λ (ns : List ℕ). has ns i ≡ true) (sym same) e) in
        subst (λ (k : ℕ). AreStored (cells_in b) (columns_of b) s.change.stored (places_changed f come.columns k)) z.2 (s.rows z.0 (omega (arith, z.1, all)))

    by : (i : ℕ) → i < columns.used come.columns → (has come.touched i ≡ true) ⊎ ((i < columns.used lay.columns) × (row_of come i ≡ row_of lay i)) → All (λ (p : Place). Contains s.change.stored (word_of_place (cells_in b) (columns_of b) p) ⊎ IsUntouched lay come i p) (places_of_column i)
    by i less (inl e) = stored_right (cells_in b) (columns_of b) f lay come changed s.change.stored i less (at i e)
    by i less (inr e) = same_right (cells_in b) (columns_of b) f lay come changed s.change.stored i less e.0 e.1

  pub has_shown : (count : ℕ) (u'' : StrandToken) → IsShowing b f come listed count u u' → IsTokenOf b.shared u'' → view_of u'' ≡ even_view (view_of u') → held_by u'' ≡ held_by u' → u''.track ≡ u'.track → u''.stop ≡ u'.stop → token_of u'' ≡ token_of u'
      → HasShown b come u u''
  has_shown count u'' s table view slots track stop token = record {
    change = record s.change { even = true };
    comes = s.comes;
    even = refl;
    table = table;
    view = view ∙ ap even_view s.view ∙ even_in_turns (view_of u) s.change (view_of u).turns;
    slots = slots ∙ s.slots;
    track = track ∙ s.track;
    stop = stop ∙ s.stop;
    token = token ∙ s.token;
  }

-- ## What a token has that has shown a tier

same_rows : (x : Traces) → AreSameRows x x
same_rows x = record { used = refl; rows = λ i less. refl }

-- a tier that lies there as it lay
pub as_it_was : (x : Traces) (lay : Option Traces) (o : Option Change) → lay ≡ Some x → o ≡ None → IsAsShown lay o (slot.Tier x)
as_it_was x lay o e f = subst (λ p. IsAsShown lay p (slot.Tier x)) (sym f) (subst (λ y. IsSomeAnd y (λ z. AreSameRows z x)) (sym e) (same_rows x))

-- a cell is in no word
pub cell_shown : (lay : Option Traces) (o : Option Change) (x : CellParts) → IsAsShown lay o (slot.Cell x)
cell_shown lay None x = tt
cell_shown lay (Some ch) x = tt

module _ (b : Board) (come : Traces) (u u' : StrandToken) (s : HasShown b come u u') where
  pub shown_holds : (y : Slot) (t : StrandToken) → IsHolding b (cells_in b) y t u → IsHolding b (cells_in b) y t u'
  shown_holds y t h = record {
    was = h.was;
    table = s.table;
    turn = ap (λ (v : View). newest_slot v.turns) s.view ∙ slot_changed (Some s.change) (view_of u).turns ∙ h.turn;
    alone = ap (λ (v : View). older v.turns) s.view ∙ older_changed (Some s.change) (view_of u).turns ∙ h.alone;
    slots = s.slots ∙ h.slots;
    later = subst (λ (v : View). (view_of t).seen ≤ v.seen) (sym s.view) h.later;
    rest = ap at_rest s.view ∙ h.rest;
    track = s.track ∙ h.track;
    token = s.token ∙ h.token;
  }

  pub shown_used : newest_used (view_of u').turns ≡ newest_used (view_of u).turns
  shown_used = ap (λ (v : View). newest_used v.turns) s.view ∙ used_changed (Some s.change) (view_of u).turns

  pub shown_aim : newest_aim (view_of u').turns ≡ newest_aim (view_of u).turns
  shown_aim = ap (λ (v : View). newest_aim v.turns) s.view ∙ aim_changed (Some s.change) (view_of u).turns

  pub shown_lay : newest_tier (view_of u').turns ≡ newest_tier (view_of u).turns
  shown_lay = ap (λ (v : View). newest_tier v.turns) s.view ∙ tier_changed (Some s.change) (view_of u).turns

  pub shown_change : (n : ℕ) → newest_slot (view_of u).turns ≡ Some n → newest_change (view_of u').turns ≡ Some s.change
  shown_change n turn = ap (λ (v : View). newest_change v.turns) s.view ∙ change_now (Some s.change) n (view_of u).turns turn

  pub shown_tier : (y : Slot) → HasTier b y u → HasTier b y u'
  shown_tier y h = record {
    few = subst (λ (n : ℕ). n ≤ columns_of b) (sym shown_used) h.few;
    column = subst (λ (n : ℕ). (view_of u').column < n) (sym shown_used) (subst (λ (v : View). v.column < newest_used (view_of u).turns) (sym s.view) h.column);
    gap = subst (λ (n : ℕ). (view_of u').gap < n) (sym shown_used) (subst (λ (v : View). v.gap < newest_used (view_of u).turns) (sym s.view) h.gap);
    whole = subst (λ (n : ℕ). IsTierOf (columns_of b) n y) (sym shown_used) h.whole;
  }

  pub as_shown : (lay : Option Traces) (n : ℕ) → newest_slot (view_of u).turns ≡ Some n → IsAsShown lay (newest_change (view_of u').turns) (slot.Tier come)
  as_shown lay n turn = subst (λ o. IsAsShown lay o (slot.Tier come)) (sym (shown_change n turn)) (s.even, subst (λ (c : Traces). AreSameRows c come) (sym s.comes) (same_rows come))

  -- what may come home still may
  pub shown_brings : (m : Home) (x : Traces) → ComesHome (view_of u).fork (view_of u).phase (newest_aim (view_of u).turns) m (newest_tier (view_of u).turns) (slot.Tier x) → ComesHome (view_of u').fork (view_of u').phase (newest_aim (view_of u').turns) m (newest_tier (view_of u').turns) (slot.Tier x)
  shown_brings m x brings =
      let v : View = view_of u in
      subst (λ (w : View). ComesHome w.fork w.phase (newest_aim w.turns) m (newest_tier w.turns) (slot.Tier x)) (sym s.view)
      (subst (λ (a : Aim). ComesHome v.fork v.phase a m (newest_tier (with_change (Some s.change) v.turns)) (slot.Tier x)) (sym (aim_changed (Some s.change) v.turns))
      (subst (λ o. ComesHome v.fork v.phase (newest_aim v.turns) m o (slot.Tier x)) (sym (tier_changed (Some s.change) v.turns)) brings))
