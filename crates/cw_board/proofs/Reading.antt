-- Serves `HasRead` and `ToldBy`: a token that reads words.
use Rattle.std.proofs.Common.{◌≡◌, ◌∙◌, ℕ, ◌-◌, List, [], ◌∷◌, ◌++◌, length, length-append, take, ap, refl, sym, subst, arith, append_assoc}
use Rattle.std.specs.Prelude.{◌&&◌, nat_lt, Bool, Option, Some, None}
use Rattle.std.specs.Borrow.{MutBor}
use Rattle.std.proofs.lemmas.List.{take_at}
use Rattle.std.proofs.lemmas.List.Elements.{Contains-append_left, Contains-append_right, Contains-push}
use Rattle.cw_trace.specs.Told.{Owner, Lead, Up, Word, Inside, Test, Stays}
use Rattle.cw_steps.specs.declared.places.Place.{Place}
use Rattle.cw_steps.specs.declared.places.Place.TheVariants as places
use Rattle.cw_steps.specs.declared.table.StrandToken.{StrandToken}
use Rattle.cw_steps.specs.declared.view.WordNote.{WordNote}
use Rattle.cw_steps.specs.Leaving.{HasReturned}
use Rattle.cw_steps.specs.Places.{word_of_place, IsThere}
use Rattle.cw_steps.specs.Stands.{token_of}
use Rattle.cw_steps.specs.Views.{held_by, noted_view, view_of, IsTokenOf}
use Rattle.cw_board.specs.declared.board.Board.{Board}
use Rattle.cw_board.specs.Boards.{cells_in, columns_of}
use Rattle.cw_steps.specs.Passes.{IsHeard, ToldBy}
use Rattle.cw_board.specs.Asked.{noted_since, HasNoted, HasRead, HeardFor, IsReading, Question, ReadsFor, ToldFor}

pub reads_not : (t : StrandToken) → HasRead t t
reads_not t = record { notes = []; me = refl; table = refl; track = refl; token = refl }

pub reads_more : (t u u' : StrandToken) (word value : ℕ) → HasRead t u → u'.seat.table_id ≡ u.seat.table_id → view_of u' ≡ noted_view word value (view_of u) → held_by u' ≡ held_by u → u'.track ≡ u.track → token_of u' ≡ token_of u → HasRead t u'
reads_more t u u' word value h table view slots track token = record {
  notes = record { word = word; value = value } ∷ h.notes;
  me = λ i. ((view ∙ ap (λ m. noted_view word value m.0) h.me) i, (slots ∙ ap (λ m. m.1) h.me) i);
  table = table ∙ h.table;
  track = track ∙ h.track;
  token = token ∙ h.token;
}

pub reads_then : (t u u' : StrandToken) → HasRead t u → HasRead u u' → HasRead t u'
reads_then t u u' h g = record {
  notes = g.notes ++ h.notes;
  me = g.me ∙ ap (λ m. (record m.0 { notes = g.notes ++ m.0.notes }, m.1)) h.me ∙ ap (λ ns. (record (view_of t) { notes = ns }, held_by t)) (sym (append_assoc g.notes h.notes (view_of t).notes));
  table = g.table ∙ h.table;
  track = g.track ∙ h.track;
  token = g.token ∙ h.token;
}

-- it took no turn, and forgot nothing
pub read_returned : (t u : StrandToken) → HasRead t u → HasReturned t.seat.me u.seat.me
read_returned t u h = record { seen = (view_of t).seen; notes = h.notes ++ (view_of t).notes; later = omega arith; after = h.me }

-- ## Notes

pub notes_read : (t u : StrandToken) (h : HasRead t u) → (view_of u).notes ≡ h.notes ++ (view_of t).notes
notes_read t u h = ap (λ m. m.0.notes) h.me

-- those that were made since
pub since_more : (t u : StrandToken) (more : List WordNote) → (view_of u).notes ≡ more ++ (view_of t).notes → noted_since t u ≡ more
since_more t u more all =
    let many : length (view_of u).notes - length (view_of t).notes ≡ length more = omega (arith, ap length all, length-append more (view_of t).notes) in
    (λ i. take (many i) (all i)) ∙ take_at more (view_of t).notes (length more) refl

pub since_is : (t u : StrandToken) (h : HasRead t u) → noted_since t u ≡ h.notes
since_is t u h = since_more t u h.notes (notes_read t u h)

pub since_grown : (t u : StrandToken) → HasNoted t u → (view_of u).notes ≡ noted_since t u ++ (view_of t).notes
since_grown t u h = h.1 ∙ ap (λ ns. ns ++ (view_of t).notes) (sym (since_more t u h.0 h.1))

pub noted_then : (t u v : StrandToken) → HasNoted t u → HasNoted u v → HasNoted t v
noted_then t u v h g = (g.0 ++ h.0, g.1 ∙ ap (λ ns. g.0 ++ ns) h.1 ∙ sym (append_assoc g.0 h.0 (view_of t).notes))

pub noted_read : (t u : StrandToken) → HasRead t u → HasNoted t u
noted_read t u h = (h.notes, notes_read t u h)

-- ## What was heard stays

heard_more : (cells columns : ℕ) (more notes : List WordNote) (p : Place) (n : ℕ) → IsHeard cells columns notes p n → IsHeard cells columns (more ++ notes) p n
heard_more cells columns more notes p n h = record { there = λ l. Contains-append_right more notes _ (h.there l); lacks = h.lacks }

module _ (cells columns : ℕ) (heard later : List WordNote) (f : (p : Place) (n : ℕ) → IsHeard cells columns heard p n → IsHeard cells columns later p n) where
  told_later : Stays (ToldBy cells columns heard) (ToldBy cells columns later)
  told_later (Owner i) a h = (h.0, f (places.Owner i) h.0 h.1, h.2)
  told_later (Lead t) a h = (h.0, f (places.Lead t) h.0 h.1, h.2)
  told_later (Up t) a h = (h.0, f (places.Up t) h.0 h.1, h.2)
  told_later (Word g) a h = (h.0, f (places.Gap g) h.0 h.1, h.2)
  told_later (Inside t o) a h = (
    h.0,
    record {
      opening = h.1.opening;
      inner = h.1.inner;
      closing = h.1.closing;
      opening_is = f (places.Opening o) h.1.opening h.1.opening_is;
      inner_is = f (places.Opening t) h.1.inner h.1.inner_is;
      closing_is = f (places.Closing o) h.1.closing h.1.closing_is;
      inside = h.1.inside;
    },
    h.2,
  )

heard_first : (cells columns : ℕ) (notes older : List WordNote) (p : Place) (n : ℕ) → IsHeard cells columns notes p n → IsHeard cells columns (notes ++ older) p n
heard_first cells columns notes older p n h = record { there = λ l. Contains-append_left notes older _ (h.there l); lacks = h.lacks }

-- an answer stays one when more is noted, and beside what was noted before
pub told_more : (cells columns : ℕ) (more notes : List WordNote) → Stays (ToldBy cells columns notes) (ToldBy cells columns (more ++ notes))
told_more cells columns more notes = told_later cells columns notes (more ++ notes) (heard_more cells columns more notes)

pub told_first : (cells columns : ℕ) (notes older : List WordNote) → Stays (ToldBy cells columns notes) (ToldBy cells columns (notes ++ older))
told_first cells columns notes older = told_later cells columns notes (notes ++ older) (heard_first cells columns notes older)

pub told_stays : (o : Option Question) (u u' : StrandToken) → ((p : Place) (n : ℕ) → HeardFor o u p n → HeardFor o u' p n) → Stays (ToldFor o u) (ToldFor o u')
told_stays None u u' f = λ r a h. absurd h
told_stays (Some q) u u' f = told_later q.cells q.columns (noted_since q.token.now u) (noted_since q.token.now u') f

-- ## One load

-- the word of a place was loaded
pub record WasLoaded (b : Board) (p : Place) (n : ℕ) (lent lent' : MutBor StrandToken) : Type 0 where
  pub name : lent'.ghost_name ≡ lent.ghost_name
  pub table : IsTokenOf b.shared lent'.now
  pub view : view_of lent'.now ≡ noted_view (word_of_place (cells_in b) (columns_of b) p) n (view_of lent.now)
  pub slots : held_by lent'.now ≡ held_by lent.now
  pub track : lent'.now.track ≡ lent.now.track
  pub token : token_of lent'.now ≡ token_of lent.now

module _ (q : Question) (b : Board) (lent lent' : MutBor StrandToken) (p : Place) (n : ℕ) (h : IsReading q b lent) (l : WasLoaded b p n lent lent') where
  read_now : HasRead q.token.now lent'.now
  read_now = reads_more q.token.now lent.now lent'.now (word_of_place (cells_in b) (columns_of b) p) n h.read (l.table ∙ sym h.table) l.view l.slots l.track l.token

  abbrev note : WordNote
  note = record { word = word_of_place q.cells q.columns p; value = n }

  note_now : read_now.notes ≡ note ∷ h.read.notes
  unfolding read_now reads_more
  note_now i = record { word = word_of_place (h.cells i) (h.columns i) p; value = n } ∷ h.read.notes

  since_now : noted_since q.token.now lent'.now ≡ note ∷ noted_since q.token.now lent.now
  since_now = since_is q.token.now lent'.now read_now ∙ note_now ∙ ap (λ ns. note ∷ ns) (sym (since_is q.token.now lent.now h.read))

  one_reads : IsReading q b lent'
  one_reads = record { name = l.name ∙ h.name; read = read_now; table = l.table; cells = h.cells; columns = h.columns }

  one_stays : (x : Place) (m : ℕ) → HeardFor (Some q) lent.now x m → HeardFor (Some q) lent'.now x m
  one_stays x m g = subst (λ ns. IsHeard q.cells q.columns ns x m) (sym since_now) (heard_more q.cells q.columns (note ∷ []) (noted_since q.token.now lent.now) x m g)

  one_heard : IsThere (columns_of b) p → HeardFor (Some q) lent'.now p n
  one_heard there = subst (λ ns. IsHeard q.cells q.columns ns p n) (sym since_now)
      (record { there = λ l. Contains-append_left (note ∷ []) (noted_since q.token.now lent.now) note (Contains-push [] note); lacks = λ f. absurd (f (subst (λ c. IsThere c p) h.columns there)) })

module _ (b : Board) (lent lent' : MutBor StrandToken) (p : Place) (n : ℕ) (l : WasLoaded b p n lent lent') where
  pub load_reads : (o : Option Question) → ReadsFor o b lent → ReadsFor o b lent'
  load_reads None h = absurd h
  load_reads (Some q) h = one_reads q b lent lent' p n h l

  pub load_stays : (o : Option Question) → ReadsFor o b lent → (x : Place) (m : ℕ) → HeardFor o lent.now x m → HeardFor o lent'.now x m
  load_stays None h = absurd h
  load_stays (Some q) h = one_stays q b lent lent' p n h l

  pub load_heard : (o : Option Question) → ReadsFor o b lent → IsThere (columns_of b) p → HeardFor o lent'.now p n
  load_heard None h = absurd h
  load_heard (Some q) h = one_heard q b lent lent' p n h l

-- ## Three labels

pub told_inside : (o : Option Question) (u : StrandToken) (trace outer opening inner closing : ℕ) (b : Bool) → HeardFor o u (places.Opening outer) opening → HeardFor o u (places.Opening trace) inner → HeardFor o u (places.Closing outer) closing
    → b ≡ (nat_lt opening inner && nat_lt inner closing) → ToldFor o u (Inside trace outer) (Test b)
told_inside None u trace outer opening inner closing b h g k e = absurd h
told_inside (Some q) u trace outer opening inner closing b h g k e =
    (b, record { opening = opening; inner = inner; closing = closing; opening_is = h; inner_is = g; closing_is = k; inside = e }, refl)
