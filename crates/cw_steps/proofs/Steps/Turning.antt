-- Serves `took` and `gave`: a turn that is taken or given back keeps the rule.
use Rattle.std.proofs.Common.{◌≡◌, ◌≢◌, ℕ, zero, suc, ◌+◌, ◌<◌, ◌≤◌, ◌∙◌, List, ◌∷◌, length, arith, ap, sym, refl, set, length-set, nat_eq, true, false, Bool, subst, inl, inr, eq-eqb}
use Rattle.std.specs.Prelude.{slice_index, ◌==◌, Some}
use Rattle.std.proofs.lemmas.Bool.Decides.{eqb_tells}
use Rattle.std.proofs.lemmas.Bool.{ne_eqb}
use Rattle.std.proofs.lemmas.List.Elements.{All-cons}
use mathlib.Core.Option.{some, none}
use mathlib.Core.Option as maybe
use lib.ListN.{get_elem?}
use lib.Arith.{lt_of_le-ne}
use prog.Atomic.{either}
use Rattle.atomic_table.specs.Table.{State, Me, Act, Step, step, stepped, keeps, takes, gives, rest, Valid, carried_after, Allows}
use Rattle.atomic_table.proofs.Lists.{set_here, set_else}
use Rattle.cw_steps.specs.declared.draw.Aim.{Aim}
use Rattle.cw_steps.specs.declared.draw.Home.{Home}
use Rattle.cw_steps.specs.declared.draw.Home.TheVariants as home
use Rattle.cw_steps.specs.declared.view.Key.{Key}
use Rattle.cw_steps.specs.declared.view.Slot.{Slot}
use Rattle.cw_steps.specs.declared.view.Turn.{Turn}
use Rattle.cw_steps.specs.declared.view.View.{View}
use Rattle.cw_steps.specs.Totals.{total}
use Rattle.cw_steps.specs.Views.{cells_of, has_turn, turns_of, turn_for, newest_slot, newest_used, older, noted_view, took, took_view, LeavesIt, TakesIt, gave, gave_view, gap_home, IsWhole}
use Rattle.cw_steps.specs.Rule.{Holds, IsCellHome, IsTierHome, BringsHome, StandsIn}
use Rattle.cw_steps.proofs.Counts.{bit, total_part, turn_here, turn_else, turns_older, newest_is_one, newest_brings, all_older}
use Rattle.cw_steps.proofs.Concerns.Clock.{clock_set}
use Rattle.cw_steps.proofs.Concerns.Turns.{turns_set}
use Rattle.cw_steps.proofs.Concerns.Cells.{cells_set, low_more}
use Rattle.cw_steps.proofs.Concerns.Tiers.{tiers_set}
use Rattle.cw_steps.proofs.Concerns.StopWord.{stops_stay}
use Rattle.cw_steps.proofs.Steps.Words.{word_here, word_else}

module _ (key : Key) (s : State Slot View) (h : Holds key s) (id : ℕ) (v : View) (at : get_elem? s.views id ≡ some v) (c : ℕ) (there : c ≤ cells_of key) where
  -- what lies in a slot whose turn is free
  pub lies : slice_index s.words (suc c) ≡ 0 → (y : Slot) × (get_elem? s.homes c ≡ some (some y)) × IsWhole key (slice_index s.words 0) h.used c y
  lies free = elim (eqb_tells c (cells_of key)) [
    | inl z ↦ (let q : IsTierHome key.columns h.used s.homes c = subst (IsTierHome key.columns h.used s.homes) (sym z.1) (h.tiers.home (sym (ap (λ (k : ℕ). slice_index s.words (suc k)) z.1) ∙ free)) in
        (q.0, q.1, record { cell = λ low. absurd (omega (arith, z.1)); tier = λ last. q.2 }))
    | inr z ↦ (let q = h.cells.home c (lt_of_le-ne there z.1) free in (q.0, q.1, record { cell = λ low. q.2; tier = λ last. absurd (z.1 last) }))
  ]

  module _ (w : View) (x : ℕ) (bit : x ≤ 1) (room : w.room ≡ v.room) (owns : w.owns ≡ v.owns) (seen : w.seen ≤ slice_index s.words 0)
      (mine : turns_of c w.turns + slice_index s.words (suc c) ≡ turns_of c v.turns + x) (others : (d : ℕ) → d ≢ c → turns_of d w.turns ≡ turns_of d v.turns)
      (halt : w.halt ≡ v.halt) (told : w.told ≡ v.told) (brings : BringsHome (cells_of key) h.used w) (stands : StandsIn h.used w)
      (homes : List (maybe.Option Slot)) (deep : length homes ≡ suc (cells_of key)) (home_else : (d : ℕ) → d ≢ c → get_elem? homes d ≡ get_elem? s.homes d)
      (home_here : x ≡ 0 → (y : Slot) × (get_elem? homes c ≡ some (some y)) × IsWhole key (slice_index s.words 0) h.used c y) where
    abbrev words : List ℕ
    words = set s.words (suc c) x

    here : slice_index words (suc c) ≡ x
    here = word_here s.words (suc c) x (omega (arith, h.long, there))

    other : (d : ℕ) → d ≢ c → slice_index words (suc d) ≡ slice_index s.words (suc d)
    other d ne = word_else s.words (suc c) (suc d) x (λ e. ne (omega arith))

    clock : slice_index words 0 ≡ slice_index s.words 0
    clock = word_else s.words (suc c) 0 x (λ e. omega arith)

    at_word : (d : ℕ) → d ≡ c → slice_index words (suc d) ≡ x
    at_word d e = ap (λ (k : ℕ). slice_index words (suc k)) e ∙ here

    -- the turn of slot c changes hands
    pub turn_rule : Holds key record { words = words; homes = homes; views = set s.views id w }
    turn_rule = record {
      long = length-set s.words (suc c) x ∙ h.long;
      deep = deep;
      small = h.small;
      used = h.used;
      clock = clock_set key.columns h.used h.used s.words words s.views id v w at h.clock (omega (arith, clock)) (omega (arith, clock, room)) (omega (arith, clock, seen)) (omega (arith, owns));
      turns = turns_set (cells_of key) s.words words s.views id v w at h.turns
          (λ d p. elim (eqb_tells d c) [ inl z ↦ omega (arith, at_word d z.1, bit) | inr z ↦ omega (arith, other d z.1, h.turns.bits d p) ])
          (λ d p. elim (eqb_tells d c) [
            | inl z ↦ omega (arith, at_word d z.1, mine, ap (λ (k : ℕ). turns_of k w.turns) z.1, ap (λ (k : ℕ). turns_of k v.turns) z.1, ap (λ (k : ℕ). slice_index s.words (suc k)) z.1)
            | inr z ↦ omega (arith, other d z.1, others d z.1)
          ]);
      cells = cells_set (cells_of key) s.words words s.homes homes h.cells (omega (arith, clock)) (λ d p free. elim (eqb_tells d c) [
        | inl z ↦ inr (let q = home_here (sym (at_word d z.1) ∙ free) in
            let P : ℕ → Type 0 = λ k. IsCellHome (slice_index words 0) homes k in
            subst P (sym z.1) (q.0, q.1, low_more q.0 (slice_index s.words 0) (slice_index words 0) (omega (arith, clock)) (q.2.cell (omega (arith, p, z.1)))))
        | inr z ↦ inl (sym (other d z.1) ∙ free, home_else d z.1)
      ]);
      tiers = tiers_set (cells_of key) key.columns h.used s.words words s.homes homes s.views id w h.tiers (λ free. elim (eqb_tells (cells_of key) c) [
        | inl z ↦ inr (let q = home_here (sym (at_word (cells_of key) z.1) ∙ free) in
            let P : ℕ → Type 0 = λ k. IsTierHome key.columns h.used homes k in
            subst P (sym z.1) (q.0, q.1, q.2.tier (sym z.1)))
        | inr z ↦ inl (sym (other (cells_of key) z.1) ∙ free, home_else (cells_of key) z.1)
      ]) brings stands;
      stops = stops_stay (cells_of key) s.words words s.views id v w at h.stops (word_else s.words (suc c) (cells_of key + 2) x (λ e. omega (arith, there))) halt told;
    }

  took_rule : (aim : Aim) (free : slice_index s.words (suc c) ≡ 0) → (let q = lies free in Holds key record { words = set s.words (suc c) 1; homes = set s.homes c none; views = set s.views id (took_view c aim q.0 h.used (slice_index s.words 0) v) })
  took_rule aim free =
      let q = lies free in
      turn_rule (took_view c aim q.0 h.used (slice_index s.words 0) v) 1 (omega arith) refl refl (omega arith)
      (omega (arith, free, turn_here c (turn_for c aim q.0 h.used) refl))
      (λ d ne. omega (arith, turn_else d (turn_for c aim q.0 h.used) (λ e. ne (sym e))))
      refl refl (All-cons (λ (t : Turn). t.slot ≡ cells_of key → t.used ≡ h.used) (turn_for c aim q.0 h.used) v.turns (λ e. refl) (h.tiers.held id v at)) (let b = h.tiers.stands id v at in record { column = b.column; gap = b.gap; coming = b.coming; outer = b.outer })
      (set s.homes c none) (length-set s.homes c none ∙ h.deep) (λ d ne. set_else s.homes c d none ne) (λ z. absurd (omega (arith, z)))

  -- the turn is held, and is left so
  left_rule : (k : ℕ) → slice_index s.words (suc c) ≡ suc k → Holds key record { words = set s.words (suc c) (suc k); homes = s.homes; views = set s.views id (noted_view (suc c) (suc k) v) }
  left_rule k e =
      let b = h.tiers.stands id v at in
      turn_rule (noted_view (suc c) (suc k) v) (suc k) (omega (arith, h.turns.bits c there, e)) refl refl (h.clock.seen id v at)
      (omega (arith, e)) (λ d ne. refl) refl refl (h.tiers.held id v at) (record { column = b.column; gap = b.gap; coming = b.coming; outer = b.outer })
      s.homes h.deep (λ d ne. refl) (λ z. absurd (omega (arith, z)))

  gap_stays : (m : Home) → v.gap < h.used → v.column < h.used → gap_home m v.column v.gap < h.used
  gap_stays (home.Split fork used) g l = l
  gap_stays home.Plain g l = g
  gap_stays (home.Refused x) g l = g
  gap_stays (home.Merge fork used) g l = g
  gap_stays (home.Inline used) g l = g
  gap_stays (home.Early before used) g l = g

  gave_rule : (m : Home) (y : Slot) → newest_slot v.turns ≡ Some c → IsWhole key v.seen (newest_used v.turns) c y
      → Holds key record { words = set s.words (suc c) 0; homes = set s.homes c (some y); views = set s.views id (gave_view m v) }
  gave_rule m y held whole =
      let b = h.tiers.stands id v at in
      let part : turns_of c v.turns ≤ total (has_turn c) s.views = total_part (has_turn c) s.views id v at in
      turn_rule (gave_view m v) 0 (omega arith) refl refl (h.clock.seen id v at)
      (omega (arith, part, h.turns.one c there, h.turns.bits c there, newest_is_one c v.turns held, turns_older c c v.turns held, one c))
      (λ d ne. omega (arith, turns_older d c v.turns held, zero_else d ne))
      refl refl (all_older (λ (t : Turn). t.slot ≡ cells_of key → t.used ≡ h.used) v.turns (h.tiers.held id v at))
      (record { column = b.column; gap = gap_stays m b.gap b.column; coming = b.coming; outer = b.outer })
      (set s.homes c (some y)) (length-set s.homes c (some y) ∙ h.deep) (λ d ne. set_else s.homes c d (some y) ne)
      (λ z. (
        y,
        set_here s.homes c (some y) (omega (arith, h.deep, there)),
        record {
          cell = λ low. low_more y v.seen (slice_index s.words 0) (h.clock.seen id v at) (whole.cell low);
          tier = λ last. subst (λ (k : ℕ). Rattle.cw_steps.specs.Views.IsTierOf key.columns k y) (newest_brings (cells_of key) h.used v.turns (h.tiers.held id v at) (held ∙ ap Some last)) (whole.tier last);
        },
      )) where
        one : (k : ℕ) → bit (k == k) ≡ 1
        one k = ap {B = ℕ} bit (eq-eqb k k refl)

        zero_else : (d : ℕ) → d ≢ c → bit (c == d) ≡ 0
        zero_else d ne = ap {B = ℕ} bit (ne_eqb c d (λ e. ne (sym e)))

pub takes_turn : (key : Key) (aim : Aim) (slots id : ℕ) (me : Me Slot View) (c : ℕ) → c ≤ cells_of key → Allows (Holds key) slots id me (suc c) (λ n. either (n == 0) 1 n) (took key aim c (step slots (suc c) 0 1 none) me)
takes_turn key aim slots id me c there s h deep at bound = by_word (slice_index s.words (suc c)) refl where
  by_word : (n : ℕ) → slice_index s.words (suc c) ≡ n
      → (w : View) × (a : Act Slot) × Valid s.homes me.1 a × Holds key (stepped s (suc c) (either (n == 0) 1 n) id me.1 w a) × took key aim c (step slots (suc c) 0 1 none) me n (w, carried_after me.1 a)
  by_word zero e =
      let q = lies key s h id me.0 at c there e in (
        took_view c aim q.0 h.used (slice_index s.words 0) me.0,
        takes c q.0,
        q.1,
        took_rule key s h id me.0 at c there aim e,
        record {
          lay = q.0;
          used = h.used;
          clock = slice_index s.words 0;
          later = h.clock.seen id me.0 at;
          few = h.tiers.few;
          column = (h.tiers.stands id me.0 at).column;
          gap = (h.tiers.stands id me.0 at).gap;
          after = refl;
          whole = q.2;
        },
      )
  by_word (suc k) e = (
    noted_view (suc c) (suc k) me.0,
    keeps,
    tt,
    subst (λ (b : Bool). Holds key (stepped s (suc c) (either b 1 (suc k)) id me.1 (noted_view (suc c) (suc k) me.0) keeps)) (sym (ne_eqb (suc k) 0 (λ q. omega arith))) (left_rule key s h id me.0 at c there k e),
    (suc k, omega arith, refl),
  )

pub gives_turn : (key : Key) (m : Home) (slots id : ℕ) (v : View) (c : ℕ) (y : Slot) (others : List (ℕ × Slot)) → c ≤ cells_of key → newest_slot v.turns ≡ Some c → IsWhole key v.seen (newest_used v.turns) c y
    → Allows (Holds key) slots id (v, (c, y) ∷ others) (suc c) (λ n. 0) (λ n. gave m (step slots (suc c) 0 0 none) (v, (c, y) ∷ others) 0)
gives_turn key m slots id v c y others there held whole s h deep at bound = (gave_view m v, gives, tt, gave_rule key s h id v at c there m y held whole, refl)

-- ## As the calls have it

pub takes_at : (key key' : Key) (aim : Aim) (slots id : ℕ) (me : Me Slot View) (c c' i : ℕ) → key' ≡ key → c' ≡ c → i ≡ suc c → c ≤ cells_of key
    → Allows (Holds key) slots id me i (λ n. either (n == 0) 1 n) (took key' aim c' (step slots i 0 1 none) me)
takes_at key key' aim slots id me c c' i ek ec e there =
    let P : ℕ → Type 0 = λ k. Allows (Holds key) slots id me k (λ n. either (n == 0) 1 n) (took key' aim c' (step slots k 0 1 none) me) in
    let Q : ℕ → Type 0 = λ d. Allows (Holds key) slots id me (suc c) (λ n. either (n == 0) 1 n) (took key' aim d (step slots (suc c) 0 1 none) me) in
    let R : Key → Type 0 = λ k. Allows (Holds key) slots id me (suc c) (λ n. either (n == 0) 1 n) (took k aim c (step slots (suc c) 0 1 none) me) in
    subst P (sym e) (subst Q (sym ec) (subst R (sym ek) (takes_turn key aim slots id me c there)))

pub gives_at : (key : Key) (m : Home) (slots id : ℕ) (me : Me Slot View) (c i : ℕ) (y : Slot) → i ≡ suc c → c ≤ cells_of key → newest_slot me.0.turns ≡ Some c → me.1 ≡ (c, y) ∷ rest me.1
    → IsWhole key me.0.seen (newest_used me.0.turns) c y → Allows (Holds key) slots id me i (λ n. 0) (λ n. gave m (step slots i 0 0 none) me 0)
gives_at key m slots id me c i y e there held slot whole =
    let P : ℕ → Type 0 = λ k. Allows (Holds key) slots id me k (λ n. 0) (λ n. gave m (step slots k 0 0 none) me 0) in
    let Q : List (ℕ × Slot) → Type 0 = λ hs. Allows (Holds key) slots id (me.0, hs) (suc c) (λ n. 0) (λ n. gave m (step slots (suc c) 0 0 none) (me.0, hs) 0) in
    subst P (sym e) (subst Q (sym slot) (gives_turn key m slots id me.0 c y (rest me.1) there held whole))

pub took_free : (key key' : Key) (aim aim' : Aim) (c c' : ℕ) (st : Step Slot) (me : Me Slot View) (n : ℕ) (me' : Me Slot View) → key' ≡ key → aim' ≡ aim → c' ≡ c
    → nat_eq n 0 ≡ true → took key' aim' c' st me n me' → TakesIt key aim c me me'
took_free key key' aim aim' c c' st me zero me' ek ea ec z t = subst (λ k. TakesIt k aim c me me') ek (subst (λ a. TakesIt key' a c me me') ea (subst (λ d. TakesIt key' aim' d me me') ec t))
took_free key key' aim aim' c c' st me (suc n) me' ek ea ec z t = absurd (cc (z, ne_eqb (suc n) 0 (λ q. omega arith)))

pub took_not : (key : Key) (aim : Aim) (c : ℕ) (st : Step Slot) (me : Me Slot View) (n : ℕ) (me' : Me Slot View) → nat_eq n 0 ≡ false → took key aim c st me n me' → LeavesIt st.word me me'
took_not key aim c st me zero me' z t = absurd (cc z)
took_not key aim c st me (suc n) me' z t = t
