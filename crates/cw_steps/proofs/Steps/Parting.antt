-- Serves `parted_view` and `joined_view`: a seat that is split off or joined keeps the rule.
use Rattle.std.proofs.Common.{◌≡◌, ◌≢◌, ℕ, ◌+◌, ◌<◌, ◌≤◌, ◌∙◌, List, [], ◌∷◌, ◌++◌, arith, ap, sym, refl, subst, Bool, true, false, inl, inr, set}
use Rattle.std.specs.Prelude.{◌⊎◌, ◌||◌, slice_index, All, Option, Some, None, IsTrue, is_some, if◌then◌else◌}
use Rattle.std.proofs.lemmas.Bool.Decides.{eqb_tells}
use Rattle.std.proofs.lemmas.List.Elements.{All-nil, All-head, All-tail}
use mathlib.Core.Option.{some, some-injective}
use lib.ListN.{get_elem?}
use Rattle.atomic_table.specs.Table.{State, Splits, Joins}
use Rattle.atomic_table.proofs.Lists.{at_set, at_snoc, at_longer, set_else}
use Rattle.cw_tree.specs.declared.closed.Halt.{Halt}
use Rattle.cw_log.specs.declared.token.Phase.TheVariants.{Going}
use Rattle.cw_steps.specs.declared.view.Coming.{Coming}
use Rattle.cw_steps.specs.declared.view.Key.{Key}
use Rattle.cw_steps.specs.declared.view.Slot.{Slot}
use Rattle.cw_steps.specs.declared.view.Turn.{Turn}
use Rattle.cw_steps.specs.declared.view.View.{View}
use Rattle.cw_steps.specs.declared.view.Whereabouts.{Whereabouts}
use Rattle.cw_steps.specs.Totals.{total}
use Rattle.cw_steps.specs.Around.{caught_up, innermost}
use Rattle.cw_steps.specs.Views.{cells_of, share, has_turn, turns_of, new_seat_view, parted_view, both_view, joined_view, spent_view, kept_halt, right_view, stood_at, further_out}
use Rattle.cw_steps.specs.Rule.{Holds, HasHalted, BringsHome, StandsIn, ComesIn, WaitsIn}
use Rattle.cw_steps.proofs.Counts.{set_there, total_set, total_snoc}
use Rattle.cw_steps.proofs.Concerns.Clock.{clock_views}
use Rattle.cw_steps.proofs.Concerns.Turns.{turns_views}
use Rattle.cw_steps.proofs.Concerns.Tiers.{tiers_views}
use Rattle.cw_steps.proofs.Concerns.StopWord.{halted_set, stops_views}

module _ (key : Key) (s : State Slot View) (h : Holds key s) where
  -- what the rule says of one view
  record Fits (u : View) : Type 0 where
    seen : u.seen ≤ slice_index s.words 0
    brings : BringsHome (cells_of key) h.used u
    stands : StandsIn h.used u
    told : u.told ≡ true → HasHalted s.views

  fits_still : (k : ℕ) (u : View) → get_elem? s.views k ≡ some u → Fits u
  fits_still k u at = record { seen = h.clock.seen k u at; brings = h.tiers.held k u at; stands = h.tiers.stands k u at; told = h.stops.told k u at }

  -- views change, and no word and no slot does
  views_rule : (views : List View) → total (λ z. z.room) views ≤ total (λ z. z.room) s.views → total (λ z. z.owns) views ≤ total (λ z. z.owns) s.views → ((n : ℕ) → total (has_turn n) views ≡ total (has_turn n) s.views)
      → (HasHalted s.views → HasHalted views) → ((k : ℕ) (u : View) → get_elem? views k ≡ some u → Fits u)
      → Holds key record { words = s.words; homes = s.homes; views = views }
  views_rule views fewer owned turns kept each = record {
    long = h.long;
    deep = h.deep;
    small = h.small;
    used = h.used;
    clock = clock_views key.columns h.used s.words s.views views h.clock fewer owned (λ k u at. (each k u at).seen);
    turns = turns_views (cells_of key) s.words s.views views h.turns turns;
    cells = h.cells;
    tiers = tiers_views (cells_of key) key.columns h.used s.words s.homes s.views views h.tiers (λ k u at. (each k u at).brings) (λ k u at. (each k u at).stands);
    stops = stops_views (cells_of key) s.words s.views views h.stops kept (λ k u at. (each k u at).told);
  }

  -- a new seat, for which no other does without numbers or turns of its own
  module _ (id : ℕ) (v : View) (at : get_elem? s.views id ≡ some v) (w u : View) (room : w.room + u.room ≤ v.room) (owns : w.owns + u.owns ≤ v.owns) (turns : w.turns ≡ v.turns) (none : u.turns ≡ [])
      (halt : w.halt ≡ v.halt) (first : Fits w) (second : Fits u) where
    parts_rule : Holds key record { words = s.words; homes = s.homes; views = set s.views id w ++ u ∷ [] }
    parts_rule = views_rule (set s.views id w ++ u ∷ [])
        (let q = total_set (λ z. z.room) s.views id v w at in let p = total_snoc (λ z. z.room) (set s.views id w) u in omega (arith, q, p, room))
        (let q = total_set (λ z. z.owns) s.views id v w at in let p = total_snoc (λ z. z.owns) (set s.views id w) u in omega (arith, q, p, owns))
        (λ n.
        let q = total_set (has_turn n) s.views id v w at in
        let p = total_snoc (has_turn n) (set s.views id w) u in
        omega (arith, q, p, ap (turns_of n) turns, ap (turns_of n) none))
        (λ y.
        let z = halted_set s.views id v w at (subst (λ o. IsTrue (is_some o)) (sym halt)) y in
        record { seat = z.seat; knows = z.knows; there = at_longer (set s.views id w) (u ∷ []) z.seat z.knows z.there; halted = z.halted })
        (λ k x atk. elim (at_snoc (set s.views id w) u x k atk) [
          | inl e ↦ elim (at_set s.views id k w x e) [
            | inl z ↦ subst Fits z.1 first
            | inr z ↦ fits_still k x z.1
          ]
          | inr e ↦ subst Fits e second
        ])

  -- a seat that takes in what another has
  module _ (id : ℕ) (v : View) (at : get_elem? s.views id ≡ some v) (other : ℕ) (u : View) (ne : other ≢ id) (w : View) (atu : get_elem? (set s.views id w) other ≡ some u)
      (room : w.room ≤ v.room + u.room) (owns : w.owns ≤ v.owns + u.owns) (turns : w.turns ≡ v.turns) (none : u.turns ≡ [])
      (mine : IsTrue (is_some v.halt) → IsTrue (is_some w.halt)) (its : IsTrue (is_some u.halt) → IsTrue (is_some w.halt)) (first : Fits w) where
    was : get_elem? s.views other ≡ some u
    was = sym (set_else s.views id other w ne) ∙ atu

    spent : Fits spent_view
    spent = record {
      seen = omega arith;
      brings = All-nil (λ (t : Turn). t.slot ≡ cells_of key → t.used ≡ h.used);
      stands = (let b = (h.tiers.stands id v at).column in record { column = omega (arith, b); gap = omega (arith, b); coming = tt; outer = All-nil (WaitsIn h.used) });
      told = λ e. absurd (cc e);
    }

    has : get_elem? (set (set s.views id w) other spent_view) id ≡ some w
    has = set_else (set s.views id w) other id spent_view (λ e. ne (sym e)) ∙ set_there s.views id v w at

    still_halted : HasHalted s.views → HasHalted (set (set s.views id w) other spent_view)
    still_halted y = elim (eqb_tells y.seat other) [
      | inl z ↦ (let same : y.knows ≡ u = some-injective y.knows u (sym y.there ∙ ap (get_elem? s.views) z.1 ∙ was) in
          record { seat = id; knows = w; there = has; halted = its (subst (λ (x : View). IsTrue (is_some x.halt)) same y.halted) })
      | inr z ↦ (let q = halted_set s.views id v w at mine y in elim (eqb_tells y.seat id) [
        | inl x ↦ (let same : y.knows ≡ v = some-injective y.knows v (sym y.there ∙ ap (get_elem? s.views) x.1 ∙ at) in
            record { seat = id; knows = w; there = has; halted = mine (subst (λ (x : View). IsTrue (is_some x.halt)) same y.halted) })
        | inr x ↦ record {
          seat = y.seat;
          knows = y.knows;
          there = set_else (set s.views id w) other y.seat spent_view z.1 ∙ set_else s.views id y.seat w x.1 ∙ y.there;
          halted = y.halted;
        }
      ])
    ]

    joins_rule : Holds key record { words = s.words; homes = s.homes; views = set (set s.views id w) other spent_view }
    joins_rule = views_rule (set (set s.views id w) other spent_view)
        (let q = total_set (λ z. z.room) s.views id v w at in let p = total_set (λ z. z.room) (set s.views id w) other u spent_view atu in omega (arith, q, p, room))
        (let q = total_set (λ z. z.owns) s.views id v w at in let p = total_set (λ z. z.owns) (set s.views id w) other u spent_view atu in omega (arith, q, p, owns))
        (λ n.
        let q = total_set (has_turn n) s.views id v w at in
        let p = total_set (has_turn n) (set s.views id w) other u spent_view atu in
        omega (arith, q, p, ap (turns_of n) turns, ap (turns_of n) none))
        still_halted
        (λ k x atk. elim (at_set (set s.views id w) other k spent_view x atk) [
          | inl z ↦ subst Fits z.1 spent
          | inr z ↦ elim (at_set s.views id k w x z.1) [
            | inl y ↦ subst Fits y.1 first
            | inr y ↦ fits_still k x y.1
          ]
        ])

-- ## The kinds of split and join

module _ (key : Key) (id : ℕ) (v : View) (behind : ℕ) (second : Bool) where
  right_fits : (s : State Slot View) (h : Holds key s) → get_elem? s.views id ≡ some v → (around : List ℕ) (c : Option Coming) → ComesIn h.used c → Fits key s h (right_view c around v)
  right_fits s h at around None in_use = record {
    seen = h.clock.seen id v at;
    brings = All-nil (λ (t : Turn). t.slot ≡ cells_of key → t.used ≡ h.used);
    stands = (let b = h.tiers.stands id v at in record { column = b.column; gap = b.gap; coming = tt; outer = All-nil (WaitsIn h.used) });
    told = λ e. absurd (cc e);
  }
  right_fits s h at around (Some c) in_use = record {
    seen = h.clock.seen id v at;
    brings = All-nil (λ (t : Turn). t.slot ≡ cells_of key → t.used ≡ h.used);
    stands = record { column = in_use.0; gap = in_use.1; coming = tt; outer = All-nil (WaitsIn h.used) };
    told = λ e. absurd (cc e);
  }

  right_has : (around : List ℕ) (c : Option Coming) → ((right_view c around v).room ≡ share) × ((right_view c around v).turns ≡ []) × ((right_view c around v).owns ≡ 1)
  right_has around None = (refl, refl, refl)
  right_has around (Some c) = (refl, refl, refl)

  pub parts : (take_back : Bool) → (take_back ≡ false → share ≤ v.room) → (take_back ≡ false → 0 < v.owns) → Splits (Holds key) id v (parted_view take_back behind second v) (new_seat_view take_back behind second v)
  parts false room own s h at =
      let b = h.tiers.stands id v at in
      let around : List ℕ = innermost (caught_up behind second v.arounds) in
      let q = right_has around v.coming in
      parts_rule key s h id v at (parted_view false behind second v) (new_seat_view false behind second v) (omega (arith, q.0, room refl)) (omega (arith, q.2, own refl)) refl q.1 refl
      (record { seen = h.clock.seen id v at; brings = h.tiers.held id v at; stands = record { column = b.column; gap = b.gap; coming = tt; outer = b.outer }; told = h.stops.told id v at })
      (right_fits s h at around v.coming b.coming)
  parts true room own s h at =
      let b = h.tiers.stands id v at in
      parts_rule key s h id v at (parted_view true behind second v) (new_seat_view true behind second v) (omega arith) (omega arith) refl refl refl
      (record { seen = h.clock.seen id v at; brings = h.tiers.held id v at; stands = record { column = b.column; gap = b.gap; coming = b.coming; outer = b.outer }; told = h.stops.told id v at })
      (record {
        seen = omega arith;
        brings = All-nil (λ (t : Turn). t.slot ≡ cells_of key → t.used ≡ h.used);
        stands = record { column = b.column; gap = b.gap; coming = tt; outer = All-nil (WaitsIn h.used) };
        told = λ e. absurd (cc e);
      })

halt_kept : (x y : Option Halt) → IsTrue (is_some x) → IsTrue (is_some (kept_halt x y))
halt_kept None y h = absurd (cc h)
halt_kept (Some x) y h = h

halt_taken : (x y : Option Halt) → IsTrue (is_some y) → IsTrue (is_some (kept_halt x y))
halt_taken None y h = h
halt_taken (Some x) y h = refl

told_either : (a b : Bool) → (a || b) ≡ true → (a ≡ true) ⊎ (b ≡ true)
told_either true b e = inl refl
told_either false b e = inr e

at_in : (used : ℕ) (v : View) (ws : List Whereabouts) → v.column < used → v.gap < used → All (WaitsIn used) ws → WaitsIn used (stood_at v ws)
at_in used v [] c g all = (c, g)
at_in used v (o ∷ os) c g all = All-head (WaitsIn used) o os all

out_in : (used : ℕ) (ws : List Whereabouts) → All (WaitsIn used) ws → All (WaitsIn used) (further_out ws)
out_in used [] all = all
out_in used (o ∷ os) all = All-tail (WaitsIn used) o os all

pub joins : (key : Key) (id : ℕ) (v : View) (other : ℕ) (u : View) (behind : ℕ) (second : Bool) → u.turns ≡ [] → (u.here ≡ false → u.halt ≡ None)
    → Joins (Holds key) id v other u (joined_view behind second v u) spent_view
joins key id v other u behind second none note s h at ne atu = by_here u.here refl where
  was : get_elem? s.views other ≡ some u
  was = sym (set_else s.views id other (joined_view behind second v u) ne) ∙ atu

  by_here : (b : Bool) → u.here ≡ b → Holds key record { words = s.words; homes = s.homes; views = set (set s.views id (joined_view behind second v u)) other spent_view }
  by_here true e = subst (λ (b : Bool). Holds key record { words = s.words; homes = s.homes; views = set (set s.views id (if b then both_view behind second v u else record v { phase = Going })) other spent_view }) (sym e)
      (joins_rule key s h id v at other u ne (both_view behind second v u) (set_else s.views id other (both_view behind second v u) ne ∙ was) (omega arith) (omega arith) refl none (halt_kept v.halt u.halt) (halt_taken v.halt u.halt)
      (let b = h.tiers.stands id v at in let p = at_in h.used v v.outer b.column b.gap b.outer in record {
        seen = (let x = h.clock.seen id v at in let y = h.clock.seen other u was in omega (arith, x, y));
        brings = h.tiers.held id v at;
        stands = record { column = p.0; gap = p.1; coming = b.coming; outer = out_in h.used v.outer b.outer };
        told = λ t. elim (told_either v.told u.told t) [ inl z ↦ h.stops.told id v at z | inr z ↦ h.stops.told other u was z ];
      }))
  by_here false e = subst (λ (b : Bool). Holds key record { words = s.words; homes = s.homes; views = set (set s.views id (if b then both_view behind second v u else record v { phase = Going })) other spent_view }) (sym e)
      (joins_rule key s h id v at other u ne (record v { phase = Going }) (set_else s.views id other (record v { phase = Going }) ne ∙ was) (omega arith) (omega arith) refl none (λ z. z) (λ z. absurd (cc (subst (λ o. IsTrue (is_some o)) (note e) z)))
      (let b = h.tiers.stands id v at in record { seen = h.clock.seen id v at; brings = h.tiers.held id v at; stands = record { column = b.column; gap = b.gap; coming = b.coming; outer = b.outer }; told = h.stops.told id v at }))
