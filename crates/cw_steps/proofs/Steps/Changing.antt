-- Serves `made_odd`, `stored` and `evened`: a change of the tier keeps the rule. Only the words behind the stop word change, and of
-- the view only the change in its newest turn.
use Rattle.std.proofs.Common.{◌≡◌, ℕ, ◌+◌, ◌<◌, ◌%◌, ◌^◌, ◌∙◌, List, [], ◌∷◌, arith, ap, sym, refl, set, subst}
use Rattle.std.specs.Prelude.{slice_index, false, All, Option, Some}
use Rattle.std.proofs.lemmas.List.Elements.{All-cons, All-head, All-tail}
use mathlib.Core.Option.{some, none}
use lib.ListN.{get_elem?}
use Rattle.atomic_table.specs.Table.{State, Me, step, stepped, keeps, Allows}
use Rattle.cw_trace.specs.Traces.{Traces}
use Rattle.cw_trace.specs.declared.tier.Row.{Row}
use Rattle.cw_steps.specs.declared.places.Place.{Place}
use Rattle.cw_steps.specs.declared.view.Change.{Change}
use Rattle.cw_steps.specs.declared.view.Key.{Key}
use Rattle.cw_steps.specs.declared.view.Slot.{Slot}
use Rattle.cw_steps.specs.declared.view.Turn.{Turn}
use Rattle.cw_steps.specs.declared.view.View.{View}
use Rattle.cw_steps.specs.Views.{cells_of, turns_of, newest_change, newest_slot, evened, even_view, made_even, made_odd, odd_view, stored, stored_in, stored_view, with_change, with_even, with_stored, CanStore, CanStoreRow}
use Rattle.cw_steps.specs.Rule.{Holds}
use Rattle.cw_steps.specs.Words.{IsInRow}
use Rattle.cw_steps.proofs.Concerns.StopWord.{stops_stay}
use Rattle.cw_steps.proofs.Steps.Marking.{mark_rule}
use Rattle.cw_steps.proofs.Steps.Words.{word_else}

-- what a step makes of the change in the newest turn is no matter of whose turn it is, nor of how many columns come home
module _ (f : Option Change → Option Change) where
  abbrev changed : List Turn → List Turn
  changed [] = []
  changed (t ∷ ts) = record t { change = f t.change } ∷ ts

  turns_changed : (n : ℕ) (ts : List Turn) → turns_of n (changed ts) ≡ turns_of n ts
  turns_changed n [] = refl
  turns_changed n (t ∷ ts) = refl

  used_changed : (c used : ℕ) (ts : List Turn) → All (λ (t : Turn). t.slot ≡ c → t.used ≡ used) ts → All (λ (t : Turn). t.slot ≡ c → t.used ≡ used) (changed ts)
  used_changed c used [] all = all
  used_changed c used (t ∷ ts) all = All-cons (λ (t : Turn). t.slot ≡ c → t.used ≡ used) (record t { change = f t.change }) ts
      (All-head (λ (t : Turn). t.slot ≡ c → t.used ≡ used) t ts all) (All-tail (λ (t : Turn). t.slot ≡ c → t.used ≡ used) t ts all)

  module _ (key : Key) (s : State Slot View) (h : Holds key s) (id : ℕ) (v : View) (at : get_elem? s.views id ≡ some v) (i x : ℕ) (beyond : cells_of key + 2 < i) where
    change_rule : (us : List Turn) → us ≡ changed v.turns → (c : List (ℕ × Slot)) → Holds key (stepped s i x id c (record v { turns = us }) keeps)
    change_rule us same = mark_rule key s h id v at i x (omega (arith, beyond)) (record v { turns = us }) refl refl (λ n. ap (turns_of n) same ∙ turns_changed n v.turns)
        (subst (All (λ (t : Turn). t.slot ≡ cells_of key → t.used ≡ h.used)) (sym same) (used_changed (cells_of key) h.used v.turns (h.tiers.held id v at))) refl refl refl refl refl
        (stops_stay (cells_of key) s.words (set s.words i x) s.views id v (record v { turns = us }) at h.stops (word_else s.words i (cells_of key + 2) x (λ e. omega (arith, beyond))) refl refl)

is_odd : (o : Option Change) (ts : List Turn) → with_change o ts ≡ changed (λ p. o) ts
is_odd o [] = refl
is_odd o (t ∷ ts) = refl

is_stored : (w : ℕ) (ts : List Turn) → with_stored w ts ≡ changed (stored_in w) ts
is_stored w [] = refl
is_stored w (t ∷ ts) = refl

is_even : (ts : List Turn) → with_even ts ≡ changed made_even ts
is_even [] = refl
is_even (t ∷ ts) = refl

module _ (key : Key) (slots id : ℕ) (me : Me Slot View) (i : ℕ) (beyond : cells_of key + 2 < i) where
  pub makes_odd : (word : ℕ) → i ≡ word → (come : Traces) → (up : ℕ) → up ≡ 1 → Allows (Holds key) slots id me i (λ n. (n + up) % 2 ^ 64) (λ n. made_odd word come (step slots i up 0 none) me n)
  makes_odd word there come up one s h deep at bound =
      let change : Change = record { come = come; stored = []; even = false } in (
        odd_view come me.0,
        keeps,
        tt,
        change_rule (λ p. Some change) key s h id me.0 at i ((slice_index s.words i + up) % 2 ^ 64) beyond (with_change (Some change) me.0.turns)
            (is_odd (Some change) me.0.turns) me.1,
        (there, one, refl),
      )

  pub stores : (word value : ℕ) → i ≡ word → (x : ℕ) → x ≡ value → Allows (Holds key) slots id me i (λ n. x) (λ n. stored word value (step slots i x 0 none) me x)
  stores word value there x same s h deep at bound = (
    stored_view word me.0,
    keeps,
    tt,
    change_rule (stored_in word) key s h id me.0 at i x beyond (with_stored word me.0.turns) (is_stored word me.0.turns) me.1,
    (there, same, same, refl),
  )

  pub makes_even : (word : ℕ) → i ≡ word → (up : ℕ) → up ≡ 1 → Allows (Holds key) slots id me i (λ n. (n + up) % 2 ^ 64) (λ n. evened word (step slots i up 0 none) me n)
  makes_even word there up one s h deep at bound = (
    even_view me.0,
    keeps,
    tt,
    change_rule made_even key s h id me.0 at i ((slice_index s.words i + up) % 2 ^ 64) beyond (with_even me.0.turns) (is_even me.0.turns) me.1,
    (there, one, refl),
  )

-- ## One store after another

slot_stored : (w : ℕ) (ts : List Turn) → newest_slot (with_stored w ts) ≡ newest_slot ts
slot_stored w [] = refl
slot_stored w (t ∷ ts) = refl

change_stored : (w : ℕ) (ts : List Turn) → newest_change (with_stored w ts) ≡ stored_in w (newest_change ts)
change_stored w [] = refl
change_stored w (t ∷ ts) = refl

-- a store leaves the tier that comes
pub row_still : (key : Key) (v u : View) (column : ℕ) (row : Row) (w : ℕ) → CanStoreRow key v column row → u ≡ stored_view w v → CanStoreRow key u column row
row_still key v u column row w can e = subst (λ z. CanStoreRow key z column row) (sym e) (record {
  under_way = record {
    turn = slot_stored w v.turns ∙ can.under_way.turn;
    change = record can.under_way.change { stored = w ∷ can.under_way.change.stored };
    there = change_stored w v.turns ∙ ap (stored_in w) can.under_way.there;
    odd = can.under_way.odd;
  };
  used = can.used;
  low = can.low;
  same = can.same;
})

pub word_of_row : (key : Key) (v : View) (column : ℕ) (row : Row) (at : Place) (value : ℕ) → CanStoreRow key v column row → IsInRow column row at value → CanStore key v at value
word_of_row key v column row at value can inside = record {
  under_way = can.under_way;
  column = column;
  used = can.used;
  low = can.low;
  row = subst (λ r. IsInRow column r at value) can.same inside;
}
