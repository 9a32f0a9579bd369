-- Serves `marked`, `set_stop` and `told`: a gap word, the stop word and a look at either keep the rule.
use Rattle.std.proofs.Common.{◌≡◌, ℕ, suc, ◌+◌, ◌<◌, ◌≤◌, ◌∙◌, List, arith, ap, sym, refl, set, length-set, nat_lt, true, false, Bool, subst, inl, inr}
use Rattle.std.specs.Prelude.{◌⊎◌, ◌||◌, slice_index, All}
use mathlib.Core.Option.{some, none}
use lib.ListN.{get_elem?}
use lib.Seq.{set-get_or}
use Rattle.atomic_table.specs.Table.{State, Me, step, stepped, keeps, Allows}
use Rattle.cw_tree.specs.declared.closed.Halt.{Halt}
use Rattle.cw_steps.specs.declared.view.Key.{Key}
use Rattle.cw_steps.specs.declared.view.Slot.{Slot}
use Rattle.cw_steps.specs.declared.view.View.{View}
use Rattle.cw_steps.specs.Views.{cells_of, turns_of, set_stop, halted_view, marked, marked_view, noted_view, told, told_view, found, weighed}
use Rattle.cw_steps.specs.Rule.{Holds, BringsHome, StopWord, ComesIn, WaitsIn}
use Rattle.atomic_table.proofs.Lists.{set_again}
use Rattle.cw_steps.specs.Totals.{total}
use Rattle.cw_steps.proofs.Counts.{total_part}
use Rattle.cw_steps.proofs.Concerns.Clock.{clock_set}
use Rattle.cw_steps.proofs.Concerns.Turns.{turns_stay}
use Rattle.cw_steps.proofs.Concerns.Cells.{cells_stay}
use Rattle.cw_steps.proofs.Concerns.Tiers.{tiers_set}
use Rattle.cw_steps.proofs.Concerns.StopWord.{stops_set, stops_stay}
use Rattle.cw_steps.proofs.Steps.Words.{word_else}

module _ (key : Key) (s : State Slot View) (h : Holds key s) (id : ℕ) (v : View) (at : get_elem? s.views id ≡ some v) (i x : ℕ) (beyond : cells_of key + 1 < i) where
  other : (n : ℕ) → n ≤ cells_of key → slice_index (set s.words i x) (suc n) ≡ slice_index s.words (suc n)
  other n p = word_else s.words i (suc n) x (λ e. omega (arith, p, beyond))

  clock : slice_index (set s.words i x) 0 ≡ slice_index s.words 0
  clock = word_else s.words i 0 x (λ e. omega (arith, beyond))

  -- a word behind the turns is written, by a seat that keeps its columns and the slots of its turns
  pub mark_rule : (w : View) → w.room ≡ v.room → w.seen ≡ v.seen → ((n : ℕ) → turns_of n w.turns ≡ turns_of n v.turns) → BringsHome (cells_of key) h.used w
      → w.column ≡ v.column → w.gap ≡ v.gap → w.coming ≡ v.coming → w.outer ≡ v.outer → w.owns ≡ v.owns
      → StopWord (cells_of key) (set s.words i x) (set s.views id w) → (c : List (ℕ × Slot)) → Holds key (stepped s i x id c w keeps)
  mark_rule w room seen turns brings column gap coming outer owns stops c = record {
    long = length-set s.words i x ∙ h.long;
    deep = h.deep;
    small = h.small;
    used = h.used;
    clock = clock_set key.columns h.used h.used s.words (set s.words i x) s.views id v w at h.clock (omega (arith, clock)) (omega (arith, clock, room)) (omega (arith, clock, seen, h.clock.seen id v at)) (omega (arith, owns));
    turns = turns_stay (cells_of key) s.words (set s.words i x) s.views id v w at h.turns other turns;
    cells = cells_stay (cells_of key) s.words (set s.words i x) s.homes h.cells (omega (arith, clock)) other;
    tiers = tiers_set (cells_of key) key.columns h.used s.words (set s.words i x) s.homes s.homes s.views id w h.tiers (λ free. inl (sym (other (cells_of key) (omega arith)) ∙ free, refl))
        brings
        (let b = h.tiers.stands id v at in record { column = omega (arith, b.column, column); gap = omega (arith, b.gap, gap); coming = subst (ComesIn h.used) (sym coming) b.coming; outer = subst (All (WaitsIn h.used)) (sym outer) b.outer });
    stops = stops;
  }

pub marks : (key : Key) (slots id : ℕ) (me : Me Slot View) (i x : ℕ) → cells_of key + 2 < i → Allows (Holds key) slots id me i (λ n. x) (λ n. marked (step slots i x 0 none) me x)
marks key slots id me i x beyond s h deep at bound = (
  marked_view i x me.0,
  keeps,
  tt,
  mark_rule key s h id me.0 at i x (omega arith) (marked_view i x me.0) refl refl (λ n. refl) (h.tiers.held id me.0 at) refl refl refl refl refl
      (stops_stay (cells_of key) s.words (set s.words i x) s.views id me.0 (marked_view i x me.0) at h.stops (word_else s.words i (cells_of key + 2) x (λ e. omega arith)) refl refl) me.1,
  refl,
)

pub stops_here : (key : Key) (halt : Halt) (slots id : ℕ) (me : Me Slot View) (i : ℕ) → i ≡ cells_of key + 2 → Allows (Holds key) slots id me i (λ n. 1) (λ n. set_stop halt (step slots i 1 0 none) me 1)
stops_here key halt slots id me i e s h deep at bound = (
  halted_view i halt me.0,
  keeps,
  tt,
  mark_rule key s h id me.0 at i 1 (omega arith) (halted_view i halt me.0) refl refl (λ n. refl) (h.tiers.held id me.0 at) refl refl refl refl refl
      (stops_set (cells_of key) s.words (set s.words i 1) s.views id me.0 (halted_view i halt me.0) at h.stops (λ z. refl) (λ p. inr refl) (λ t. inl t)) me.1,
  (refl, refl),
)

-- a look at a word changes only what the seat has learnt
module _ (key : Key) (id : ℕ) (me : Me Slot View) (i : ℕ) (beyond : cells_of key + 1 < i) where
  looks : (s : State Slot View) (h : Holds key s) → get_elem? s.views id ≡ some me.0 → (w : View) → w.room ≡ me.0.room → w.seen ≡ me.0.seen → w.turns ≡ me.0.turns → w.column ≡ me.0.column → w.gap ≡ me.0.gap
      → w.coming ≡ me.0.coming → w.outer ≡ me.0.outer → w.owns ≡ me.0.owns → StopWord (cells_of key) (set s.words i (slice_index s.words i)) (set s.views id w) → Holds key (stepped s i (slice_index s.words i) id me.1 w keeps)
  looks s h at w room seen turns column gap coming outer owns stops = mark_rule key s h id me.0 at i (slice_index s.words i) beyond w room seen (λ n. ap (turns_of n) turns) (subst (All (λ t. t.slot ≡ cells_of key → t.used ≡ h.used)) (sym turns) (h.tiers.held id me.0 at)) column gap coming outer owns stops me.1

  same_word : (s : State Slot View) (j : ℕ) → slice_index (set s.words i (slice_index s.words i)) j ≡ slice_index s.words j
  same_word s j = ap (λ (ws : List ℕ). slice_index ws j) (set-get_or s.words i 0)

  pub tells : (slots : ℕ) → i ≡ cells_of key + 2 → Allows (Holds key) slots id me i (λ n. n) (told (step slots i 0 0 none) me)
  tells slots e s h deep at bound = (
    told_view i (slice_index s.words i) me.0,
    keeps,
    tt,
    looks s h at (told_view i (slice_index s.words i) me.0) refl refl refl refl refl refl refl refl
        (stops_set (cells_of key) s.words (set s.words i (slice_index s.words i)) s.views id me.0 (told_view i (slice_index s.words i) me.0) at h.stops (λ z. z)
        (λ p. inl (omega (arith, same_word s (cells_of key + 2)))) (λ t. by_told me.0.told refl t)),
    refl,
  ) where
    by_told : (b : Bool) → me.0.told ≡ b → (b || nat_lt 0 (slice_index s.words i)) ≡ true → (me.0.told ≡ true) ⊎ (0 < slice_index s.words (cells_of key + 2))
    by_told true is t = inl is
    by_told false is t = inr (subst (λ (k : ℕ). 0 < slice_index s.words k) e (grind (arith, t)))

  pub loads : (slots : ℕ) → Allows (Holds key) slots id me i (λ n. n) (found (step slots i 0 0 none) me)
  loads slots s h deep at bound = (
    noted_view i (slice_index s.words i) me.0,
    keeps,
    tt,
    looks s h at (noted_view i (slice_index s.words i) me.0) refl refl refl refl refl refl refl refl
        (stops_stay (cells_of key) s.words (set s.words i (slice_index s.words i)) s.views id me.0 (noted_view i (slice_index s.words i) me.0) at h.stops (same_word s (cells_of key + 2)) refl refl),
    refl,
  )

-- a look at the clock tells that few columns are owned
pub weighs : (key : Key) (slots id : ℕ) (me : Me Slot View) → Allows (Holds key) slots id me 0 (λ n. n) (weighed (step slots 0 0 0 none) me)
weighs key slots id me s h deep at bound = (me.0, keeps, tt, subst (Holds key) same h, (refl, omega (arith, part, h.clock.owned, h.tiers.few, h.small), refl)) where
  part : me.0.owns ≤ total (λ z. z.owns) s.views
  part = total_part (λ z. z.owns) s.views id me.0 at

  same : s ≡ stepped s 0 (slice_index s.words 0) id me.1 me.0 keeps
  same i = record { words = sym (set-get_or s.words 0 0) i; homes = s.homes; views = sym (set_again s.views id me.0 at) i }
