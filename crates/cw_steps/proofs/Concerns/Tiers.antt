-- Serves `Tiers`: the tier at home, and the columns of all seats, after a step of one seat.
use Rattle.std.proofs.Common.{◌≡◌, ◌≢◌, ℕ, suc, ◌+◌, ◌≤◌, List, arith, inl, inr, ◌∙◌, set, subst}
use Rattle.std.specs.Prelude.{◌⊎◌, slice_index, Option, Some, None, All}
use Rattle.std.proofs.lemmas.List.Elements.{All-weaker}
use mathlib.Core.Option.{some}
use mathlib.Core.Option as maybe
use lib.ListN.{get_elem?}
use Rattle.atomic_table.proofs.Lists.{at_set}
use Rattle.cw_steps.specs.declared.view.Slot.{Slot}
use Rattle.cw_steps.specs.declared.view.Coming.{Coming}
use Rattle.cw_steps.specs.declared.view.Turn.{Turn}
use Rattle.cw_steps.specs.declared.view.View.{View}
use Rattle.cw_steps.specs.declared.view.Whereabouts.{Whereabouts}
use Rattle.cw_steps.specs.Totals.{total}
use Rattle.cw_steps.specs.Views.{has_turn}
use Rattle.cw_steps.specs.Rule.{Tiers, Turns, IsTierHome, BringsHome, StandsIn, ComesIn, WaitsIn}
use Rattle.cw_steps.proofs.Counts.{total_two, none_of}

pub tiers_set : (cells limit used : ℕ) (words words' : List ℕ) (homes homes' : List (maybe.Option Slot)) (views : List View) (id : ℕ) (w : View)
    → Tiers cells limit used words homes views
    → (slice_index words' (suc cells) ≡ 0 → ((slice_index words (suc cells) ≡ 0) × (get_elem? homes' cells ≡ get_elem? homes cells)) ⊎ IsTierHome limit used homes' cells)
    → BringsHome cells used w → StandsIn used w
    → Tiers cells limit used words' homes' (set views id w)
tiers_set cells limit used words words' homes homes' views id w h home brings stands = record {
  few = h.few;
  home = λ free. elim (home free) [
    | inl z ↦ (let q = h.home z.0 in (q.0, z.1 ∙ q.1, q.2))
    | inr z ↦ z
  ];
  held = λ k u atk. elim (at_set views id k w u atk) [
    | inl z ↦ subst (BringsHome cells used) z.1 brings
    | inr z ↦ h.held k u z.1
  ];
  stands = λ k u atk. elim (at_set views id k w u atk) [
    | inl z ↦ subst (StandsIn used) z.1 stands
    | inr z ↦ h.stands k u z.1
  ];
}

pub comes_more : (used more : ℕ) (c : Option Coming) → used ≤ more → ComesIn used c → ComesIn more c
comes_more used more None le h = h
comes_more used more (Some c) le h = (omega (arith, h.0), omega (arith, h.1))

pub waits_more : (used more : ℕ) (ws : List Whereabouts) → used ≤ more → All (WaitsIn used) ws → All (WaitsIn more) ws
waits_more used more ws le all = All-weaker (WaitsIn used) (WaitsIn more) (λ o h. (omega (arith, h.0, le), omega (arith, h.1, le))) ws all

stands_more : (used more : ℕ) (v : View) → used ≤ more → StandsIn used v → StandsIn more v
stands_more used more v le h = record {
  column = omega (arith, h.column);
  gap = omega (arith, h.gap);
  coming = comes_more used more v.coming le h.coming;
  outer = waits_more used more v.outer le h.outer;
}

-- more columns are in use: who has the tier's turn knows it, and nobody else has that
pub tiers_grow : (cells limit used more : ℕ) (words words' : List ℕ) (homes : List (maybe.Option Slot)) (views : List View) (id : ℕ) (v w : View)
    → get_elem? views id ≡ some v → Turns cells words views → Tiers cells limit used words homes views
    → slice_index words' (suc cells) ≡ slice_index words (suc cells)
    → has_turn cells v ≡ 1 → used ≤ more → more ≤ limit
    → BringsHome cells more w → StandsIn more w
    → Tiers cells limit more words' homes (set views id w)
tiers_grow cells limit used more words words' homes views id v w at turns h same mine le fits brings stands = record {
  few = fits;
  home = λ free. absurd (let q : total (has_turn cells) views ≡ slice_index words (suc cells) = turns.one cells (omega arith) in
      let p : has_turn cells v ≤ total (has_turn cells) views = Rattle.cw_steps.proofs.Counts.total_part (has_turn cells) views id v at in omega (arith, q, p, same, free, mine));
  held = λ k u atk. elim (at_set views id k w u atk) [
    | inl z ↦ subst (BringsHome cells more) z.1 brings
    | inr z ↦ none_of cells (λ (t : Turn). t.used ≡ more) u.turns (others k u z.0 z.1)
  ];
  stands = λ k u atk. elim (at_set views id k w u atk) [
    | inl z ↦ subst (StandsIn more) z.1 stands
    | inr z ↦ stands_more used more u le (h.stands k u z.1)
  ];
} where
  others : (k : ℕ) (u : View) → k ≢ id → get_elem? views k ≡ some u → has_turn cells u ≡ 0
  others k u ne there =
      let p : has_turn cells u + has_turn cells v ≤ total (has_turn cells) views = total_two (has_turn cells) views k id u v ne there at in
      omega (arith, p, mine, turns.one cells (omega arith), turns.bits cells (omega arith))

-- views change, and no word and no slot does
pub tiers_views : (cells limit used : ℕ) (words : List ℕ) (homes : List (maybe.Option Slot)) (views views' : List View) → Tiers cells limit used words homes views
    → ((k : ℕ) (v : View) → get_elem? views' k ≡ some v → BringsHome cells used v)
    → ((k : ℕ) (v : View) → get_elem? views' k ≡ some v → StandsIn used v)
    → Tiers cells limit used words homes views'
tiers_views cells limit used words homes views views' h held stands = record { few = h.few; home = h.home; held = held; stands = stands }
