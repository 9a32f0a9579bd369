-- Serves `Cells`: the cells at home, after any step.
use Rattle.std.proofs.Common.{◌≡◌, ℕ, suc, ◌<◌, ◌≤◌, List, arith, ap, inl, inr, sym, ◌∙◌}
use Rattle.std.specs.Prelude.{◌⊎◌, slice_index}
use Rattle.std.proofs.lemmas.List.Elements.{All-weaker}
use mathlib.Core.Option as maybe
use lib.ListN.{get_elem?}
use Rattle.cw_tree.specs.declared.access.Entry.{Entry}
use Rattle.cw_steps.specs.declared.view.Slot.{Slot}
use Rattle.cw_steps.specs.declared.view.Slot.TheVariants as slot
use Rattle.cw_steps.specs.Views.{IsLowCell}
use Rattle.cw_steps.specs.Rule.{Cells, IsCellHome}

pub low_more : (y : Slot) (most more : ℕ) → most ≤ more → IsLowCell most y → IsLowCell more y
low_more (slot.Cell x) most more le low = All-weaker (λ (e : Entry). e.mark.stamp ≤ most) (λ (e : Entry). e.mark.stamp ≤ more) (λ e h. omega arith) x.entries low
low_more (slot.Tier x) most more le low = low
low_more slot.Empty most more le low = low

-- each cell whose turn is free then was at home before, or has come home
pub cells_set : (cells : ℕ) (words words' : List ℕ) (homes homes' : List (maybe.Option Slot))
    → Cells cells words homes → slice_index words 0 ≤ slice_index words' 0
    → ((n : ℕ) → n < cells → slice_index words' (suc n) ≡ 0
    → ((slice_index words (suc n) ≡ 0) × (get_elem? homes' n ≡ get_elem? homes n)) ⊎ IsCellHome (slice_index words' 0) homes' n)
    → Cells cells words' homes'
cells_set cells words words' homes homes' h grow each = record {
  home = λ n p free. elim (each n p free) [
    | inl z ↦ (let q = h.home n p z.0 in (q.0, z.1 ∙ q.1, low_more q.0 (slice_index words 0) (slice_index words' 0) grow q.2))
    | inr z ↦ z
  ];
}

-- no cell goes out or comes home
pub cells_stay : (cells : ℕ) (words words' : List ℕ) (homes : List (maybe.Option Slot))
    → Cells cells words homes → slice_index words 0 ≤ slice_index words' 0
    → ((n : ℕ) → n ≤ cells → slice_index words' (suc n) ≡ slice_index words (suc n))
    → Cells cells words' homes
cells_stay cells words words' homes h grow same = cells_set cells words words' homes homes h grow (λ n p free. inl (sym (same n (omega arith)) ∙ free, Rattle.std.proofs.Common.refl))
