-- Serves `Clock`: the clock and what may still be drawn, after a step of one seat.
use Rattle.std.proofs.Common.{◌≡◌, ℕ, ◌+◌, ◌*◌, ◌≤◌, List, arith, ap, set, inl, inr}
use Rattle.std.specs.Prelude.{slice_index}
use mathlib.Core.Option.{some}
use lib.ListN.{get_elem?}
use Rattle.atomic_table.proofs.Lists.{at_set}
use Rattle.cw_steps.specs.declared.view.View.{View}
use Rattle.cw_steps.specs.Totals.{total}
use Rattle.cw_steps.specs.Views.{share}
use Rattle.cw_steps.specs.Rule.{Clock}
use Rattle.cw_steps.proofs.Counts.{total_set}

pub clock_set : (limit used used' : ℕ) (words words' : List ℕ) (views : List View) (id : ℕ) (v w : View)
    → get_elem? views id ≡ some v → Clock limit used words views
    → slice_index words 0 ≤ slice_index words' 0
    → slice_index words' 0 + w.room + share * used ≤ slice_index words 0 + v.room + share * used'
    → w.seen ≤ slice_index words' 0
    → w.owns + used ≤ v.owns + used'
    → Clock limit used' words' (set views id w)
clock_set limit used used' words words' views id v w at h grow fits low own = record {
  owned = (let q : total (λ z. z.owns) (set views id w) + v.owns ≡ total (λ z. z.owns) views + w.owns = total_set (λ z. z.owns) views id v w at in omega (arith, q, h.owned, own));
  room = (let q : total (λ z. z.room) (set views id w) + v.room ≡ total (λ z. z.room) views + w.room = total_set (λ z. z.room) views id v w at in omega (arith, q, h.room, fits));
  seen = λ k u atk. elim (at_set views id k w u atk) [
    | inl z ↦ omega (arith, low, ap (λ (y : View). y.seen) z.1)
    | inr z ↦ omega (arith, h.seen k u z.1, grow)
  ];
}

-- views change and no word does
pub clock_views : (limit used : ℕ) (words : List ℕ) (views views' : List View) → Clock limit used words views
    → total (λ z. z.room) views' ≤ total (λ z. z.room) views
    → total (λ z. z.owns) views' ≤ total (λ z. z.owns) views
    → ((k : ℕ) (v : View) → get_elem? views' k ≡ some v → v.seen ≤ slice_index words 0)
    → Clock limit used words views'
clock_views limit used words views views' h fewer owned seen = record { room = omega (arith, h.room, fewer); seen = seen; owned = omega (arith, h.owned, owned) }
