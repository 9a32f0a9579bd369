-- Serves `Turns`: who has which turn, after a step of one seat.
use Rattle.std.proofs.Common.{◌≡◌, ℕ, suc, ◌+◌, ◌≤◌, List, arith, set}
use Rattle.std.specs.Prelude.{slice_index}
use mathlib.Core.Option.{some}
use lib.ListN.{get_elem?}
use Rattle.cw_steps.specs.declared.view.View.{View}
use Rattle.cw_steps.specs.Totals.{total}
use Rattle.cw_steps.specs.Views.{has_turn}
use Rattle.cw_steps.specs.Rule.{Turns}
use Rattle.cw_steps.proofs.Counts.{total_set}

pub turns_set : (cells : ℕ) (words words' : List ℕ) (views : List View) (id : ℕ) (v w : View)
    → get_elem? views id ≡ some v → Turns cells words views
    → ((n : ℕ) → n ≤ cells → slice_index words' (suc n) ≤ 1)
    → ((n : ℕ) → n ≤ cells → has_turn n w + slice_index words (suc n) ≡ has_turn n v + slice_index words' (suc n))
    → Turns cells words' (set views id w)
turns_set cells words words' views id v w at h bits moved = record {
  bits = bits;
  one = λ n p. (let q : total (has_turn n) (set views id w) + has_turn n v ≡ total (has_turn n) views + has_turn n w = total_set (has_turn n) views id v w at in omega (arith, q, h.one n p, moved n p));
}

-- no turn changes hands
pub turns_stay : (cells : ℕ) (words words' : List ℕ) (views : List View) (id : ℕ) (v w : View)
    → get_elem? views id ≡ some v → Turns cells words views
    → ((n : ℕ) → n ≤ cells → slice_index words' (suc n) ≡ slice_index words (suc n))
    → ((n : ℕ) → has_turn n w ≡ has_turn n v)
    → Turns cells words' (set views id w)
turns_stay cells words words' views id v w at h same turns = turns_set cells words words' views id v w at h (λ n p. omega (arith, h.bits n p, same n p)) (λ n p. omega (arith, same n p, turns n))

-- views change and no word does
pub turns_views : (cells : ℕ) (words : List ℕ) (views views' : List View) → Turns cells words views
    → ((n : ℕ) → total (has_turn n) views' ≡ total (has_turn n) views)
    → Turns cells words views'
turns_views cells words views views' h same = record { bits = h.bits; one = λ n p. omega (arith, same n, h.one n p) }
