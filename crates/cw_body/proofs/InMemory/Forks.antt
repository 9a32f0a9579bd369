-- A strand that is inside the blocks around it is so as the right strand of a fork, and as the strand that forked once both are joined.
use Rattle.std.proofs.Common.{◌≡◌, ℕ, suc, ◌+◌, ◌-◌, ◌<◌, ◌≤◌, List, [], ◌∷◌, map, refl, ap, subst, arith, true}
use Rattle.std.specs.Prelude.{All}
use Rattle.std.proofs.lemmas.List.Elements.{All-head, All-tail}
use Rattle.cw_strand.specs.declared.want.Want.{Want}
use Rattle.cw_strand.specs.declared.want.Want.TheVariants.{Fork, Sync, Done}
use Rattle.cw_strand.specs.Strands.{Strands, is_over}
use Rattle.cw_strand.specs.Saving.{Inside, goes_right, joins, inner_after}
use Rattle.cw_job.specs.Room.Strands.{StrandState}
use Rattle.cw_body.specs.declared.begin.Begin.{Begin as Kept}
use Rattle.cw_body.specs.Bodies.{PendingBegin}
use Rattle.cw_body.specs.InMemory.{begin_of, shown, IsInsideEach}
use Rattle.cw_body.proofs.InMemory.Answered.{stays_other}

-- a strand at its end begins and ends no block
over_inner : (w : Want) (n : ℕ) → is_over w ≡ true → inner_after w n ≡ n
over_inner Sync n e = refl
over_inner Done n e = refl
over_inner w n e = absurd (cc e)

module _ (s : Strands StrandState) (level : ℕ) (a : StrandState) where
  pub right_each : s.want a ≡ Fork → (n : ℕ) (bs : List Kept) → IsInsideEach s level a n bs → IsInsideEach s (level + 1) (s.right a) n bs
  right_each w n [] h = tt
  right_each w n (b ∷ bs) h =
      let since : b.level ≤ level = h.0.since in
      let P : ℕ → Type 0 = λ k. Inside s (begin_of b) k n (s.right a) in
      let up : suc (level - b.level) ≡ level + 1 - b.level = omega (arith, since) in
      (record { since = omega (arith, since); inside = subst P up (goes_right h.0.inside w) }, right_each w (suc n) bs h.1)

  abbrev IsOlder : PendingBegin → Type 0
  IsOlder p = 0 < p.forks

  pub joined_each : (left : StrandState) → is_over (s.want a) ≡ true → (n : ℕ) (bs : List Kept) → All (λ (p : PendingBegin). 0 < p.forks) (map (shown level) bs) → IsInsideEach s level a n bs
      → IsInsideEach s (level - 1) (s.joined a left) n bs
  joined_each left over n [] none h = tt
  joined_each left over n (b ∷ bs) none h =
      let some : 0 < level - b.level = All-head IsOlder (shown level b) (map (shown level) bs) none in
      let P : ℕ → Type 0 = λ k. Inside s (begin_of b) k n a in
      let Q : ℕ → Type 0 = λ k. Inside s (begin_of b) (level - 1 - b.level) k (s.joined a left) in
      let down : level - b.level ≡ suc (level - 1 - b.level) = omega (arith, some) in
      let stays = stays_other (s.want a) n (λ e. let o = ap is_over e in cc (o, over)) in
      (record { since = omega (arith, some); inside = subst Q (over_inner (s.want a) n over) (joins (subst P down h.0.inside) stays left) }, joined_each left over (suc n) bs (All-tail IsOlder (shown level b) (map (shown level) bs) none) h.1)
