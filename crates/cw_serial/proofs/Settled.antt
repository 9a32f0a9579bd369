-- What has settled stays, and a fork or a join leaves what a tree of strands comes to.
use Rattle.std.proofs.Common.{◌≡◌, ℕ, suc, refl, ap, sym, ◌∙◌, true, Option, Some, None}
use Rattle.cw_strand.specs.declared.want.Want.TheVariants.{Fork}
use Rattle.cw_strand.specs.Strands.{Strands, IsDeep, is_over}
use Rattle.cw_serial.specs.StrandTree.{StrandTree, stands, waits, state_at_end, meet, goes_on}
use Rattle.cw_serial.specs.Spots.{settle, Apart, IsSettled}
use Rattle.cw_serial.proofs.Deep.{met, meet_is, meet_both, goes_nowhere, goes_over, goes_forking, ended_stands}

module _ {A : Type 0} (s : Strands A) where
  apart_met : (go : ℕ → A → StrandTree A) (k : ℕ) (l r : StrandTree A) (o q : Option A) → Apart s o q → met s go k l r o q ≡ waits k l r
  apart_met go k l r None q h = refl
  apart_met go k l r (Some x) None h = refl
  apart_met go k l r (Some x) (Some y) h = absurd h

  -- what has settled stays
  pub settled_stays : (t : StrandTree A) → IsSettled s t → settle s t ≡ t
  settled_stays (stands k a) h = goes_nowhere s k a h
  settled_stays (waits k l r) h =
      ap (λ x. meet s (goes_on s) k x (settle s r)) (settled_stays l h.0)
      ∙ (ap (meet s (goes_on s) k l) (settled_stays r h.1)
      ∙ (meet_is s (goes_on s) k l r ∙ apart_met (goes_on s) k l r (state_at_end s l) (state_at_end s r) h.2))

  module _ (deep : IsDeep s) where
    -- a fork, and a join, leave what the tree comes to
    pub settle_fork : (k : ℕ) (a : A) → s.want a ≡ Fork → settle s (waits (suc k) (stands 0 (s.left a)) (stands 0 (s.right a))) ≡ settle s (stands k a)
    settle_fork k a w = sym (goes_forking s deep k a w)

  pub settle_join : (k i j : ℕ) (x y : A) → is_over (s.want x) ≡ true → is_over (s.want y) ≡ true → settle s (waits k (stands i x) (stands j y)) ≡ settle s (stands k (s.joined y x))
  settle_join k i j x y ox oy =
      ap (λ z. meet s (goes_on s) k z (goes_on s j y)) (goes_over s i x ox)
      ∙ (ap (meet s (goes_on s) k (stands i x)) (goes_over s j y oy)
      ∙ meet_both s (goes_on s) k (stands i x) (stands j y) x y (ended_stands s i x ox) (ended_stands s j y oy))
