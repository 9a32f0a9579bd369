-- The strands that a machine holds. Each is at a want, or waits for the two strands of a fork. Forks and joins are made
-- as soon as possible.
--
-- A strand is named by the steps down to it from the root.
use Rattle.std.specs.Prelude.{ℕ, zero, suc, ◌==◌, true, false, List, [], ◌∷◌, Option, Some, None, if◌then◌else◌}
use Rattle.cw_tree.specs.declared.picks.Turn.{Turn}
use Rattle.cw_strand.specs.Strands.{Strands, is_over, wants_fork}

pub data StrandTree (A : Type 0) : Type 0 where
  -- a strand that made this number of forks, at a want
  stands : ℕ → A → StrandTree A
  -- a strand that waits for its k-th fork: the left strand of it and the right one
  waits : ℕ → StrandTree A → StrandTree A → StrandTree A

-- what a step leads to: the left strand or the right one of the k-th fork, otherwise `nothing`
abbrev pub side_by : {A : Type 0} → Turn → ℕ → (left right nothing : A) → A
side_by x k l r none = if x.fork == k then (if x.right then r else l) else none

module _ {A : Type 0} (s : Strands A) where
  -- a strand that has come to its end
  abbrev pub state_at_end : StrandTree A → Option A
  state_at_end (stands k a) = if is_over (s.want a) then Some a else None
  state_at_end (waits k l r) = None

  -- the two strands of a k-th fork; after both have ended, the strand that forked goes on
  abbrev pub meet : (ℕ → A → StrandTree A) → ℕ → (left right : StrandTree A) → StrandTree A
  meet go k l r = elim (state_at_end l) [ None ↦ waits k l r | Some x ↦ elim (state_at_end r) [ None ↦ waits k l r | Some y ↦ go k (s.joined y x) ] ]

  -- a strand that made k forks makes its next ones, n levels of them
  abbrev pub run_on : ℕ → ℕ → A → StrandTree A
  run_on zero k a = stands k a
  run_on (suc n) k a = elim (wants_fork (s.want a)) [ false ↦ stands k a | true ↦ meet (run_on n) (suc k) (run_on n 0 (s.left a)) (run_on n 0 (s.right a)) ]

  -- all of them
  abbrev pub goes_on : ℕ → A → StrandTree A
  goes_on k a = run_on (s.depth a) k a

  -- the strand with that name, if it is at a want or at its end
  abbrev pub at : StrandTree A → List Turn → Option A
  at (stands k a) [] = Some a
  at (stands k a) (x ∷ p) = None
  at (waits k l r) [] = None
  at (waits k l r) (x ∷ p) = side_by x k (at l p) (at r p) None

  -- replaces the strand with that name, and the new one goes on
  abbrev pub put : StrandTree A → List Turn → A → StrandTree A
  put (stands k a) p b = goes_on k b
  put (waits k l r) [] b = waits k l r
  put (waits k l r) (x ∷ p) b = meet goes_on k (if x.right then l else put l p b) (if x.right then put r p b else r)
