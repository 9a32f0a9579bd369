-- When stamps are drawn. A stamp may be drawn before the step that uses it, but not before all that precedes it in
-- series was made and closed. Steps do not say when. It is enough to know the clock at which each node was made, or
-- closed.
use Rattle.std.specs.Prelude.{◌≡◌, ◌⊎◌, ℕ, ℤ, ◌<◌, ◌≤◌, ◌&&◌, ◌||◌, Bool, not, nat_le, IsTrue, List, [], ◌∷◌, length, if◌then◌else◌}
use Rattle.cw_tree.specs.declared.node.Node.{Node}
use Rattle.cw_tree.specs.Nodes.{stamp_of, end_of, is_block, is_pending}
use Rattle.cw_tree.specs.Walks.{is_ancestor}
use Rattle.cw_tree.specs.Series.{place}
use Rattle.cw_tree.specs.NextNodes.{is_before_at}
use Rattle.cw_open.specs.Machine.{OpenMachine}
use Rattle.cw_open.specs.Steps.{Met, Step, forks, begins, accesses, refuses, outputs, cancels, commits, aborts, after_open_step, after_all, first_machine}
use Rattle.cw_open.specs.Runs.{Rules, IsRun}

-- the step makes node n, or closes it
abbrev pub is_changed : OpenMachine → Step → ℕ → Bool
is_changed m e n = nat_le (length m.tree) n || (is_pending m.tree n && not (is_pending (after_open_step m e).tree n))

-- for each node the clock when it was made, or closed
abbrev pub times_after : (ℕ → ℕ) → OpenMachine → Step → ℕ → ℕ
times_after times m e n = if is_changed m e n then (after_open_step m e).clock else times n

-- a stamp that is used at place p was drawn after all before it in series had been made and closed
abbrev pub IsDrawn : (ℕ → ℕ) → List Node → (p stamp : ℕ) → Type 0
IsDrawn times t p stamp = (n : ℕ) → n < length t → IsTrue (is_before_at t n p) → times n < stamp

-- block b was closed after all that is before place p, or around it, was made
pub record ClosedLater (times : ℕ → ℕ) (t : List Node) (p b : ℕ) : Type 0 where
  pub before : (n : ℕ) → n < length t → IsTrue (is_before_at t n p) → (stamp_of t n ≤ times b) × (end_of t n ≤ times b)
  pub around : (a : ℕ) → IsTrue (is_block t a && is_ancestor t a p) → stamp_of t a ≤ times b

-- a refused access at place p met a block while that was pending: it still is, or was closed later
abbrev pub IsMetInTime : (ℕ → ℕ) → List Node → (p : ℕ) → Met → Type 0
IsMetInTime times t p met = (b : ℕ) × IsTrue (is_block t b) × (stamp_of t b ≡ met.block) × (IsTrue (is_pending t b) ⊎ ClosedLater times t p b)

abbrev pub IsTimely : (ℕ → ℕ) → OpenMachine → Step → Type 0
IsTimely times m (forks s stamp) = IsDrawn times m.tree (place m.tree s) stamp
IsTimely times m (begins s stamp) = IsDrawn times m.tree (place m.tree s) stamp
IsTimely times m (accesses s c w stamp) = IsDrawn times m.tree (place m.tree s) stamp
IsTimely times m (refuses s c w met) = IsMetInTime times m.tree (place m.tree s) met
IsTimely times m (outputs s v stamp) = IsDrawn times m.tree (place m.tree s) stamp
IsTimely times m (cancels s stamp) = IsDrawn times m.tree (place m.tree s) stamp
IsTimely times m _ = Unit {0}

abbrev pub AreTimely : (ℕ → ℕ) → OpenMachine → List Step → Type 0
AreTimely times m [] = Unit {0}
AreTimely times m (e ∷ es) = IsTimely times m e × AreTimely (times_after times m e) (after_open_step m e) es

-- a run whose stamps were drawn in time leads to the state m
pub record ReachedInTime (r : Rules) (first : List ℤ) (m : OpenMachine) : Type 0 where
  pub steps : List Step
  pub run : IsRun r (first_machine first) steps
  pub there : after_all (first_machine first) steps ≡ m
  pub timely : AreTimely (λ n. 0) (first_machine first) steps

-- ## If a stamp is drawn by the step that uses it

-- the stamp of the step exceeds the clock
abbrev pub IsAhead : OpenMachine → Step → Type 0
IsAhead m (forks s stamp) = m.clock < stamp
IsAhead m (begins s stamp) = m.clock < stamp
IsAhead m (accesses s c w stamp) = m.clock < stamp
IsAhead m (outputs s v stamp) = m.clock < stamp
IsAhead m (cancels s stamp) = m.clock < stamp
IsAhead m (commits s stamp) = m.clock < stamp
IsAhead m (aborts s stamp) = m.clock < stamp
IsAhead m _ = Unit {0}

abbrev pub AreAhead : OpenMachine → List Step → Type 0
AreAhead m [] = Unit {0}
AreAhead m (e ∷ es) = IsAhead m e × AreAhead (after_open_step m e) es
