-- Which nodes are open, by their kinds.
use Rattle.std.proofs.Common.{◌≡◌, ℕ, true, false, inl, inr}
use Rattle.std.specs.Prelude.{◌⊎◌, ◌&&◌, ◌||◌, not}
use Rattle.std.proofs.lemmas.Bool.{and_parts, and_from, and_left, and_right, or_cases, or_from, or_left, or_right, not-true, not_from_false, not_from_true, false_from_ne_true}
use Rattle.cw_tree.specs.Nodes.{is_strand, is_fork, is_pending}
use Rattle.cw_tree.specs.Walks.{has}
use Rattle.cw_tree.proofs.NodeKinds.{strand_no_block, fork_no_strand, fork_no_block, pending_block}
use Rattle.cw_open.specs.Machine.{OpenMachine, has_finished}
use Rattle.cw_open.specs.Open.{is_open}

-- a strand that finished is open no more
pub finished_shut : (m : OpenMachine) (s : ℕ) → is_strand m.tree s ≡ true → has_finished m s ≡ true → is_open m s ≡ false
finished_shut m s strand done =
    or_from (is_strand m.tree s && not (has_finished m s) || is_fork m.tree s && not (has m.joined s)) (is_pending m.tree s)
    (or_from (is_strand m.tree s && not (has_finished m s)) (is_fork m.tree s && not (has m.joined s)) (and_right (is_strand m.tree s) _ (not_from_true _ done)) (and_left (is_fork m.tree s) _ (false_from_ne_true (is_fork m.tree s) (λ e. absurd (cc (strand, fork_no_strand m.tree s e))))))
    (false_from_ne_true (is_pending m.tree s) (λ e. absurd (cc (strand_no_block m.tree s strand, pending_block m.tree s e))))

-- a fork that is not joined is open
pub unjoined_open : (m : OpenMachine) (f : ℕ) → is_fork m.tree f ≡ true → has m.joined f ≡ false → is_open m f ≡ true
unjoined_open m f fork e =
    or_left (is_strand m.tree f && not (has_finished m f) || is_fork m.tree f && not (has m.joined f)) (is_pending m.tree f)
    (or_right (is_strand m.tree f && not (has_finished m f)) (is_fork m.tree f && not (has m.joined f)) (and_from (is_fork m.tree f) (not (has m.joined f)) fork (not_from_false (has m.joined f) e)))

-- a fork that is open was not joined
pub open_unjoined : (m : OpenMachine) (f : ℕ) → is_fork m.tree f ≡ true → is_open m f ≡ true → has m.joined f ≡ false
open_unjoined m f fork e =
    elim (or_cases (is_strand m.tree f && not (has_finished m f) || is_fork m.tree f && not (has m.joined f)) (is_pending m.tree f) e) [
      | inr z ↦ absurd (cc (pending_block m.tree f z, fork_no_block m.tree f fork))
      | inl z ↦ elim (or_cases (is_strand m.tree f && not (has_finished m f)) (is_fork m.tree f && not (has m.joined f)) z) [
        | inl y ↦ absurd (cc ((and_parts (is_strand m.tree f) (not (has_finished m f)) y).0, fork_no_strand m.tree f fork))
        | inr y ↦ not-true (has m.joined f) (and_parts (is_fork m.tree f) (not (has m.joined f)) y).1
      ]
    ]

-- what is open is a strand, a fork or a pending block
pub open_kinds : (m : OpenMachine) (n : ℕ) → is_open m n ≡ true → (is_strand m.tree n ≡ true) ⊎ ((is_fork m.tree n ≡ true) ⊎ (is_pending m.tree n ≡ true))
open_kinds m n e =
    elim (or_cases (is_strand m.tree n && not (has_finished m n) || is_fork m.tree n && not (has m.joined n)) (is_pending m.tree n) e) [
      | inr z ↦ inr (inr z)
      | inl z ↦ elim (or_cases (is_strand m.tree n && not (has_finished m n)) (is_fork m.tree n && not (has m.joined n)) z) [
        | inl y ↦ inl (and_parts (is_strand m.tree n) (not (has_finished m n)) y).0
        | inr y ↦ inr (inl (and_parts (is_fork m.tree n) (not (has m.joined n)) y).0)
      ]
    ]
