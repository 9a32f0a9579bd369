-- What steps need, and when stamps are drawn, by tests that compute.
use Rattle.std.proofs.Common.{◌≡◌, ℕ, List, [], ◌∷◌, length, Bool, true, inl, inr, nat_lt, nat_le}
use Rattle.std.specs.Prelude.{◌&&◌, ◌||◌, not, ◌==◌, unwrap_or}
use Rattle.std.specs.List.{list_all}
use Rattle.std.proofs.lemmas.Bool.{and_parts, or_cases, ltb-true, leb-true, eqb-true, not-true}
use Rattle.cw_tree.specs.declared.node.Node.{Node}
use Rattle.cw_tree.specs.Nodes.{is_block_kind, stamp_of, end_of, is_block, is_pending, block_with_stamp}
use Rattle.cw_tree.specs.Walks.{is_ancestor, is_above}
use Rattle.cw_tree.specs.Series.{place}
use Rattle.cw_tree.specs.Shape.{is_closed}
use Rattle.cw_tree.specs.AccessStacks.{access_at}
use Rattle.cw_tree.specs.NextNodes.{is_before_at, IsFresh, IsNextStamp, IsEndStamp}
use Rattle.cw_tree.proofs.Lists.{all_in}
use Rattle.cw_tree.proofs.Walks.There.{node_there, pending_there}
use Rattle.cw_tree.proofs.Walks.Kin.{has_in}
use Rattle.cw_tree.proofs.Worked.Checks.{all_below, each_below, implies, implied, differ, both_less}
use Rattle.cw_open.specs.Machine.{OpenMachine}
use Rattle.cw_open.specs.Steps.{Met, Step, forks, begins, accesses, refuses, outputs, cancels, after_open_step}
use Rattle.cw_open.specs.Runs.{ComesLast}
use Rattle.cw_open.specs.Laws.{NoneUndone}
use Rattle.cw_open.specs.Times.{times_after, IsDrawn, ClosedLater, IsMetInTime, IsTimely, AreTimely}

module _ (t : List Node) where
  abbrev each_node : (ℕ → Bool) → Type 0
  each_node p = all_below p (length t) ≡ true

  -- ## Stamps

  abbrev pub fresh_test : (s n : ℕ) → Bool
  fresh_test s n = not (stamp_of t n == s) && not (end_of t n == s)

  are_fresh : (s : ℕ) → each_node (fresh_test s) → IsFresh t s
  are_fresh s fresh n h = let z = and_parts _ _ (each_below (fresh_test s) (length t) fresh n h) in (differ (stamp_of t n) s z.0, differ (end_of t n) s z.1)

  abbrev pub before_test : (p s n : ℕ) → Bool
  before_test p s n = implies (is_before_at t n p) (nat_lt (stamp_of t n) s && nat_lt (end_of t n) s)

  abbrev pub begun_test : (p s b : ℕ) → Bool
  begun_test p s b = implies (is_block t b && is_ancestor t b p) (nat_lt (stamp_of t b) s)

  pub next_stamp : (p s : ℕ) → nat_lt 0 s ≡ true → each_node (fresh_test s) → each_node (before_test p s) → each_node (begun_test p s) → IsNextStamp t p s
  next_stamp p s some fresh before begun = record {
    some = ltb-true 0 s some;
    fresh = are_fresh s fresh;
    series = λ n h e. both_less _ _ _ _ (implied _ _ (each_below (before_test p s) (length t) before n h) e);
    begun = λ b h e. ltb-true _ _ (implied _ _ (each_below (begun_test p s) (length t) begun b h) e);
  }

  abbrev pub beneath_test : (b s n : ℕ) → Bool
  beneath_test b s n = implies (is_above t b n) (nat_lt (stamp_of t n) s && nat_lt (end_of t n) s)

  pub end_stamp : (b s : ℕ) → each_node (fresh_test s) → nat_lt (stamp_of t b) s ≡ true → each_node (beneath_test b s) → IsEndStamp t b s
  end_stamp b s fresh begun beneath = record {
    fresh = are_fresh s fresh;
    begun = ltb-true _ _ begun;
    beneath = λ n h e. both_less _ _ _ _ (implied _ _ (each_below (beneath_test b s) (length t) beneath n h) e);
  }

  abbrev pub ended_test : (p s u b : ℕ) → Bool
  ended_test p s u b = implies (is_closed t b && is_above t b (access_at t u) && not (is_ancestor t b p)) (nat_lt (end_of t b) s)

  pub comes_last : (live asked : List ℕ) (p s : ℕ) → list_all (λ u. nat_lt u s) live ≡ true → list_all (λ u. all_below (ended_test p s u) (length t)) asked ≡ true → ComesLast t live asked p s
  comes_last live asked p s listed ended = record {
    listed = λ u e. ltb-true u s (all_in (λ u. nat_lt u s) u live listed (has_in live u e));
    ended = λ u b e h f. ltb-true _ _ (implied _ _ (each_below (ended_test p s u) (length t) (all_in (λ u. all_below (ended_test p s u) (length t)) u asked ended (has_in asked u e)) b h) f);
  }

  -- ## Times

  module _ (times : ℕ → ℕ) where
    abbrev pub drawn_test : (p s n : ℕ) → Bool
    drawn_test p s n = implies (is_before_at t n p) (nat_lt (times n) s)

    pub drawn : (p s : ℕ) → each_node (drawn_test p s) → IsDrawn times t p s
    drawn p s e n h f = ltb-true _ _ (implied _ _ (each_below (drawn_test p s) (length t) e n h) f)

    abbrev pub later_test : (p b n : ℕ) → Bool
    later_test p b n = implies (is_before_at t n p) (nat_le (stamp_of t n) (times b) && nat_le (end_of t n) (times b))

    abbrev pub around_test : (p b a : ℕ) → Bool
    around_test p b a = implies (is_block t a && is_ancestor t a p) (nat_le (stamp_of t a) (times b))

    closed_later : (p b : ℕ) → each_node (later_test p b) → each_node (around_test p b) → ClosedLater times t p b
    closed_later p b before around = record {
      before = λ n h e. let z = and_parts _ _ (implied _ _ (each_below (later_test p b) (length t) before n h) e) in (leb-true _ _ z.0, leb-true _ _ z.1);
      around = λ a e. leb-true _ _ (implied _ _ (each_below (around_test p b) (length t) around a (node_there (λ x. is_block_kind x.kind) t a (and_parts _ _ e).0)) e);
    }

    abbrev pub met_test : (p b stamp : ℕ) → Bool
    met_test p b stamp = is_block t b && (stamp_of t b == stamp) && (is_pending t b || (all_below (later_test p b) (length t) && all_below (around_test p b) (length t)))

    pub met_in_time : (p b : ℕ) (met : Met) → met_test p b met.block ≡ true → IsMetInTime times t p met
    met_in_time p b met e =
        let z = and_parts (is_block t b && (stamp_of t b == met.block)) _ e in
        let y = and_parts (is_block t b) (stamp_of t b == met.block) z.0 in (
          b,
          y.0,
          eqb-true (stamp_of t b) met.block y.1,
          elim (or_cases (is_pending t b) _ z.1) [
            | inl pending ↦ inl pending
            | inr later ↦ (let w = and_parts (all_below (later_test p b) (length t)) (all_below (around_test p b) (length t)) later in inr (closed_later p b w.0 w.1))
          ],
        )

-- ## A run in time

-- what a step needs is met at these times; a refused access met the block with the stamp that it tells
abbrev pub step_test : (ℕ → ℕ) → OpenMachine → Step → Bool
step_test times m (forks s stamp) = all_below (drawn_test m.tree times (place m.tree s) stamp) (length m.tree)
step_test times m (begins s stamp) = all_below (drawn_test m.tree times (place m.tree s) stamp) (length m.tree)
step_test times m (accesses s c w stamp) = all_below (drawn_test m.tree times (place m.tree s) stamp) (length m.tree)
step_test times m (refuses s c w met) = met_test m.tree times (place m.tree s) (unwrap_or (block_with_stamp m.tree met.block) 0) met.block
step_test times m (outputs s v stamp) = all_below (drawn_test m.tree times (place m.tree s) stamp) (length m.tree)
step_test times m (cancels s stamp) = all_below (drawn_test m.tree times (place m.tree s) stamp) (length m.tree)
step_test times m _ = true

is_timely : (times : ℕ → ℕ) (m : OpenMachine) (e : Step) → step_test times m e ≡ true → IsTimely times m e
is_timely times m (forks s stamp) e = drawn m.tree times (place m.tree s) stamp e
is_timely times m (begins s stamp) e = drawn m.tree times (place m.tree s) stamp e
is_timely times m (accesses s c w stamp) e = drawn m.tree times (place m.tree s) stamp e
is_timely times m (refuses s c w met) e = met_in_time m.tree times (place m.tree s) (unwrap_or (block_with_stamp m.tree met.block) 0) met e
is_timely times m (outputs s v stamp) e = drawn m.tree times (place m.tree s) stamp e
is_timely times m (cancels s stamp) e = drawn m.tree times (place m.tree s) stamp e
is_timely times m _ e = tt

abbrev pub timely_test : (ℕ → ℕ) → OpenMachine → List Step → Bool
timely_test times m [] = true
timely_test times m (e ∷ es) = step_test times m e && timely_test (times_after times m e) (after_open_step m e) es

pub are_timely : (times : ℕ → ℕ) (m : OpenMachine) (es : List Step) → timely_test times m es ≡ true → AreTimely times m es
are_timely times m [] h = tt
are_timely times m (e ∷ es) h =
    let z = and_parts (step_test times m e) (timely_test (times_after times m e) (after_open_step m e) es) h in
    (is_timely times m e z.0, are_timely (times_after times m e) (after_open_step m e) es z.1)

-- where no block is pending no undo is under way
pub none_undone : (m : OpenMachine) → all_below (λ b. not (is_pending m.tree b)) (length m.tree) ≡ true → NoneUndone m
none_undone m none b c n e over touch lives = absurd (let no = not-true _ (each_below (λ b. not (is_pending m.tree b)) (length m.tree) none b (pending_there m.tree b e)) in cc (e, no))
