-- The nodes of a fork are open.
use Rattle.std.proofs.Common.{◌≡◌, ℕ, zero, suc, ◌+◌, ◌<◌, ◌≤◌, List, [], ◌∷◌, ◌++◌, length, refl, ap, sym, ◌∙◌, arith, Bool, true, false, inl, inr, nat_lt, length-append}
use Rattle.std.specs.Prelude.{◌-◌, ◌%◌, ◌&&◌, ◌||◌, not, slice_get}
use Rattle.std.proofs.lemmas.Bool.{and_from, or_left, or_right, not_from_false, false_from_ne_true, cases_Bool, cases_lt, cases_eq, lt-ltb, ltb-true}
use Rattle.cw_tree.specs.declared.node.Node.{Node}
use Rattle.cw_tree.specs.Nodes.{passes, is_strand_kind, is_fork_kind, is_strand, is_fork, is_pending}
use Rattle.cw_tree.specs.Walks.{has}
use Rattle.cw_tree.specs.NextNodes.{fork_nodes}
use Rattle.cw_tree.proofs.Walks.There.{fork_there}
use Rattle.cw_trace.specs.Columns.{ColumnTable, used, owner, forked}
use Rattle.cw_trace.specs.Stands.{fork_column}
use Rattle.cw_trace.specs.Keeps.{Keeps}
use Rattle.cw_trace.specs.OrderedRuns.{opens}
use Rattle.cw_trace.proofs.Stands.Counting.{fork_column_lt}
use Rattle.cw_trace.proofs.Keeps.Grow.{fork_column_append}
use Rattle.cw_trace.proofs.Keeps.Forking.{get_right}
use Rattle.cw_open.specs.Machine.{OpenMachine, has_finished}
use Rattle.cw_open.proofs.Open.Trees.{IsWell}
use Rattle.cw_hands.specs.Shared.{SharedMoment, has_columns, is_open_yet}
use Rattle.cw_hands.proofs.Shared.Order.{at_wide, at_no_fork, at_other}
use Rattle.cw_hands.proofs.Shared.Opening.{shut_past, opens_so}

-- the columns in use are those of forks that are there
pub used_low : (c : ColumnTable) (words : List ℕ) (t : List Node) (cuts joins : List ℕ) → Keeps c words t cuts joins → used c ≤ fork_column t (length t)
used_low c words t cuts joins k = elim (cases_lt (used c) 2) [
  | inl few ↦ omega arith
  | inr some ↦ by (used c) refl some
] where
  by : (n : ℕ) → used c ≡ n → 2 ≤ n → used c ≤ fork_column t (length t)
  by zero e l = absurd (omega arith)
  by (suc zero) e l = absurd (omega arith)
  by (suc (suc n)) e l =
      let z = k.all_used (suc n) (omega (arith, e)) (omega arith) in
      let le : fork_column t z.0 + 2 ≤ fork_column t (length t) = fork_column_lt t z.0 (length t) (fork_there t z.0 z.1) z.1 in
      let at : fork_column t z.0 ≡ suc n - 1 + suc n % 2 = z.2 in
      omega (arith, e)

module _ (s : SharedMoment) (w : IsWell s.machine) (k : Keeps s.columns s.words s.machine.tree s.cuts s.joins) (p stamp : ℕ) (d : ColumnTable) where
  abbrev m : OpenMachine
  m = s.machine

  abbrev t : List Node
  t = s.machine.tree

  abbrev xs : List Node
  xs = fork_nodes (length t) p stamp

  abbrev u : SharedMoment
  u = record s { machine = record s.machine { tree = t ++ xs }; columns = d }

  len : length (t ++ xs) ≡ length t + 3
  len = length-append t xs

  pub at : (f : Node → Bool) (n j : ℕ) → n ≡ length t + j → passes f (slice_get (t ++ xs) n) ≡ passes f (slice_get xs j)
  at f n j e = ap (λ n. passes f (slice_get (t ++ xs) n)) e ∙ ap (passes f) (get_right t xs j)

  fork_here : (n : ℕ) → n ≡ length t + 0 → is_fork (t ++ xs) n ≡ true
  fork_here n e = at (λ y. is_fork_kind y.kind) n 0 e

  pub unjoined : (n : ℕ) → n ≡ length t + 0 → has s.joins (fork_column (t ++ xs) n) ≡ false
  unjoined n e =
      ap (λ n. has s.joins (fork_column (t ++ xs) n)) (let q : n ≡ length t = omega (arith, e) in q)
      ∙ ap (has s.joins) (fork_column_append t xs w.sound.tree.rooted 0 (length t) (omega arith))
      ∙ false_from_ne_true (has s.joins (fork_column t (length t))) (λ j. absurd (let z : fork_column t (length t) < used s.columns = (k.segments.join_left (fork_column t (length t)) j).1 in omega (arith, used_low s.columns s.words t s.cuts s.joins k)))

  not_joined : (n : ℕ) → length t ≤ n → has m.joined n ≡ false
  not_joined n le = false_from_ne_true (has m.joined n) (λ e. absurd (let h = w.joined n e in omega arith))

  not_finished : (n : ℕ) → length t ≤ n → has_finished m n ≡ false
  not_finished n le = false_from_ne_true (has_finished m n) (λ e. absurd (let h = w.finished n e in omega arith))

  the_fork : (n : ℕ) → n ≡ length t + 0 → is_open_yet u n ≡ true
  the_fork n e = elim (cases_Bool (has_columns u n)) [
    | inl on ↦ at_wide u n on ∙ not_from_false (has s.joins (fork_column (t ++ xs) n)) (unjoined n e)
    | inr off ↦ at_other u n off
        ∙ or_left (is_strand (t ++ xs) n && not (has_finished m n) || is_fork (t ++ xs) n && not (has m.joined n)) (is_pending (t ++ xs) n)
        (or_right (is_strand (t ++ xs) n && not (has_finished m n)) (is_fork (t ++ xs) n && not (has m.joined n)) (and_from (is_fork (t ++ xs) n) (not (has m.joined n)) (fork_here n e) (not_from_false (has m.joined n) (not_joined n (omega (arith, e))))))
  ]

  a_strand : (n : ℕ) → length t ≤ n → is_strand (t ++ xs) n ≡ true → is_fork (t ++ xs) n ≡ false → is_open_yet u n ≡ true
  a_strand n le strand no_fork =
      at_no_fork u n no_fork
      ∙ or_left (is_strand (t ++ xs) n && not (has_finished m n) || is_fork (t ++ xs) n && not (has m.joined n)) (is_pending (t ++ xs) n)
      (or_left (is_strand (t ++ xs) n && not (has_finished m n)) (is_fork (t ++ xs) n && not (has m.joined n)) (and_from (is_strand (t ++ xs) n) (not (has_finished m n)) strand (not_from_false (has_finished m n) (not_finished n le))))

  new_open : (n : ℕ) → length t ≤ n → n < length t + 3 → is_open_yet u n ≡ true
  new_open n le h = elim (cases_eq n (length t + 0)) [
    | inl e ↦ the_fork n e
    | inr n0 ↦ elim (cases_eq n (length t + 1)) [
      | inl e ↦ a_strand n le (at (λ y. is_strand_kind y.kind) n 1 e) (at (λ y. is_fork_kind y.kind) n 1 e)
      | inr n1 ↦
          (let e : n ≡ length t + 2 = omega (arith, n0, n1) in
          a_strand n le (at (λ y. is_strand_kind y.kind) n 2 e) (at (λ y. is_fork_kind y.kind) n 2 e))
    ]
  ]

  pub fork_opens_so : ((n : ℕ) → (is_fork s.machine.tree n && nat_lt (fork_column s.machine.tree n + 1) (used d)) ≡ (is_fork s.machine.tree n && nat_lt (fork_column s.machine.tree n + 1) (used s.columns)))
      → (n : ℕ) → opens (length s.machine.tree) (λ n. nat_lt n (length s.machine.tree + 3)) (is_open_yet s) n ≡ is_open_yet (record s { machine = record s.machine { tree = s.machine.tree ++ fork_nodes (length s.machine.tree) p stamp }; columns = d }) n
  fork_opens_so wide = opens_so s w.sound.tree.rooted xs d wide (λ n. nat_lt n (length t + 3)) (λ n le. elim (cases_lt n (length t + 3)) [
    | inl h ↦ new_open n le h ∙ sym (lt-ltb n (length t + 3) h)
    | inr past ↦ shut_past u n (omega (arith, len)) ∙ sym (false_from_ne_true (nat_lt n (length t + 3)) (λ e. absurd (let h : n < length t + 3 = ltb-true n (length t + 3) e in omega arith)))
  ])

-- while there are columns left, all forks have them
module _ (s : SharedMoment) (k : Keeps s.columns s.words s.machine.tree s.cuts s.joins) (word p : ℕ) (roomy : used s.columns + 2 ≤ s.columns.room) where
  pub same_wide : (n : ℕ) → (is_fork s.machine.tree n && nat_lt (fork_column s.machine.tree n + 1) (used (forked word p s.columns))) ≡ (is_fork s.machine.tree n && nat_lt (fork_column s.machine.tree n + 1) (used s.columns))
  same_wide n = elim (cases_Bool (is_fork s.machine.tree n)) [
    | inr off ↦ ap (λ b. b && nat_lt (fork_column s.machine.tree n + 1) (used (forked word p s.columns))) off ∙ sym (ap (λ b. b && nat_lt (fork_column s.machine.tree n + 1) (used s.columns)) off)
    | inl fork ↦
        (let le : fork_column s.machine.tree n + 2 ≤ fork_column s.machine.tree (length s.machine.tree) = fork_column_lt s.machine.tree n (length s.machine.tree) (fork_there s.machine.tree n fork) fork in
        let more : used (forked word p s.columns) ≡ used s.columns + 2 = length-append s.columns.owners (owner s.columns p ∷ owner s.columns p ∷ []) in
        ap (λ b. is_fork s.machine.tree n && b) (lt-ltb _ _ (omega (arith, more, k.all_forks roomy)) ∙ sym (lt-ltb (fork_column s.machine.tree n + 1) (used s.columns) (omega (arith, k.all_forks roomy)))))
  ]
