-- Open nodes are ordered as the tier needs it, though a fork with columns is open until its traces were merged.
use Rattle.std.proofs.Common.{◌≡◌, ℕ, ◌+◌, ◌<◌, List, length, ap, sym, ◌∙◌, arith, true, false, cond, inl, inr, nat_lt, nat_eq}
use Rattle.std.specs.Prelude.{◌⊎◌, ◌&&◌, ◌||◌, not}
use Rattle.std.proofs.lemmas.Bool.{and_parts, and_from, or_left, not-true, not_from_false, false_from_ne_true, cases_Bool, cases_lt, cases_eq, lt-ltb, ltb-true, eq-eqb}
use Rattle.cw_tree.specs.declared.node.Node.{Node}
use Rattle.cw_tree.specs.Nodes.{parent_of, is_strand, is_fork, is_pending, all_nodes}
use Rattle.cw_tree.specs.Walks.{has}
use Rattle.cw_tree.specs.Series.{children, has_later}
use Rattle.cw_tree.specs.Shape.{IsTree}
use Rattle.cw_tree.proofs.Lists.{any_from}
use Rattle.cw_tree.proofs.Members.{below_in, filter_in}
use Rattle.cw_tree.proofs.NodeKinds.{fork_no_strand}
use Rattle.cw_tree.proofs.Walks.Kin.{fork_child}
use Rattle.cw_trace.specs.Columns.{used}
use Rattle.cw_trace.specs.Stands.{fork_column}
use Rattle.cw_trace.specs.Running.{IsOrdered}
use Rattle.cw_open.specs.Machine.{OpenMachine, has_finished}
use Rattle.cw_open.specs.Open.{is_open, AreNested}
use Rattle.cw_open.proofs.Open.Standing.{pending_open}
use Rattle.cw_open.proofs.Open.Kinds.{unjoined_open, open_unjoined, open_kinds}
use Rattle.cw_hands.specs.Shared.{SharedMoment, has_columns, is_owed, is_open_yet}
use Rattle.cw_hands.specs.Laws.{OrderYet, OrderFollows}

module _ (s : SharedMoment) where
  abbrev m : OpenMachine
  m = s.machine

  abbrev t : List Node
  t = s.machine.tree

  pub at_wide : (n : ℕ) → has_columns s n ≡ true → is_open_yet s n ≡ not (has s.joins (fork_column s.machine.tree n))
  at_wide n e = ap (λ b. cond b (not (has s.joins (fork_column s.machine.tree n))) (is_open s.machine n)) e

  pub at_other : (n : ℕ) → has_columns s n ≡ false → is_open_yet s n ≡ is_open s.machine n
  at_other n e = ap (λ b. cond b (not (has s.joins (fork_column s.machine.tree n))) (is_open s.machine n)) e

  pub at_no_fork : (n : ℕ) → is_fork s.machine.tree n ≡ false → is_open_yet s n ≡ is_open s.machine n
  at_no_fork n e = at_other n (ap (λ b. b && nat_lt (fork_column s.machine.tree n + 1) (used s.columns)) e)

  pub wide_from : (f : ℕ) → is_fork s.machine.tree f ≡ true → fork_column s.machine.tree f + 1 < used s.columns → has_columns s f ≡ true
  wide_from f fork low = and_from (is_fork t f) (nat_lt (fork_column t f + 1) (used s.columns)) fork (lt-ltb (fork_column t f + 1) (used s.columns) low)

  pub wide_fork : (f : ℕ) → has_columns s f ≡ true → is_fork s.machine.tree f ≡ true
  wide_fork f e = (and_parts (is_fork t f) (nat_lt (fork_column t f + 1) (used s.columns)) e).0

  pub wide_low : (f : ℕ) → has_columns s f ≡ true → fork_column s.machine.tree f + 1 < used s.columns
  wide_low f e = ltb-true (fork_column t f + 1) (used s.columns) (and_parts (is_fork t f) (nat_lt (fork_column t f + 1) (used s.columns)) e).1

  -- what is open yet is open in the machine, except forks whose merge is owed
  pub yet : (n : ℕ) → is_open_yet s n ≡ true → (is_open s.machine n ≡ true) ⊎ (is_owed s n ≡ true)
  yet n e = elim (cases_Bool (has_columns s n)) [
    | inr off ↦ inl (sym (at_other n off) ∙ e)
    | inl on ↦ elim (cases_Bool (has m.joined n)) [
      | inl z ↦ inr (and_from (has_columns s n && has m.joined n) (not (has s.joins (fork_column t n))) (and_from (has_columns s n) (has m.joined n) on z) (sym (at_wide n on) ∙ e))
      | inr z ↦ inl (unjoined_open m n (wide_fork n on) z)
    ]
  ]

  pub later : (n k : ℕ) → 0 < k → n < k → k < length s.machine.tree → parent_of s.machine.tree n ≡ parent_of s.machine.tree k → has_later s.machine.tree n ≡ true
  later n k some less h same =
      any_from (λ j. nat_lt n j) k (children t (parent_of t n))
      (filter_in (λ j. nat_lt 0 j && nat_eq (parent_of t j) (parent_of t n)) k (all_nodes t) (below_in k (length t) h) (and_from (nat_lt 0 k) (nat_eq (parent_of t k) (parent_of t n)) (lt-ltb 0 k some) (eq-eqb (parent_of t k) (parent_of t n) (sym same))))
      (lt-ltb n k less)

  module _ (tree : IsTree s.machine.tree) (w : AreNested s.machine.tree (is_open s.machine)) (o : OrderYet s) where
    -- what is open in the machine is open yet
    still : (n : ℕ) → is_open m n ≡ true → is_open_yet s n ≡ true
    still n e = elim (cases_Bool (has_columns s n)) [
      | inr off ↦ at_other n off ∙ e
      | inl on ↦ at_wide n on ∙ not_from_false (has s.joins (fork_column t n)) (false_from_ne_true (has s.joins (fork_column t n)) (λ z. absurd (cc (o.joined n on z, open_unjoined m n (wide_fork n on) e))))
    ]

    -- the earlier of two children of a strand or block is open no more
    earlier : (n k : ℕ) → 0 < n → n < k → k < length t → parent_of t n ≡ parent_of t k → is_fork t (parent_of t n) ≡ false → is_open_yet s n ≡ false
    earlier n k some less h same nf = false_from_ne_true (is_open_yet s n) (λ e. elim (yet n e) [
      | inl z ↦ absurd (cc (z, w.last n k some less h same nf))
      | inr z ↦ absurd (cc ((o.owed n z).1, later n k (omega arith) less h same))
    ])

    one_open : (n k : ℕ) → 0 < n → 0 < k → n < length t → k < length t → is_open_yet s n ≡ true → is_open_yet s k ≡ true → parent_of t n ≡ parent_of t k → is_fork t (parent_of t n) ≡ false → n ≡ k
    one_open n k sn sk hn hk en ek same nf =
        elim (cases_lt n k) [
          | inl less ↦ absurd (cc (en, earlier n k sn less hk same nf))
          | inr le ↦ elim (cases_eq n k) [
            | inl e ↦ e
            | inr ne ↦ absurd (cc (ek, earlier k n sk (omega arith) hn (sym same) (ap (is_fork t) (sym same) ∙ nf)))
          ]
        ]

    owed_fork : (f : ℕ) → is_owed s f ≡ true → is_fork t f ≡ true
    owed_fork f e = wide_fork f (and_parts (has_columns s f) (has m.joined f) (and_parts (has_columns s f && has m.joined f) (not (has s.joins (fork_column t f))) e).0).0

    -- the strands of a fork are open yet where they are in the machine
    strand_open : (l : ℕ) → 0 < l → l < length t → is_fork t (parent_of t l) ≡ true → is_open_yet s l ≡ is_open m l
    strand_open l some h fork = at_no_fork l (false_from_ne_true (is_fork t l) (λ e. absurd (cc (fork_child t tree l some h fork, fork_no_strand t l e))))

    pub ordered : has_finished s.machine 0 ≡ false → IsOrdered s.columns s.machine.tree s.cuts s.joins (is_open_yet s)
    ordered runs = record {
      root = still 0 (or_left (is_strand t 0 && not (has_finished m 0) || is_fork t 0 && not (has m.joined 0)) (is_pending t 0)
          (or_left (is_strand t 0 && not (has_finished m 0)) (is_fork t 0 && not (has m.joined 0)) (and_from (is_strand t 0) (not (has_finished m 0)) tree.root (not_from_false (has_finished m 0) runs))));
      pending = λ b e. still b (pending_open m tree w b e);
      forks = λ f fork low e. at_wide f (wide_from f fork low) ∙ not_from_false (has s.joins (fork_column t f)) e;
      joined = λ f fork low e. not-true (has s.joins (fork_column t f)) (sym (at_wide f (wide_from f fork low)) ∙ e);
      kinds = λ n h e. elim (yet n e) [ inl z ↦ open_kinds m n z | inr z ↦ inr (inl (owed_fork n z)) ];
      outer = λ n some h e. elim (yet n e) [ inl z ↦ still (parent_of t n) (w.outer n some h z) | inr z ↦ still (parent_of t n) (o.owed n z).0 ];
      one = one_open;
      left_first = λ l r n some less h same fork unsplit hn over ne.
          strand_open l some (omega arith) (ap (is_fork t) same ∙ fork) ∙ o.left_first l r n some less h same fork unsplit hn over ne;
    }

pub order_follows : OrderFollows
order_follows s tree w runs o = ordered s tree w o runs
