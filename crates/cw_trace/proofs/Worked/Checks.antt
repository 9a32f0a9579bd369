-- Claims on the open nodes of a tree, by tests that compute.
use Rattle.std.proofs.Common.{◌≡◌, ℕ, ◌+◌, ◌<◌, ◌≤◌, List, length, arith, Bool, true, false, inl, inr, nat_lt, nat_eq}
use Rattle.std.specs.Prelude.{◌⊎◌, ◌||◌, not, nat_le}
use Rattle.std.proofs.lemmas.Bool.{ltb-true, lt-ltb, eqb-true, eq-eqb, leb-true, not-true, not_from_false, or_left, or_right, or_cases, cases_Bool}
use Rattle.cw_tree.specs.declared.node.Node.{Node}
use Rattle.cw_tree.specs.Nodes.{parent_of, stamp_of, is_fork, is_strand, is_pending}
use Rattle.cw_tree.specs.Walks.{is_ancestor, has}
use Rattle.cw_tree.specs.Shape.{IsTree}
use Rattle.cw_tree.proofs.Walks.There.{pending_there, fork_there}
use Rattle.cw_tree.proofs.Worked.Checks.{all_below, each_below, all_pairs, each_pair, implies, implied}
use Rattle.cw_trace.specs.Columns.{ColumnTable, used, owner}
use Rattle.cw_trace.specs.Stands.{column, fork_column}
use Rattle.cw_trace.specs.Running.{IsUnsplit, IsOrdered, MayGoOn}
use Rattle.cw_trace.specs.Runs.{Place}
use Rattle.cw_trace.specs.Hands.{IsInnermost}

module _ (c : ColumnTable) (t : List Node) (cuts joins : List ℕ) (is_open : ℕ → Bool) where
  abbrev pub each_node : (ℕ → Bool) → Type 0
  each_node p = all_below p (length t) ≡ true

  abbrev pub each_two : (ℕ → ℕ → Bool) → Type 0
  each_two p = all_pairs p (length t) ≡ true

  abbrev pub has_columns : ℕ → Bool
  has_columns f = nat_lt (fork_column t f + 1) (used c)

  abbrev pub unsplit_test : ℕ → Bool
  unsplit_test f = nat_lt (used c) (fork_column t f + 2) || not (has cuts (fork_column t f))

  unsplit_is : (f : ℕ) → IsUnsplit c t cuts f → unsplit_test f ≡ true
  unsplit_is f (inl l) = or_left _ _ (lt-ltb (used c) (fork_column t f + 2) l)
  unsplit_is f (inr e) = or_right _ _ (not_from_false _ e)

  abbrev pub pending_test : ℕ → Bool
  pending_test b = implies (is_pending t b) (is_open b)

  abbrev pub fork_test : ℕ → Bool
  fork_test f = implies (is_fork t f) (implies (has_columns f) (has joins (fork_column t f) || is_open f))

  abbrev pub joined_test : ℕ → Bool
  joined_test f = implies (is_fork t f) (implies (has_columns f) (implies (is_open f) (not (has joins (fork_column t f)))))

  abbrev pub kind_test : ℕ → Bool
  kind_test n = implies (is_open n) (is_strand t n || (is_fork t n || is_pending t n))

  abbrev pub outer_test : ℕ → Bool
  outer_test n = implies (nat_lt 0 n) (implies (is_open n) (is_open (parent_of t n)))

  abbrev pub one_test : ℕ → ℕ → Bool
  one_test n m =
      implies (nat_lt 0 n) (implies (nat_lt 0 m) (implies (is_open n) (implies (is_open m) (implies (nat_eq (parent_of t n) (parent_of t m)) (implies (not (is_fork t (parent_of t n))) (nat_eq n m))))))

  abbrev pub left_test : ℕ → ℕ → Bool
  left_test l r =
      implies (nat_lt 0 l) (implies (nat_lt l r) (implies (nat_eq (parent_of t l) (parent_of t r)) (implies (is_fork t (parent_of t r)) (implies (unsplit_test (parent_of t r)) (implies (is_open l) (all_below (λ n. implies (is_ancestor t r n) (nat_eq n r)) (length t)))))))

  both_kinds : (n : ℕ) → (is_strand t n || (is_fork t n || is_pending t n)) ≡ true → (is_strand t n ≡ true) ⊎ ((is_fork t n ≡ true) ⊎ (is_pending t n ≡ true))
  both_kinds n e = elim (or_cases (is_strand t n) (is_fork t n || is_pending t n) e) [ inl z ↦ inl z | inr z ↦ inr (or_cases (is_fork t n) (is_pending t n) z) ]

  -- the left strand of an unsplit fork beneath whose right one there is something is not open
  left_is : each_two left_test → (l r n : ℕ) → 0 < l → l < r → r < length t → l < length t → parent_of t l ≡ parent_of t r → is_fork t (parent_of t r) ≡ true → IsUnsplit c t cuts (parent_of t r) → n < length t → is_ancestor t r n ≡ true → (n ≡ r → ⊥) → is_open l ≡ false
  left_is e l r n p q h g same f u hn a ne = elim (cases_Bool (is_open l)) [
    | inr z ↦ z
    | inl z ↦ (
        let all = implied _ _ (implied _ _ (implied _ _ (implied _ _ (implied _ _ (implied _ _ (each_pair left_test (length t) e l r g h) (lt-ltb 0 l p)) (lt-ltb l r q)) (eq-eqb _ _ same)) f) (unsplit_is (parent_of t r) u)) z in
        absurd (ne (eqb-true n r (implied _ _ (each_below (λ n. implies (is_ancestor t r n) (nat_eq n r)) (length t) all n hn) a))))
  ]

  pub ordered : is_open 0 ≡ true → each_node pending_test → each_node fork_test → each_node joined_test → each_node kind_test → each_node outer_test → each_two one_test → each_two left_test → IsOrdered c t cuts joins is_open
  ordered root pend forks joined kinds outer one left = record {
    root = root;
    pending = λ b e. implied _ _ (each_below pending_test (length t) pend b (pending_there t b e)) e;
    forks = λ f e h un. elim (or_cases (has joins (fork_column t f)) (is_open f) (implied _ _ (implied _ _ (each_below fork_test (length t) forks f (fork_there t f e)) e) (lt-ltb _ _ h))) [ inl z ↦ absurd (cc (z, un)) | inr z ↦ z ];
    joined = λ f e h op. not-true _ (implied _ _ (implied _ _ (implied _ _ (each_below joined_test (length t) joined f (fork_there t f e)) e) (lt-ltb _ _ h)) op);
    kinds = λ n h e. both_kinds n (implied _ _ (each_below kind_test (length t) kinds n h) e);
    outer = λ n p h e. implied _ _ (implied _ _ (each_below outer_test (length t) outer n h) (lt-ltb 0 n p)) e;
    one = λ n m p q h g e f same nf. eqb-true n m (implied _ _ (implied _ _ (implied _ _ (implied _ _ (implied _ _ (implied _ _ (each_pair one_test (length t) one n m h g) (lt-ltb 0 n p)) (lt-ltb 0 m q)) e) f) (eq-eqb _ _ same)) (not_from_false _ nf));
    left_first = λ l r n p q h same f u hn a ne. left_is left l r n p q h (omega arith) same f u hn a ne;
  }

  module _ (p : ℕ) where
    abbrev pub innermost_test : ℕ → Bool
    innermost_test n = implies (nat_lt 0 n) (implies (nat_eq (parent_of t n) p) (not (is_open n)))

    abbrev pub done_test : ℕ → Bool
    done_test l = implies (nat_lt 0 l) (implies (nat_eq (parent_of t l) (parent_of t p)) (implies (is_fork t (parent_of t p)) (implies (unsplit_test (parent_of t p)) (not (is_open l)))))

    pub innermost : nat_lt p (length t) ≡ true → is_open p ≡ true → is_fork t p ≡ false → each_node innermost_test → IsInnermost t is_open p
    innermost there opened no_fork inner = record {
      there = ltb-true p (length t) there;
      opened = opened;
      no_fork = no_fork;
      innermost = λ n q h e f. cc (f, not-true _ (implied _ _ (implied _ _ (each_below innermost_test (length t) inner n h) (lt-ltb 0 n q)) (eq-eqb _ _ e)));
    }

    pub goes : IsInnermost t is_open p → all_below done_test p ≡ true → MayGoOn c t cuts is_open p
    goes i done = record {
      there = i.there;
      opened = i.opened;
      no_fork = i.no_fork;
      innermost = i.innermost;
      left_done = λ l q h e f u. not-true _ (implied _ _ (implied _ _ (implied _ _ (implied _ _ (each_below done_test p done l h) (lt-ltb 0 l q)) (eq-eqb _ _ e)) f) (unsplit_is (parent_of t p) u));
    }

    abbrev pub begun_test : ℕ → Bool
    begun_test b = implies (is_pending t b) (nat_lt 0 (stamp_of t b))

    pub place : IsTree t → IsOrdered c t cuts joins is_open → MayGoOn c t cuts is_open p → each_node begun_test → Place c t cuts joins p
    place tree order may begun = record {
      tree = tree;
      is_open = is_open;
      ordered = order;
      goes = may;
      stamps = λ b e. ltb-true 0 _ (implied _ _ (each_below begun_test (length t) begun b (pending_there t b e)) e);
    }

    abbrev pub newest_test : ℕ → ℕ → Bool
    newest_test stamp m = implies (nat_eq (owner c (column t (used c) m)) (owner c (column t (used c) p))) (nat_le (stamp_of t m) stamp)

    pub newest : (stamp : ℕ) → each_node (newest_test stamp) → (m : ℕ) → m < length t → owner c (column t (used c) m) ≡ owner c (column t (used c) p) → stamp_of t m ≤ stamp
    newest stamp e m h same = leb-true _ _ (implied _ _ (each_below (newest_test stamp) (length t) e m h) (eq-eqb _ _ same))
