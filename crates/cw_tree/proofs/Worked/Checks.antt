-- Claims on all nodes of a tree, by tests that compute.
use Rattle.std.proofs.Common.{◌≡◌, ℕ, zero, suc, ◌<◌, ◌^◌, List, [], ◌∷◌, length, map, refl, sym, arith, Bool, true, false, inl, inr, subst, nat_lt}
use Rattle.std.specs.Prelude.{◌&&◌, ◌||◌, not, IsTrue, ◌==◌, All}
use Rattle.std.specs.List.{list_any, filter}
use Rattle.std.proofs.lemmas.Bool.{and_parts, and_from, ltb-true, lt-ltb, eqb-true, eq-eqb, not-true, not_from_false}
use Rattle.cw_tree.specs.declared.node.Node.{Node}
use Rattle.cw_tree.specs.declared.conflict.Conflict.{Conflict}
use Rattle.cw_tree.specs.Nodes.{parent_of, stamp_of, end_of, is_strand, is_fork, is_block, is_pending, is_committed, is_aborted, is_tried}
use Rattle.cw_tree.specs.Walks.{path, is_above, IsNumbered}
use Rattle.cw_tree.specs.Series.{children, has_later, is_before, depth_first}
use Rattle.cw_tree.specs.Shape.{IsTree, AreStamps, PendingLast, has_stamp, is_closed}
use Rattle.cw_tree.specs.Refusals.{IsRecorded, AreRefusals, RollsBack, is_victim, names_victim}
use Rattle.cw_tree.proofs.Lists.{lt_or}

-- a test holds of each number below a bound
abbrev pub all_below : (ℕ → Bool) → ℕ → Bool
all_below p zero = true
all_below p (suc k) = p k && all_below p k

pub each_below : (p : ℕ → Bool) (k : ℕ) → all_below p k ≡ true → (n : ℕ) → n < k → p n ≡ true
each_below p zero e n h = absurd (omega arith)
each_below p (suc k) e n h =
    let z = and_parts (p k) (all_below p k) e in
    let P : ℕ → Type 0 = λ x. p x ≡ true in
    elim (lt_or n k h) [ inl q ↦ subst P (sym q) z.0 | inr l ↦ each_below p k z.1 n l ]

abbrev pub all_pairs : (ℕ → ℕ → Bool) → ℕ → Bool
all_pairs p k = all_below (λ n. all_below (p n) k) k

pub each_pair : (p : ℕ → ℕ → Bool) (k : ℕ) → all_pairs p k ≡ true → (n m : ℕ) → n < k → m < k → p n m ≡ true
each_pair p k e n m h g = each_below (p n) k (each_below (λ n. all_below (p n) k) k e n h) m g

abbrev pub implies : Bool → Bool → Bool
implies true b = b
implies false b = true

pub implied : (a b : Bool) → implies a b ≡ true → a ≡ true → b ≡ true
implied true b e h = e
implied false b e h = absurd (cc h)

abbrev pub same_test : Bool → Bool → Bool
same_test true b = b
same_test false b = not b

same_from : (a b : Bool) → same_test a b ≡ true → a ≡ b
same_from true b e = sym e
same_from false b e = sym (not-true b e)

pub differ : (a b : ℕ) → not (a == b) ≡ true → a ≡ b → ⊥
differ a b e q = absurd (cc (eq-eqb a b q, not-true (a == b) e))

pub both_less : (a b c d : ℕ) → (nat_lt a b && nat_lt c d) ≡ true → (a < b) × (c < d)
both_less a b c d e = let z = and_parts (nat_lt a b) (nat_lt c d) e in (ltb-true a b z.0, ltb-true c d z.1)

module _ (t : List Node) where
  abbrev pub two_strands : List ℕ → Bool
  two_strands (l ∷ r ∷ []) = is_strand t l && is_strand t r
  two_strands _ = false

  two : (ns : List ℕ) → two_strands ns ≡ true → (l r : ℕ) × (ns ≡ l ∷ r ∷ []) × (IsTrue (is_strand t l && is_strand t r))
  two (l ∷ r ∷ []) e = (l, r, refl, e)
  two _ e = absurd (cc e)

  -- ## The shape

  abbrev pub rooted_test : ℕ → Bool
  rooted_test n = implies (nat_lt 0 n) (nat_lt (parent_of t n) n)

  abbrev pub fork_test : ℕ → Bool
  fork_test f = implies (is_fork t f) (two_strands (children t f))

  abbrev pub strand_test : ℕ → Bool
  strand_test s = implies (nat_lt 0 s && is_strand t s) (is_fork t (parent_of t s))

  abbrev pub parent_test : ℕ → Bool
  parent_test n = implies (nat_lt 0 n) (is_strand t (parent_of t n) || is_fork t (parent_of t n) || is_block t (parent_of t n))

  abbrev each_node : (ℕ → Bool) → Type 0
  each_node p = all_below p (length t) ≡ true

  abbrev each_two : (ℕ → ℕ → Bool) → Type 0
  each_two p = all_pairs p (length t) ≡ true

  pub is_tree : 0 < length t → is_strand t 0 ≡ true → each_node rooted_test → each_node fork_test → each_node strand_test → each_node parent_test → IsTree t
  is_tree some root rooted forks strands parents = record {
    some = some;
    rooted = λ n p h. ltb-true (parent_of t n) n (implied _ _ (each_below rooted_test (length t) rooted n h) (lt-ltb 0 n p));
    root = root;
    forks = λ f h e. two (children t f) (implied _ _ (each_below fork_test (length t) forks f h) e);
    strands = λ s h p e. implied _ _ (each_below strand_test (length t) strands s h) (and_from _ _ (lt-ltb 0 s p) e);
    parents = λ n h p. implied _ _ (each_below parent_test (length t) parents n h) (lt-ltb 0 n p);
  }

  -- ## The stamps

  abbrev pub there_test : ℕ → Bool
  there_test n = same_test (nat_lt 0 (stamp_of t n)) (has_stamp t n)

  abbrev pub distinct_test : ℕ → ℕ → Bool
  distinct_test n m = implies (nat_lt 0 (stamp_of t n) && (stamp_of t n == stamp_of t m)) (n == m)

  abbrev pub ends_test : ℕ → ℕ → Bool
  ends_test n m = implies (nat_lt 0 (end_of t n) && (end_of t n == end_of t m)) (n == m)

  abbrev pub apart_test : ℕ → ℕ → Bool
  apart_test n m = implies (nat_lt 0 (end_of t n)) (not (end_of t n == stamp_of t m))

  abbrev pub series_test : ℕ → ℕ → Bool
  series_test n m = implies (is_before t n m && nat_lt 0 (stamp_of t m)) (nat_lt (stamp_of t n) (stamp_of t m) && nat_lt (end_of t n) (stamp_of t m))

  abbrev pub begun_test : ℕ → ℕ → Bool
  begun_test b m = implies ((is_block t b && is_above t b m) && nat_lt 0 (stamp_of t m)) (nat_lt (stamp_of t b) (stamp_of t m))

  abbrev pub ended_test : ℕ → Bool
  ended_test b = implies (is_closed t b) (nat_lt (stamp_of t b) (end_of t b))

  abbrev pub beneath_test : ℕ → ℕ → Bool
  beneath_test b m = implies (is_closed t b && is_above t b m) (nat_lt (stamp_of t m) (end_of t b) && nat_lt (end_of t m) (end_of t b))

  abbrev pub no_end_test : ℕ → Bool
  no_end_test n = implies (not (is_closed t n)) (end_of t n == 0)

  pub are_stamps : each_node there_test → each_two distinct_test → each_two ends_test → each_two apart_test → each_two series_test → each_two begun_test → each_node ended_test → each_two beneath_test → each_node no_end_test → AreStamps t
  are_stamps there distinct ends_distinct apart series begun ended beneath no_end = record {
    there = λ n h. same_from _ _ (each_below there_test (length t) there n h);
    distinct = λ n m h g p q. eqb-true n m (implied _ _ (each_pair distinct_test (length t) distinct n m h g) (and_from _ _ (lt-ltb 0 (stamp_of t n) p) (eq-eqb _ _ q)));
    ends_distinct = λ n m h g p q. eqb-true n m (implied _ _ (each_pair ends_test (length t) ends_distinct n m h g) (and_from _ _ (lt-ltb 0 (end_of t n) p) (eq-eqb _ _ q)));
    apart = λ n m h g p q. differ (end_of t n) (stamp_of t m) (implied _ _ (each_pair apart_test (length t) apart n m h g) (lt-ltb 0 (end_of t n) p)) q;
    series = λ n m h g f p. both_less _ _ _ _ (implied _ _ (each_pair series_test (length t) series n m h g) (and_from _ _ f (lt-ltb 0 (stamp_of t m) p)));
    begun = λ b m h g f p. ltb-true _ _ (implied _ _ (each_pair begun_test (length t) begun b m h g) (and_from _ _ f (lt-ltb 0 (stamp_of t m) p)));
    ended = λ b h f. ltb-true _ _ (implied _ _ (each_below ended_test (length t) ended b h) f);
    beneath = λ b m h g f. both_less _ _ _ _ (implied _ _ (each_pair beneath_test (length t) beneath b m h g) f);
    no_end = λ n h f. eqb-true (end_of t n) 0 (implied _ _ (each_below no_end_test (length t) no_end n h) (not_from_false _ f));
  }

  -- ## Pending blocks

  abbrev pub last_test : ℕ → ℕ → Bool
  last_test n m = implies (is_pending t n) (not (is_before t n m))

  abbrev pub around_test : ℕ → ℕ → Bool
  around_test b n = implies (is_pending t n && is_block t b && is_above t b n) (is_pending t b)

  pub pending_last : each_two last_test → each_two around_test → PendingLast t
  pending_last last around = record {
    last = λ n m h g f. not-true _ (implied _ _ (each_pair last_test (length t) last n m h g) f);
    around = λ b n h g f. implied _ _ (each_pair around_test (length t) around b n h g) f;
  }

  -- ## The moment of a refusal

  module _ (asker block last : ℕ) where
    abbrev pub before_test : ℕ → ℕ → Bool
    before_test n m = implies (is_before t n asker && is_before t block m && nat_lt 0 (stamp_of t m)) (nat_lt (stamp_of t n) (stamp_of t m) && nat_lt (end_of t n) (stamp_of t m))

    abbrev pub around_asker_test : ℕ → ℕ → Bool
    around_asker_test n m = implies ((is_block t n && is_above t n asker) && is_before t block m && nat_lt 0 (stamp_of t m)) (nat_lt (stamp_of t n) (stamp_of t m))

    abbrev pub after_test : ℕ → Bool
    after_test m = implies (is_before t asker m && nat_lt 0 (stamp_of t m)) (nat_lt last (stamp_of t m))

    pub before_after : each_two before_test → (n m : ℕ) → n < length t → m < length t → IsTrue (is_before t n asker) → IsTrue (is_before t block m) → 0 < stamp_of t m → (stamp_of t n < stamp_of t m) × (end_of t n < stamp_of t m)
    before_after e n m h g f q p = both_less _ _ _ _ (implied _ _ (each_pair before_test (length t) e n m h g) (and_from _ _ (and_from _ _ f q) (lt-ltb 0 (stamp_of t m) p)))

    pub begun_after : each_two around_asker_test → (n m : ℕ) → n < length t → m < length t → IsTrue (is_block t n && is_above t n asker) → IsTrue (is_before t block m) → 0 < stamp_of t m → stamp_of t n < stamp_of t m
    begun_after e n m h g f q p = ltb-true _ _ (implied _ _ (each_pair around_asker_test (length t) e n m h g) (and_from _ _ (and_from _ _ f q) (lt-ltb 0 (stamp_of t m) p)))

    pub last_after : each_node after_test → (m : ℕ) → m < length t → IsTrue (is_before t asker m) → 0 < stamp_of t m → last < stamp_of t m
    last_after e m h f p = ltb-true _ _ (implied _ _ (each_below after_test (length t) e m h) (and_from _ _ f (lt-ltb 0 (stamp_of t m) p)))

  -- ## Conflicts and rolled-back blocks

  module _ (cs : List Conflict) where
    abbrev pub aborted_test : ℕ → Bool
    aborted_test b = implies (is_aborted t b) (list_any (is_victim t cs) (path t b))

    abbrev pub committed_test : ℕ → Bool
    committed_test b = implies (is_committed t b) (not (is_victim t cs b))

    pub are_refusals : map (λ c. c.asker) cs ≡ filter (is_tried t) (depth_first t) → All (IsRecorded t) cs → each_node aborted_test → each_node committed_test → AreRefusals t cs
    are_refusals each recorded aborted committed = record {
      each = each;
      recorded = recorded;
      aborted = λ b h e. implied _ _ (each_below aborted_test (length t) aborted b h) e;
      committed = λ b h e. not-true _ (implied _ _ (each_below committed_test (length t) committed b h) e);
    }

    abbrev pub tried_test : ℕ → Bool
    tried_test n = implies (names_victim cs n) (not (has_later t n))

    abbrev pub beneath_victim_test : ℕ → Bool
    beneath_victim_test n = implies (is_aborted t n && not (is_victim t cs n)) (not (has_later t n))

    pub rolls_back : each_node tried_test → each_node beneath_victim_test → RollsBack t cs
    rolls_back tried aborted = record {
      tried = λ n h e. not-true _ (implied _ _ (each_below tried_test (length t) tried n h) e);
      aborted = λ n h e. not-true _ (implied _ _ (each_below beneath_victim_test (length t) aborted n h) e);
    }

-- what holds of the one member holds of all
pub all_one : {X : Type 0} (P : X → Type 0) (x : X) → P x → All P (x ∷ [])
all_one P x p zero d h = p
all_one P x p (suc k) d h = absurd (omega arith)

-- a tree is numbered where the tests tell so
pub is_numbered : (t : List Node) → is_strand t 0 ≡ true → all_below (rooted_test t) (length t) ≡ true → length t < 2 ^ 32 → IsNumbered t
is_numbered t root rooted few = record {
  root = root;
  rooted = λ n p h. ltb-true (parent_of t n) n (implied _ _ (each_below (rooted_test t) (length t) rooted n h) (lt-ltb 0 n p));
  few = few;
}
