-- The small run, step by step, and what holds of its states.
use Rattle.std.proofs.Common.{◌≡◌, ℕ, zero, suc, ◌≤◌, List, [], ◌∷◌, length, refl, arith, Bool, true, nat_lt, nat_eq, pos}
use Rattle.std.specs.Prelude.{not, slice_index}
use Rattle.std.proofs.lemmas.Bool.{ltb-true, lt-ltb, eq-eqb, not-true}
use Rattle.cw_tree.specs.declared.node.Node.{Node}
use Rattle.cw_tree.specs.declared.node.Kind.TheVariants.{Strand, Write}
use Rattle.cw_tree.specs.Nodes.{parent_of, is_fork}
use Rattle.cw_tree.specs.Names.{is_right}
use Rattle.cw_tree.specs.Shape.{IsTree}
use Rattle.cw_tree.specs.Worked.{plain}
use Rattle.cw_tree.proofs.Worked.Checks.{all_below, each_below, implies, implied, is_tree, are_stamps}
use Rattle.cw_trace.specs.Columns.{first_tier, forked, merged}
use Rattle.cw_trace.specs.Stands.{fork_column}
use Rattle.cw_trace.specs.Running.{IsOrdered, MayGoOn, IsUnstarted}
use Rattle.cw_trace.specs.Runs.{ReachedTier, start, fork, split, leaf, begin}
use Rattle.cw_trace.specs.Hands.{StandsInOrder, IsInnermost}
use Rattle.cw_trace.specs.Worked.{open_below, no_words, one_fork, forked_once, Unready, stolen_once, TwoHands, in_block, two_forks, accessed, begun_since, stolen_twice, at_access, since_then, open_since, TwoLoads, DrawnEarly}
use Rattle.cw_trace.proofs.Keeps.WholeRuns.{each_run_stands}
use Rattle.cw_trace.proofs.Worked.Checks.{ordered, innermost, goes, place, newest}

-- nothing stands beneath the right strand of a fork
pub unstarted : (t : List Node) (f r : ℕ) → is_fork t f ≡ true → nat_lt 0 r ≡ true → nat_lt r (length t) ≡ true → parent_of t r ≡ f → is_right t r ≡ true → all_below (λ m. implies (nat_lt 0 m) (not (nat_eq (parent_of t m) r))) (length t) ≡ true → IsUnstarted t [] (fork_column t f)
unstarted t f r is some low child side nothing = record {
  fork = f;
  is = is;
  at = refl;
  unjoined = refl;
  right = r;
  some = ltb-true 0 r some;
  low = ltb-true r (length t) low;
  child = child;
  side = side;
  nothing = λ m p h e. cc (eq-eqb (parent_of t m) r e, not-true _ (implied _ _ (each_below (λ m. implies (nat_lt 0 m) (not (nat_eq (parent_of t m) r))) (length t) nothing m h) (lt-ltb 0 m p)));
}

pub zeros : (g : ℕ) → slice_index no_words g ≡ 0
zeros zero = refl
zeros (suc zero) = refl
zeros (suc (suc zero)) = refl
zeros (suc (suc (suc zero))) = refl
zeros (suc (suc (suc (suc zero)))) = refl
zeros (suc (suc (suc (suc (suc g))))) = refl

-- ## Main alone

abbrev root : List Node
root = plain 0 Strand 0 ∷ []

run_root : ReachedTier (first_tier 5) no_words root [] []
run_root = start 5 no_words (omega arith) (omega arith) zeros

tree_root : IsTree root
tree_root = is_tree root (omega arith) refl refl refl refl refl

order_root : IsOrdered (first_tier 5) root [] [] (open_below 1)
order_root = ordered (first_tier 5) root [] [] (open_below 1) refl refl refl refl refl refl refl refl

-- ## It forks

run_fork : ReachedTier forked_once no_words one_fork [] []
run_fork = fork (first_tier 5) no_words root [] [] 0 1 run_root (place (first_tier 5) root [] [] (open_below 1) 0 tree_root order_root (goes (first_tier 5) root [] [] (open_below 1) 0 (innermost (first_tier 5) root [] [] (open_below 1) 0 refl refl refl refl) refl) refl) (omega arith)

tree_fork : IsTree one_fork
tree_fork = is_tree one_fork (omega arith) refl refl refl refl refl

order_fork : IsOrdered forked_once one_fork [] [] (open_below 4)
order_fork = ordered forked_once one_fork [] [] (open_below 4) refl refl refl refl refl refl refl refl

stands_fork : StandsInOrder forked_once no_words one_fork [] [] (open_below 4)
stands_fork = record { tree = tree_fork; keeps = each_run_stands _ _ _ _ _ run_fork; ordered = order_fork }

left_fork : IsInnermost one_fork (open_below 4) 2
left_fork = innermost forked_once one_fork [] [] (open_below 4) 2 refl refl refl refl

right_fork : IsInnermost one_fork (open_below 4) 3
right_fork = innermost forked_once one_fork [] [] (open_below 4) 3 refl refl refl refl

pub unready : Unready
unready = record {
  stands = stands_fork;
  left = goes forked_once one_fork [] [] (open_below 4) 2 left_fork refl;
  right = right_fork;
  one_trace = refl;
  one_gap = refl;
  differ = λ d. (d forked_once no_words one_fork [] [] (open_below 4) 2 3 stands_fork left_fork right_fork (λ e. cc e)).0 refl;
}

-- ## Its right strand is stolen

run_stolen : ReachedTier stolen_once no_words one_fork (1 ∷ []) []
run_stolen = split forked_once no_words one_fork [] [] 1 run_fork tree_fork (omega arith) refl refl refl (unstarted one_fork 1 3 refl refl refl refl refl refl)

order_stolen : IsOrdered stolen_once one_fork (1 ∷ []) [] (open_below 4)
order_stolen = ordered stolen_once one_fork (1 ∷ []) [] (open_below 4) refl refl refl refl refl refl refl refl

left_stolen : MayGoOn stolen_once one_fork (1 ∷ []) (open_below 4) 2
left_stolen = goes stolen_once one_fork (1 ∷ []) [] (open_below 4) 2 left_fork refl

pub two_hands : TwoHands
two_hands = record {
  stands = record { tree = tree_fork; keeps = each_run_stands _ _ _ _ _ run_stolen; ordered = order_stolen };
  left = left_stolen;
  right = goes stolen_once one_fork (1 ∷ []) [] (open_below 4) 3 right_fork refl;
  traces = (refl, refl);
  gaps = (refl, refl);
}

-- ## The left strand begins a block

run_block : ReachedTier stolen_once at_access in_block (1 ∷ []) []
run_block = begin stolen_once no_words one_fork (1 ∷ []) [] 2 2 run_stolen (place stolen_once one_fork (1 ∷ []) [] (open_below 4) 2 tree_fork order_stolen left_stolen refl) (omega arith) (newest stolen_once one_fork (1 ∷ []) [] (open_below 4) 2 2 refl)

order_block : IsOrdered stolen_once in_block (1 ∷ []) [] (open_below 5)
order_block = ordered stolen_once in_block (1 ∷ []) [] (open_below 5) refl refl refl refl refl refl refl refl

-- ## It forks there

run_forks : ReachedTier (forked 2 1 stolen_once) at_access two_forks (1 ∷ []) []
run_forks = fork stolen_once at_access in_block (1 ∷ []) [] 4 3 run_block (place stolen_once in_block (1 ∷ []) [] (open_below 5) 4 (is_tree in_block (omega arith) refl refl refl refl refl) order_block (goes stolen_once in_block (1 ∷ []) [] (open_below 5) 4 (innermost stolen_once in_block (1 ∷ []) [] (open_below 5) 4 refl refl refl refl) refl) refl) (omega arith)

tree_forks : IsTree two_forks
tree_forks = is_tree two_forks (omega arith) refl refl refl refl refl

-- ## That fork's right strand is stolen, and the left one accesses a cell

run_stolen_twice : ReachedTier stolen_twice at_access two_forks (3 ∷ 1 ∷ []) []
run_stolen_twice = split (forked 2 1 stolen_once) at_access two_forks (1 ∷ []) [] 3 run_forks tree_forks (omega arith) refl refl refl (unstarted two_forks 5 7 refl refl refl refl refl refl)

order_forks : IsOrdered stolen_twice two_forks (3 ∷ 1 ∷ []) [] (open_below 8)
order_forks = ordered stolen_twice two_forks (3 ∷ 1 ∷ []) [] (open_below 8) refl refl refl refl refl refl refl refl

run_access : ReachedTier stolen_twice at_access accessed (3 ∷ 1 ∷ []) []
run_access = leaf stolen_twice at_access two_forks (3 ∷ 1 ∷ []) [] (plain 6 (Write 0 (pos 1)) 4) run_stolen_twice (place stolen_twice two_forks (3 ∷ 1 ∷ []) [] (open_below 8) 6 tree_forks order_forks (goes stolen_twice two_forks (3 ∷ 1 ∷ []) [] (open_below 8) 6 (innermost stolen_twice two_forks (3 ∷ 1 ∷ []) [] (open_below 8) 6 refl refl refl refl) refl) refl) refl refl refl

tree_access : IsTree accessed
tree_access = is_tree accessed (omega arith) refl refl refl refl refl

order_access : IsOrdered stolen_twice accessed (3 ∷ 1 ∷ []) [] (open_below 8)
order_access = ordered stolen_twice accessed (3 ∷ 1 ∷ []) [] (open_below 8) refl refl refl refl refl refl refl refl

-- ## It begins a block

run_since : ReachedTier stolen_twice since_then begun_since (3 ∷ 1 ∷ []) []
run_since = begin stolen_twice at_access accessed (3 ∷ 1 ∷ []) [] 6 6 run_access (place stolen_twice accessed (3 ∷ 1 ∷ []) [] (open_below 8) 6 tree_access order_access (goes stolen_twice accessed (3 ∷ 1 ∷ []) [] (open_below 8) 6 (innermost stolen_twice accessed (3 ∷ 1 ∷ []) [] (open_below 8) 6 refl refl refl refl) refl) refl) (omega arith) (newest stolen_twice accessed (3 ∷ 1 ∷ []) [] (open_below 8) 6 6 refl)

pub two_loads : TwoLoads
two_loads = record {
  first = record { tree = tree_access; keeps = each_run_stands _ _ _ _ _ run_access; ordered = order_access };
  second = record { tree = is_tree begun_since (omega arith) refl refl refl refl refl; keeps = each_run_stands _ _ _ _ _ run_since; ordered = ordered stolen_twice begun_since (3 ∷ 1 ∷ []) [] open_since refl refl refl refl refl refl refl refl };
  stamps = are_stamps begun_since refl refl refl refl refl refl refl refl refl;
  asker = goes stolen_twice begun_since (3 ∷ 1 ∷ []) [] open_since 3 (innermost stolen_twice begun_since (3 ∷ 1 ∷ []) [] open_since 3 refl refl refl refl) refl;
  access = refl;
  around = refl;
  outside = refl;
  loads = refl;
  verdict = refl;
}

pub drawn_early : DrawnEarly
drawn_early = record {
  drawn = newest stolen_twice accessed (3 ∷ 1 ∷ []) [] (open_below 8) 3 5 refl;
  still = newest stolen_twice begun_since (3 ∷ 1 ∷ []) [] open_since 3 5 refl;
  not_there = λ l. (let le : 6 ≤ 5 = l 9 (omega arith) refl in omega arith);
  finished = record { tree = tree_access; keeps = each_run_stands _ _ _ _ _ run_access; ordered = ordered stolen_twice accessed (3 ∷ 1 ∷ []) [] (open_below 6) refl refl refl refl refl refl refl refl };
  goes_on = goes stolen_twice accessed (3 ∷ 1 ∷ []) [] (open_below 6) 3 (innermost stolen_twice accessed (3 ∷ 1 ∷ []) [] (open_below 6) 3 refl refl refl refl) refl;
  done = record {
    fork = 5;
    is = refl;
    at = refl;
    done = λ s p h e. (
        let test : ℕ → Bool = λ s. implies (nat_eq (parent_of accessed s) 5) (not (open_below 6 s)) in
        let all : all_below test 9 ≡ true = refl in
        not-true _ (implied _ _ (each_below test 9 all s h) (eq-eqb (parent_of accessed s) 5 e)));
  };
  merged = newest (merged 3 stolen_twice) accessed (3 ∷ 1 ∷ []) (3 ∷ []) (open_below 6) 3 5 refl;
}
