-- A small tree and its logs.
use Rattle.std.proofs.Common.{◌≡◌, ℕ, zero, suc, ◌+◌, ◌<◌, ◌≤◌, List, [], ◌∷◌, length, map, get_or, refl, ap, sym, ◌∙◌, subst, arith, true, false, cond, Option, Some, None, inl, inr, nat_eq, nat_lt, nat_le, ℤ, pos, negsuc, lit<}
use Rattle.std.specs.Prelude.{Contains, count_by, slice_get, slice_index}
use Rattle.std.specs.List.{list_any, list_all}
use Rattle.std.specs.List.Sorted.{IsStrictlyIncreasing}
use Rattle.std.proofs.lemmas.Bool.{and_parts, cases_lt, eqb-true, eq-eqb, ltb-true, leb-true, ne_eqb}
use Rattle.std.proofs.lemmas.List.{get_or_default}
use Rattle.std.proofs.lemmas.List.Elements.{All-nil, All-cons}
use Rattle.std.proofs.lemmas.List.Sums.{sum_by-cons}
use Rattle.std.proofs.lemmas.Option.{same_Some}
use Rattle.cw_code.specs.declared.Back.{Back}
use Rattle.cw_tree.specs.declared.node.Node.{Node}
use Rattle.cw_tree.specs.declared.node.Kind.{Kind}
use Rattle.cw_tree.specs.declared.node.Kind.TheVariants.{Cancel}
use Rattle.cw_tree.specs.declared.conflict.Conflict.{Conflict}
use Rattle.cw_tree.specs.Nodes.{is_tried_kind, is_tried}
use Rattle.cw_tree.specs.InOrder.{asker_of}
use Rattle.cw_tree.proofs.Lists.{In, any_in, any_from}
use Rattle.cw_tree.proofs.Members.{in_at}
use Rattle.cw_tree.proofs.Walks.There.{node_there}
use Rattle.cw_tree.proofs.Worked.Checks.{all_below, each_below, implies, implied, is_tree, are_stamps, pending_last, is_numbered}
use Rattle.cw_course.specs.TreeLogs.{in_a_row, IsNodeOf, IsLogOf, AreLogsOf}
use Rattle.cw_course.specs.WorkedTreeLogs.{made_in_time, refused_as, log_of_main, log_inside, log_at_right, logs_with, numbers_of_main, numbers_in_time, WorkedTreeLogs}

-- ## Claims on lists, by tests that compute

-- each element with its place
abbrev Each : (ℕ → Node → Type 0) → List Node → Type 0
Each P [] = Unit {0}
Each P (x ∷ xs) = P 0 x × Each (λ i. P (suc i)) xs

each_at : (P : ℕ → Node → Type 0) (xs : List Node) → Each P xs → (i : ℕ) (x : Node) → slice_get xs i ≡ Some x → P i x
each_at P [] h i x e = absurd (cc e)
each_at P (y ∷ xs) h zero x e = subst (P 0) (same_Some y x e) h.0
each_at P (y ∷ xs) h (suc i) x e = each_at (λ j. P (suc j)) xs h.1 i x e

increasing : (xs : List ℕ) (n : ℕ) → length xs ≡ n + 1 → all_below (λ k. nat_lt (slice_index xs k) (slice_index xs (k + 1))) n ≡ true → IsStrictlyIncreasing xs
increasing xs n long e k h = ltb-true (slice_index xs k) (slice_index xs (k + 1)) (each_below (λ k. nat_lt (slice_index xs k) (slice_index xs (k + 1))) n e k (omega arith))

abbrev times : ℕ → List ℕ → ℕ
times n xs = count_by (λ m. nat_eq m n) xs

times_high : (n k : ℕ) (xs : List ℕ) → list_all (λ m. nat_lt m k) xs ≡ true → k ≤ n → times n xs ≡ 0
times_high n k [] e h = refl
times_high n k (x ∷ xs) e h =
    let z = and_parts (nat_lt x k) (list_all (λ m. nat_lt m k) xs) e in
    let low : x < k = ltb-true x k z.0 in
    let ne : nat_eq x n ≡ false = ne_eqb x n (λ q. omega arith) in
    sum_by-cons (λ m. cond (nat_eq m n) 1 0) x xs ∙ ap {B = ℕ} (λ b. cond b 1 0 + times n xs) ne ∙ omega (arith, times_high n k xs z.1 h)

once_each : (xs : List ℕ) (k : ℕ) → list_all (λ m. nat_lt m k) xs ≡ true → all_below (λ n. nat_le (times n xs) 1) k ≡ true → (n : ℕ) → times n xs ≤ 1
once_each xs k low e n = elim (cases_lt n k) [
  | inl l ↦ leb-true (times n xs) 1 (each_below (λ n. nat_le (times n xs) 1) k e n l)
  | inr h ↦ omega (arith, times_high n k xs low h)
]

all_there : (xs : List ℕ) (k : ℕ) → all_below (λ n. list_any (nat_eq n) xs) k ≡ true → (n : ℕ) → n < k → Contains xs n
all_there xs k e n h =
    let z = any_in (nat_eq n) xs (each_below (λ n. list_any (nat_eq n) xs) k e n h) in
    let y = in_at z.0 xs z.1 in
    (y.0, y.1, get_or_default xs y.0 n 0 y.1 ∙ y.2 ∙ sym (eqb-true n z.0 z.2))

at_in : (xs : List ℕ) (k d : ℕ) → k < length xs → In (get_or xs k d) xs
at_in [] k d h = absurd (omega arith)
at_in (x ∷ xs) zero d h = inl refl
at_in (x ∷ xs) (suc k) d h = inr (at_in xs k d (omega arith))

missing : (xs : List ℕ) (n : ℕ) → list_any (nat_eq n) xs ≡ false → Contains xs n → ⊥
missing xs n e c = let P : ℕ → Type 0 = λ m. In m xs in cc (any_from (nat_eq n) n xs (subst P c.2 (at_in xs c.0 n c.1)) (eq-eqb n n refl), e)

less : (a b : ℕ) → a < b → a ≡ b → ⊥
less a b h e = omega arith

more : (a b : ℕ) → a < b → b ≡ a → ⊥
more a b h e = omega arith

-- ## One log

no_askers : (xs : List Node) (k : ℕ) → length xs ≡ k → all_below (λ i. implies (is_tried xs i) false) k ≡ true → (i : ℕ) → is_tried xs i ≡ true → Contains (map asker_of []) i
no_askers xs k long e i h =
    absurd (cc (implied (is_tried xs i) false (each_below (λ i. implies (is_tried xs i) false) k e i (let l = node_there (λ x. is_tried_kind x.kind) xs i h in omega arith)) h))

main_is : IsLogOf made_in_time (refused_as 10 ∷ []) (log_of_main 0) numbers_of_main
main_is = record {
  many = refl;
  some = lit< tt;
  nodes = each_at (IsNodeOf made_in_time numbers_of_main) (log_of_main 0).nodes
      (refl, ((lit< tt, refl), ((lit< tt, refl), ((lit< tt, refl), ((lit< tt, refl), ((lit< tt, refl), ((lit< tt, refl), ((lit< tt, refl), tt))))))));
  rise = increasing numbers_of_main 7 refl refl;
  conflicts = All-nil (λ (c : Conflict). Contains (refused_as 10 ∷ []) (record c { asker = slice_index numbers_of_main c.asker }));
  there = All-nil (λ (c : Conflict). c.asker < 8);
  askers = λ k h. absurd (omega arith);
  tried = no_askers (log_of_main 0).nodes 8 refl refl;
}

inside_is : IsLogOf made_in_time (refused_as 10 ∷ []) log_inside (6 ∷ 12 ∷ [])
inside_is = record {
  many = refl;
  some = lit< tt;
  nodes = each_at (IsNodeOf made_in_time (6 ∷ 12 ∷ [])) log_inside.nodes (refl, ((lit< tt, refl), tt));
  rise = increasing (6 ∷ 12 ∷ []) 1 refl refl;
  conflicts = All-nil (λ (c : Conflict). Contains (refused_as 10 ∷ []) (record c { asker = slice_index (6 ∷ 12 ∷ []) c.asker }));
  there = All-nil (λ (c : Conflict). c.asker < 2);
  askers = λ k h. absurd (omega arith);
  tried = no_askers log_inside.nodes 2 refl refl;
}

abbrev right_nodes : List Node
right_nodes = (log_at_right 1 []).nodes

one_asker : (i : ℕ) → is_tried right_nodes i ≡ true → Contains (2 ∷ []) i
one_asker i h =
    let low : i < 3 = node_there (λ x. is_tried_kind x.kind) right_nodes i h in
    (0, lit< tt, sym (eqb-true i 2 (implied (is_tried right_nodes i) (nat_eq i 2) (each_below (λ i. implies (is_tried right_nodes i) (nat_eq i 2)) 3 refl i low) h)))

right_is : IsLogOf made_in_time (refused_as 10 ∷ []) (log_at_right 1 (refused_as 2 ∷ [])) (3 ∷ 7 ∷ 10 ∷ [])
right_is = record {
  many = refl;
  some = lit< tt;
  nodes = each_at (IsNodeOf made_in_time (3 ∷ 7 ∷ 10 ∷ [])) right_nodes (refl, ((lit< tt, refl), ((lit< tt, refl), tt)));
  rise = increasing (3 ∷ 7 ∷ 10 ∷ []) 2 refl refl;
  conflicts = (
      let P : Conflict → Type 0 = λ c. Contains (refused_as 10 ∷ []) (record c { asker = slice_index (3 ∷ 7 ∷ 10 ∷ []) c.asker }) in
      All-cons P (refused_as 2) [] (0, lit< tt, refl) (All-nil P));
  there = (let P : Conflict → Type 0 = λ c. c.asker < 3 in All-cons P (refused_as 2) [] (lit< tt) (All-nil P));
  askers = λ k h. absurd (omega arith);
  tried = one_asker;
}

-- ## All of them

logs : AreLogsOf made_in_time (refused_as 10 ∷ []) (logs_with 0 1 (refused_as 2 ∷ [])) numbers_in_time
logs = record {
  each = (main_is, (inside_is, (right_is, tt)));
  hung = (record { number = refl; parent = refl; from = (refl, refl) }, (record { right = refl; from = refl }, (record { right = refl; from = refl }, tt)));
  apart = ((more 0 2 (lit< tt), (more 0 1 (lit< tt), tt)), ((less 1 2 (lit< tt), tt), (tt, tt)));
  once = once_each (in_a_row numbers_in_time) 13 refl refl;
  whole = all_there (in_a_row numbers_in_time) 13 refl;
  askers = refl;
}

-- what the first element is to which a cancel sets a cell
abbrev back_value : List Back → ℕ
back_value [] = 0
back_value (b ∷ bs) = by b.value where
  by : ℤ → ℕ
  by (pos n) = n
  by (negsuc n) = 0

abbrev put_back : Option Node → ℕ
put_back None = 0
put_back (Some x) = by x.kind where
  by : Kind → ℕ
  by (Cancel bs) = back_value bs
  by kind = 0

other_value : AreLogsOf made_in_time (refused_as 10 ∷ []) (logs_with 1 1 (refused_as 2 ∷ [])) numbers_in_time → ⊥
other_value h = less 0 1 (lit< tt) (ap put_back (h.each.0.nodes 7 _ refl).1)

other_fork : AreLogsOf made_in_time (refused_as 10 ∷ []) (logs_with 0 3 (refused_as 2 ∷ [])) numbers_in_time → ⊥
other_fork h = more 1 4 (lit< tt) (same_Some 4 1 h.hung.1.1.0.from)

no_conflict : AreLogsOf made_in_time (refused_as 10 ∷ []) (logs_with 0 1 []) numbers_in_time → ⊥
no_conflict h = let c = h.each.1.1.0.tried 2 refl in let low = c.1 in absurd (omega arith)

one_less : AreLogsOf made_in_time (refused_as 10 ∷ []) (log_of_main 0 ∷ log_at_right 1 (refused_as 2 ∷ []) ∷ []) (numbers_of_main ∷ (3 ∷ 7 ∷ 10 ∷ []) ∷ []) → ⊥
one_less h = missing (in_a_row (numbers_of_main ∷ (3 ∷ 7 ∷ 10 ∷ []) ∷ [])) 6 refl (h.whole 6 (lit< tt))

one_twice : AreLogsOf made_in_time (refused_as 10 ∷ []) (log_of_main 0 ∷ log_inside ∷ log_at_right 1 (refused_as 2 ∷ []) ∷ record log_inside { column = 4 } ∷ [])
    (numbers_of_main ∷ (6 ∷ 12 ∷ []) ∷ (3 ∷ 7 ∷ 10 ∷ []) ∷ (6 ∷ 12 ∷ []) ∷ []) → ⊥
one_twice h = let few : 2 ≤ 1 = h.once 6 in absurd (omega arith)

pub worked_tree_logs : WorkedTreeLogs
worked_tree_logs = record {
  numbered = is_numbered made_in_time refl refl (lit< tt);
  sound = record {
    tree = is_tree made_in_time (lit< tt) refl refl refl refl refl;
    stamps = are_stamps made_in_time refl refl refl refl refl refl refl refl refl;
    pending_last = pending_last made_in_time refl refl;
  };
  logs = logs;
  together = (record { number = refl; parent = refl; from = (refl, refl) }, (record { right = refl; from = refl }, (record { right = refl; from = refl }, tt)));
  later = λ w. (let low : 11 < 8 = w.rooted 8 (lit< tt) (lit< tt) in absurd (omega arith));
  tree = refl;
  one = refl;
  conflicts = refl;
  strand = refl;
  halt = refl;
  halt_in_logs = refl;
  value = other_value;
  fork = other_fork;
  silent = no_conflict;
  fewer = one_less;
  twice = one_twice;
}
