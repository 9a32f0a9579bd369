-- The pass from the first node up, which gives each node the number that a fork in its place has.
use Rattle.std.proofs.Common.{◌≡◌, ℕ, suc, ◌+◌, ◌<◌, ◌≤◌, List, length, map, get_or, set, replicate, ap, sym, ◌∙◌, arith, cond, true, false, inl, inr}
use Rattle.std.specs.Prelude.{◌⊎◌}
use Rattle.std.proofs.lemmas.Bool.{cases_eq, cases_Bool}
use Rattle.std.proofs.lemmas.List.{get_or-set_same, get_or-set_other, get_or-replicate, length-set, length-replicate}
use Rattle.std.proofs.lemmas.Grind.{get_or_default_zero}
use Rattle.cw_tree.specs.declared.node.Node.{Node}
use Rattle.cw_tree.specs.Nodes.{all_nodes, parent_of, is_strand, is_fork}
use Rattle.cw_tree.specs.Walks.{IsRooted}
use Rattle.cw_tree.specs.Names.{fork_counts_at, fork_number}
use Rattle.cw_tree.specs.ForkCounts.{forks_after}
use Rattle.cw_tree.proofs.Lists.{map_below}
use Rattle.cw_tree.proofs.Counting.{count}
use Rattle.cw_tree.proofs.Names.Forks.{child_to, forks_to, after_is}
use Rattle.cw_tree.proofs.Names.Numbers.{none_at_root, none_at_strand, forks_beneath_fork, forks_before, numbers_fit}
use Rattle.cw_tree.proofs.Names.Passes.{to_none, to_more, to_same}

-- the nodes below n have their numbers, and each node has the forks in its children below n
pub record CountedUp (t : List Node) (n : ℕ) (numbers passed : List ℕ) : Type 0 where
  pub some : 0 < n
  pub len : length numbers ≡ length t
  pub passed_len : length passed ≡ length t
  pub done : (c : ℕ) → c < n → c < length t → get_or numbers c 0 ≡ fork_number t c
  pub sums : (x : ℕ) → x < length t → get_or passed x 0 ≡ forks_to t (child_to t n x)

module _ (t : List Node) (r : IsRooted t) where
  pub up_start : (k : ℕ) (numbers passed : List ℕ) → k ≡ length t → numbers ≡ replicate k 1 → passed ≡ replicate k 0 → CountedUp t 1 numbers passed
  up_start k numbers passed e q s = record {
    some = omega arith;
    len = ap length q ∙ length-replicate k 1 ∙ e;
    passed_len = ap length s ∙ length-replicate k 0 ∙ e;
    done = λ c h l.
        (let zero_is : c ≡ 0 = omega arith in
        ap (λ xs. get_or xs c 0) q ∙ get_or-replicate k c 1 0 (omega arith) ∙ sym (ap (fork_number t) zero_is ∙ ap (λ j. j + 1) (none_at_root t r)));
    sums = λ x h. ap (λ xs. get_or xs x 0) s ∙ get_or-replicate k x 0 0 (omega arith) ∙ sym (to_none t r x);
  }

  pub up_end : (n : ℕ) (numbers passed : List ℕ) → CountedUp t n numbers passed → length t ≤ n → numbers ≡ map (fork_number t) (all_nodes t)
  up_end n numbers passed w h =
      map_below (fork_number t) numbers (length t) w.len (λ c d l. let len = w.len in get_or_default_zero numbers c d (omega arith) ∙ w.done c (omega arith) l)

  module _ (n : ℕ) (numbers passed : List ℕ) (w : CountedUp t n numbers passed) (there : n < length t) (q : ℕ) (up : q ≡ parent_of t n) (a s : ℕ) (a_read : a ≡ get_or numbers q a) (s_read : s ≡ get_or passed q s) where
    below : q < n
    below = let some = w.some in let l : parent_of t n < n = r n some there in omega arith

    at_parent : a ≡ fork_number t q
    at_parent = let l = below in let len = w.len in a_read ∙ get_or_default_zero numbers q a (omega arith) ∙ w.done q l (omega arith)

    in_siblings : s ≡ forks_to t (child_to t n q)
    in_siblings = let l = below in let len = w.passed_len in s_read ∙ get_or_default_zero passed q s (omega arith) ∙ w.sums q (omega arith)

    pub number_fits : a + s ≤ length t
    number_fits = omega (arith, at_parent, in_siblings, numbers_fit t r q n (let l = below in omega arith))

    pub number_is : cond (is_strand t n) 1 (cond (is_fork t (parent_of t n)) a (a + s)) ≡ fork_number t n
    number_is =
        by_kind (cases_Bool (is_strand t n)) (cases_Bool (is_fork t (parent_of t n))) where
          by_kind : (is_strand t n ≡ true) ⊎ (is_strand t n ≡ false) → (is_fork t (parent_of t n) ≡ true) ⊎ (is_fork t (parent_of t n) ≡ false) → cond (is_strand t n) 1 (cond (is_fork t (parent_of t n)) a (a + s)) ≡ fork_number t n
          by_kind (inl e) f = ap (λ b. cond b 1 (cond (is_fork t (parent_of t n)) a (a + s))) e ∙ sym (ap (λ j. j + 1) (none_at_strand t r n w.some there e))
          by_kind (inr e) (inl f) =
              ap (λ b. cond b 1 (cond (is_fork t (parent_of t n)) a (a + s))) e
              ∙ ap (λ b. cond b a (a + s)) f
              ∙ at_parent ∙ ap (fork_number t) up
              ∙ sym (ap (λ j. j + 1) (forks_beneath_fork t r n w.some there e f))
          by_kind (inr e) (inr f) =
              let before : count (fork_counts_at t n) (length t) ≡ count (fork_counts_at t (parent_of t n)) (length t) + forks_to t (child_to t n (parent_of t n)) = forks_before t r n w.some there e f in
              let here : a ≡ fork_number t (parent_of t n) = at_parent ∙ ap (fork_number t) up in
              let more : s ≡ forks_to t (child_to t n (parent_of t n)) = in_siblings ∙ ap (λ m. forks_to t (child_to t n m)) up in
              ap (λ b. cond b 1 (cond (is_fork t (parent_of t n)) a (a + s))) e ∙ ap (λ b. cond b a (a + s)) f ∙ omega (arith, before, here, more)

    module _ (inside : List ℕ) (inside_len : length inside ≡ length t) (forks : (c : ℕ) → 0 < c → c < length t → get_or inside c 0 ≡ forks_after t c) (i : ℕ) (i_read : i ≡ get_or inside n i) where
      i_is : i ≡ forks_after t n
      i_is = i_read ∙ get_or_default_zero inside n i (omega arith) ∙ forks n w.some there

      grown : s + i ≡ forks_to t (child_to t (suc n) q)
      grown = ap (λ j. j + i) in_siblings ∙ ap (λ j. forks_to t (child_to t n q) + j) (i_is ∙ after_is t n) ∙ sym (to_more t r n w.some q up)

      pub sum_fits : s + i ≤ length t
      sum_fits = omega (arith, grown, numbers_fit t r q (suc n) (let l = below in omega arith))

      pub up_step : (own : ℕ) → own ≡ fork_number t n → CountedUp t (n + 1) (set numbers n own) (set passed q (s + i))
      up_step own own_is = record {
        some = omega arith;
        len = length-set numbers n own ∙ w.len;
        passed_len = length-set passed q (s + i) ∙ w.passed_len;
        done = λ c h l. done_at c h l (cases_eq c n);
        sums = λ x h. sum_at x h (cases_eq x q);
      } where
        done_at : (c : ℕ) → c < n + 1 → c < length t → (c ≡ n) ⊎ (c ≡ n → ⊥) → get_or (set numbers n own) c 0 ≡ fork_number t c
        done_at c h l (inl e) = let len = w.len in ap (λ k. get_or (set numbers n own) k 0) e ∙ get_or-set_same numbers n own 0 (omega arith) ∙ own_is ∙ ap (fork_number t) (sym e)
        done_at c h l (inr ne) = get_or-set_other numbers n c own 0 ne ∙ w.done c (omega arith) l

        sum_at : (x : ℕ) → x < length t → (x ≡ q) ⊎ (x ≡ q → ⊥) → get_or (set passed q (s + i)) x 0 ≡ forks_to t (child_to t (n + 1) x)
        sum_at x h (inl e) =
            let len = w.passed_len in
            let l = below in
            ap (λ k. get_or (set passed q (s + i)) k 0) e
            ∙ get_or-set_same passed q (s + i) 0 (omega arith)
            ∙ grown
            ∙ ap (λ k. forks_to t (child_to t k q)) (let next : suc n ≡ n + 1 = omega arith in next)
            ∙ ap (λ k. forks_to t (child_to t (n + 1) k)) (sym e)
        sum_at x h (inr ne) =
            get_or-set_other passed q x (s + i) 0 ne
            ∙ w.sums x h
            ∙ sym (to_same t r n w.some x (λ e. ne (e ∙ sym up)))
            ∙ ap (λ k. forks_to t (child_to t k x)) (let next : suc n ≡ n + 1 = omega arith in next)
