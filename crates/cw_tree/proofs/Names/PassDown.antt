-- The pass from the last node down, which adds up the forks in each node.
use Rattle.std.proofs.Common.{◌≡◌, ◌≢◌, ℕ, suc, ◌+◌, ◌-◌, ◌<◌, ◌≤◌, List, length, get_or, set, replicate, ap, sym, ◌∙◌, arith, cond, inl, inr}
use Rattle.std.specs.Prelude.{◌⊎◌}
use Rattle.std.proofs.lemmas.Bool.{cases_eq}
use Rattle.std.proofs.lemmas.List.{get_or-set_same, get_or-set_other, get_or-replicate, length-set, length-replicate}
use Rattle.std.proofs.lemmas.Grind.{get_or_default_zero}
use Rattle.cw_tree.specs.declared.node.Node.{Node}
use Rattle.cw_tree.specs.Nodes.{parent_of, is_fork}
use Rattle.cw_tree.specs.Walks.{IsRooted}
use Rattle.cw_tree.specs.ForkCounts.{one_if, lets_out, forks_after}
use Rattle.cw_tree.proofs.Names.Forks.{child_from, forks_to, after_is}
use Rattle.cw_tree.proofs.Names.Passes.{from_none, from_more, from_same, from_less, counted, forks_to_le}

-- the nodes from n on are done, and each of those below has the forks in its children from n on
pub record CountedDown (t : List Node) (n : ℕ) (inside : List ℕ) : Type 0 where
  pub low : n ≤ length t
  pub len : length inside ≡ length t
  pub sums : (x : ℕ) → x < n → get_or inside x 0 ≡ forks_to t (child_from t n x)
  pub done : (c : ℕ) → n ≤ c → 0 < c → c < length t → get_or inside c 0 ≡ forks_after t c

module _ (t : List Node) (r : IsRooted t) where
  pub down_start : (n : ℕ) (inside : List ℕ) → n ≡ length t → inside ≡ replicate n 0 → CountedDown t n inside
  down_start n inside e q = record {
    low = omega arith;
    len = ap length q ∙ length-replicate n 0 ∙ e;
    sums = λ x h. ap (λ xs. get_or xs x 0) q ∙ get_or-replicate n x 0 0 h ∙ sym (from_none t r n x (omega arith));
    done = λ c h p l. absurd (omega arith);
  }

  module _ (n : ℕ) (inside : List ℕ) (w : CountedDown t n inside) (some : 1 < n) where
    next : suc (n - 1) ≡ n
    next = omega arith

    -- the forks in the children of node n - 1, as they were read
    module _ (v : ℕ) (read : v ≡ get_or inside (n - 1) v) where
      children : v ≡ forks_to t (child_from t n (n - 1))
      children = let low = w.low in let len = w.len in read ∙ get_or_default_zero inside (n - 1) v (omega arith) ∙ w.sums (n - 1) (omega arith)

      pub children_fit : v < length t
      children_fit = let low = w.low in omega (arith, children, from_less t r n (n - 1) (omega arith) (omega arith))

      pub own_counted : cond (lets_out t (n - 1)) (v + one_if (is_fork t (n - 1))) 0 ≡ forks_after t (n - 1)
      own_counted = let low = w.low in counted t r (n - 1) v (omega arith) (children ∙ ap (λ k. forks_to t (child_from t k (n - 1))) (sym next))

    module _ (own q v : ℕ) (own_is : own ≡ forks_after t (n - 1)) (up : q ≡ parent_of t (n - 1)) (read : v ≡ get_or (set inside (n - 1) own) q v) where
      below : q < n - 1
      below = let low = w.low in let l : parent_of t (n - 1) < n - 1 = r (n - 1) (omega arith) (omega arith) in omega arith

      value : v ≡ forks_to t (child_from t n q)
      value =
          let low = w.low in
          let len = w.len in
          let l = below in
          let ne : q ≢ n - 1 = omega arith in
          read ∙ get_or_default_zero (set inside (n - 1) own) q v (omega (arith, length-set inside (n - 1) own)) ∙ get_or-set_other inside (n - 1) q own 0 ne ∙ w.sums q (omega arith)

      grown : v + own ≡ forks_to t (child_from t (n - 1) q)
      grown =
          ap (λ k. k + own) (value ∙ ap (λ k. forks_to t (child_from t k q)) (sym next))
          ∙ ap (λ k. forks_to t (child_from t (suc (n - 1)) q) + k) (own_is ∙ after_is t (n - 1))
          ∙ sym (from_more t r (n - 1) (omega arith) q up)

      pub down_fits : v + own ≤ length t
      down_fits = omega (arith, grown, forks_to_le t r (child_from t (n - 1) q))

      pub down_step : CountedDown t (n - 1) (set (set inside (n - 1) own) q (v + own))
      down_step =
          let low = w.low in
          let len = w.len in
          let l = below in
          record {
            low = omega arith;
            len = length-set (set inside (n - 1) own) q (v + own) ∙ length-set inside (n - 1) own ∙ len;
            sums = λ x h. sum_at x h (cases_eq x q);
            done = λ c h p b. done_at c h p b (cases_eq c (n - 1));
          } where
            sum_at : (x : ℕ) → x < n - 1 → (x ≡ q) ⊎ (x ≡ q → ⊥) → get_or (set (set inside (n - 1) own) q (v + own)) x 0 ≡ forks_to t (child_from t (n - 1) x)
            sum_at x h (inl e) =
                let low = w.low in
                let len = w.len in
                ap (λ k. get_or (set (set inside (n - 1) own) q (v + own)) k 0) e
                ∙ get_or-set_same (set inside (n - 1) own) q (v + own) 0 (omega (arith, length-set inside (n - 1) own))
                ∙ grown ∙ ap (λ k. forks_to t (child_from t (n - 1) k)) (sym e)
            sum_at x h (inr ne) =
                let other : x ≢ n - 1 = omega arith in
                get_or-set_other (set inside (n - 1) own) q x (v + own) 0 ne
                ∙ get_or-set_other inside (n - 1) x own 0 other
                ∙ w.sums x (omega arith)
                ∙ ap (λ k. forks_to t (child_from t k x)) (sym next)
                ∙ sym (from_same t r (n - 1) (omega arith) x (λ e. ne (e ∙ sym up)))

            done_at : (c : ℕ) → n - 1 ≤ c → 0 < c → c < length t → (c ≡ n - 1) ⊎ (c ≡ n - 1 → ⊥) → get_or (set (set inside (n - 1) own) q (v + own)) c 0 ≡ forks_after t c
            done_at c h p b (inl e) =
                let low = w.low in
                let len = w.len in
                let l = below in
                let ne : c ≢ q = omega arith in
                get_or-set_other (set inside (n - 1) own) q c (v + own) 0 ne
                ∙ ap (λ k. get_or (set inside (n - 1) own) k 0) e
                ∙ get_or-set_same inside (n - 1) own 0 (omega arith)
                ∙ own_is ∙ ap (forks_after t) (sym e)
            done_at c h p b (inr other) =
                let l = below in
                let ne : c ≢ q = omega arith in
                get_or-set_other (set inside (n - 1) own) q c (v + own) 0 ne
                ∙ get_or-set_other inside (n - 1) c own 0 other
                ∙ w.done c (omega arith) p b
