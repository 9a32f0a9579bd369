-- Left strands stay first as nodes come in, as a tier grows, and as nodes are closed.
use Rattle.std.proofs.Common.{◌≡◌, ◌≢◌, ℕ, ◌+◌, ◌<◌, ◌≤◌, List, [], ◌∷◌, ◌++◌, length, ap, sym, ◌∙◌, subst, arith, Bool, true, false, inl, inr}
use Rattle.std.specs.Prelude.{◌⊎◌}
use Rattle.std.proofs.lemmas.Bool.{cases_eq, cases_lt, false_from_ne_true}
use Rattle.cw_tree.specs.declared.node.Node.{Node}
use Rattle.cw_tree.specs.Nodes.{is_fork_kind, parent_of, is_fork}
use Rattle.cw_tree.specs.Walks.{IsRooted, has, is_ancestor}
use Rattle.cw_tree.proofs.Walks.Ancestors.{ancestor_le}
use Rattle.cw_tree.proofs.NextNodes.Growing.{length_more, node_grown, number_grown, rooted_more, ancestor_grown}
use Rattle.cw_tree.proofs.NextNodes.Trees.{each_more}
use Rattle.cw_tree.proofs.NextNodes.Before.{over_parent}
use Rattle.cw_trace.specs.Columns.{ColumnTable, used}
use Rattle.cw_trace.specs.Stands.{fork_column}
use Rattle.cw_trace.specs.Running.{IsUnsplit}
use Rattle.cw_trace.proofs.Keeps.Grow.{fork_column_append}
use Rattle.cw_core.specs.Laws.{IsLeftFirst}

-- one node more, in q: where q is the right strand of an unsplit fork, the left one has finished
module _ (c : ColumnTable) (t : List Node) (splits : List ℕ) (o z : ℕ → Bool) (r : IsRooted t) (old : IsLeftFirst c t splits o) (x : Node) (there : x.parent < length t) (same : (n : ℕ) → n < length t → z n ≡ o n)
    (here : (l : ℕ) → 0 < l → l < x.parent → parent_of t l ≡ parent_of t x.parent → is_fork t (parent_of t x.parent) ≡ true → IsUnsplit c t splits (parent_of t x.parent) → o l ≡ false) where
  abbrev u : List Node
  u = t ++ x ∷ []

  up : (n : ℕ) → n < length t → parent_of u n ≡ parent_of t n
  up = number_grown t (x ∷ []) (λ y. y.parent)

  was_fork : (n : ℕ) → n < length t → is_fork u n ≡ is_fork t n
  was_fork = node_grown t (x ∷ []) (λ y. is_fork_kind y.kind)

  unsplit : (f : ℕ) → f < length t → IsUnsplit c u splits f → IsUnsplit c t splits f
  unsplit f h w = let P : ℕ → Type 0 = λ k. (used c < k + 2) ⊎ (has splits k ≡ false) in subst P (fork_column_append t (x ∷ []) r (used c) f (omega arith)) w

  -- what is in the right strand
  beneath : (l s : ℕ) → 0 < l → l < s → s < length t → parent_of u l ≡ parent_of u s → is_fork u (parent_of u s) ≡ true → IsUnsplit c u splits (parent_of u s) → (n : ℕ) → n < length u → is_ancestor u s n ≡ true → n ≢ s → z l ≡ false
  beneath l s some less h e fork w n hn over ne =
      let low : parent_of t s < s = r s (omega arith) h in
      let e2 : parent_of t l ≡ parent_of t s = sym (up l (omega arith)) ∙ e ∙ up s h in
      let fork2 : is_fork t (parent_of t s) ≡ true = sym (was_fork (parent_of t s) (omega arith)) ∙ ap (is_fork u) (sym (up s h)) ∙ fork in
      let P : ℕ → Type 0 = λ f. IsUnsplit c u splits f in
      let w2 : IsUnsplit c t splits (parent_of t s) = unsplit (parent_of t s) (omega arith) (subst P (up s h) w) in
      let by : (n : ℕ) → n < length t → is_ancestor t s n ≡ true → n ≢ s → z l ≡ false = λ n hn over ne. same l (omega arith) ∙ old l s n some less h e2 fork2 w2 hn over ne in
      each_more t x (λ n. is_ancestor u s n ≡ true → n ≢ s → z l ≡ false) (λ n hn over ne. by n hn (sym (ancestor_grown t (x ∷ []) r s n hn) ∙ over) ne)
      (λ over ne.
      let up_there : is_ancestor t s x.parent ≡ true = sym (over_parent t x r there s (omega arith)) ∙ over in
      elim (cases_eq x.parent s) [
        | inr off ↦ by x.parent there up_there off
        | inl q ↦
            (let Q : ℕ → Type 0 = λ s. (l < s) × (parent_of t l ≡ parent_of t s) × (is_fork t (parent_of t s) ≡ true) × IsUnsplit c t splits (parent_of t s) in
            let y = subst Q (sym q) (less, e2, fork2, w2) in
            same l (omega arith) ∙ here l some y.0 y.1 y.2 y.3)
      ]) n hn over ne

  pub left_more : IsLeftFirst c u splits z
  left_more l s n some less h e fork w hn over ne =
      elim (cases_lt s (length t)) [
        | inl low ↦ beneath l s some less low e fork w n hn over ne
        | inr le ↦ absurd (let high = ancestor_le u (rooted_more t x r there) s n hn over in let len = length_more t x in ne (omega arith))
      ]

-- more columns, and more splits
pub left_tier : (c d : ColumnTable) (t : List Node) (splits more : List ℕ) (o : ℕ → Bool) → used c ≤ used d → ((g : ℕ) → has splits g ≡ true → has more g ≡ true) → IsLeftFirst c t splits o → IsLeftFirst d t more o
left_tier c d t splits more o le all old l s n some less h e fork w =
    old l s n some less h e fork (elim w [
      | inl low ↦ inl (omega arith)
      | inr off ↦ inr (false_from_ne_true (has splits (fork_column t (parent_of t s))) (λ q. absurd (cc (off, all (fork_column t (parent_of t s)) q))))
    ])

-- fewer open nodes, in a tree of the same shape
pub left_shut : (c : ColumnTable) (t u : List Node) (splits : List ℕ) (o z : ℕ → Bool) → length u ≡ length t → ((n : ℕ) → parent_of u n ≡ parent_of t n) → ((n : ℕ) → is_fork u n ≡ is_fork t n) → ((f : ℕ) → fork_column u f ≡ fork_column t f)
    → ((a n : ℕ) → n < length t → is_ancestor u a n ≡ is_ancestor t a n) → ((n : ℕ) → z n ≡ true → o n ≡ true) → IsLeftFirst c t splits o → IsLeftFirst c u splits z
left_shut c t u splits o z len up forks columns over fewer old l s n some less h e fork w hn above ne =
    let P : ℕ → Type 0 = λ k. (used c < k + 2) ⊎ (has splits k ≡ false) in
    false_from_ne_true (z l) (λ q.
    absurd (cc (
      fewer l q,
      old l s n some less (omega arith) (sym (up l) ∙ e ∙ up s) (sym (forks (parent_of t s)) ∙ ap (is_fork u) (sym (up s)) ∙ fork) (subst P (ap (fork_column u) (up s) ∙ columns (parent_of t s)) w) (omega arith)
          (sym (over s n (omega arith)) ∙ above) ne,
    )))
