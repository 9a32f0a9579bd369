-- Attempt numbers and outermost blocks stay as the tree changes elsewhere.
use Rattle.std.proofs.Common.{◌≡◌, ℕ, ◌+◌, ◌<◌, ◌≤◌, List, [], ◌∷◌, length, refl, ap, sym, ◌∙◌, arith, Bool, true, false, cond, Option, Some, None, inl, inr, nat_eq, nat_lt}
use Rattle.std.specs.Prelude.{◌&&◌, filter}
use Rattle.std.specs.List.{suffix_len}
use Rattle.std.specs.Option.{option_or}
use Rattle.std.proofs.lemmas.Bool.{and_right, lt-ltb, ltb-true, false_from_ne_true}
use Rattle.cw_tree.specs.declared.node.Node.{Node}
use Rattle.cw_tree.specs.Nodes.{parent_of, is_aborted, below}
use Rattle.cw_tree.specs.Walks.{outermost}
use Rattle.cw_tree.specs.Series.{children}
use Rattle.cw_tree.specs.Attempts.{elders, tried_cell, same_cell, attempt_of}
use Rattle.cw_tree.proofs.Lists.{In}
use Rattle.cw_tree.proofs.Members.{in_below, in_filter, filter_same, below_none, suffix_same}
use Rattle.cw_tree.proofs.InOrder.DepthFirst.{child_is}
use Rattle.cw_open.proofs.Open.Staying.{Stays}

-- ## The end of a list that passes a test

-- ## Elders

filter_filter : (p q : ℕ → Bool) (xs : List ℕ) → filter q (filter p xs) ≡ filter (λ m. p m && q m) xs
filter_filter p q [] = refl
filter_filter p q (x ∷ xs) = by (p x) (filter_filter p q xs) where
  by : (b : Bool) → filter q (filter p xs) ≡ filter (λ m. p m && q m) xs → filter q (cond b (x ∷ filter p xs) (filter p xs)) ≡ cond (b && q x) (x ∷ filter (λ m. p m && q m) xs) (filter (λ m. p m && q m) xs)
  by true more = ap (λ ys. cond (q x) (x ∷ ys) ys) more
  by false more = more

-- the numbers below k that pass a test and are below n are those below n that pass it
pub front : (p : ℕ → Bool) (k n : ℕ) → n ≤ k → filter (λ m. nat_lt m n) (filter p (below k)) ≡ filter p (below n)
front p k n le =
    filter_filter p (λ m. nat_lt m n) (below k)
    ∙ below_none (λ m. p m && nat_lt m n) n k le (λ m low high. and_right (p m) (nat_lt m n) (false_from_ne_true (nat_lt m n) (λ e. absurd (let h = ltb-true m n e in omega arith))))
    ∙ filter_same (λ m. p m && nat_lt m n) p (below n) (λ m i. both (p m) (nat_lt m n) (lt-ltb m n (in_below m n i))) where
      both : (a b : Bool) → b ≡ true → (a && b) ≡ a
      both true b e = e
      both false b e = refl

pub elders_stay : (t u : List Node) → Stays t u → (n : ℕ) → n < length t → elders u n ≡ elders t n
elders_stay t u s n h =
    let longer = s.longer in
    let up = s.parents n h in
    front (λ m. nat_lt 0 m && nat_eq (parent_of u m) (parent_of u n)) (length u) n (omega arith)
    ∙ filter_same (λ m. nat_lt 0 m && nat_eq (parent_of u m) (parent_of u n)) (λ m. nat_lt 0 m && nat_eq (parent_of t m) (parent_of t n)) (below n)
    (λ m i.
    let low = in_below m n i in
    ap (λ q. nat_lt 0 m && nat_eq (parent_of u m) q) up ∙ ap (λ q. nat_lt 0 m && nat_eq q (parent_of t n)) (s.parents m (omega arith)))
    ∙ sym (front (λ m. nat_lt 0 m && nat_eq (parent_of t m) (parent_of t n)) (length t) n (omega arith))

-- what an elder is
pub record IsElder (t : List Node) (n m : ℕ) : Type 0 where
  pub some : 0 < m
  pub less : m < n
  pub same : parent_of t m ≡ parent_of t n

pub elder_is : (t : List Node) (n m : ℕ) → In m (elders t n) → IsElder t n m
elder_is t n m i =
    let z = in_filter (λ m. nat_lt m n) m (children t (parent_of t n)) i in
    let c = child_is t (parent_of t n) m z.0 in
    record { some = c.some; less = ltb-true m n z.1; same = c.parent }

-- ## Attempts

-- the number of an attempt, where what it counts stays
pub attempt_stays : (t u : List Node) → Stays t u → ((n : ℕ) → n < length t → tried_cell u n ≡ tried_cell t n) → (v : ℕ) → v < length t → (o : Option ℕ)
    → ((b : ℕ) → o ≡ Some b → (b < length t) × ((m : ℕ) → IsElder t b m → is_aborted u m ≡ is_aborted t m)) → attempt_of u v o ≡ attempt_of t v o
attempt_stays t u s tried v h None f =
    ap (λ ns. suffix_len (λ m. same_cell (tried_cell u m) (tried_cell u v)) ns + 1) (elders_stay t u s v h)
    ∙ ap (λ n. n + 1)
    (suffix_same (λ m. same_cell (tried_cell u m) (tried_cell u v)) (λ m. same_cell (tried_cell t m) (tried_cell t v)) (elders t v)
    (λ m i.
    let e = elder_is t v m i in
    let less = e.less in
    ap (λ o. same_cell o (tried_cell u v)) (tried m (omega arith)) ∙ ap (same_cell (tried_cell t m)) (tried v h)))
attempt_stays t u s tried v h (Some b) f =
    let z = f b refl in
    ap (λ ns. suffix_len (is_aborted u) ns + 1) (elders_stay t u s b z.0)
    ∙ ap (λ n. n + 1) (suffix_same (is_aborted u) (is_aborted t) (elders t b) (λ m i. z.1 m (elder_is t b m i)))

-- ## The outermost

-- two tests that agree on some nodes have the same outermost of them
pub outermost_agrees : (p q : ℕ → Bool) (ns : List ℕ) → ((m : ℕ) → In m ns → p m ≡ q m) → outermost p ns ≡ outermost q ns
outermost_agrees p q [] f = refl
outermost_agrees p q (n ∷ ns) f =
    ap (λ o. option_or o (cond (p n) (Some n) None)) (outermost_agrees p q ns (λ m i. f m (inr i)))
    ∙ ap (λ b. option_or (outermost q ns) (cond b (Some n) None)) (f n (inl refl))
