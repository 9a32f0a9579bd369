-- How the forks that count at a node are found among its siblings and its parent's.
use Rattle.std.proofs.Common.{◌≡◌, ◌≢◌, ℕ, suc, ◌+◌, ◌<◌, ◌≤◌, List, length, refl, ap, sym, ◌∙◌, arith, Bool, true, false, inl, inr, subst, nat_eq, nat_lt, nat_le}
use Rattle.std.specs.Prelude.{◌⊎◌, ◌&&◌, ◌||◌}
use Rattle.std.proofs.lemmas.Bool.{and_parts, and_from, and_right, or_cases, or_left, or_right, cases_eq, cases_lt, eqb-true, eq-eqb, leb-true, le-leb, false_from_ne_true}
use Rattle.cw_tree.specs.declared.node.Node.{Node}
use Rattle.cw_tree.specs.Nodes.{parent_of, is_fork}
use Rattle.cw_tree.specs.Walks.{IsRooted, path, is_ancestor}
use Rattle.cw_tree.specs.ForkCounts.{one_if, lets_out, counts_after, forks_after}
use Rattle.cw_tree.proofs.Walks.Ancestors.{ancestor_self, ancestor_step, ancestor_up, ancestor_le, ancestor_trans}
use Rattle.cw_tree.proofs.Walks.Kin.{ancestor_linear, children_apart, branch}
use Rattle.cw_tree.proofs.Walks.Reaching.{reaches, reaches_list, Reached, reached, reaches_from}
use Rattle.cw_tree.proofs.Counting.{count, count_same, count_none, count_or, count_one}

pub same_truth : (a b : Bool) → (a ≡ true → b ≡ true) → (b ≡ true → a ≡ true) → a ≡ b
same_truth true true f g = refl
same_truth true false f g = sym (f refl)
same_truth false true f g = g refl
same_truth false false f g = refl

-- fork g comes up to a node that passes w
abbrev pub comes_to : List Node → (ℕ → Bool) → ℕ → Bool
comes_to t w g = is_fork t g && reaches t w g

-- d is a child of x, and its number is at least low
abbrev pub child_from : List Node → ℕ → ℕ → ℕ → Bool
child_from t low x d = nat_le low d && nat_eq (parent_of t d) x

-- d is a child of x, and its number is less than high
abbrev pub child_to : List Node → ℕ → ℕ → ℕ → Bool
child_to t high x d = nat_lt 0 d && nat_lt d high && nat_eq (parent_of t d) x

-- how many forks come to a node that passes w
abbrev pub forks_to : List Node → (ℕ → Bool) → ℕ
forks_to t w = count (comes_to t w) (length t)

abbrev pub is_same : ℕ → ℕ → Bool
is_same c d = nat_eq d c

after_comes : (t : List Node) (c g : ℕ) → counts_after t c g ≡ comes_to t (is_same c) g
after_comes t c g = ap (λ b. is_fork t g && b) (reaches_list t (is_same c) (path t g))

pub after_is : (t : List Node) (c : ℕ) → forks_after t c ≡ forks_to t (is_same c)
after_is t c = count_same (counts_after t c) (comes_to t (is_same c)) (length t) (λ g h. after_comes t c g)

module _ (t : List Node) (r : IsRooted t) where
  pub comes : (w : ℕ → Bool) (g : ℕ) → g < length t → comes_to t w g ≡ true → (is_fork t g ≡ true) × Reached t w g
  comes w g h e = let z = and_parts (is_fork t g) (reaches t w g) e in (z.0, reached t r w g h z.1)

  pub comes_from : (w : ℕ → Bool) (g : ℕ) → g < length t → is_fork t g ≡ true → Reached t w g → comes_to t w g ≡ true
  comes_from w g h f s = and_from (is_fork t g) (reaches t w g) f (reaches_from t r w g h s)

  comes_weaker : (w v : ℕ → Bool) (g : ℕ) → g < length t → ((d : ℕ) → d < length t → w d ≡ true → v d ≡ true) → comes_to t w g ≡ true → comes_to t v g ≡ true
  comes_weaker w v g h weaker e =
      let z = comes w g h e in
      let s = z.1 in
      let low : s.node ≤ g = ancestor_le t r s.node g h s.over in
      comes_from v g h z.0 (record { node = s.node; over = s.over; passes = weaker s.node (omega arith) s.passes; opened = s.opened })

  pub forks_same : (w v : ℕ → Bool) → ((d : ℕ) → d < length t → w d ≡ v d) → forks_to t w ≡ forks_to t v
  forks_same w v e =
      count_same (comes_to t w) (comes_to t v) (length t) (λ g h. same_truth (comes_to t w g) (comes_to t v g)
      (comes_weaker w v g h (λ d l p. sym (e d l) ∙ p)) (comes_weaker v w g h (λ d l p. e d l ∙ p)))

  -- one child more: v passes n besides the children of n's parent that w passes
  pub forks_more : (w v : ℕ → Bool) (n : ℕ) → 0 < n → ((d : ℕ) → d < length t → v d ≡ (w d || is_same n d)) → ((d : ℕ) → d < length t → w d ≡ true → (0 < d) × (parent_of t d ≡ parent_of t n) × (d ≢ n))
      → forks_to t v ≡ forks_to t w + forks_to t (is_same n)
  forks_more w v n p e kin =
      count_or (comes_to t v) (comes_to t w) (comes_to t (is_same n)) (length t) (λ g h. same_truth (comes_to t v g) (comes_to t w g || comes_to t (is_same n) g) (split g h) (join g h)) apart where
        split : (g : ℕ) → g < length t → comes_to t v g ≡ true → (comes_to t w g || comes_to t (is_same n) g) ≡ true
        split g h f =
            let z = comes v g h f in
            let s = z.1 in
            let low : s.node ≤ g = ancestor_le t r s.node g h s.over in
            elim (or_cases (w s.node) (is_same n s.node) (sym (e s.node (omega arith)) ∙ s.passes)) [
              | inl q ↦ or_left (comes_to t w g) (comes_to t (is_same n) g) (comes_from w g h z.0 (record { node = s.node; over = s.over; passes = q; opened = s.opened }))
              | inr q ↦ or_right (comes_to t w g) (comes_to t (is_same n) g) (comes_from (is_same n) g h z.0 (record { node = s.node; over = s.over; passes = q; opened = s.opened }))
            ]

        join : (g : ℕ) → g < length t → (comes_to t w g || comes_to t (is_same n) g) ≡ true → comes_to t v g ≡ true
        join g h f =
            elim (or_cases (comes_to t w g) (comes_to t (is_same n) g) f) [
              | inl q ↦ comes_weaker w v g h (λ d l x. e d l ∙ or_left (w d) (is_same n d) x) q
              | inr q ↦ comes_weaker (is_same n) v g h (λ d l x. e d l ∙ or_right (w d) (is_same n d) x) q
            ]

        apart : (g : ℕ) → g < length t → comes_to t w g ≡ true → comes_to t (is_same n) g ≡ true → ⊥
        apart g h f q =
            let y = (comes w g h f).1 in
            let z = (comes (is_same n) g h q).1 in
            let low : y.node ≤ g = ancestor_le t r y.node g h y.over in
            let k = kin y.node (omega arith) y.passes in
            let here : z.node ≡ n = eqb-true z.node n z.passes in
            let P : ℕ → Type 0 = λ m. is_ancestor t m g ≡ true in
            k.2 (children_apart t r y.node n g h k.0 p k.1 y.over (subst P here z.over))

  -- nothing comes past a strand or a block that was rolled back
  pub forks_stopped : (n : ℕ) → lets_out t n ≡ false → forks_to t (is_same n) ≡ 0
  forks_stopped n e =
      count_none (comes_to t (is_same n)) (length t) (λ g h. false_from_ne_true (comes_to t (is_same n) g) (λ f.
      let s = (comes (is_same n) g h f).1 in
      let here : s.node ≡ n = eqb-true s.node n s.passes in
      let P : ℕ → Type 0 = λ m. lets_out t m ≡ true in
      absurd (cc (e, subst P here (s.opened s.node s.over (omega arith))))))

  -- the forks in a node are those in its children, and the node itself where it is a fork
  pub forks_inside : (n : ℕ) → n < length t → lets_out t n ≡ true → forks_to t (is_same n) ≡ forks_to t (child_from t (suc n) n) + one_if (is_fork t n)
  forks_inside n hn o =
      count_or (comes_to t (is_same n)) (comes_to t (child_from t (suc n) n)) own (length t)
      (λ g h. same_truth (comes_to t (is_same n) g) (comes_to t (child_from t (suc n) n) g || own g) (split g h) (join g h)) apart
      ∙ ap (λ k. forks_to t (child_from t (suc n) n) + k) (count_one own n (length t) hn (λ m h ne. and_right (is_fork t m) (is_same n m) (false_from_ne_true (is_same n m) (λ e. ne (eqb-true m n e)))) ∙ ap one_if only) where
        own : ℕ → Bool
        own g = is_fork t g && is_same n g

        only : own n ≡ is_fork t n
        only = same_truth (own n) (is_fork t n) (λ e. (and_parts (is_fork t n) (is_same n n) e).0) (λ e. and_from (is_fork t n) (is_same n n) e (eq-eqb n n refl))

        split : (g : ℕ) → g < length t → comes_to t (is_same n) g ≡ true → (comes_to t (child_from t (suc n) n) g || own g) ≡ true
        split g h f =
            let z = comes (is_same n) g h f in
            let s = z.1 in
            let here : s.node ≡ n = eqb-true s.node n s.passes in
            let P : ℕ → Type 0 = λ m. is_ancestor t m g ≡ true in
            let over = subst P here s.over in
            elim (cases_eq g n) [
              | inl e ↦ or_right (comes_to t (child_from t (suc n) n) g) (own g) (and_from (is_fork t g) (is_same n g) z.0 (eq-eqb g n e))
              | inr ne ↦
                  or_left (comes_to t (child_from t (suc n) n) g) (own g)
                  (let b = branch t r n g h ne over in
                  let le : b.child ≤ g = ancestor_le t r b.child g h b.over in
                  let low : n < b.child = let q : parent_of t b.child < b.child = r b.child b.some (omega arith) in omega (arith, b.parent) in
                  comes_from (child_from t (suc n) n) g h z.0 (record {
                    node = b.child;
                    over = b.over;
                    passes = and_from (nat_le (suc n) b.child) (nat_eq (parent_of t b.child) n) (le-leb (suc n) b.child (omega arith)) (eq-eqb (parent_of t b.child) n b.parent);
                    opened = λ m a k. s.opened m a (omega (arith, here));
                  }))
            ]

        join : (g : ℕ) → g < length t → (comes_to t (child_from t (suc n) n) g || own g) ≡ true → comes_to t (is_same n) g ≡ true
        join g h f =
            elim (or_cases (comes_to t (child_from t (suc n) n) g) (own g) f) [
              | inl q ↦
                  (let z = comes (child_from t (suc n) n) g h q in
                  let s = z.1 in
                  let y = and_parts (nat_le (suc n) s.node) (nat_eq (parent_of t s.node) n) s.passes in
                  let low : suc n ≤ s.node = leb-true (suc n) s.node y.0 in
                  let up : parent_of t s.node ≡ n = eqb-true (parent_of t s.node) n y.1 in
                  let le : s.node ≤ g = ancestor_le t r s.node g h s.over in
                  let P : ℕ → Type 0 = λ m. is_ancestor t m s.node ≡ true in
                  let under : is_ancestor t n s.node ≡ true = subst P up (ancestor_up t r (parent_of t s.node) s.node (omega arith) (omega arith) (ancestor_self t (parent_of t s.node))) in
                  comes_from (is_same n) g h z.0 (record {
                    node = n;
                    over = ancestor_trans t r n s.node g h under s.over;
                    passes = eq-eqb n n refl;
                    opened = λ m a k. between g h s m a k (cases_lt m s.node) up low;
                  }))
              | inr q ↦
                  (let z = and_parts (is_fork t g) (is_same n g) q in
                  let e : g ≡ n = eqb-true g n z.1 in
                  let P : ℕ → Type 0 = λ m. lets_out t m ≡ true in
                  let Q : ℕ → Type 0 = λ m. is_ancestor t m g ≡ true in
                  comes_from (is_same n) g h z.0 (record {
                    node = n;
                    over = subst Q e (ancestor_self t g);
                    passes = eq-eqb n n refl;
                    opened = λ m a k. (let le : m ≤ g = ancestor_le t r m g h a in let same : n ≡ m = omega (arith, e) in subst P same o);
                  }))
            ] where
              between : (g : ℕ) → g < length t → (s : Reached t (child_from t (suc n) n) g) → (m : ℕ) → is_ancestor t m g ≡ true → n ≤ m → (m < s.node) ⊎ (s.node ≤ m) → parent_of t s.node ≡ n → suc n ≤ s.node → lets_out t m ≡ true
              between g h s m a k (inr le) up low = s.opened m a le
              between g h s m a k (inl less) up low =
                  let le : s.node ≤ g = ancestor_le t r s.node g h s.over in
                  let ne : s.node ≢ m = omega arith in
                  let over : is_ancestor t m (parent_of t s.node) ≡ true = sym (ancestor_step t r m s.node (omega arith) (omega arith) ne) ∙ ancestor_linear t r m s.node g h a s.over (omega arith) in
                  let high : m ≤ parent_of t s.node = ancestor_le t r m (parent_of t s.node) (omega (arith, up)) over in
                  let same : n ≡ m = omega (arith, up) in
                  let P : ℕ → Type 0 = λ x. lets_out t x ≡ true in
                  subst P same o

        apart : (g : ℕ) → g < length t → comes_to t (child_from t (suc n) n) g ≡ true → own g ≡ true → ⊥
        apart g h f q =
            let s = (comes (child_from t (suc n) n) g h f).1 in
            let e : g ≡ n = eqb-true g n (and_parts (is_fork t g) (is_same n g) q).1 in
            let low : suc n ≤ s.node = leb-true (suc n) s.node (and_parts (nat_le (suc n) s.node) (nat_eq (parent_of t s.node) n) s.passes).0 in
            let le : s.node ≤ g = ancestor_le t r s.node g h s.over in
            omega (arith, e)
