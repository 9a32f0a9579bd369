-- Two nodes part at their least common ancestor, in series or in parallel.
use Rattle.std.proofs.Common.{◌≡◌, ◌≢◌, ℕ, ◌+◌, ◌<◌, ◌≤◌, List, length, ap, sym, ◌∙◌, arith, Bool, true, false, inl, inr, subst}
use Rattle.std.specs.Prelude.{◌⊎◌, ◌&&◌, not}
use Rattle.std.proofs.lemmas.Bool.{and_from, and_right, not_from_false, false_from_ne_true, cases_Bool, cases_eq, cases_lt}
use Rattle.cw_tree.specs.declared.node.Node.{Node}
use Rattle.cw_tree.specs.Nodes.{parent_of, is_fork}
use Rattle.cw_tree.specs.Walks.{IsRooted, is_ancestor, lca}
use Rattle.cw_tree.specs.Series.{parallel, is_before}
use Rattle.cw_tree.specs.ForkCounts.{one_if}
use Rattle.cw_tree.specs.Laws.{SeriesOrParallel}
use Rattle.cw_tree.proofs.Walks.Ancestors.{ancestor_self, ancestor_up, ancestor_trans, ancestor_le}
use Rattle.cw_tree.proofs.Walks.Meets.{IsMeet, lca_is_meet}
use Rattle.cw_tree.proofs.Walks.Kin.{Branch, branch, InSeries, of_before, before_of, children_apart}

one_true : (x y z : Bool) → x ≡ true → y ≡ false → z ≡ false → one_if x + one_if y + one_if z ≡ 1
one_true x y z e f g = omega (arith, ap one_if e, ap one_if f, ap one_if g)

module _ (t : List Node) (r : IsRooted t) where
  swapped : (a b m : ℕ) → IsMeet t r a b m → IsMeet t r b a m
  swapped a b m w = record { left = w.right; right = w.left; innermost = λ n e f. w.innermost n f e }

  parent_over : (c n : ℕ) → 0 < c → c < length t → n < length t → is_ancestor t c n ≡ true → is_ancestor t (parent_of t c) n ≡ true
  parent_over c n p h g e = ancestor_trans t r (parent_of t c) c n g (ancestor_up t r (parent_of t c) c p h (ancestor_self t (parent_of t c))) e

  -- nodes that are in series stand in two children of their least common ancestor
  series_meet : (a b m : ℕ) → a < length t → b < length t → IsMeet t r a b m → (s : InSeries t a b) → parent_of t s.first ≡ m
  series_meet a b m ha hb w s =
      let o = s.ordered in
      let x = s.first in
      let y = s.second in
      let some = o.some in
      let less = o.less in
      let lx : x ≤ a = ancestor_le t r x a ha s.over_first in
      let ly : y ≤ b = ancestor_le t r y b hb s.over_second in
      let P : ℕ → Type 0 = λ q. is_ancestor t q b ≡ true in
      let over_b : is_ancestor t (parent_of t x) b ≡ true = subst P (sym o.same) (parent_over y b (omega arith) (omega arith) hb s.over_second) in
      let over : is_ancestor t (parent_of t x) m ≡ true = w.innermost (parent_of t x) (parent_over x a some (omega arith) ha s.over_first) over_b in
      let lm : m ≤ a = ancestor_le t r m a ha w.left in
      elim (cases_eq m (parent_of t x)) [
        | inl e ↦ sym e
        | inr ne ↦
            (let z = branch t r (parent_of t x) m (omega arith) ne over in
            let first : z.child ≡ x = children_apart t r z.child x a ha z.some some z.parent (ancestor_trans t r z.child m a ha z.over w.left) s.over_first in
            let second : z.child ≡ y = children_apart t r z.child y b hb z.some (omega arith) (z.parent ∙ o.same) (ancestor_trans t r z.child m b hb z.over w.right) s.over_second in
            absurd (omega (arith, first, second)))
      ]

  module _ (a b : ℕ) (ha : a < length t) (hb : b < length t) (ab : is_ancestor t a b ≡ false) (ba : is_ancestor t b a ≡ false) where
    pub meet : IsMeet t r a b (lca t a b)
    meet = lca_is_meet t r a b ha hb

    left_ne : a ≢ lca t a b
    left_ne e = let P : ℕ → Type 0 = λ m. is_ancestor t m b ≡ true in absurd (cc (ab, subst P (sym e) meet.right))

    right_ne : b ≢ lca t a b
    right_ne e = let P : ℕ → Type 0 = λ m. is_ancestor t m a ≡ true in absurd (cc (ba, subst P (sym e) meet.left))

    pub left : Branch t r (lca t a b) a
    left = branch t r (lca t a b) a ha left_ne meet.left

    pub right : Branch t r (lca t a b) b
    right = branch t r (lca t a b) b hb right_ne meet.right

    pub branches_differ : left.child ≢ right.child
    branches_differ e =
        let P : ℕ → Type 0 = λ c. is_ancestor t c b ≡ true in
        let over : is_ancestor t left.child (lca t a b) ≡ true = meet.innermost left.child left.over (subst P (sym e) right.over) in
        let top : lca t a b ≤ a = ancestor_le t r (lca t a b) a ha meet.left in
        let le : left.child ≤ lca t a b = ancestor_le t r left.child (lca t a b) (omega arith) over in
        let low : parent_of t left.child < left.child = r left.child left.some (omega arith) in
        omega (arith, left.parent)

    -- at a fork neither is before the other
    pub fork_apart : is_fork t (lca t a b) ≡ true → is_before t a b ≡ false
    fork_apart f =
        false_from_ne_true (is_before t a b) (λ e. let s = of_before t a b e in absurd (cc (f, s.ordered.no_fork, ap (is_fork t) (series_meet a b (lca t a b) ha hb meet s))))

    at_fork : is_fork t (lca t a b) ≡ true → one_if (parallel t a b) + one_if (is_before t a b) + one_if (is_before t b a) ≡ 1
    at_fork f =
        one_true (parallel t a b) (is_before t a b) (is_before t b a)
        (and_from (not (is_ancestor t a b) && not (is_ancestor t b a)) (is_fork t (lca t a b)) (and_from (not (is_ancestor t a b)) (not (is_ancestor t b a)) (not_from_false (is_ancestor t a b) ab) (not_from_false (is_ancestor t b a) ba)) f)
        (fork_apart f)
        (false_from_ne_true (is_before t b a) (λ e. let s = of_before t b a e in absurd (cc (f, s.ordered.no_fork, ap (is_fork t) (series_meet b a (lca t a b) hb ha (swapped a b (lca t a b) meet) s)))))

    no_parallel : is_fork t (lca t a b) ≡ false → parallel t a b ≡ false
    no_parallel f = and_right (not (is_ancestor t a b) && not (is_ancestor t b a)) (is_fork t (lca t a b)) f

    pub first_comes : is_fork t (lca t a b) ≡ false → left.child < right.child → is_before t a b ≡ true
    first_comes f less = before_of t a b (record {
      first = left.child;
      second = right.child;
      ordered = record { some = left.some; less = less; same = left.parent ∙ sym right.parent; no_fork = ap (is_fork t) left.parent ∙ f };
      over_first = left.over;
      over_second = right.over;
    })

    second_comes : is_fork t (lca t a b) ≡ false → right.child < left.child → is_before t b a ≡ true
    second_comes f less = before_of t b a (record {
      first = right.child;
      second = left.child;
      ordered = record { some = right.some; less = less; same = right.parent ∙ sym left.parent; no_fork = ap (is_fork t) right.parent ∙ f };
      over_first = right.over;
      over_second = left.over;
    })

    -- the children in which a and b stand tell which is before the other
    pub by_branches : is_before t a b ≡ true → left.child < right.child
    by_branches e =
        let s = of_before t a b e in
        let o = s.ordered in
        let up = series_meet a b (lca t a b) ha hb meet s in
        let some = o.some in
        let less = o.less in
        let first : s.first ≡ left.child = children_apart t r s.first left.child a ha some left.some (up ∙ sym left.parent) s.over_first left.over in
        let second : s.second ≡ right.child = children_apart t r s.second right.child b hb (omega arith) right.some (sym o.same ∙ up ∙ sym right.parent) s.over_second right.over in
        omega (arith, first, second)

    pub by_branches_back : is_before t b a ≡ true → right.child < left.child
    by_branches_back e =
        let s = of_before t b a e in
        let o = s.ordered in
        let up = series_meet b a (lca t a b) hb ha (swapped a b (lca t a b) meet) s in
        let some = o.some in
        let less = o.less in
        let first : s.first ≡ right.child = children_apart t r s.first right.child b hb some right.some (up ∙ sym right.parent) s.over_first right.over in
        let second : s.second ≡ left.child = children_apart t r s.second left.child a ha (omega arith) left.some (sym o.same ∙ up ∙ sym left.parent) s.over_second left.over in
        omega (arith, first, second)

    in_series : is_fork t (lca t a b) ≡ false → (left.child < right.child) ⊎ (right.child ≤ left.child) → one_if (parallel t a b) + one_if (is_before t a b) + one_if (is_before t b a) ≡ 1
    in_series f (inl less) =
        let no_back : is_before t b a ≡ false = false_from_ne_true (is_before t b a) (λ e. let back : right.child < left.child = by_branches_back e in omega arith) in
        omega (arith, ap one_if (no_parallel f), ap one_if (first_comes f less), ap one_if no_back)
    in_series f (inr le) =
        let ne = branches_differ in
        let less : right.child < left.child = omega arith in
        let no_forth : is_before t a b ≡ false = false_from_ne_true (is_before t a b) (λ e. let forth : left.child < right.child = by_branches e in omega arith) in
        omega (arith, ap one_if (no_parallel f), ap one_if no_forth, ap one_if (second_comes f less))

pub series_or_parallel : SeriesOrParallel
series_or_parallel t r a b ha hb ab ba =
    elim (cases_Bool (is_fork t (lca t a b))) [
      | inl f ↦ at_fork t r a b ha hb ab ba f
      | inr f ↦ in_series t r a b ha hb ab ba f (cases_lt (left t r a b ha hb ab ba).child (right t r a b ha hb ab ba).child)
    ]
