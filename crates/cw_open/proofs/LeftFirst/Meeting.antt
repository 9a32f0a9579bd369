-- A strand to the left of which nothing is unfinished meets no pending block that is not around its place.
use Rattle.std.proofs.Common.{◌≡◌, ◌≢◌, ℕ, ◌<◌, ◌≤◌, List, length, ap, sym, ◌∙◌, subst, arith, true, false, inl, inr}
use Rattle.std.specs.Prelude.{◌&&◌, ◌||◌, not, nat_lt}
use Rattle.std.proofs.lemmas.Bool.{and_parts, and_from, or_cases, or_left, not-true, not_from_false, cases_lt, lt-ltb, false_from_ne_true, true_from_ne_false}
use Rattle.cw_tree.specs.declared.node.Node.{Node}
use Rattle.cw_tree.specs.Nodes.{is_strand_kind, parent_of, is_strand, is_fork, is_block, is_pending}
use Rattle.cw_tree.specs.Walks.{IsRooted, has, is_ancestor, path, lca}
use Rattle.cw_tree.specs.Series.{place, children, parallel, is_before}
use Rattle.cw_tree.specs.ForkCounts.{one_if}
use Rattle.cw_tree.specs.Names.{strands_on}
use Rattle.cw_tree.proofs.Lists.{all_in, any_from}
use Rattle.cw_tree.proofs.Members.{filter_in}
use Rattle.cw_tree.proofs.InOrder.DepthFirst.{child_in}
use Rattle.cw_tree.proofs.Walks.There.{node_there, pending_there}
use Rattle.cw_tree.proofs.Walks.Ancestors.{ancestor_self, ancestor_above, ancestor_le}
use Rattle.cw_tree.proofs.Walks.Kin.{ancestor_in, ancestor_linear, branch, fork_child}
use Rattle.cw_tree.proofs.Walks.Meets.{IsMeet, lca_is_meet}
use Rattle.cw_tree.proofs.Walks.Parting.{series_or_parallel}
use Rattle.cw_tree.proofs.Walks.Strands.{strand_innermost, strand_over}
use Rattle.cw_tree.proofs.NodeKinds.{strand_no_block, fork_no_strand, pending_block}
use Rattle.cw_open.specs.Machine.{OpenMachine, has_finished, is_running}
use Rattle.cw_open.specs.Open.{is_open}
use Rattle.cw_open.specs.LeftFirst.{left_has_finished, lefts_have_finished}
use Rattle.cw_open.proofs.Open.Standing.{stands, open_over, open_last, pending_open, place_open}
use Rattle.cw_open.proofs.Open.Trees.{IsWell, stands_well}
use Rattle.cw_open.proofs.LeftFirst.Sides.{LeftDone, RightsWait}

-- ## Where two nodes part

-- nodes that part stand in two children of their least common ancestor
pub record Parts (t : List Node) (a b : ℕ) : Type 0 where
  pub first : ℕ
  pub second : ℕ
  pub first_some : 0 < first
  pub second_some : 0 < second
  pub first_up : parent_of t first ≡ lca t a b
  pub second_up : parent_of t second ≡ lca t a b
  pub first_over : is_ancestor t first a ≡ true
  pub second_over : is_ancestor t second b ≡ true
  pub apart : first ≢ second

module _ (t : List Node) (r : IsRooted t) (a b : ℕ) (ha : a < length t) (hb : b < length t) (ab : is_ancestor t a b ≡ false) (ba : is_ancestor t b a ≡ false) where
  meet : IsMeet t r a b (lca t a b)
  meet = lca_is_meet t r a b ha hb

  ne_first : a ≢ lca t a b
  ne_first e = let P : ℕ → Type 0 = λ m. is_ancestor t m b ≡ true in absurd (cc (ab, subst P (sym e) meet.right))

  ne_second : b ≢ lca t a b
  ne_second e = let P : ℕ → Type 0 = λ m. is_ancestor t m a ≡ true in absurd (cc (ba, subst P (sym e) meet.left))

  pub parts : Parts t a b
  parts =
      let m = lca t a b in
      let x = branch t r m a ha ne_first meet.left in
      let y = branch t r m b hb ne_second meet.right in
      record {
        first = x.child;
        second = y.child;
        first_some = x.some;
        second_some = y.some;
        first_up = x.parent;
        second_up = y.parent;
        first_over = x.over;
        second_over = y.over;
        apart = λ e.
            (let P : ℕ → Type 0 = λ c. is_ancestor t c b ≡ true in
            let over : is_ancestor t x.child m ≡ true = meet.innermost x.child x.over (subst P (sym e) y.over) in
            let top : m ≤ a = ancestor_le t r m a ha meet.left in
            let le : x.child ≤ m = ancestor_le t r x.child m (omega arith) over in
            let low : parent_of t x.child < x.child = r x.child x.some (omega arith) in
            omega (arith, x.parent));
      }

  -- where neither is before the other, that is a fork
  pub part_at_fork : is_before t a b ≡ false → is_before t b a ≡ false → is_fork t (lca t a b) ≡ true
  part_at_fork no_forth no_back =
      let one = series_or_parallel t r a b ha hb ab ba in
      let both : parallel t a b ≡ true = true_from_ne_false (parallel t a b) (λ e. absurd (omega (arith, one, ap one_if e, ap one_if no_forth, ap one_if no_back))) in
      (and_parts (not (is_ancestor t a b) && not (is_ancestor t b a)) (is_fork t (lca t a b)) both).1

-- an open strand has not finished
pub open_strand : (m : OpenMachine) (n : ℕ) → is_strand m.tree n ≡ true → is_open m n ≡ true → has_finished m n ≡ false
open_strand m n strand e =
    false_from_ne_true (has_finished m n) (λ f.
    elim (or_cases (is_strand m.tree n && not (has_finished m n) || is_fork m.tree n && not (has m.joined n)) (is_pending m.tree n) e) [
      | inr pending ↦ absurd (cc (pending_block m.tree n pending, strand_no_block m.tree n strand))
      | inl z ↦ elim (or_cases (is_strand m.tree n && not (has_finished m n)) (is_fork m.tree n && not (has m.joined n)) z) [
        | inl y ↦ absurd (cc (f, not-true (has_finished m n) (and_parts (is_strand m.tree n) (not (has_finished m n)) y).1))
        | inr y ↦ absurd (cc (strand, fork_no_strand m.tree n (and_parts (is_fork m.tree n) (not (has m.joined n)) y).0))
      ]
    ])

-- and one that has not finished is open
pub strand_open : (m : OpenMachine) (x : ℕ) → is_strand m.tree x ≡ true → has_finished m x ≡ false → is_open m x ≡ true
strand_open m x is e =
    or_left (is_strand m.tree x && not (has_finished m x) || is_fork m.tree x && not (has m.joined x)) (is_pending m.tree x)
    (or_left (is_strand m.tree x && not (has_finished m x)) (is_fork m.tree x && not (has m.joined x)) (and_from (is_strand m.tree x) (not (has_finished m x)) is (not_from_false (has_finished m x) e)))

-- ## A strand that runs

module _ (m : OpenMachine) (w : IsWell m) (s : ℕ) (running : is_running m s ≡ true) (clear : lefts_have_finished m s ≡ true) where
  abbrev t : List Node
  t = m.tree

  abbrev p : ℕ
  p = place t s

  r : IsRooted t
  r = w.sound.tree.rooted

  there : p < length t
  there = (stands_well m w s running).there

  -- for each fork around it in whose right strand it is, the left strand has finished
  left_around : (q : ℕ) → is_strand t q ≡ true → is_ancestor t q s ≡ true → LeftDone t (has_finished m) q
  left_around q strand over l some less same fork =
      let i = filter_in (λ n. nat_lt 0 n && is_strand t n) q (path t s) (ancestor_in t q s over) (and_from (nat_lt 0 q) (is_strand t q) (lt-ltb 0 q (omega arith)) strand) in
      let none = not-true _ (all_in (left_has_finished m) q (strands_on t s) clear i) in
      let low = node_there (λ y. is_strand_kind y.kind) t q strand in
      true_from_ne_false (has_finished m l) (λ e.
      let unfinished = and_from (nat_lt l q) (not (has_finished m l)) (lt-ltb l q less) (not_from_false (has_finished m l) e) in
      absurd (cc (none, any_from (λ n. nat_lt n q && not (has_finished m n)) l (children t (parent_of t q)) (child_in t (parent_of t q) l (record { some = some; there = omega arith; parent = same })) unfinished)))

  -- and of each fork around its place
  pub left_over : (q : ℕ) → q < length t → is_ancestor t q p ≡ true → LeftDone t (has_finished m) q
  left_over q h over l some less same fork =
      let at = stands m w.sound.tree w.nested s running in
      let strand = fork_child t w.sound.tree q (omega arith) h fork in
      let inner : q ≤ s = omega (arith, strand_innermost t r q strand p there over, at.strand) in
      let P : ℕ → Type 0 = λ n. is_ancestor t n p ≡ true in
      let s_over : is_ancestor t s p ≡ true = subst P at.strand (strand_over t r p there) in
      left_around q strand (ancestor_linear t r q s p there over s_over inner) l some less same fork

  pub left_here : LeftDone t (has_finished m) p
  left_here = left_over p there (ancestor_self t p)

  module _ (waits : RightsWait t (has_finished m)) (b : ℕ) (pending : is_pending t b ≡ true) (beside : is_ancestor t b p ≡ false) where
    low : b < length t
    low = pending_there t b pending

    opened : is_open m b ≡ true
    opened = pending_open m w.sound.tree w.nested b pending

    place_opened : is_open m p ≡ true
    place_opened = place_open m w.sound.tree w.nested s running

    outside : is_ancestor t p b ≡ false
    outside =
        false_from_ne_true (is_ancestor t p b) (λ e.
        let ne : b ≢ p = λ q. (let P : ℕ → Type 0 = λ n. is_ancestor t n p ≡ true in absurd (cc (beside, subst P (sym q) (ancestor_self t p)))) in
        absurd (cc (pending, (stands_well m w s running).within b low (sym (ancestor_above t p b ne) ∙ e))))

    abbrev z : Parts t b p
    z = parts t r b p low there beside outside

    fork : is_fork t (lca t b p) ≡ true
    fork =
        part_at_fork t r b p low there beside outside
        (open_last m w.sound.tree w.nested b p low there opened)
        (open_last m w.sound.tree w.nested p b there low place_opened)

    low_first : z.first < length t
    low_first = let le : z.first ≤ b = ancestor_le t r z.first b low z.first_over in let h : b < length t = low in omega arith

    low_second : z.second < length t
    low_second = let le : z.second ≤ p = ancestor_le t r z.second p there z.second_over in let h : p < length t = there in omega arith

    strand_first : is_strand t z.first ≡ true
    strand_first = fork_child t w.sound.tree z.first z.first_some low_first (ap (is_fork t) z.first_up ∙ fork)

    strand_second : is_strand t z.second ≡ true
    strand_second = fork_child t w.sound.tree z.second z.second_some low_second (ap (is_fork t) z.second_up ∙ fork)

    unfinished_first : has_finished m z.first ≡ false
    unfinished_first = open_strand m z.first strand_first (open_over m w.sound.tree w.nested z.first b low z.first_over opened)

    unfinished_second : has_finished m z.second ≡ false
    unfinished_second = open_strand m z.second strand_second (open_over m w.sound.tree w.nested z.second p there z.second_over place_opened)

    -- the block is to the left: the strand does not step yet
    block_left : z.first < z.second → ⊥
    block_left less =
        absurd (cc (
          unfinished_first,
          left_over z.second low_second z.second_over z.first z.first_some less (z.first_up ∙ sym z.second_up) (ap (is_fork t) z.second_up ∙ fork),
        ))

    no_strand : b ≢ z.first
    no_strand e = absurd (cc (strand_no_block t z.first strand_first, pending_block t b pending, ap (is_block t) e))

    -- the block is to the right: it was not begun yet
    block_right : z.second < z.first → ⊥
    block_right less =
        let c = branch t r z.first b low no_strand z.first_over in
        let le : c.child ≤ b = ancestor_le t r c.child b low c.over in
        let P : ℕ → Type 0 = λ q. LeftDone t (has_finished m) q in
        let h : b < length t = low in
        let left : LeftDone t (has_finished m) z.first = subst P c.parent (waits c.child c.some (omega arith)) in
        absurd (cc (unfinished_second, left z.second z.second_some less (z.second_up ∙ sym z.first_up) (ap (is_fork t) z.first_up ∙ fork)))

    pub none_met : ⊥
    none_met =
        let ne = z.apart in
        elim (cases_lt z.first z.second) [
          | inl less ↦ block_left less
          | inr le ↦ block_right (omega arith)
        ]
