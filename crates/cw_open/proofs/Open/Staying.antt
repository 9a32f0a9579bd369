-- What stays of the nodes of a tree as others come and as blocks are closed.
use Rattle.std.proofs.Common.{◌≡◌, ℕ, ◌+◌, ◌<◌, ◌≤◌, List, length, refl, ap, sym, ◌∙◌, arith, true, false, inl, inr, nat_eq, nat_lt}
use Rattle.std.specs.Prelude.{◌&&◌, not, filter, unwrap_or}
use Rattle.std.specs.List.{list_any}
use Rattle.std.proofs.lemmas.Bool.{and_from, lt-ltb, ltb-true, eq-eqb, cases_lt, false_from_ne_true}
use Rattle.cw_tree.specs.declared.node.Node.{Node}
use Rattle.cw_tree.specs.declared.node.BlockState.{BlockState}
use Rattle.cw_tree.specs.Nodes.{passes, is_strand_kind, is_fork_kind, is_block_kind, is_tried_kind, number_in, parent_of, stamp_of, is_strand, is_fork, is_block, is_tried, all_nodes, closed}
use Rattle.cw_tree.specs.Walks.{IsRooted, lca, is_ancestor, is_above}
use Rattle.cw_tree.specs.Series.{strand_of, children, parallel, has_later, is_before}
use Rattle.cw_tree.proofs.Lists.{any_in, any_from}
use Rattle.cw_tree.proofs.Members.{filter_same, below_in, filter_in}
use Rattle.cw_tree.proofs.NextNodes.Kept.{KeepsParents, find_path_kept, is_above_kept, ancestor_kept, strand_of_kept}
use Rattle.cw_tree.proofs.NextNodes.Closing.{length_closed, all_nodes_closed, node_closed, number_closed}
use Rattle.cw_tree.proofs.InOrder.DepthFirst.{child_is}
use Rattle.cw_tree.proofs.Walks.Climbs.{by_parent}
use Rattle.cw_tree.proofs.Walks.Kin.{before_of}
use Rattle.cw_tree.proofs.Walks.Ancestors.{above_parent, ancestor_above, ancestor_self, ancestor_le}
use Rattle.cw_tree.proofs.Walks.Meets.{lca_is_meet}
use Rattle.cw_open.proofs.Open.Growth.{IsGrowth}

-- the nodes of tree t are in tree u what they were, except for the states and ends of blocks
pub record Stays (t u : List Node) : Type 0 where
  pub longer : length t ≤ length u
  pub rooted : IsRooted t
  pub parents : (n : ℕ) → n < length t → parent_of u n ≡ parent_of t n
  pub stamps : (n : ℕ) → n < length t → stamp_of u n ≡ stamp_of t n
  pub strands : (n : ℕ) → n < length t → is_strand u n ≡ is_strand t n
  pub forks : (n : ℕ) → n < length t → is_fork u n ≡ is_fork t n
  pub blocks : (n : ℕ) → n < length t → is_block u n ≡ is_block t n

pub grown_stays : (t u : List Node) (p stamp : ℕ) → IsRooted t → IsGrowth t u p stamp → Stays t u
grown_stays t u p stamp r g = record {
  longer = g.longer;
  rooted = r;
  parents = λ n h. ap (number_in (λ y. y.parent)) (g.old n h);
  stamps = λ n h. ap (number_in (λ y. y.stamp)) (g.old n h);
  strands = λ n h. ap (passes (λ y. is_strand_kind y.kind)) (g.old n h);
  forks = λ n h. ap (passes (λ y. is_fork_kind y.kind)) (g.old n h);
  blocks = λ n h. ap (passes (λ y. is_block_kind y.kind)) (g.old n h);
}

pub closed_stays : (t : List Node) → IsRooted t → (b : ℕ) (state : BlockState) (end : ℕ) → Stays t (closed t b state end)
closed_stays t r b state end = record {
  longer = omega (arith, length_closed t b state end);
  rooted = r;
  parents = λ n h. number_closed t b state end (λ y. y.parent) (λ y. refl) n;
  stamps = λ n h. number_closed t b state end (λ y. y.stamp) (λ y. refl) n;
  strands = λ n h. node_closed t b state end (λ y. is_strand_kind y.kind) (λ y. refl) n;
  forks = λ n h. node_closed t b state end (λ y. is_fork_kind y.kind) (λ y. refl) n;
  blocks = λ n h. node_closed t b state end (λ y. is_block_kind y.kind) (λ y. refl) n;
}

module _ (t u : List Node) (s : Stays t u) where
  pub keeps : KeepsParents t u
  keeps = record { rooted = s.rooted; parents = s.parents }

  pub above_stays : (a n : ℕ) → n < length t → is_above u a n ≡ is_above t a n
  above_stays = is_above_kept t u keeps

  pub ancestor_stays : (a n : ℕ) → n < length t → is_ancestor u a n ≡ is_ancestor t a n
  ancestor_stays = ancestor_kept t u keeps

  pub strand_stays : (n : ℕ) → n < length t → strand_of u n ≡ strand_of t n
  strand_stays = strand_of_kept t u keeps s.strands

-- what is above a node that came is above the place where it came, or is that place, where it did not come too
pub came_beneath : (t u : List Node) (p stamp : ℕ) → IsRooted t → p < length t → IsGrowth t u p stamp → (a k : ℕ) → a < length t → length t ≤ k → k < length u
    → is_above u a k ≡ true → is_ancestor t a p ≡ true
came_beneath t u p stamp r there g a k low le h over =
    by_parent u g.rooted (λ k. length t ≤ k → is_above u a k ≡ true → is_ancestor t a p ≡ true) (λ le. absurd (omega arith))
    (λ k some h more le over.
    let up : is_ancestor u a (parent_of u k) ≡ true = sym (above_parent u g.rooted a k some h) ∙ over in
    elim (g.parents k le h) [
      | inl q ↦ sym (ancestor_stays t u (grown_stays t u p stamp r g) a p there) ∙ ap (is_ancestor u a) (sym q) ∙ up
      | inr past ↦ (let ne : parent_of u k ≡ a → ⊥ = λ q. omega (arith, q) in more past (sym (ancestor_above u a (parent_of u k) ne) ∙ up))
    ])
    k h le over

module _ (t u : List Node) (s : Stays t u) (x v : ℕ) (low_x : x < length t) (low_v : v < length t) where
  fork_stays : is_fork u (lca u x v) ≡ is_fork t (lca t x v)
  fork_stays =
      let one : lca u x v ≡ lca t x v = ap (λ o. unwrap_or o 0) (find_path_kept t u (keeps t u s) (λ m. is_ancestor u m v) (λ m. is_ancestor t m v) (λ m h. ancestor_stays t u s m v low_v) x low_x) in
      let le = ancestor_le t s.rooted (lca t x v) x low_x (lca_is_meet t s.rooted x v low_x low_v).left in
      ap (is_fork u) one ∙ s.forks (lca t x v) (omega (arith, low_x))

  pub parallel_stays : parallel u x v ≡ parallel t x v
  parallel_stays =
      ap (λ k. not k && not (is_ancestor u v x) && is_fork u (lca u x v)) (ancestor_stays t u s x v low_v)
      ∙ ap (λ k. not (is_ancestor t x v) && not k && is_fork u (lca u x v)) (ancestor_stays t u s v x low_x)
      ∙ ap (λ k. not (is_ancestor t x v) && not (is_ancestor t v x) && k) fork_stays

-- ## Later siblings

-- a sibling that comes after node n
pub record IsLater (t : List Node) (n k : ℕ) : Type 0 where
  pub less : n < k
  pub there : k < length t
  pub same : parent_of t k ≡ parent_of t n

pub later_is : (t : List Node) (n : ℕ) → has_later t n ≡ true → (k : ℕ) × IsLater t n k
later_is t n e =
    let z = any_in (nat_lt n) (children t (parent_of t n)) e in
    let c = child_is t (parent_of t n) z.0 z.1 in
    (z.0, record { less = ltb-true n z.0 z.2; there = c.there; same = c.parent })

pub is_later : (t : List Node) (n k : ℕ) → IsLater t n k → has_later t n ≡ true
is_later t n k w =
    let less = w.less in
    any_from (nat_lt n) k (children t (parent_of t n))
    (filter_in (λ m. nat_lt 0 m && nat_eq (parent_of t m) (parent_of t n)) k (all_nodes t) (below_in k (length t) w.there)
    (and_from (nat_lt 0 k) (nat_eq (parent_of t k) (parent_of t n)) (lt-ltb 0 k (omega arith)) (eq-eqb (parent_of t k) (parent_of t n) w.same)))
    (lt-ltb n k w.less)

-- where a node of another place than that where nodes came has none, it has none then
pub later_grown : (t u : List Node) (p stamp : ℕ) → IsRooted t → IsGrowth t u p stamp → (n : ℕ) → 0 < n → n < length t → has_later t n ≡ false → (parent_of t n ≡ p → ⊥) → has_later u n ≡ false
later_grown t u p stamp r g n some low none other =
    false_from_ne_true (has_later u n) (λ e.
    let (k, w) = later_is u n e in
    let s = grown_stays t u p stamp r g in
    let same : parent_of u k ≡ parent_of t n = w.same ∙ s.parents n low in
    let up : parent_of t n < n = r n some low in
    elim (cases_lt k (length t)) [
      | inl h ↦ absurd (cc (none, is_later t n k (record { less = w.less; there = h; same = sym (s.parents k h) ∙ same })))
      | inr le ↦ elim (g.parents k le w.there) [
        | inl q ↦ absurd (other (sym same ∙ q))
        | inr past ↦ absurd (omega arith)
      ]
    ])

-- the last node has none
pub later_last : (t : List Node) (n : ℕ) → length t ≤ n + 1 → has_later t n ≡ false
later_last t n le = false_from_ne_true (has_later t n) (λ e. absurd (let (k, w) = later_is t n e in let less = w.less in let there = w.there in omega arith))

pub children_closed : (t : List Node) (b : ℕ) (state : BlockState) (end n : ℕ) → children (closed t b state end) n ≡ children t n
children_closed t b state end n =
    ap (filter (λ m. nat_lt 0 m && nat_eq (parent_of (closed t b state end) m) n)) (all_nodes_closed t b state end)
    ∙ filter_same (λ m. nat_lt 0 m && nat_eq (parent_of (closed t b state end) m) n) (λ m. nat_lt 0 m && nat_eq (parent_of t m) n) (all_nodes t)
    (λ m i. ap (λ q. nat_lt 0 m && nat_eq q n) (number_closed t b state end (λ y. y.parent) (λ y. refl) m))

pub later_closed : (t : List Node) (b : ℕ) (state : BlockState) (end n : ℕ) → has_later (closed t b state end) n ≡ has_later t n
later_closed t b state end n =
    ap (λ q. list_any (nat_lt n) (children (closed t b state end) q)) (number_closed t b state end (λ y. y.parent) (λ y. refl) n)
    ∙ ap (list_any (nat_lt n)) (children_closed t b state end (parent_of t n))

-- a node after which nothing comes in series, and whose parent is no fork, has none
pub later_none : (t : List Node) (n : ℕ) → 0 < n → n < length t → is_fork t (parent_of t n) ≡ false → ((k : ℕ) → k < length t → is_before t n k ≡ false) → has_later t n ≡ false
later_none t n some low no_fork last =
    false_from_ne_true (has_later t n) (λ e.
    let (k, w) = later_is t n e in
    absurd (cc (
      last k w.there,
      before_of t n k (record {
        first = n;
        second = k;
        ordered = record { some = some; less = w.less; same = sym w.same; no_fork = no_fork };
        over_first = ancestor_self t n;
        over_second = ancestor_self t k;
      }),
    )))

-- ## Refused accesses

pub tried_closed : (t : List Node) (b : ℕ) (state : BlockState) (end : ℕ) → filter (is_tried (closed t b state end)) (all_nodes (closed t b state end)) ≡ filter (is_tried t) (all_nodes t)
tried_closed t b state end =
    ap (filter (is_tried (closed t b state end))) (all_nodes_closed t b state end)
    ∙ filter_same (is_tried (closed t b state end)) (is_tried t) (all_nodes t) (λ m i. node_closed t b state end (λ y. is_tried_kind y.kind) (λ y. refl) m)
