-- Two accesses of a tree that is numbered depth first race exactly if the Hebrew order has the later one first, one of them writes, and they
-- are of one group.
use Rattle.std.proofs.Common.{◌≡◌, ◌≢◌, ℕ, zero, suc, ◌<◌, List, [], ◌∷◌, length, refl, ap, sym, ◌∙◌, arith, Bool, true, false, cond, Option, Some, None, inl, inr, subst, nat_lt}
use Rattle.std.specs.Prelude.{◌⊎◌, ◌==◌, ◌&&◌, ◌||◌, not, slice_get}
use Rattle.std.specs.List.{filter}
use Rattle.std.proofs.lemmas.Bool.{and_parts, and_from, lt-ltb, le-ltb, ltb-true, cases_eq, cases_order}
use Rattle.cw_order.specs.Order.{position}
use Rattle.cw_tree.specs.declared.node.Node.{Node}
use Rattle.cw_tree.specs.declared.node.Kind.{Kind}
use Rattle.cw_tree.specs.declared.node.Kind.TheVariants.{Strand, Fork, Block, Read, Write, Out, Tried, Cancel}
use Rattle.cw_tree.specs.Nodes.{passes, touches, touches_kind, is_strand_kind, is_fork_kind, is_block_kind, below, all_nodes}
use Rattle.cw_tree.specs.Walks.{xparent}
use Rattle.cw_tree.specs.Series.{parallel}
use Rattle.cw_tree.specs.Shape.{IsTree}
use Rattle.cw_tree.specs.Accesses.{is_live}
use Rattle.cw_tree.proofs.Lists.{In}
use Rattle.cw_tree.proofs.Members.{below_in, filter_in, in_filter, in_below}
use Rattle.cw_tree.proofs.Ahead.{apart_below}
use Rattle.cw_tree.proofs.Rising.{below_rises, rises_ahead}
use Rattle.cw_tree.proofs.Walks.There.{node_there}
use Rattle.cw_sp.specs.Orders.{english, hebrew, mirrored, stands_before, is_leaf}
use Rattle.cw_sp.proofs.Positions.{position_here, position_later, ahead_position}
use Rattle.cw_sp.proofs.Orders.{english_is_depth_first, by_mirror, leaf_there, leaves_by_orders}
use Rattle.cw_sp.proofs.BothLines.{all_visited}
use Rattle.cw_record.specs.Items.{same_block}
use Rattle.cw_record.specs.Records.{IsNumberedDepthFirst}
use Rattle.cw_record.proofs.Orders.InOrder.{in_order_is}
use Rattle.cw_race.specs.Kept.{races}
use Rattle.cw_race.specs.Races.{is_access, writes, are_racing, cell_of_kind, cell_of_node, cell_of}

-- ## Nodes that touch a cell

touching_leaf : (c : ℕ) (k : Kind) → touches_kind c k ≡ true → not (is_strand_kind k || is_fork_kind k || is_block_kind k) ≡ true
touching_leaf c Strand e = absurd (cc e)
touching_leaf c Fork e = absurd (cc e)
touching_leaf c Block e = absurd (cc e)
touching_leaf c (Read d v) e = refl
touching_leaf c (Write d v) e = refl
touching_leaf c (Out v) e = refl
touching_leaf c (Tried d) e = refl
touching_leaf c (Cancel back) e = refl

pub access_leaf : (t : List Node) (c n : ℕ) → touches t c n ≡ true → is_leaf t n ≡ true
access_leaf t c n e =
    by (slice_get t n) e where
      by : (o : Option Node) → passes (λ x. touches_kind c x.kind) o ≡ true → passes (λ x. not (is_strand_kind x.kind || is_fork_kind x.kind || is_block_kind x.kind)) o ≡ true
      by None e = absurd (cc e)
      by (Some x) e = touching_leaf c x.kind e

touches_kind_is : (c d : ℕ) (k : Kind) → cell_of_kind k ≡ Some d → touches_kind c k ≡ (d == c)
touches_kind_is c d (Read a v) e = let same : a ≡ d = cc e in ap (λ x. x == c) same
touches_kind_is c d (Write a v) e = let same : a ≡ d = cc e in ap (λ x. x == c) same
touches_kind_is c d Strand e = absurd (cc e)
touches_kind_is c d Fork e = absurd (cc e)
touches_kind_is c d Block e = absurd (cc e)
touches_kind_is c d (Out v) e = absurd (cc e)
touches_kind_is c d (Tried a) e = absurd (cc e)
touches_kind_is c d (Cancel back) e = absurd (cc e)

-- an access touches its cell alone
pub touches_is : (t : List Node) (c d n : ℕ) → cell_of t n ≡ Some d → touches t c n ≡ (d == c)
touches_is t c d n e =
    by (slice_get t n) e where
      by : (o : Option Node) → cell_of_node o ≡ Some d → passes (λ x. touches_kind c x.kind) o ≡ (d == c)
      by None e = absurd (cc e)
      by (Some x) e = touches_kind_is c d x.kind e

no_touch_kind : (c : ℕ) (k : Kind) → cell_of_kind k ≡ None → touches_kind c k ≡ false
no_touch_kind c (Read a v) e = absurd (cc e)
no_touch_kind c (Write a v) e = absurd (cc e)
no_touch_kind c Strand e = refl
no_touch_kind c Fork e = refl
no_touch_kind c Block e = refl
no_touch_kind c (Out v) e = refl
no_touch_kind c (Tried a) e = refl
no_touch_kind c (Cancel back) e = refl

-- and a node that is no access touches none
pub no_touch : (t : List Node) (c n : ℕ) → cell_of t n ≡ None → touches t c n ≡ false
no_touch t c n e =
    by (slice_get t n) e where
      by : (o : Option Node) → cell_of_node o ≡ None → passes (λ x. touches_kind c x.kind) o ≡ false
      by None e = refl
      by (Some x) e = no_touch_kind c x.kind e

pub access_there : (t : List Node) (c n : ℕ) → touches t c n ≡ true → n < length t
access_there t c n e = node_there (λ x. touches_kind c x.kind) t n e

-- ## Positions

-- two numbers at one position of a list are one
pub one_place : (u v : ℕ) (xs : List ℕ) → In u xs → position xs u ≡ position xs v → u ≡ v
one_place u v [] i e = absurd i
one_place u v (x ∷ xs) i e =
    by (cases_eq x u) (cases_eq x v) i (one_place u v xs) where
      by : (x ≡ u) ⊎ (x ≡ u → ⊥) → (x ≡ v) ⊎ (x ≡ v → ⊥) → In u (x ∷ xs) → (In u xs → position xs u ≡ position xs v → u ≡ v) → u ≡ v
      by (inl p) (inl q) i more = sym p ∙ q
      by (inl p) (inr n) i more = absurd (omega (arith, e, position_here x u xs p, position_later x v xs n))
      by (inr m) (inl q) i more = absurd (omega (arith, e, position_later x u xs m, position_here x v xs q))
      by (inr m) (inr n) (inl p) more = absurd (m (sym p))
      by (inr m) (inr n) (inr i) more = more i (omega (arith, e, position_later x u xs m, position_later x v xs n))

-- the position of a node in the Hebrew order
abbrev pub hebrew_place : List Node → ℕ → ℕ
hebrew_place t n = position (hebrew t) n

-- the accesses of cell c among the first n nodes that have the innermost block b, or none
abbrev pub group : List Node → ℕ → Option ℕ → ℕ → List ℕ
group t c b n = filter (λ u. is_access t c u && same_block (xparent t u) b) (below n)

module _ (t : List Node) (tree : IsTree t) (numbered : IsNumberedDepthFirst t) where
  english_from : (k : ℕ) → length t ≡ k → 0 < k → english t ≡ all_nodes t
  english_from zero e some = absurd (omega arith)
  english_from (suc k) e some = english_is_depth_first t ∙ in_order_is t tree.rooted numbered k e

  -- nodes are in the English order by their numbers
  english_is : english t ≡ below (length t)
  english_is = english_from (length t) refl tree.some

  english_less : (u v : ℕ) → u < v → v < length t → position (english t) u < position (english t) v
  english_less u v less low =
      let P : List ℕ → Type 0 = λ ns. position ns u < position ns v in
      let k = length t in
      subst P (sym english_is) (ahead_position u v (below k) (apart_below k) (rises_ahead u v (below k) (below_rises k) (below_in u k (omega arith)) (below_in v k low) less))

  pub comes_first : (u v : ℕ) → u < v → v < length t → stands_before (english t) u v ≡ true
  comes_first u v less low = lt-ltb (position (english t) u) (position (english t) v) (english_less u v less low)

  pub is_first : (u v : ℕ) → u < length t → stands_before (english t) u v ≡ true → u < v
  is_first u v low e =
      let less : position (english t) u < position (english t) v = ltb-true (position (english t) u) (position (english t) v) e in
      elim (cases_order u v) [
        | inl same ↦ absurd (let P : ℕ → Type 0 = λ x. position (english t) u < position (english t) x in let itself : position (english t) u < position (english t) u = subst P (sym same) less in omega arith)
        | inr other ↦ elim other [ inl l ↦ l | inr l ↦ absurd (let back = english_less v u l low in omega (arith, back, less)) ]
      ]

  module _ (u v : ℕ) (leaf : is_leaf t u ≡ true) (other : is_leaf t v ≡ true) (less : u < v) where
    apart : position (hebrew t) u ≢ position (hebrew t) v
    apart e =
        let same : u ≡ v = one_place u v (hebrew t) (all_visited t tree.rooted tree.some (mirrored t) (by_mirror t tree) u (leaf_there t u leaf)) e in
        omega arith

    parallel_or : parallel t u v ≡ not (stands_before (hebrew t) u v)
    parallel_or =
        leaves_by_orders t tree u v leaf other
        ∙ ap (λ b. cond b (not (stands_before (hebrew t) u v)) (stands_before (hebrew t) u v)) (comes_first u v less (leaf_there t v other))

    -- the later leaf is parallel exactly if the Hebrew order has it first
    pub parallel_is : parallel t u v ≡ nat_lt (hebrew_place t v) (hebrew_place t u)
    parallel_is = parallel_or ∙ by (cases_order (hebrew_place t u) (hebrew_place t v)) where
      by : (hebrew_place t u ≡ hebrew_place t v) ⊎ ((hebrew_place t u < hebrew_place t v) ⊎ (hebrew_place t v < hebrew_place t u)) → not (stands_before (hebrew t) u v) ≡ nat_lt (hebrew_place t v) (hebrew_place t u)
      by (inl e) = absurd (apart e)
      by (inr (inl l)) = ap not (lt-ltb (hebrew_place t u) (hebrew_place t v) l) ∙ sym (le-ltb (hebrew_place t v) (hebrew_place t u) (omega arith))
      by (inr (inr l)) = ap not (le-ltb (hebrew_place t u) (hebrew_place t v) (omega arith)) ∙ sym (lt-ltb (hebrew_place t v) (hebrew_place t u) l)

    pub later_is : nat_lt (hebrew_place t u) (hebrew_place t v) ≡ not (parallel t u v)
    later_is = sym (twice (stands_before (hebrew t) u v)) ∙ sym (ap not parallel_or) where
      twice : (b : Bool) → not (not b) ≡ b
      twice true = refl
      twice false = refl

  -- ## Races

  pub record Racing (c u v : ℕ) : Type 0 where
    pub first : is_access t c u ≡ true
    pub second : is_access t c v ≡ true
    pub less : u < v
    pub race : races (hebrew_place t) (writes t) u v ≡ true
    pub block : same_block (xparent t u) (xparent t v) ≡ true

  access_touches : (c n : ℕ) → is_access t c n ≡ true → touches t c n ≡ true
  access_touches c n e = (and_parts (touches t c n) (is_live t n) e).0

  pub racing : (c u v : ℕ) → are_racing t c u v ≡ true → Racing c u v
  racing c u v e =
      let a = and_parts (is_access t c u && is_access t c v && stands_before (english t) u v && (writes t u || writes t v) && parallel t u v) (same_block (xparent t u) (xparent t v)) e in
      let b = and_parts (is_access t c u && is_access t c v && stands_before (english t) u v && (writes t u || writes t v)) (parallel t u v) a.0 in
      let d = and_parts (is_access t c u && is_access t c v && stands_before (english t) u v) (writes t u || writes t v) b.0 in
      let f = and_parts (is_access t c u && is_access t c v) (stands_before (english t) u v) d.0 in
      let g = and_parts (is_access t c u) (is_access t c v) f.0 in
      let leaf = access_leaf t c u (access_touches c u g.0) in
      let other = access_leaf t c v (access_touches c v g.1) in
      let less = is_first u v (leaf_there t u leaf) f.1 in
      record {
        first = g.0;
        second = g.1;
        less = less;
        race = and_from (nat_lt (hebrew_place t v) (hebrew_place t u)) (writes t u || writes t v) (sym (parallel_is u v leaf other less) ∙ b.1) d.1;
        block = a.1;
      }

  pub race_from : (c u v : ℕ) → Racing c u v → are_racing t c u v ≡ true
  race_from c u v r =
      let leaf = access_leaf t c u (access_touches c u r.first) in
      let other = access_leaf t c v (access_touches c v r.second) in
      let y = and_parts (nat_lt (hebrew_place t v) (hebrew_place t u)) (writes t u || writes t v) r.race in
      and_from (is_access t c u && is_access t c v && stands_before (english t) u v && (writes t u || writes t v) && parallel t u v) (same_block (xparent t u) (xparent t v))
      (and_from (is_access t c u && is_access t c v && stands_before (english t) u v && (writes t u || writes t v)) (parallel t u v)
      (and_from (is_access t c u && is_access t c v && stands_before (english t) u v) (writes t u || writes t v)
      (and_from (is_access t c u && is_access t c v) (stands_before (english t) u v)
      (and_from (is_access t c u) (is_access t c v) r.first r.second)
      (comes_first u v r.less (leaf_there t v other)))
      y.1)
      (parallel_is u v leaf other r.less ∙ y.0))
      r.block

  -- a race is one with an access of the later one's group
  pub race_in_group : (c u v : ℕ) → Racing c u v → In u (group t c (xparent t v) v)
  race_in_group c u v r =
      filter_in (λ u. is_access t c u && same_block (xparent t u) (xparent t v)) u (below v) (below_in u v r.less)
      (and_from (is_access t c u) (same_block (xparent t u) (xparent t v)) r.first r.block)

  pub group_race : (c u v : ℕ) → is_access t c v ≡ true → In u (group t c (xparent t v) v) → races (hebrew_place t) (writes t) u v ≡ true → Racing c u v
  group_race c u v second i e =
      let y = in_filter (λ u. is_access t c u && same_block (xparent t u) (xparent t v)) u (below v) i in
      let z = and_parts (is_access t c u) (same_block (xparent t u) (xparent t v)) y.1 in
      record { first = z.0; second = second; less = in_below u v y.0; race = e; block = z.1 }
