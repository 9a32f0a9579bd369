-- What is true of the tree of a run is true of the tree in depth-first order.
use Rattle.std.proofs.Common.{◌≡◌, ℕ, zero, suc, ◌<◌, ◌≤◌, List, [], ◌∷◌, length, map, refl, ap, sym, ◌∙◌, arith, Bool, true, false, inl, inr, subst, nat_lt, Option, Some, None}
use Rattle.std.specs.Prelude.{◌&&◌, ◌||◌, not, IsTrue, slice_get, option_map}
use Rattle.std.proofs.lemmas.Bool.{cases_eq, cases_lt}
use Rattle.cw_tree.specs.declared.node.Node.{Node}
use Rattle.cw_tree.specs.Nodes.{is_node, passes, number_in, is_strand_kind, is_fork_kind, is_block_kind, is_tried_kind, is_pending_state, parent_of, stamp_of, end_of, is_strand, is_fork, is_block, is_pending, is_tried}
use Rattle.cw_tree.specs.Walks.{IsNumbered, is_ancestor, is_above}
use Rattle.cw_tree.specs.Series.{children, is_before}
use Rattle.cw_tree.specs.Shape.{IsTree, AreStamps, PendingLast, has_stamp, is_closed}
use Rattle.cw_tree.specs.InOrder.{renamed, with_parent_renamed, in_order}
use Rattle.cw_tree.specs.OrderLaws.{SeriesStay, SoundStays}
use Rattle.cw_tree.proofs.Lists.{In}
use Rattle.cw_tree.proofs.Walks.Ancestors.{ancestor_le}
use Rattle.cw_tree.proofs.Walks.Kin.{AreOrdered, of_before, before_of}
use Rattle.cw_tree.proofs.Names.Forks.{same_truth}
use Rattle.cw_tree.proofs.InOrder.DepthFirst.{IsChild, child_is}
use Rattle.cw_tree.proofs.InOrder.Visits.{renamed_is}
use Rattle.cw_tree.proofs.InOrder.Renumbered.{visited, some_node, visited_there, new_length, in_order_numbered}
use Rattle.cw_tree.proofs.InOrder.Renaming.{number_of, node_stays, renamed_apart, renamed_some, root_stays, parent_stays, ancestor_stays, above_stays}
use Rattle.cw_tree.proofs.Walks.Siblings.{rises, siblings}

pub number_option : (f : Node → ℕ) (g : Node → Node) → ((x : Node) → f (g x) ≡ f x) → (o : Option Node) → number_in f (option_map g o) ≡ number_in f o
number_option f g same None = refl
number_option f g same (Some x) = same x

pub passes_option : (p : Node → Bool) (g : Node → Node) → ((x : Node) → p (g x) ≡ p x) → (o : Option Node) → passes p (option_map g o) ≡ passes p o
passes_option p g same None = refl
passes_option p g same (Some x) = same x

all_three : (a b c x y z : Bool) → a ≡ x → b ≡ y → c ≡ z → (a && b && c) ≡ (x && y && z)
all_three a b c x y z e f g = cc

both : (a b x y : Bool) → a ≡ x → b ≡ y → (a && b) ≡ (x && y)
both a b x y e f = cc

module _ (t : List Node) (w : IsNumbered t) where
  abbrev new : List Node
  new = in_order t

  -- what is true of each new number
  each_number : (P : ℕ → Type 0) → ((n : ℕ) → n < length t → P (renamed t n)) → (k : ℕ) → k < length new → P k
  each_number P h k l =
      let low : k < length t = omega (arith, new_length t w) in
      subst P (renamed_is t w.rooted (some_node t w) k low) (h (visited t k) (visited_there t w k low))

  each_pair : (P : ℕ → ℕ → Type 0) → ((n m : ℕ) → n < length t → m < length t → P (renamed t n) (renamed t m)) → (n m : ℕ) → n < length new → m < length new → P n m
  each_pair P f n m h g = each_number (λ x. P x m) (λ a i. each_number (P (renamed t a)) (λ b j. f a b i j) m g) n h

  kept : (p : Node → Bool) → ((x : Node) → p (with_parent_renamed t x) ≡ p x) → (n : ℕ) → n < length t → is_node p new (renamed t n) ≡ is_node p t n
  kept p same n h = ap (passes p) (node_stays t w n h) ∙ passes_option p (with_parent_renamed t) same (slice_get t n)

  strand_kept : (n : ℕ) → n < length t → is_strand new (renamed t n) ≡ is_strand t n
  strand_kept = kept (λ x. is_strand_kind x.kind) (λ x. refl)

  fork_kept : (n : ℕ) → n < length t → is_fork new (renamed t n) ≡ is_fork t n
  fork_kept = kept (λ x. is_fork_kind x.kind) (λ x. refl)

  block_kept : (n : ℕ) → n < length t → is_block new (renamed t n) ≡ is_block t n
  block_kept = kept (λ x. is_block_kind x.kind) (λ x. refl)

  tried_kept : (n : ℕ) → n < length t → is_tried new (renamed t n) ≡ is_tried t n
  tried_kept = kept (λ x. is_tried_kind x.kind) (λ x. refl)

  pending_kept : (n : ℕ) → n < length t → is_pending new (renamed t n) ≡ is_pending t n
  pending_kept = kept (λ x. is_block_kind x.kind && is_pending_state x.state) (λ x. refl)

  closed_kept : (n : ℕ) → n < length t → is_closed new (renamed t n) ≡ is_closed t n
  closed_kept n h = both (is_block new (renamed t n)) (not (is_pending new (renamed t n))) (is_block t n) (not (is_pending t n)) (block_kept n h) (ap not (pending_kept n h))

  stamp_kept : (n : ℕ) → n < length t → stamp_of new (renamed t n) ≡ stamp_of t n
  stamp_kept n h = ap (number_in (λ x. x.stamp)) (node_stays t w n h) ∙ number_option (λ x. x.stamp) (with_parent_renamed t) (λ x. refl) (slice_get t n)

  end_kept : (n : ℕ) → n < length t → end_of new (renamed t n) ≡ end_of t n
  end_kept n h = ap (number_in (λ x. x.end)) (node_stays t w n h) ∙ number_option (λ x. x.end) (with_parent_renamed t) (λ x. refl) (slice_get t n)

  some_back : (n : ℕ) → 0 < renamed t n → 0 < n
  some_back zero p = omega (arith, root_stays t w)
  some_back (suc n) p = omega arith

  low_parent : (n : ℕ) → 0 < n → n < length t → parent_of t n < length t
  low_parent n p h = let low : parent_of t n < n = w.rooted n p h in omega arith

  -- ## The tree

  tree_stays : IsTree t → IsTree new
  tree_stays i = record {
    some = omega (arith, new_length t w, some_node t w);
    rooted = (in_order_numbered t w).rooted;
    root = (in_order_numbered t w).root;
    forks = each_number (λ f. IsTrue (is_fork new f) → (l r : ℕ) × (children new f ≡ l ∷ r ∷ []) × IsTrue (is_strand new l && is_strand new r)) (λ n h e.
        let z = i.forks n h (sym (fork_kept n h) ∙ e) in
        let P : ℕ → List ℕ → Type 0 = In in
        let l = child_is t n z.0 (subst (P z.0) (sym z.2) (inl refl)) in
        let r = child_is t n z.1 (subst (P z.1) (sym z.2) (inr (inl refl))) in
        (renamed t z.0, renamed t z.1, siblings t w n h ∙ ap (map (renamed t)) z.2, both (is_strand new (renamed t z.0)) (is_strand new (renamed t z.1)) (is_strand t z.0) (is_strand t z.1) (strand_kept z.0 l.there) (strand_kept z.1 r.there) ∙ z.3));
    strands = each_number (λ s. 0 < s → IsTrue (is_strand new s) → IsTrue (is_fork new (parent_of new s))) (λ n h p e.
        ap (is_fork new) (parent_stays t w n h) ∙ fork_kept (parent_of t n) (low_parent n (some_back n p) h) ∙ i.strands n h (some_back n p) (sym (strand_kept n h) ∙ e));
    parents = each_number (λ n. 0 < n → IsTrue (is_strand new (parent_of new n) || is_fork new (parent_of new n) || is_block new (parent_of new n))) (λ n h p.
        let m = parent_of t n in
        let l = low_parent n (some_back n p) h in
        ap (λ k. is_strand new k || is_fork new k || is_block new k) (parent_stays t w n h)
        ∙ ap (λ x. x || is_fork new (renamed t m) || is_block new (renamed t m)) (strand_kept m l)
        ∙ ap (λ x. is_strand t m || x || is_block new (renamed t m)) (fork_kept m l)
        ∙ ap (λ x. is_strand t m || is_fork t m || x) (block_kept m l)
        ∙ i.parents n h (some_back n p));
  }

  -- ## Series

  falls_back : (n c d : ℕ) → n < length t → IsChild t n c → IsChild t n d → renamed t c < renamed t d → c < d
  falls_back n c d h x y l =
      elim (cases_lt c d) [
        | inl less ↦ less
        | inr le ↦
            elim (cases_eq c d) [
              | inl e ↦ absurd (omega (arith, ap (renamed t) e))
              | inr ne ↦ (let other : renamed t d < renamed t c = rises t w n d c h y x (omega arith) in absurd (omega arith))
            ]
      ]

  before_to : (a b : ℕ) → a < length t → b < length t → is_before t a b ≡ true → is_before new (renamed t a) (renamed t b) ≡ true
  before_to a b h g e =
      let s = of_before t a b e in
      let o = s.ordered in
      let less = o.less in
      let some = o.some in
      let f : s.first ≤ a = ancestor_le t w.rooted s.first a h s.over_first in
      let k : s.second ≤ b = ancestor_le t w.rooted s.second b g s.over_second in
      let l : s.first < length t = omega arith in
      let m : s.second < length t = omega arith in
      let p : 0 < s.second = omega arith in
      before_of new (renamed t a) (renamed t b) (record {
        first = renamed t s.first;
        second = renamed t s.second;
        ordered = record {
          some = renamed_some t w s.first some l;
          less = rises t w (parent_of t s.first) s.first s.second (low_parent s.first some l) (record { some = some; there = l; parent = refl }) (record { some = p; there = m; parent = sym o.same }) less;
          same = parent_stays t w s.first l ∙ ap (renamed t) o.same ∙ sym (parent_stays t w s.second m);
          no_fork = ap (is_fork new) (parent_stays t w s.first l) ∙ fork_kept (parent_of t s.first) (low_parent s.first some l) ∙ o.no_fork;
        };
        over_first = ancestor_stays t w s.first a l h ∙ s.over_first;
        over_second = ancestor_stays t w s.second b m g ∙ s.over_second;
      })

  before_back : (a b f g : ℕ) → a < length t → b < length t → f < length t → g < length t → AreOrdered new (renamed t f) (renamed t g) → is_ancestor new (renamed t f) (renamed t a) ≡ true → is_ancestor new (renamed t g) (renamed t b) ≡ true → is_before t a b ≡ true
  before_back a b f g ha hb hf hg o x y =
      let less = o.less in
      let p : 0 < f = some_back f o.some in
      let q : 0 < g = some_back g (let s = o.some in omega arith) in
      let same : parent_of t f ≡ parent_of t g = renamed_apart t w (parent_of t f) (parent_of t g) (low_parent f p hf) (low_parent g q hg) (sym (parent_stays t w f hf) ∙ o.same ∙ parent_stays t w g hg) in
      before_of t a b (record {
        first = f;
        second = g;
        ordered = record {
          some = p;
          less = falls_back (parent_of t f) f g (low_parent f p hf) (record { some = p; there = hf; parent = refl }) (record { some = q; there = hg; parent = sym same }) less;
          same = same;
          no_fork = sym (fork_kept (parent_of t f) (low_parent f p hf)) ∙ sym (ap (is_fork new) (parent_stays t w f hf)) ∙ o.no_fork;
        };
        over_first = sym (ancestor_stays t w f a hf ha) ∙ x;
        over_second = sym (ancestor_stays t w g b hg hb) ∙ y;
      })

  before_from : (a b : ℕ) → a < length t → b < length t → is_before new (renamed t a) (renamed t b) ≡ true → is_before t a b ≡ true
  before_from a b h g e =
      let s = of_before new (renamed t a) (renamed t b) e in
      let la : renamed t a < length new = omega (arith, new_length t w, (number_of t w a h).low) in
      let lb : renamed t b < length new = omega (arith, new_length t w, (number_of t w b g).low) in
      let f : s.first ≤ renamed t a = ancestor_le new (in_order_numbered t w).rooted s.first (renamed t a) la s.over_first in
      let k : s.second ≤ renamed t b = ancestor_le new (in_order_numbered t w).rooted s.second (renamed t b) lb s.over_second in
      each_pair (λ x y. AreOrdered new x y → is_ancestor new x (renamed t a) ≡ true → is_ancestor new y (renamed t b) ≡ true → is_before t a b ≡ true) (λ n m i j. before_back a b n m h g i j) s.first s.second (omega arith) (omega arith) s.ordered s.over_first s.over_second

  before_stays : (a b : ℕ) → a < length t → b < length t → is_before new (renamed t a) (renamed t b) ≡ is_before t a b
  before_stays a b h g = same_truth (is_before new (renamed t a) (renamed t b)) (is_before t a b) (before_from a b h g) (before_to a b h g)

  -- ## Pending blocks

  pending_last_stays : PendingLast t → PendingLast new
  pending_last_stays i = record {
    last = each_pair (λ n m. IsTrue (is_pending new n) → is_before new n m ≡ false) (λ n m h g e. before_stays n m h g ∙ i.last n m h g (sym (pending_kept n h) ∙ e));
    around = each_pair (λ b n. IsTrue (is_pending new n && is_block new b && is_above new b n) → IsTrue (is_pending new b)) (λ b n h g e.
        pending_kept b h
        ∙ i.around b n h g
        (sym (all_three (is_pending new (renamed t n)) (is_block new (renamed t b)) (is_above new (renamed t b) (renamed t n)) (is_pending t n) (is_block t b) (is_above t b n) (pending_kept n g) (block_kept b h) (above_stays t w b n h g)) ∙ e));
  }

  -- ## Stamps

  stamps_stay : AreStamps t → AreStamps new
  stamps_stay i = record {
    there = each_number (λ n. nat_lt 0 (stamp_of new n) ≡ has_stamp new n) (λ n h.
        ap (nat_lt 0) (stamp_kept n h) ∙ i.there n h ∙ sym (ap (λ x. not (x || is_tried new (renamed t n))) (strand_kept n h) ∙ ap (λ x. not (is_strand t n || x)) (tried_kept n h)));
    distinct = each_pair (λ n m. 0 < stamp_of new n → stamp_of new n ≡ stamp_of new m → n ≡ m) (λ n m h g p e.
        ap (renamed t) (i.distinct n m h g (omega (arith, stamp_kept n h)) (sym (stamp_kept n h) ∙ e ∙ stamp_kept m g)));
    ends_distinct = each_pair (λ n m. 0 < end_of new n → end_of new n ≡ end_of new m → n ≡ m) (λ n m h g p e.
        ap (renamed t) (i.ends_distinct n m h g (omega (arith, end_kept n h)) (sym (end_kept n h) ∙ e ∙ end_kept m g)));
    apart = each_pair (λ n m. 0 < end_of new n → end_of new n ≡ stamp_of new m → ⊥) (λ n m h g p e. i.apart n m h g (omega (arith, end_kept n h)) (sym (end_kept n h) ∙ e ∙ stamp_kept m g));
    series = each_pair (λ n m. IsTrue (is_before new n m) → 0 < stamp_of new m → (stamp_of new n < stamp_of new m) × (end_of new n < stamp_of new m)) (λ n m h g e p.
        let z = i.series n m h g (sym (before_stays n m h g) ∙ e) (omega (arith, stamp_kept m g)) in
        (omega (arith, z.0, stamp_kept n h, stamp_kept m g), omega (arith, z.1, end_kept n h, stamp_kept m g)));
    begun = each_pair (λ b m. IsTrue (is_block new b && is_above new b m) → 0 < stamp_of new m → stamp_of new b < stamp_of new m) (λ b m h g e p.
        let under = both (is_block new (renamed t b)) (is_above new (renamed t b) (renamed t m)) (is_block t b) (is_above t b m) (block_kept b h) (above_stays t w b m h g) in
        let z = i.begun b m h g (sym under ∙ e) (omega (arith, stamp_kept m g)) in
        omega (arith, z, stamp_kept b h, stamp_kept m g));
    ended = each_number (λ b. IsTrue (is_closed new b) → stamp_of new b < end_of new b) (λ b h e.
        let z = i.ended b h (sym (closed_kept b h) ∙ e) in
        omega (arith, z, stamp_kept b h, end_kept b h));
    beneath = each_pair (λ b m. IsTrue (is_closed new b && is_above new b m) → (stamp_of new m < end_of new b) × (end_of new m < end_of new b)) (λ b m h g e.
        let under = both (is_closed new (renamed t b)) (is_above new (renamed t b) (renamed t m)) (is_closed t b) (is_above t b m) (closed_kept b h) (above_stays t w b m h g) in
        let z = i.beneath b m h g (sym under ∙ e) in
        (omega (arith, z.0, stamp_kept m g, end_kept b h), omega (arith, z.1, end_kept m g, end_kept b h)));
    no_end = each_number (λ n. is_closed new n ≡ false → end_of new n ≡ 0) (λ n h e. end_kept n h ∙ i.no_end n h (sym (closed_kept n h) ∙ e));
  }

pub series_stay : SeriesStay
series_stay t w a b h g = before_stays t w a b h g

pub sound_stays : SoundStays
sound_stays t w s = record { tree = tree_stays t w s.tree; stamps = stamps_stay t w s.stamps; pending_last = pending_last_stays t w s.pending_last }
