-- What a tree in depth-first order says of its renamed nodes.
use Rattle.std.proofs.Common.{◌≡◌, ℕ, ◌+◌, ◌<◌, List, [], ◌∷◌, ◌++◌, length, map, drop, reverse, refl, ap, sym, ◌∙◌, subst, arith, Bool, true, false, cond, Option, Some, None, inl, inr, nat_eq, nat_lt}
use Rattle.std.specs.Prelude.{◌&&◌, ◌||◌, not, ℤ, filter, slice_get, option_map, unwrap_or}
use Rattle.std.specs.List.{list_any, list_all, find, prefix_len, suffix_len}
use Rattle.std.specs.Option.{option_or}
use Rattle.std.proofs.lemmas.Bool.{cases_eq, cases_lt, eq-eqb, ltb-true, lt-ltb, ne_eqb, false_from_ne_true}
use Rattle.std.proofs.lemmas.List.{reverse-append, map-append}
use Rattle.cw_tree.specs.declared.node.Node.{Node}
use Rattle.cw_tree.specs.declared.node.Kind.{Kind}
use Rattle.cw_tree.specs.Nodes.{is_node, passes, number_in, is_strand_kind, is_fork_kind, is_block_kind, is_pending_state, is_committed_state, is_aborted_state, parent_of, stamp_of, end_of, is_strand, is_fork, is_block, is_pending, is_committed, is_aborted}
use Rattle.cw_tree.specs.Walks.{IsNumbered, IsRooted, path, above, lca, is_ancestor, is_above, outermost}
use Rattle.cw_tree.specs.Series.{children, strand_of, has_later, parallel}
use Rattle.cw_tree.specs.Accesses.{is_live, value_in, written, read, written_kind, read_kind}
use Rattle.cw_tree.specs.Attempts.{elders, tried_cell, same_cell, attempt_of}
use Rattle.cw_tree.specs.Refusals.{outermost_apart}
use Rattle.cw_tree.specs.InOrder.{renamed, with_parent_renamed, in_order}
use Rattle.cw_tree.proofs.Lists.{In}
use Rattle.cw_tree.proofs.Members.{filter_same, find_same, suffix_same, any_same, all_same}
use Rattle.cw_tree.proofs.Walks.Climbs.{by_parent, path_step}
use Rattle.cw_tree.proofs.Walks.Ancestors.{above_ancestor, ancestor_le}
use Rattle.cw_tree.proofs.Walks.Kin.{in_ancestor, in_above}
use Rattle.cw_tree.proofs.Walks.Meets.{lca_is_meet}
use Rattle.cw_tree.proofs.InOrder.DepthFirst.{child_is, IsChild}
use Rattle.cw_tree.proofs.InOrder.Visits.{renamed_is}
use Rattle.cw_tree.proofs.InOrder.Renumbered.{visited, some_node, visited_there, new_length, in_order_numbered}
use Rattle.cw_tree.proofs.InOrder.Renaming.{number_of, node_stays, renamed_apart, renamed_some, root_stays, parent_stays, ancestor_stays, above_stays}
use Rattle.cw_tree.proofs.Walks.Siblings.{rises, siblings}
use Rattle.cw_tree.proofs.InOrder.Sound.{number_option, passes_option}
use Rattle.cw_open.proofs.Refused.Attempted.{outermost_agrees, elder_is}
use Rattle.cw_open.proofs.Refused.OnwardSteps.{tells}

-- ## Lists

pub any_map : {X Y : Type 0} (p : Y → Bool) (f : X → Y) (xs : List X) → list_any p (map f xs) ≡ list_any (λ x. p (f x)) xs
any_map p f [] = refl
any_map p f (x ∷ xs) = ap (λ b. p (f x) || b) (any_map p f xs)

all_map : (p : ℕ → Bool) (f : ℕ → ℕ) (xs : List ℕ) → list_all p (map f xs) ≡ list_all (λ x. p (f x)) xs
all_map p f [] = refl
all_map p f (x ∷ xs) = ap (λ b. p (f x) && b) (all_map p f xs)

find_map : (p : ℕ → Bool) (f : ℕ → ℕ) (xs : List ℕ) → find p (map f xs) ≡ option_map f (find (λ x. p (f x)) xs)
find_map p f [] = refl
find_map p f (x ∷ xs) = by (p (f x)) (find_map p f xs) where
  by : (b : Bool) → find p (map f xs) ≡ option_map f (find (λ x. p (f x)) xs) → cond b (Some (f x)) (find p (map f xs)) ≡ option_map f (cond b (Some x) (find (λ x. p (f x)) xs))
  by true e = refl
  by false e = e

outermost_map : (p : ℕ → Bool) (f : ℕ → ℕ) (xs : List ℕ) → outermost p (map f xs) ≡ option_map f (outermost (λ x. p (f x)) xs)
outermost_map p f [] = refl
outermost_map p f (x ∷ xs) = ap (λ o. option_or o (cond (p (f x)) (Some (f x)) None)) (outermost_map p f xs) ∙ by (outermost (λ x. p (f x)) xs) (p (f x)) where
  by : (o : Option ℕ) (b : Bool) → option_or (option_map f o) (cond b (Some (f x)) None) ≡ option_map f (option_or o (cond b (Some x) None))
  by None true = refl
  by None false = refl
  by (Some y) true = refl
  by (Some y) false = refl

filter_map : (p : ℕ → Bool) (f : ℕ → ℕ) (xs : List ℕ) → filter p (map f xs) ≡ map f (filter (λ x. p (f x)) xs)
filter_map p f [] = refl
filter_map p f (x ∷ xs) = by (p (f x)) (filter_map p f xs) where
  by : (b : Bool) → filter p (map f xs) ≡ map f (filter (λ x. p (f x)) xs) → cond b (f x ∷ filter p (map f xs)) (filter p (map f xs)) ≡ map f (cond b (x ∷ filter (λ x. p (f x)) xs) (filter (λ x. p (f x)) xs))
  by true e = ap (λ ys. f x ∷ ys) e
  by false e = e

prefix_map : (p : ℕ → Bool) (f : ℕ → ℕ) (xs : List ℕ) → prefix_len p (map f xs) ≡ prefix_len (λ x. p (f x)) xs
prefix_map p f [] = refl
prefix_map p f (x ∷ xs) = ap (λ n. cond (p (f x)) (1 + n) 0) (prefix_map p f xs)

reverse_map : (f : ℕ → ℕ) (xs : List ℕ) → reverse (map f xs) ≡ map f (reverse xs)
reverse_map f [] = refl
reverse_map f (x ∷ xs) =
    reverse-append (f x ∷ []) (map f xs)
    ∙ ap (λ ys. ys ++ f x ∷ []) (reverse_map f xs)
    ∙ sym (map-append f (reverse xs) (x ∷ []))
    ∙ ap (map f) (sym (reverse-append (x ∷ []) xs))

suffix_map : (p : ℕ → Bool) (f : ℕ → ℕ) (xs : List ℕ) → suffix_len p (map f xs) ≡ suffix_len (λ x. p (f x)) xs
suffix_map p f xs = ap (prefix_len p) (reverse_map f xs) ∙ prefix_map p f (reverse xs)

map_drop : (f : ℕ → ℕ) (xs : List ℕ) → drop 1 (map f xs) ≡ map f (drop 1 xs)
map_drop f [] = refl
map_drop f (x ∷ xs) = refl

-- ## Renamed nodes

module _ (t : List Node) (w : IsNumbered t) where
  abbrev pub new : List Node
  new = in_order t

  abbrev pub f : ℕ → ℕ
  f = renamed t

  r : IsRooted t
  r = w.rooted

  pub low : (n : ℕ) → n < length t → f n < length new
  low n h = omega (arith, (number_of t w n h).low, new_length t w)

  -- what is true of each new number
  pub each_number : (P : ℕ → Type 0) → ((n : ℕ) → n < length t → P (f n)) → (k : ℕ) → k < length new → P k
  each_number P h k l =
      let there : k < length t = omega (arith, new_length t w) in
      subst P (renamed_is t w.rooted (some_node t w) k there) (h (visited t k) (visited_there t w k there))

  pub each_pair : (P : ℕ → ℕ → Type 0) → ((n m : ℕ) → n < length t → m < length t → P (f n) (f m)) → (n m : ℕ) → n < length new → m < length new → P n m
  each_pair P g n m h l = each_number (λ x. P x m) (λ a i. each_number (P (f a)) (λ b j. g a b i j) m l) n h

  pub node_kept : (p : Node → Bool) → ((x : Node) → p (with_parent_renamed t x) ≡ p x) → (n : ℕ) → n < length t → is_node p new (f n) ≡ is_node p t n
  node_kept p same n h = ap (passes p) (node_stays t w n h) ∙ passes_option p (with_parent_renamed t) same (slice_get t n)

  pub stamp_kept : (n : ℕ) → n < length t → stamp_of new (f n) ≡ stamp_of t n
  stamp_kept n h = ap (number_in (λ x. x.stamp)) (node_stays t w n h) ∙ number_option (λ x. x.stamp) (with_parent_renamed t) (λ x. refl) (slice_get t n)

  pub end_kept : (n : ℕ) → n < length t → end_of new (f n) ≡ end_of t n
  end_kept n h = ap (number_in (λ x. x.end)) (node_stays t w n h) ∙ number_option (λ x. x.end) (with_parent_renamed t) (λ x. refl) (slice_get t n)

  pub block_kept : (n : ℕ) → n < length t → is_block new (f n) ≡ is_block t n
  block_kept = node_kept (λ x. is_block_kind x.kind) (λ x. refl)

  pub strand_kept : (n : ℕ) → n < length t → is_strand new (f n) ≡ is_strand t n
  strand_kept = node_kept (λ x. is_strand_kind x.kind) (λ x. refl)

  pub fork_kept : (n : ℕ) → n < length t → is_fork new (f n) ≡ is_fork t n
  fork_kept = node_kept (λ x. is_fork_kind x.kind) (λ x. refl)

  pub aborted_kept : (n : ℕ) → n < length t → is_aborted new (f n) ≡ is_aborted t n
  aborted_kept = node_kept (λ x. is_block_kind x.kind && is_aborted_state x.state) (λ x. refl)

  pub committed_kept : (n : ℕ) → n < length t → is_committed new (f n) ≡ is_committed t n
  committed_kept = node_kept (λ x. is_block_kind x.kind && is_committed_state x.state) (λ x. refl)

  pub pending_kept : (n : ℕ) → n < length t → is_pending new (f n) ≡ is_pending t n
  pending_kept = node_kept (λ x. is_block_kind x.kind && is_pending_state x.state) (λ x. refl)

  -- what an access wrote, or read
  value_option : (g : Kind → Option ℤ) (o : Option Node) → value_in g (option_map (with_parent_renamed t) o) ≡ value_in g o
  value_option g None = refl
  value_option g (Some x) = refl

  pub written_kept : (n : ℕ) → n < length t → written new (f n) ≡ written t n
  written_kept n h = ap (value_in written_kind) (node_stays t w n h) ∙ value_option written_kind (slice_get t n)

  pub read_kept : (n : ℕ) → n < length t → read new (f n) ≡ read t n
  read_kept n h = ap (value_in read_kind) (node_stays t w n h) ∙ value_option read_kind (slice_get t n)

  tells_option : (o : Option Node) → tells (option_map (with_parent_renamed t) o) ≡ tells o
  tells_option None = refl
  tells_option (Some x) = refl

  pub cell_kept : (n : ℕ) → n < length t → tried_cell new (f n) ≡ tried_cell t n
  cell_kept n h = ap tells (node_stays t w n h) ∙ tells_option (slice_get t n)

  pub same_number : (a n : ℕ) → a < length t → n < length t → nat_eq (f a) (f n) ≡ nat_eq a n
  same_number a n h l =
      elim (cases_eq a n) [
        | inl q ↦ eq-eqb (f a) (f n) (ap f q) ∙ sym (eq-eqb a n q)
        | inr ne ↦ ne_eqb (f a) (f n) (λ e. ne (renamed_apart t w a n h l e)) ∙ sym (ne_eqb a n ne)
      ]

  -- ## What is above

  pub path_renamed : (n : ℕ) → n < length t → path new (f n) ≡ map f (path t n)
  path_renamed =
      by_parent t r (λ n. path new (f n) ≡ map f (path t n)) (ap (path new) (root_stays t w) ∙ ap (λ k. k ∷ []) (sym (root_stays t w)))
      (λ n some h more.
      path_step new (in_order_numbered t w).rooted (f n) (renamed_some t w n some h) (low n h)
      ∙ ap (λ q. f n ∷ path new q) (parent_stays t w n h)
      ∙ ap (λ ns. f n ∷ ns) more
      ∙ sym (ap (map f) (path_step t r n some h)))

  pub above_renamed : (n : ℕ) → n < length t → above new (f n) ≡ map f (above t n)
  above_renamed n h = ap (drop 1) (path_renamed n h) ∙ map_drop f (path t n)

  over_low : (n m : ℕ) → n < length t → In m (path t n) → m < length t
  over_low n m h i = let le = ancestor_le t r m n h (in_ancestor t m n i) in omega arith

  above_low : (n m : ℕ) → n < length t → In m (above t n) → m < length t
  above_low n m h i = let le = ancestor_le t r m n h (above_ancestor t m n (in_above t m n i)) in omega arith

  pub live_renamed : (n : ℕ) → n < length t → is_live new (f n) ≡ is_live t n
  live_renamed n h =
      ap (list_all (λ a. not (is_aborted new a))) (above_renamed n h)
      ∙ all_map (λ a. not (is_aborted new a)) f (above t n)
      ∙ all_same (λ a. not (is_aborted new (f a))) (λ a. not (is_aborted t a)) (above t n) (λ a i. ap not (aborted_kept a (above_low n a h i)))

  -- what is found on the way up
  option_zero : (o : Option ℕ) → unwrap_or (option_map f o) 0 ≡ f (unwrap_or o 0)
  option_zero None = sym (root_stays t w)
  option_zero (Some n) = refl

  found_renamed : (p q : ℕ → Bool) → ((m : ℕ) → m < length t → p (f m) ≡ q m) → (n : ℕ) → n < length t → unwrap_or (find p (path new (f n))) 0 ≡ f (unwrap_or (find q (path t n)) 0)
  found_renamed p q same n h =
      ap (λ ns. unwrap_or (find p ns) 0) (path_renamed n h)
      ∙ ap (λ o. unwrap_or o 0) (find_map p f (path t n) ∙ ap (option_map f) (find_same (λ m. p (f m)) q (path t n) (λ m i. same m (over_low n m h i))))
      ∙ option_zero (find q (path t n))

  pub strand_of_renamed : (n : ℕ) → n < length t → strand_of new (f n) ≡ f (strand_of t n)
  strand_of_renamed = found_renamed (is_strand new) (is_strand t) strand_kept

  pub lca_renamed : (a b : ℕ) → a < length t → b < length t → lca new (f a) (f b) ≡ f (lca t a b)
  lca_renamed a b h l = found_renamed (λ m. is_ancestor new m (f b)) (λ m. is_ancestor t m b) (λ m i. ancestor_stays t w m b i l) a h

  pub parallel_renamed : (a b : ℕ) → a < length t → b < length t → parallel new (f a) (f b) ≡ parallel t a b
  parallel_renamed a b h l =
      let le = ancestor_le t r (lca t a b) a h (lca_is_meet t r a b h l).left in
      ap (λ k. not k && not (is_ancestor new (f b) (f a)) && is_fork new (lca new (f a) (f b))) (ancestor_stays t w a b h l)
      ∙ ap (λ k. not (is_ancestor t a b) && not k && is_fork new (lca new (f a) (f b))) (ancestor_stays t w b a l h)
      ∙ ap (λ k. not (is_ancestor t a b) && not (is_ancestor t b a) && k) (ap (is_fork new) (lca_renamed a b h l) ∙ fork_kept (lca t a b) (omega arith))

  pub outermost_renamed : (u v : ℕ) → u < length t → v < length t → outermost_apart new (f u) (f v) ≡ option_map f (outermost_apart t u v)
  outermost_renamed u v h l =
      ap (outermost (λ m. is_block new m && not (is_above new m (f u)))) (above_renamed v l)
      ∙ outermost_map (λ m. is_block new m && not (is_above new m (f u))) f (above t v)
      ∙ ap (option_map f)
      (outermost_agrees (λ m. is_block new (f m) && not (is_above new (f m) (f u))) (λ m. is_block t m && not (is_above t m u)) (above t v)
      (λ m i.
      let there = above_low v m l i in
      ap (λ k. k && not (is_above new (f m) (f u))) (block_kept m there) ∙ ap (λ k. is_block t m && not k) (above_stays t w m u there h)))

  -- ## Siblings

  low_parent : (n : ℕ) → 0 < n → n < length t → parent_of t n < length t
  low_parent n some h = let up = r n some h in omega arith

  -- siblings keep their order
  pub sibling_less : (n m : ℕ) → 0 < n → n < length t → IsChild t (parent_of t n) m → nat_lt (f n) (f m) ≡ nat_lt n m
  sibling_less n m some h c =
      let own : IsChild t (parent_of t n) n = record { some = some; there = h; parent = refl } in
      let up = low_parent n some h in
      elim (cases_lt n m) [
        | inl less ↦ lt-ltb (f n) (f m) (rises t w (parent_of t n) n m up own c less) ∙ sym (lt-ltb n m less)
        | inr le ↦
            false_from_ne_true (nat_lt (f n) (f m)) (λ e.
            elim (cases_eq m n) [
              | inl q ↦ absurd (let z = ltb-true (f n) (f m) e in omega (arith, ap f q))
              | inr ne ↦ absurd (let z = ltb-true (f n) (f m) e in let y = rises t w (parent_of t n) m n up c own (omega arith) in omega arith)
            ])
            ∙ sym (false_from_ne_true (nat_lt n m) (λ e. absurd (let z = ltb-true n m e in omega arith)))
      ]

  pub later_renamed : (n : ℕ) → 0 < n → n < length t → has_later new (f n) ≡ has_later t n
  later_renamed n some h =
      ap (λ q. list_any (nat_lt (f n)) (children new q)) (parent_stays t w n h)
      ∙ ap (list_any (nat_lt (f n))) (siblings t w (parent_of t n) (low_parent n some h))
      ∙ any_map (nat_lt (f n)) f (children t (parent_of t n))
      ∙ any_same (λ m. nat_lt (f n) (f m)) (nat_lt n) (children t (parent_of t n)) (λ m i. sibling_less n m some h (child_is t (parent_of t n) m i))

  sibling_more : (n m : ℕ) → 0 < n → n < length t → IsChild t (parent_of t n) m → nat_lt (f m) (f n) ≡ nat_lt m n
  sibling_more n m some h c =
      let P : ℕ → Type 0 = λ q. IsChild t q n in
      sibling_less m n c.some c.there (subst P (sym c.parent) (record { some = some; there = h; parent = refl }))

  pub elders_renamed : (n : ℕ) → 0 < n → n < length t → elders new (f n) ≡ map f (elders t n)
  elders_renamed n some h =
      ap (λ q. filter (λ m. nat_lt m (f n)) (children new q)) (parent_stays t w n h)
      ∙ ap (filter (λ m. nat_lt m (f n))) (siblings t w (parent_of t n) (low_parent n some h))
      ∙ filter_map (λ m. nat_lt m (f n)) f (children t (parent_of t n))
      ∙ ap (map f) (filter_same (λ m. nat_lt (f m) (f n)) (λ m. nat_lt m n) (children t (parent_of t n)) (λ m i. sibling_more n m some h (child_is t (parent_of t n) m i)))

  elder_low : (n m : ℕ) → n < length t → In m (elders t n) → m < length t
  elder_low n m h i = let e = elder_is t n m i in let less = e.less in omega arith

  pub attempt_renamed : (v : ℕ) → 0 < v → v < length t → (o : Option ℕ) → ((b : ℕ) → o ≡ Some b → (0 < b) × (b < length t)) → attempt_of new (f v) (option_map f o) ≡ attempt_of t v o
  attempt_renamed v some h None there =
      ap (λ ns. suffix_len (λ m. same_cell (tried_cell new m) (tried_cell new (f v))) ns + 1) (elders_renamed v some h)
      ∙ ap (λ n. n + 1)
      (suffix_map (λ m. same_cell (tried_cell new m) (tried_cell new (f v))) f (elders t v)
      ∙ suffix_same (λ m. same_cell (tried_cell new (f m)) (tried_cell new (f v))) (λ m. same_cell (tried_cell t m) (tried_cell t v)) (elders t v)
      (λ m i. ap (λ o. same_cell o (tried_cell new (f v))) (cell_kept m (elder_low v m h i)) ∙ ap (same_cell (tried_cell t m)) (cell_kept v h)))
  attempt_renamed v some h (Some b) there =
      let z = there b refl in
      ap (λ ns. suffix_len (is_aborted new) ns + 1) (elders_renamed b z.0 z.1)
      ∙ ap (λ n. n + 1)
      (suffix_map (is_aborted new) f (elders t b)
      ∙ suffix_same (λ m. is_aborted new (f m)) (is_aborted t) (elders t b) (λ m i. aborted_kept m (elder_low b m z.1 i)))
