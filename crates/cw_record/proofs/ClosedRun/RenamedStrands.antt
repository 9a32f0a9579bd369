-- What strands did, said of the tree in depth-first order.
use Rattle.std.proofs.Common.{◌≡◌, ℕ, zero, suc, ◌<◌, List, [], ◌∷◌, ◌++◌, length, map, refl, ap, sym, ◌∙◌, subst, arith, Bool, true, false, cond, Option, Some, None, inl, inr, append-nil}
use Rattle.std.specs.Prelude.{◌&&◌, ◌||◌, not, filter, slice_get, option_map}
use Rattle.std.proofs.lemmas.Bool.{and_parts, and_from, not-true, not_from_false}
use Rattle.std.proofs.lemmas.List.Elements.{filter-append}
use Rattle.cw_strand.specs.declared.want.Given.TheVariants.{Nothing, Value, Back as Wrote}
use Rattle.cw_strand.specs.Strands.{Strands, is_over}
use Rattle.cw_tree.specs.declared.node.Node.{Node}
use Rattle.cw_tree.specs.declared.node.Kind.{Kind}
use Rattle.cw_tree.specs.declared.node.Kind.TheVariants.{Strand, Fork, Block, Read, Write, Out, Tried, Cancel}
use Rattle.cw_tree.specs.declared.node.BlockState.{BlockState}
use Rattle.cw_tree.specs.declared.node.BlockState.TheVariants.{Pending, Committed, Aborted}
use Rattle.cw_tree.specs.Nodes.{passes, parent_of, is_strand, is_fork, is_block, is_committed, below, last_below}
use Rattle.cw_tree.specs.Walks.{IsNumbered}
use Rattle.cw_tree.specs.Series.{children, has_later}
use Rattle.cw_tree.specs.InOrder.{renamed, with_parent_renamed, in_order}
use Rattle.cw_tree.proofs.Lists.{In}
use Rattle.cw_tree.proofs.Walks.There.{node_there}
use Rattle.cw_tree.proofs.InOrder.DepthFirst.{child_is}
use Rattle.cw_tree.proofs.Walks.Children.{last_passes}
use Rattle.cw_tree.proofs.InOrder.Renumbered.{visited, some_node}
use Rattle.cw_tree.proofs.InOrder.Renaming.{number_of, node_stays, root_stays, parent_stays}
use Rattle.cw_tree.proofs.Walks.Siblings.{siblings}
use Rattle.cw_open.proofs.Reordered.Renamed.{each_number, block_kept, strand_kept, fork_kept, committed_kept, later_renamed}
use Rattle.cw_record.specs.Replay.{IsAccessOf}
use Rattle.cw_tree.specs.Links.{is_child, last_child}
use Rattle.cw_tree.proofs.NodeKinds.{fork_no_strand}
use Rattle.cw_record.specs.Coherent.{InSeries, entered, IsForkOf, IsClosed, IsWanted, StrandEnded, alone, joined, IsJoined, HasNoOpenFork, Follows}
use Rattle.cw_record.specs.Moved.{MovedStates, StrandsStay}

-- ## The last child

abbrev last_of : List ℕ → Option ℕ
last_of [] = None
last_of (x ∷ []) = Some x
last_of (x ∷ y ∷ xs) = last_of (y ∷ xs)

last_more : (xs : List ℕ) (k : ℕ) → last_of (xs ++ k ∷ []) ≡ Some k
last_more [] k = refl
last_more (x ∷ []) k = refl
last_more (x ∷ y ∷ xs) k = last_more (y ∷ xs) k

-- the last number that passes is the last of those that pass
last_passing : (p : ℕ → Bool) (k : ℕ) → last_below p k ≡ last_of (filter p (below k))
last_passing p zero = refl
last_passing p (suc k) = by (p k) (last_passing p k) ∙ sym (ap last_of (filter-append p (below k) (k ∷ []))) where
  by : (b : Bool) → last_below p k ≡ last_of (filter p (below k)) → cond b (Some k) (last_below p k) ≡ last_of (filter p (below k) ++ cond b (k ∷ []) [])
  by true e = sym (last_more (filter p (below k)) k)
  by false e = e ∙ ap last_of (sym (append-nil (filter p (below k))))

last_map : (f : ℕ → ℕ) (xs : List ℕ) → last_of (map f xs) ≡ option_map f (last_of xs)
last_map f [] = refl
last_map f (x ∷ []) = refl
last_map f (x ∷ y ∷ xs) = last_map f (y ∷ xs)

module _ {A : Type 0} (s : Strands A) (t : List Node) (w : IsNumbered t) (before after reached : ℕ → A) where
  abbrev new : List Node
  new = in_order t

  abbrev f : ℕ → ℕ
  f = renamed t

  -- the states of renamed nodes
  abbrev pub moved : (ℕ → A) → ℕ → A
  moved g k = g (visited t k)

  pub moved_at : (g : ℕ → A) (n : ℕ) → n < length t → moved g (f n) ≡ g n
  moved_at g n h = ap g (number_of t w n h).node

  pub last_renamed : (n : ℕ) → n < length t → last_child new (f n) ≡ option_map f (last_child t n)
  last_renamed n h =
      last_passing (is_child new (f n)) (length new)
      ∙ ap last_of (siblings t w n h)
      ∙ last_map f (children t n)
      ∙ sym (ap (option_map f) (last_passing (is_child t n) (length t)))

  -- what the last child is
  pub last_is_child : (n g : ℕ) → last_child t n ≡ Some g → g < length t
  last_is_child n g e = (last_passes (is_child t n) (length t) g e).0

  -- ## In series

  entered_at : (n : ℕ) → n < length t → entered s new (moved before) (moved after) (moved reached) (f n) ≡ entered s t before after reached n
  entered_at n h =
      ap (λ b. cond b (s.answer (moved before (f n)) Nothing) (moved before (f n))) (block_kept t w n h)
      ∙ ap (λ a. cond (is_block t n) (s.answer a Nothing) a) (moved_at before n h)

  series_at : (cs : List ℕ) (a b : A) → ((c : ℕ) → In c cs → c < length t) → InSeries before after a cs b → InSeries (moved before) (moved after) a (map f cs) b
  series_at [] a b low e = e
  series_at (c ∷ cs) a b low e =
      let h = low c (inl refl) in
      let P : A → Type 0 = λ x. InSeries (moved before) (moved after) x (map f cs) b in
      (moved_at before c h ∙ e.0, subst P (sym (moved_at after c h)) (series_at cs (after c) b (λ d i. low d (inr i)) e.1))

  child_low : (n c : ℕ) → In c (children t n) → c < length t
  child_low n c i = (child_is t n c i).there

  -- ## What nodes want

  forks_at : (n : ℕ) → n < length t → (cs : List ℕ) → ((c : ℕ) → In c cs → c < length t) → IsForkOf s t before after reached n cs → IsForkOf s new (moved before) (moved after) (moved reached) (f n) (map f cs)
  forks_at n h [] low e = e
  forks_at n h (l ∷ []) low e = e
  forks_at n h (l ∷ r ∷ []) low e = (
    moved_at before l (low l (inl refl)) ∙ e.0 ∙ ap s.left (sym (moved_at before n h)),
    moved_at before r (low r (inr (inl refl))) ∙ e.1 ∙ ap s.right (sym (moved_at before n h)),
  )
  forks_at n h (l ∷ r ∷ x ∷ cs) low e = e

  closed_at : (n : ℕ) → n < length t → (state : BlockState) → IsClosed s t before after reached n state → IsClosed s new (moved before) (moved after) (moved reached) (f n) state
  closed_at n h Committed e = (ap s.want (moved_at reached n h) ∙ e.0, moved_at after n h ∙ e.1 ∙ ap (λ a. s.answer a Nothing) (sym (moved_at reached n h)))
  closed_at n h Pending e = moved_at after n h ∙ e ∙ sym (moved_at before n h)
  closed_at n h Aborted e = moved_at after n h ∙ e ∙ sym (moved_at before n h)

  wanted_at : (n : ℕ) → n < length t → (k : Kind) (state : BlockState) → IsWanted s t before after reached n k state → IsWanted s new (moved before) (moved after) (moved reached) (f n) k state
  wanted_at n h Strand state e = tt
  wanted_at n h Fork state e =
      let P : List ℕ → Type 0 = λ cs. IsForkOf s new (moved before) (moved after) (moved reached) (f n) cs in
      (ap s.want (moved_at before n h) ∙ e.0, subst P (sym (siblings t w n h)) (forks_at n h (children t n) (child_low n) e.1))
  wanted_at n h Block state e = (ap s.want (moved_at before n h) ∙ e.0, closed_at n h state e.1)
  wanted_at n h (Read c v) state e = (ap s.want (moved_at before n h) ∙ e.0, moved_at after n h ∙ e.1 ∙ ap (λ a. s.answer a (Value v)) (sym (moved_at before n h)))
  wanted_at n h (Write c v) state e = (ap s.want (moved_at before n h) ∙ e.0, moved_at after n h ∙ e.1 ∙ ap (λ a. s.answer a Nothing) (sym (moved_at before n h)))
  wanted_at n h (Out v) state e = (ap s.want (moved_at before n h) ∙ e.0, moved_at after n h ∙ e.1 ∙ ap (λ a. s.answer a Nothing) (sym (moved_at before n h)))
  wanted_at n h (Cancel back) state e = (ap s.want (moved_at before n h) ∙ e.0, moved_at after n h ∙ e.1 ∙ ap (λ a. s.answer a (Wrote back)) (sym (moved_at before n h)))
  wanted_at n h (Tried c) state e =
      let P : A → Type 0 = λ a. IsAccessOf c (s.want a) in
      (subst P (sym (moved_at before n h)) e.0, moved_at after n h ∙ e.1 ∙ sym (moved_at before n h))

  node_at : (n : ℕ) → n < length t → ((x : Node) → slice_get t n ≡ Some x → IsWanted s t before after reached n x.kind x.state) → (x : Node) → slice_get new (f n) ≡ Some x → IsWanted s new (moved before) (moved after) (moved reached) (f n) x.kind x.state
  node_at n h fits x e = by (slice_get t n) refl where
    by : (o : Option Node) → slice_get t n ≡ o → IsWanted s new (moved before) (moved after) (moved reached) (f n) x.kind x.state
    by None q = absurd (cc (e, node_stays t w n h, ap (option_map (with_parent_renamed t)) q))
    by (Some y) q =
        let same : Some x ≡ Some (with_parent_renamed t y) = sym e ∙ node_stays t w n h ∙ ap (option_map (with_parent_renamed t)) q in
        let one : with_parent_renamed t y ≡ x = cc same in
        let P : Node → Type 0 = λ z. IsWanted s new (moved before) (moved after) (moved reached) (f n) z.kind z.state in
        subst P one (wanted_at n h y.kind y.state (fits y q))

  -- ## Ends

  over_at : (n : ℕ) → n < length t → is_over (s.want (reached n)) ≡ true → is_over (s.want (moved reached (f n))) ≡ true
  over_at n h e = ap (λ a. is_over (s.want a)) (moved_at reached n h) ∙ e

  strand_in : (g l r : ℕ) → children t g ≡ l ∷ r ∷ [] → (l < length t) × (r < length t)
  strand_in g l r these =
      let P : ℕ → List ℕ → Type 0 = In in
      (child_low g l (subst (P l) (sym these) (inl refl)), child_low g r (subst (P r) (sym these) (inr (inl refl))))

  behind_at : (g l r : ℕ) → g < length t → l < length t → r < length t → after g ≡ s.joined (reached r) (reached l) → moved after (f g) ≡ s.joined (moved reached (f r)) (moved reached (f l))
  behind_at g l r hg hl hr e =
      moved_at after g hg ∙ e ∙ ap (λ a. s.joined a (reached l)) (sym (moved_at reached r hr)) ∙ ap (s.joined (moved reached (f r))) (sym (moved_at reached l hl))

  pub ended_at : (x : ℕ) → x < length t → StrandEnded s t before after reached x → StrandEnded s new (moved before) (moved after) (moved reached) (f x)
  ended_at x h (alone over none) =
      alone (over_at x h over)
      (λ g e. by (last_child t x) refl (sym (last_renamed x h) ∙ e)) where
        by : {g : ℕ} (o : Option ℕ) → last_child t x ≡ o → option_map f o ≡ Some g → not (is_fork new g) ≡ true
        by None q e = absurd (cc e)
        by {g} (Some k) q e =
            let same : f k ≡ g = cc e in
            not_from_false (is_fork new g) (ap (is_fork new) (sym same) ∙ fork_kept t w k (last_is_child x k q) ∙ not-true (is_fork t k) (none k q))
  ended_at x h (joined {f = g} {l = l} {r = r} over last fork these left right behind) =
      let low = last_is_child x g last in
      let z = strand_in g l r these in
      joined (over_at x h over) (last_renamed x h ∙ ap (option_map f) last) (fork_kept t w g low ∙ fork) (siblings t w g low ∙ ap (map f) these) (ended_at l z.0 left) (ended_at r z.1 right) (behind_at g l r low z.0 z.1 behind)

  pub joined_at : (g : ℕ) → g < length t → IsJoined s t before after reached g → IsJoined s new (moved before) (moved after) (moved reached) (f g)
  joined_at g h j =
      let z = strand_in g j.left j.right j.strands in
      record {
        left = f j.left;
        right = f j.right;
        strands = siblings t w g h ∙ ap (map f) j.strands;
        left_ended = ended_at j.left z.0 j.left_ended;
        right_ended = ended_at j.right z.1 j.right_ended;
        behind = behind_at g j.left j.right h z.0 z.1 j.behind;
      }

  -- ## All nodes

  pub follows_at : Follows s t before after reached → Follows s new (moved before) (moved after) (moved reached)
  follows_at q = record {
    start = ap (moved before) (sym (root_stays t w)) ∙ moved_at before 0 (some_node t w) ∙ q.start;
    series =
        each_number t w (λ n. (is_strand new n || is_block new n) ≡ true → InSeries (moved before) (moved after) (entered s new (moved before) (moved after) (moved reached) n) (children new n) (moved reached n))
        (λ n h e.
        let was : (is_strand t n || is_block t n) ≡ true = sym (ap (λ b. b || is_block new (f n)) (strand_kept t w n h) ∙ ap (λ b. is_strand t n || b) (block_kept t w n h)) ∙ e in
        let P : List ℕ → Type 0 = λ cs. InSeries (moved before) (moved after) (entered s new (moved before) (moved after) (moved reached) (f n)) cs (moved reached (f n)) in
        let Q : A → Type 0 = λ a. InSeries (moved before) (moved after) a (map f (children t n)) (moved reached (f n)) in
        let R : A → Type 0 = λ b. InSeries (moved before) (moved after) (entered s t before after reached n) (map f (children t n)) b in
        subst P (sym (siblings t w n h)) (subst Q (sym (entered_at n h)) (subst R (sym (moved_at reached n h)) (series_at (children t n) (entered s t before after reached n) (reached n) (child_low n) (q.series n h was)))));
    fits = λ n x e.
        (let low : n < length new = some_there new n x e in
        each_number t w (λ n. (x : Node) → slice_get new n ≡ Some x → IsWanted s new (moved before) (moved after) (moved reached) n x.kind x.state) (λ n h. node_at n h (q.fits n)) n low x e);
    joined =
        each_number t w (λ g. (is_fork new g && (has_later new g || is_committed new (parent_of new g))) ≡ true → IsJoined s new (moved before) (moved after) (moved reached) g)
        (λ g h e.
        let z = and_parts (is_fork new (f g)) (has_later new (f g) || is_committed new (parent_of new (f g))) e in
        let fork = sym (fork_kept t w g h) ∙ z.0 in
        let some = fork_some g fork in
        let up : parent_of t g < g = w.rooted g some h in
        let was : (has_later t g || is_committed t (parent_of t g)) ≡ true =
        sym (ap (λ b. b || is_committed new (parent_of new (f g))) (later_renamed t w g some h)
        ∙ ap (λ p. has_later t g || is_committed new p) (parent_stays t w g h)
        ∙ ap (λ b. has_later t g || b) (committed_kept t w (parent_of t g) (omega arith))) ∙ z.1 in
        joined_at g h (q.joined g h (and_from (is_fork t g) (has_later t g || is_committed t (parent_of t g)) fork was)));
  } where
    some_there : (u : List Node) (n : ℕ) (x : Node) → slice_get u n ≡ Some x → n < length u
    some_there u n x e = node_there (λ y. true) u n (ap (passes (λ y. true)) e)

    fork_some : (g : ℕ) → is_fork t g ≡ true → 0 < g
    fork_some zero e = absurd (let root = w.root in cc (root, fork_no_strand t 0 e))
    fork_some (suc g) e = omega arith

  -- ## Together

  -- Where no fork is open in a place, none is there.
  pub shut_renamed : (p : ℕ) → p < length t → HasNoOpenFork s t before after reached p → HasNoOpenFork s new (moved before) (moved after) (moved reached) (f p)
  shut_renamed p h shut g e is = by (last_child t p) refl (sym (last_renamed p h) ∙ e) where
    by : (o : Option ℕ) → last_child t p ≡ o → option_map f o ≡ Some g → IsJoined s new (moved before) (moved after) (moved reached) g
    by None q e = absurd (cc e)
    by (Some j) q e =
        let same : f j ≡ g = cc e in
        let l = last_is_child p j q in
        let Q : ℕ → Type 0 = λ n. IsJoined s new (moved before) (moved after) (moved reached) n in
        subst Q same (joined_at j l (shut j q (sym (fork_kept t w j l) ∙ ap (is_fork new) same ∙ is)))

  states_moved : Follows s t before after reached → MovedStates s t before after reached
  states_moved q = record {
    new_before = moved before;
    new_after = moved after;
    new_reached = moved reached;
    same = λ n h. (moved_at before n h, moved_at after n h, moved_at reached n h);
    follows = follows_at q;
    ended = ended_at;
    shut = shut_renamed;
  }

pub strands_stay : {A : Type 0} → StrandsStay A
strands_stay s t before after reached w q = states_moved s t w before after reached q
