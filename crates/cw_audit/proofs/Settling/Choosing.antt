-- If the strand of main fits the tree, what is behind each node gives states that strands go through.
use Rattle.std.proofs.Common.{◌≡◌, ℕ, zero, suc, ◌+◌, ◌<◌, ◌≤◌, List, [], ◌∷◌, ◌++◌, length, refl, ap, sym, ◌∙◌, arith, subst, inl, inr, nat_lt, nat_eq, append-nil, Bool, true, false, Option, Some, None, cond}
use Rattle.std.specs.Prelude.{◌⊎◌, ◌&&◌, ◌||◌, filter, slice_get, option_map, option_and_then, unwrap_or}
use Rattle.std.proofs.lemmas.Bool.{cases_Bool, and_parts, or_left, or_right, or_cases, ltb-true, eqb-true, not_from_false, false_from_ne_true}
use Rattle.std.proofs.lemmas.Option.{slice_get-get_or}
use Rattle.std.proofs.lemmas.List.Elements.{filter-append}
use Rattle.cw_strand.specs.declared.want.Want.TheVariants as want
use Rattle.cw_strand.specs.declared.want.Given.TheVariants.{Nothing}
use Rattle.cw_strand.specs.Strands.{Strands, is_over}
use Rattle.cw_tree.specs.declared.node.Node.{Node}
use Rattle.cw_tree.specs.declared.node.Kind.{Kind}
use Rattle.cw_tree.specs.declared.node.Kind.TheVariants.{Strand, Fork, Block, Read, Write, Out, Tried, Cancel}
use Rattle.cw_tree.specs.declared.node.BlockState.{BlockState}
use Rattle.cw_tree.specs.declared.node.BlockState.TheVariants.{Committed, Pending, Aborted}
use Rattle.cw_tree.specs.Nodes.{passes, parent_of, is_strand, is_strand_kind, is_fork, is_fork_kind, is_block, is_block_kind, is_pending, is_pending_state, is_committed, is_committed_state, below, last_below, fresh_node}
use Rattle.cw_tree.specs.Series.{children, has_later, strand_of, place}
use Rattle.cw_tree.specs.Shape.{IsTree}
use Rattle.cw_tree.specs.Links.{is_child, last_child, child_before}
use Rattle.cw_tree.specs.Accesses.{is_live}
use Rattle.cw_tree.proofs.Lists.{In, any_in}
use Rattle.cw_tree.proofs.Rising.{Rises}
use Rattle.cw_tree.proofs.Walks.There.{node_there, strand_there}
use Rattle.cw_tree.proofs.Walks.Children.{last_passes}
use Rattle.cw_tree.proofs.NodeKinds.{fork_some, fork_no_strand, fork_no_block, strand_no_block}
use Rattle.cw_tree.proofs.InOrder.DepthFirst.{IsChild, child_is, child_in, children_rise}
use Rattle.cw_record.specs.declared.record_end.RecordEnd.{RecordEnd}
use Rattle.cw_record.specs.declared.record_end.RecordEnd.TheVariants.{Finished, Fault, Budget, Moves}
use Rattle.cw_record.specs.Order.{ending_strand}
use Rattle.cw_record.specs.Coherent.{InSeries, entered, IsForkOf, IsClosed, IsWanted, StrandEnded, alone, joined, IsJoined, HasNoOpenFork, Follows, EndStands}
use Rattle.cw_record.proofs.Coherent.States.{two_below}
use Rattle.cw_audit.specs.Parts.{CanHaveDone}
use Rattle.cw_audit.specs.Settled.{IsSome, IsWantedAs, joins, behind_all, behind_both, behind_kind, behind_node, state_behind, ClosesBlocks, MayLeave, AllFit, BothFit, FitsInside, FitsNode, CanDo}
use Rattle.cw_audit.proofs.Settling.Levels.{behind_is, fits_to}

module _ {A : Type 0} (s : Strands A) (t : List Node) (e : RecordEnd) (tree : IsTree t) where
  abbrev bh : ℕ → A → Option A
  bh = state_behind s t (length t)

  abbrev Fit : ℕ → A → Type 0
  Fit = CanDo s t e (length t)

  -- ## The states

  -- where node d begins, in node p and behind this child of it, given the states before earlier nodes
  abbrev pick : (ℕ → A) → ℕ → Bool → Option ℕ → A
  pick b p true None = s.left (b p)
  pick b p true (Some c) = s.right (b p)
  pick b p false None = cond (is_block t p) (s.answer (b p) Nothing) (b p)
  pick b p false (Some c) = unwrap_or (bh c (b c)) (b c)

  abbrev before_in : ℕ → ℕ → A
  before_in zero n = s.start
  before_in (suc k) zero = s.start
  before_in (suc k) (suc m) = pick (before_in k) (parent_of t (suc m)) (is_fork t (parent_of t (suc m))) (child_before t (suc m))

  pick_same : (b c : ℕ → A) (p : ℕ) (fork : Bool) (o : Option ℕ) → b p ≡ c p → ((d : ℕ) → o ≡ Some d → b d ≡ c d) → pick b p fork o ≡ pick c p fork o
  pick_same b c p true None h more = ap s.left h
  pick_same b c p true (Some d) h more = ap s.right h
  pick_same b c p false None h more = ap (λ a. cond (is_block t p) (s.answer a Nothing) a) h
  pick_same b c p false (Some d) h more = ap (λ a. unwrap_or (bh d a) a) (more d refl)

  enough : (k j n : ℕ) → n ≤ k → n ≤ j → n < length t → before_in k n ≡ before_in j n
  enough zero zero n h g low = refl
  enough zero (suc j) zero h g low = refl
  enough zero (suc j) (suc m) h g low = absurd (omega arith)
  enough (suc k) zero zero h g low = refl
  enough (suc k) zero (suc m) h g low = absurd (omega arith)
  enough (suc k) (suc j) zero h g low = refl
  enough (suc k) (suc j) (suc m) h g low =
      let up : parent_of t (suc m) < suc m = tree.rooted (suc m) (omega arith) low in
      pick_same (before_in k) (before_in j) (parent_of t (suc m)) (is_fork t (parent_of t (suc m))) (child_before t (suc m))
      (enough k j (parent_of t (suc m)) (omega arith) (omega arith) (omega arith))
      (λ d last. let z = last_passes (is_child t (parent_of t (suc m))) (suc m) d last in let less = z.0 in enough k j d (omega arith) (omega arith) (omega arith))

  abbrev before : ℕ → A
  before n = before_in n n

  abbrev after : ℕ → A
  after n = unwrap_or (bh n (before n)) (before n)

  -- behind this child of n, or at its start
  abbrev here : ℕ → Option ℕ → A
  here n None = cond (is_block t n) (s.answer (before n) Nothing) (before n)
  here n (Some c) = after c

  abbrev reached : ℕ → A
  reached n = here n (last_child t n)

  begun : (d : ℕ) → 0 < d → d < length t → before d ≡ pick before (parent_of t d) (is_fork t (parent_of t d)) (child_before t d)
  begun zero some low = absurd (omega arith)
  begun (suc m) some low =
      let up : parent_of t (suc m) < suc m = tree.rooted (suc m) (omega arith) low in
      pick_same (before_in m) before (parent_of t (suc m)) (is_fork t (parent_of t (suc m))) (child_before t (suc m))
      (enough m (parent_of t (suc m)) (parent_of t (suc m)) (omega arith) (omega arith) (omega arith))
      (λ d last. let z = last_passes (is_child t (parent_of t (suc m))) (suc m) d last in let less = z.0 in enough m d d (omega arith) (omega arith) (omega arith))

  begun_in : (p d : ℕ) → IsChild t p d → (fork : Bool) → is_fork t p ≡ fork → before d ≡ pick before p fork (last_below (is_child t p) d)
  begun_in p d x fork is =
      begun d x.some x.there
      ∙ ap (λ m. pick before m (is_fork t m) (last_below (is_child t m) d)) x.parent
      ∙ ap (λ b. pick before p b (last_below (is_child t p) d)) is

  -- ## In series

  series_more : (a b : A) (ns : List ℕ) (c : ℕ) → InSeries before after a ns b → before c ≡ b → InSeries before after a (ns ++ c ∷ []) (after c)
  series_more a b [] c g h = (h ∙ sym g, refl)
  series_more a b (n ∷ ns) c g h = (g.0, series_more (after n) b ns c g.1 h)

  module _ (n : ℕ) (other : is_fork t n ≡ false) where
    child_at : (c : ℕ) → c < length t → is_child t n c ≡ true → IsChild t n c
    child_at c low child =
        let z = and_parts (nat_lt 0 c) (nat_eq (parent_of t c) n) child in
        record { some = ltb-true 0 c z.0; there = low; parent = eqb-true (parent_of t c) n z.1 }

    begins_here : (c : ℕ) → IsChild t n c → before c ≡ here n (last_below (is_child t n) c)
    begins_here c x = begun_in n c x false other ∙ same (last_below (is_child t n) c) where
      same : (o : Option ℕ) → pick before n false o ≡ here n o
      same None = refl
      same (Some d) = refl

    series_below : (k : ℕ) → k ≤ length t → InSeries before after (here n None) (filter (is_child t n) (below k)) (here n (last_below (is_child t n) k))
    series_below zero l = refl
    series_below (suc k) l =
        let P : List ℕ → Type 0 = λ ns. InSeries before after (here n None) ns (here n (last_below (is_child t n) (suc k))) in
        subst P (sym (filter-append (is_child t n) (below k) (k ∷ []))) (by (is_child t n k) refl (series_below k (omega arith))) where
          by : (b : Bool) → is_child t n k ≡ b → InSeries before after (here n None) (filter (is_child t n) (below k)) (here n (last_below (is_child t n) k))
              → InSeries before after (here n None) (filter (is_child t n) (below k) ++ cond b (k ∷ []) []) (here n (cond b (Some k) (last_below (is_child t n) k)))
          by true child old = series_more (here n None) _ (filter (is_child t n) (below k)) k old (begins_here k (child_at k (omega arith) child))
          by false child old = (let Q : List ℕ → Type 0 = λ ns. InSeries before after (here n None) ns (here n (last_below (is_child t n) k)) in subst Q (sym (append-nil (filter (is_child t n) (below k)))) old)

  place_no_fork : (n : ℕ) → (is_strand t n || is_block t n) ≡ true → is_fork t n ≡ false
  place_no_fork n held = elim (cases_Bool (is_fork t n)) [
    | inr other ↦ other
    | inl fork ↦ elim (or_cases (is_strand t n) (is_block t n) held) [
      | inl sure ↦ (let never = fork_no_strand t n fork in absurd (cc (sure, never)))
      | inr sure ↦ (let never = fork_no_block t n fork in absurd (cc (sure, never)))
    ]
  ]

  runs : (n : ℕ) → (is_strand t n || is_block t n) ≡ true → InSeries before after (here n None) (children t n) (reached n)
  runs n held = series_below n (place_no_fork n held) (length t) (omega arith)

  -- ## What fits one after another

  -- something is behind this node
  abbrev Passed : ℕ → Type 0
  Passed c = bh c (before c) ≡ Some (after c)

  passed : (c : ℕ) (a y : A) → before c ≡ a → bh c a ≡ Some y → (after c ≡ y) × Passed c
  passed c a y same some =
      let own : bh c (before c) ≡ Some y = ap (bh c) same ∙ some in
      let is : after c ≡ y = ap (λ o. unwrap_or o (before c)) own in
      (is, own ∙ ap Some (sym is))

  -- where something fits behind a node, something is behind it
  next : (c : ℕ) (cs : List ℕ) (a : A) (d : ℕ) → before c ≡ a → In d cs → AllFit s t e bh Fit cs (bh c a) → Passed c × AllFit s t e bh Fit cs (Some (after c))
  next c [] a d same i fit = absurd i
  next c (x ∷ cs) a d same i fit = by (bh c a) refl fit where
    by : (o : Option A) → bh c a ≡ o → AllFit s t e bh Fit (x ∷ cs) o → Passed c × AllFit s t e bh Fit (x ∷ cs) (Some (after c))
    by None at fit = absurd fit
    by (Some y) at fit =
        let z = passed c a y same at in
        let P : A → Type 0 = λ b. AllFit s t e bh Fit (x ∷ cs) (Some b) in
        (z.1, subst P (sym z.0) fit)

  each : (cs : List ℕ) (a b : A) → InSeries before after a cs b → AllFit s t e bh Fit cs (Some a) → (c : ℕ) → In c cs → Fit c (before c)
  each [] a b run fit c i = absurd i
  each (d ∷ cs) a b run fit c (inl same) = (let P : ℕ → Type 0 = λ m. Fit m (before m) in subst P (sym same) (subst (Fit d) (sym run.0) fit.0))
  each (d ∷ cs) a b run fit c (inr i) = each cs (after d) b run.1 (next d cs a c run.0 i fit.1).1 c i

  -- all but the last are passed
  somes : (cs : List ℕ) (a b : A) → Rises cs → InSeries before after a cs b → AllFit s t e bh Fit cs (Some a) → (c d : ℕ) → In c cs → In d cs → c < d → Passed c
  somes [] a b r run fit c d i j less = absurd i
  somes (x ∷ cs) a b r run fit c d (inl same) (inl other) less = absurd (omega arith)
  somes (x ∷ cs) a b r run fit c d (inl same) (inr j) less = (subst Passed (sym same) (next x cs a d run.0 j fit.1).0)
  somes (x ∷ cs) a b r run fit c d (inr i) (inl other) less = (let low : x < c = r.0 c i in absurd (omega arith))
  somes (x ∷ cs) a b r run fit c d (inr i) (inr j) less = somes cs (after x) b r.1 run.1 (next x cs a c run.0 i fit.1).1 c d i j less

  -- if something is behind them all, it is what was reached, and all are passed
  ends : (cs : List ℕ) (a b y : A) → InSeries before after a cs b → behind_all s t bh cs a ≡ Some y → (b ≡ y) × ((c : ℕ) → In c cs → Passed c)
  ends [] a b y run some = (sym run ∙ cc some, λ c i. absurd i)
  ends (c ∷ cs) a b y run some = by (bh c a) refl some (ends cs (after c) b y run.1) where
    by : (o : Option A) → bh c a ≡ o → option_and_then (behind_all s t bh cs) o ≡ Some y → (behind_all s t bh cs (after c) ≡ Some y → (b ≡ y) × ((d : ℕ) → In d cs → Passed d))
        → (b ≡ y) × ((d : ℕ) → In d (c ∷ cs) → Passed d)
    by None at some more = absurd (cc some)
    by (Some z) at some more =
        let x = passed c a z run.0 at in
        let w = more (ap (behind_all s t bh cs) x.0 ∙ some) in
        (w.0, λ d i. elim i [ inl same ↦ subst Passed (sym same) x.1 | inr j ↦ w.1 d j ])

  -- ## What is in a node

  strand_is : (n : ℕ) (x : Node) → slice_get t n ≡ Some x → is_strand t n ≡ is_strand_kind x.kind
  strand_is n x at = ap (passes (λ y. is_strand_kind y.kind)) at

  fork_is : (n : ℕ) (x : Node) → slice_get t n ≡ Some x → is_fork t n ≡ is_fork_kind x.kind
  fork_is n x at = ap (passes (λ y. is_fork_kind y.kind)) at

  block_is : (n : ℕ) (x : Node) → slice_get t n ≡ Some x → is_block t n ≡ is_block_kind x.kind
  block_is n x at = ap (passes (λ y. is_block_kind y.kind)) at

  node_at : (n : ℕ) → n < length t → (x : Node) × (slice_get t n ≡ Some x)
  node_at n low = by (slice_get t n) (slice_get-get_or t n (fresh_node 0 Strand 0) low) where
    by : {y : Node} (o : Option Node) → o ≡ Some y → (x : Node) × (o ≡ Some x)
    by None at = absurd (cc at)
    by (Some x) at = (x, refl)

  fits_as : (n : ℕ) (x : Node) → slice_get t n ≡ Some x → Fit n (before n) → IsWantedAs x.kind (s.want (before n)) × FitsInside s t e bh Fit n x.kind x.state (before n)
  fits_as n x at fit = (let P : Option Node → Type 0 = λ o. FitsNode s t e bh Fit n o (before n) in subst P at (fits_to s t e tree.rooted n (before n) fit))

  behind_as : (n : ℕ) (x : Node) → slice_get t n ≡ Some x → bh n (before n) ≡ behind_kind s t bh n x.kind x.state (before n)
  behind_as n x at = behind_is s t tree.rooted n (before n) ∙ ap (λ o. behind_node s t bh n o (before n)) at

  strand_here : (n : ℕ) → is_strand t n ≡ true → here n None ≡ before n
  strand_here n sure = ap (λ b. cond b (s.answer (before n) Nothing) (before n)) (strand_no_block t n sure)

  block_here : (n : ℕ) → is_block t n ≡ true → here n None ≡ s.answer (before n) Nothing
  block_here n sure = ap (λ b. cond b (s.answer (before n) Nothing) (before n)) sure

  -- the nodes in a place fit
  place_fits : (n : ℕ) → n < length t → (is_strand t n || is_block t n) ≡ true → Fit n (before n) → AllFit s t e bh Fit (children t n) (Some (here n None))
  place_fits n low held fit =
      let z = node_at n low in
      by z.0.kind z.0.state (sym (ap (λ b. b || is_block_kind z.0.kind) (strand_is n z.0 z.1)) ∙ sym (ap (λ b. is_strand t n || b) (block_is n z.0 z.1)) ∙ held) (strand_is n z.0 z.1) (block_is n z.0 z.1) (fits_as n z.0 z.1 fit).1 where
        Want : A → Type 0
        Want a = AllFit s t e bh Fit (children t n) (Some a)

        by : (k : Kind) (state : BlockState) → (is_strand_kind k || is_block_kind k) ≡ true → is_strand t n ≡ is_strand_kind k → is_block t n ≡ is_block_kind k → FitsInside s t e bh Fit n k state (before n) → Want (here n None)
        by Strand state h es eb x = subst Want (sym (strand_here n es)) x.0
        by Fork state h es eb x = absurd (cc h)
        by Block Committed h es eb x = subst Want (sym (block_here n eb)) x.0
        by Block Pending h es eb x = subst Want (sym (block_here n eb)) x.0
        by Block Aborted h es eb x = subst Want (sym (block_here n eb)) x.0
        by (Read c v) state h es eb x = absurd (cc h)
        by (Write c v) state h es eb x = absurd (cc h)
        by (Out v) state h es eb x = absurd (cc h)
        by (Cancel back) state h es eb x = absurd (cc h)
        by (Tried c) state h es eb x = absurd (cc h)

  -- both strands of a fork fit
  fork_fits : (n : ℕ) → n < length t → is_fork t n ≡ true → Fit n (before n) → BothFit s t e Fit (children t n) (before n)
  fork_fits n low fork fit =
      let z = node_at n low in
      by z.0.kind z.0.state (sym (fork_is n z.0 z.1) ∙ fork) (fits_as n z.0 z.1 fit).1 where
        by : (k : Kind) (state : BlockState) → is_fork_kind k ≡ true → FitsInside s t e bh Fit n k state (before n) → BothFit s t e Fit (children t n) (before n)
        by Fork state h x = x
        by Strand state h x = absurd (cc h)
        by Block state h x = absurd (cc h)
        by (Read c v) state h x = absurd (cc h)
        by (Write c v) state h x = absurd (cc h)
        by (Out v) state h x = absurd (cc h)
        by (Cancel back) state h x = absurd (cc h)
        by (Tried c) state h x = absurd (cc h)

  -- a fork's strands, and where they begin
  record Sides (f : ℕ) : Type 0 where
    l : ℕ
    r : ℕ
    these : children t f ≡ l ∷ r ∷ []
    left_child : IsChild t f l
    right_child : IsChild t f r
    left_strand : is_strand t l ≡ true
    right_strand : is_strand t r ≡ true
    left_begins : before l ≡ s.left (before f)
    right_begins : before r ≡ s.right (before f)

  sides : (f : ℕ) → f < length t → is_fork t f ≡ true → Sides f
  sides f low fork =
      let (l, r, these, strands) = tree.forks f low fork in
      let both = and_parts (is_strand t l) (is_strand t r) strands in
      let R : ℕ → List ℕ → Type 0 = In in
      let left = child_is t f l (subst (R l) (sym these) (inl refl)) in
      let right = child_is t f r (subst (R r) (sym these) (inr (inl refl))) in
      let at = two_below (is_child t f) (length t) l r these in
      record {
        l = l;
        r = r;
        these = these;
        left_child = left;
        right_child = right;
        left_strand = both.0;
        right_strand = both.1;
        left_begins = begun_in f l left true fork ∙ ap (pick before f true) at.0;
        right_begins = begun_in f r right true fork ∙ ap (pick before f true) at.1;
      }

  drop_middle : (a b c : Bool) → (a || b || c) ≡ true → b ≡ false → (a || c) ≡ true
  drop_middle true b c h other = refl
  drop_middle false true c h other = absurd (cc other)
  drop_middle false false c h other = h

  module _ (main : Fit 0 s.start) where
    -- a child of a node that fits does
    down : (p n : ℕ) → IsChild t p n → p < length t → Fit p (before p) → Fit n (before n)
    down p n x low fit = by (cases_Bool (is_fork t p)) where
      held : is_fork t p ≡ false → (is_strand t p || is_block t p) ≡ true
      held other =
          let P : ℕ → Type 0 = λ m. (is_strand t m || is_fork t m || is_block t m) ≡ true in
          let some = subst P x.parent (tree.parents n x.there x.some) in
          drop_middle (is_strand t p) (is_fork t p) (is_block t p) some other

      by : (is_fork t p ≡ true) ⊎ (is_fork t p ≡ false) → Fit n (before n)
      by (inr other) = each (children t p) (here p None) (reached p) (runs p (held other)) (place_fits p low (held other) fit) n (child_in t p n x)
      by (inl fork) =
          let y = sides p low fork in
          let P : List ℕ → Type 0 = λ cs. BothFit s t e Fit cs (before p) in
          let both = subst P y.these (fork_fits p low fork fit) in
          let R : List ℕ → Type 0 = In n in
          let Q : ℕ → Type 0 = λ m. Fit m (before m) in
          elim (subst R y.these (child_in t p n x)) [
            | inl same ↦ subst Q (sym same) (subst (Fit y.l) (sym y.left_begins) both.0)
            | inr more ↦ elim more [ inl same ↦ subst Q (sym same) (subst (Fit y.r) (sym y.right_begins) both.1) | inr none ↦ absurd none ]
          ]

    fits_in : (k n : ℕ) → n ≤ k → n < length t → Fit n (before n)
    fits_in k zero h low = main
    fits_in zero (suc m) h low = absurd (omega arith)
    fits_in (suc k) (suc m) h low =
        let up : parent_of t (suc m) < suc m = tree.rooted (suc m) (omega arith) low in
        down (parent_of t (suc m)) (suc m) (record { some = omega arith; there = low; parent = refl }) (omega arith) (fits_in k (parent_of t (suc m)) (omega arith) (omega arith))

    all_fit : (n : ℕ) → n < length t → Fit n (before n)
    all_fit n = fits_in n n (omega arith)

    -- ## Strands that ended

    abbrev Ended : ℕ → Type 0
    Ended = StrandEnded s t before after reached

    abbrev Joined : ℕ → Type 0
    Joined = IsJoined s t before after reached

    strand_behind : (x : ℕ) → x < length t → is_strand t x ≡ true → bh x (before x) ≡ behind_all s t bh (children t x) (here x None)
    strand_behind x low sure =
        let z = node_at x low in
        behind_as x z.0 z.1 ∙ by z.0.kind z.0.state (sym (strand_is x z.0 z.1) ∙ sure) where
          by : (k : Kind) (state : BlockState) → is_strand_kind k ≡ true → behind_kind s t bh x k state (before x) ≡ behind_all s t bh (children t x) (here x None)
          by Strand state h = ap (behind_all s t bh (children t x)) (sym (strand_here x sure))
          by Fork state h = absurd (cc h)
          by Block state h = absurd (cc h)
          by (Read c v) state h = absurd (cc h)
          by (Write c v) state h = absurd (cc h)
          by (Out v) state h = absurd (cc h)
          by (Cancel back) state h = absurd (cc h)
          by (Tried c) state h = absurd (cc h)

    fork_behind : (f : ℕ) → f < length t → is_fork t f ≡ true → bh f (before f) ≡ behind_both s t bh (children t f) (before f)
    fork_behind f low fork =
        let z = node_at f low in
        behind_as f z.0 z.1 ∙ by z.0.kind z.0.state (sym (fork_is f z.0 z.1) ∙ fork) where
          by : (k : Kind) (state : BlockState) → is_fork_kind k ≡ true → behind_kind s t bh f k state (before f) ≡ behind_both s t bh (children t f) (before f)
          by Fork state h = refl
          by Strand state h = absurd (cc h)
          by Block state h = absurd (cc h)
          by (Read c v) state h = absurd (cc h)
          by (Write c v) state h = absurd (cc h)
          by (Out v) state h = absurd (cc h)
          by (Cancel back) state h = absurd (cc h)
          by (Tried c) state h = absurd (cc h)

    -- a strand behind which is this has reached it, and has passed all its nodes
    strand_ends : (x : ℕ) (a : A) → x < length t → is_strand t x ≡ true → bh x (before x) ≡ Some a → (reached x ≡ a) × ((c : ℕ) → In c (children t x) → Passed c)
    strand_ends x a low sure some =
        ends (children t x) (here x None) (reached x) a (runs x (or_left (is_strand t x) (is_block t x) sure)) (sym (strand_behind x low sure) ∙ some)

    -- both strands of a fork that is passed are over
    record BothOver (f : ℕ) : Type 0 where
      sides : Sides f
      right : A
      left : A
      right_at : bh sides.r (before sides.r) ≡ Some right
      left_at : bh sides.l (before sides.l) ≡ Some left
      right_over : is_over (s.want right) ≡ true
      left_over : is_over (s.want left) ≡ true
      behind : after f ≡ s.joined right left

    over_sides : (f : ℕ) (y : Sides f) (r l : A) → ((is_over (s.want r) && is_over (s.want l)) ≡ true) ⊎ ((is_over (s.want r) && is_over (s.want l)) ≡ false)
        → cond (is_over (s.want r) && is_over (s.want l)) (Some (s.joined r l)) None ≡ Some (after f) → bh y.r (before y.r) ≡ Some r → bh y.l (before y.l) ≡ Some l → BothOver f
    over_sides f y r l (inl sure) same eo eu =
        let both = and_parts (is_over (s.want r)) (is_over (s.want l)) sure in
        let this : Some (s.joined r l) ≡ Some (after f) = sym (ap (λ b. cond b (Some (s.joined r l)) None) sure) ∙ same in
        let join : s.joined r l ≡ after f = cc this in
        record { sides = y; right = r; left = l; right_at = eo; left_at = eu; right_over = both.0; left_over = both.1; behind = sym join }
    over_sides f y r l (inr other) same eo eu = (let this : None ≡ Some (after f) = sym (ap (λ b. cond b (Some (s.joined r l)) None) other) ∙ same in absurd (cc this))

    both_over : (f : ℕ) → f < length t → is_fork t f ≡ true → Passed f → BothOver f
    both_over f low fork pass =
        let y = sides f low fork in
        by y (bh y.r (before y.r)) (bh y.l (before y.l)) refl refl
        (ap (λ a. joins s t (bh y.r a) (bh y.l (before y.l))) y.right_begins
        ∙ ap (λ a. joins s t (bh y.r (s.right (before f))) (bh y.l a)) y.left_begins
        ∙ sym (ap (λ cs. behind_both s t bh cs (before f)) y.these)
        ∙ sym (fork_behind f low fork) ∙ pass) where
          by : (y : Sides f) (o u : Option A) → bh y.r (before y.r) ≡ o → bh y.l (before y.l) ≡ u → joins s t o u ≡ Some (after f) → BothOver f
          by y None u eo eu same = absurd (cc same)
          by y (Some r) None eo eu same = absurd (cc same)
          by y (Some r) (Some l) eo eu same = over_sides f y r l (cases_Bool (is_over (s.want r) && is_over (s.want l))) same eo eu

    -- behind it comes what they join to
    joins_to : (f : ℕ) → (w : BothOver f) → after f ≡ s.joined (reached w.sides.r) (reached w.sides.l)
    joins_to f w =
        let y = w.sides in
        w.behind
        ∙ ap (λ a. s.joined a w.left) (sym (strand_ends y.r w.right y.right_child.there y.right_strand w.right_at).0)
        ∙ ap (s.joined (reached y.r)) (sym (strand_ends y.l w.left y.left_child.there y.left_strand w.left_at).0)

    join_over : (f : ℕ) → (w : BothOver f) → Ended w.sides.l → Ended w.sides.r → Joined f
    join_over f w left right =
        let y = w.sides in
        record {
          left = y.l;
          right = y.r;
          strands = y.these;
          left_ended = left;
          right_ended = right;
          behind = joins_to f w;
        }

    ended_in : (k x : ℕ) (a : A) → length t ≤ x + k → x < length t → is_strand t x ≡ true → bh x (before x) ≡ Some a → is_over (s.want a) ≡ true → Ended x
    ended_in zero x a enough low sure some over = absurd (omega arith)
    ended_in (suc k) x a enough low sure some over =
        by (last_child t x) refl (λ m b less. ended_in k m b (omega arith)) where
          z : (reached x ≡ a) × ((c : ℕ) → In c (children t x) → Passed c)
          z = strand_ends x a low sure some

          is_ended : is_over (s.want (reached x)) ≡ true
          is_ended = ap (λ b. is_over (s.want b)) z.0 ∙ over

          More : Type 0
          More = (m : ℕ) (b : A) → x < m → m < length t → is_strand t m ≡ true → bh m (before m) ≡ Some b → is_over (s.want b) ≡ true → Ended m

          by : (o : Option ℕ) → last_child t x ≡ o → More → Ended x
          by None last more = alone is_ended (λ f found. absurd (let both = sym last ∙ found in cc both))
          by (Some f) last more = by_kind (cases_Bool (is_fork t f)) where
            child : IsChild t x f
            child =
                let y = last_passes (is_child t x) (length t) f last in
                let w = and_parts (nat_lt 0 f) (nat_eq (parent_of t f) x) y.1 in
                record { some = ltb-true 0 f w.0; there = y.0; parent = eqb-true (parent_of t f) x w.1 }

            by_kind : (is_fork t f ≡ true) ⊎ (is_fork t f ≡ false) → Ended x
            by_kind (inr other) =
                alone is_ended (λ g found. (let both = sym last ∙ found in let same : f ≡ g = cc both in not_from_false (is_fork t g) (sym (ap (is_fork t) same) ∙ other)))
            by_kind (inl fork) =
                let w = both_over f child.there fork (z.1 f (child_in t x f child)) in
                let y = w.sides in
                let f_low : parent_of t f < f = tree.rooted f child.some child.there in
                let f_up = child.parent in
                let l_low : parent_of t y.l < y.l = tree.rooted y.l y.left_child.some y.left_child.there in
                let l_up = y.left_child.parent in
                let r_low : parent_of t y.r < y.r = tree.rooted y.r y.right_child.some y.right_child.there in
                let r_up = y.right_child.parent in
                let left = more y.l w.left (omega arith) y.left_child.there y.left_strand w.left_at w.left_over in
                let right = more y.r w.right (omega arith) y.right_child.there y.right_strand w.right_at w.right_over in
                joined is_ended last fork y.these left right (joins_to f w)

    ended : (x : ℕ) (a : A) → x < length t → is_strand t x ≡ true → bh x (before x) ≡ Some a → is_over (s.want a) ≡ true → Ended x
    ended x a = ended_in (length t) x a (omega arith)

    fork_joined : (f : ℕ) → f < length t → is_fork t f ≡ true → Passed f → Joined f
    fork_joined f low fork pass =
        let w = both_over f low fork pass in
        let y = w.sides in
        join_over f w (ended y.l w.left y.left_child.there y.left_strand w.left_at w.left_over) (ended y.r w.right y.right_child.there y.right_strand w.right_at w.right_over)

    -- ## Each node is what its strand wants

    place_runs : (n : ℕ) → (held : (is_strand t n || is_block t n) ≡ true) → InSeries before after (entered s t before after reached n) (children t n) (reached n)
    place_runs n held = runs n held

    after_at : (n : ℕ) (y : A) → bh n (before n) ≡ Some y → after n ≡ y
    after_at n y some = (passed n (before n) y refl some).0

    committed_at : (n : ℕ) → n < length t → is_block t n ≡ true → bh n (before n) ≡ option_map (λ b. s.answer b Nothing) (behind_all s t bh (children t n) (s.answer (before n) Nothing))
        → IsSome (λ b. s.want b ≡ want.End) (behind_all s t bh (children t n) (s.answer (before n) Nothing)) → IsClosed s t before after reached n Committed
    committed_at n low sure some well = by (behind_all s t bh (children t n) (s.answer (before n) Nothing)) refl some well where
      by : (o : Option A) → behind_all s t bh (children t n) (s.answer (before n) Nothing) ≡ o → bh n (before n) ≡ option_map (λ b. s.answer b Nothing) o → IsSome (λ b. s.want b ≡ want.End) o
          → IsClosed s t before after reached n Committed
      by None at some well = absurd well
      by (Some y) at some well =
          let z = ends (children t n) (here n None) (reached n) y (runs n (or_right (is_strand t n) (is_block t n) sure)) (ap (behind_all s t bh (children t n)) (block_here n sure) ∙ at) in
          (ap s.want z.0 ∙ well, after_at n (s.answer y Nothing) some ∙ ap (λ b. s.answer b Nothing) (sym z.0))

    back_at : (n : ℕ) → bh n (before n) ≡ cond (has_later t n) (Some (before n)) None → after n ≡ before n
    back_at n some = ap (λ o. unwrap_or o (before n)) some ∙ by (has_later t n) where
      by : (b : Bool) → unwrap_or (cond b (Some (before n)) None) (before n) ≡ before n
      by true = refl
      by false = refl

    wanted : (n : ℕ) (x : Node) → slice_get t n ≡ Some x → IsWanted s t before after reached n x.kind x.state
    wanted n x at =
        by x.kind x.state (fork_is n x at) (block_is n x at) (fits_as n x at (all_fit n low)) (behind_as n x at) where
          low : n < length t
          low = node_there (λ y. true) t n (ap (passes (λ y. true)) at)

          by : (k : Kind) (state : BlockState) → is_fork t n ≡ is_fork_kind k → is_block t n ≡ is_block_kind k → IsWantedAs k (s.want (before n)) × FitsInside s t e bh Fit n k state (before n)
              → bh n (before n) ≡ behind_kind s t bh n k state (before n) → IsWanted s t before after reached n k state
          by Strand state ef eb w b = tt
          by Fork state ef eb w b =
              let y = sides n low ef in
              let P : List ℕ → Type 0 = IsForkOf s t before after reached n in
              (w.0, subst P (sym y.these) (y.left_begins, y.right_begins))
          by Block Committed ef eb w b = (w.0, committed_at n low eb b w.1.1)
          by Block Pending ef eb w b = (w.0, back_at n b)
          by Block Aborted ef eb w b = (w.0, back_at n b)
          by (Read c v) state ef eb w b = (w.0, after_at n _ b)
          by (Write c v) state ef eb w b = (w.0, after_at n _ b)
          by (Out v) state ef eb w b = (w.0, after_at n _ b)
          by (Cancel back) state ef eb w b = (w.0, after_at n _ b)
          by (Tried c) state ef eb w b = (w.0, after_at n _ b)

    -- ## Forks behind which the strand goes on

    -- what a committed block has in it is passed
    committed_passes : (p : ℕ) → p < length t → is_committed t p ≡ true → (c : ℕ) → In c (children t p) → Passed c
    committed_passes p low done c i =
        let z = node_at p low in
        by z.0.kind z.0.state (sym (ap (passes (λ y. is_block_kind y.kind && is_committed_state y.state)) z.1) ∙ done) (block_is p z.0 z.1) (fits_as p z.0 z.1 (all_fit p low)).1 where
          end : is_block t p ≡ true → (o : Option A) → behind_all s t bh (children t p) (s.answer (before p) Nothing) ≡ o → IsSome (λ b. s.want b ≡ want.End) o → Passed c
          end sure None at well = absurd well
          end sure (Some y) at well =
              (ends (children t p) (here p None) (reached p) y (runs p (or_right (is_strand t p) (is_block t p) sure)) (ap (behind_all s t bh (children t p)) (block_here p sure) ∙ at)).1 c i

          by : (k : Kind) (state : BlockState) → (is_block_kind k && is_committed_state state) ≡ true → is_block t p ≡ is_block_kind k → FitsInside s t e bh Fit p k state (before p) → Passed c
          by Block Committed h eb x = end eb (behind_all s t bh (children t p) (s.answer (before p) Nothing)) refl x.1
          by Block Pending h eb x = absurd (cc h)
          by Block Aborted h eb x = absurd (cc h)
          by Strand state h eb x = absurd (cc h)
          by Fork state h eb x = absurd (cc h)
          by (Read c v) state h eb x = absurd (cc h)
          by (Write c v) state h eb x = absurd (cc h)
          by (Out v) state h eb x = absurd (cc h)
          by (Cancel back) state h eb x = absurd (cc h)
          by (Tried c) state h eb x = absurd (cc h)

    -- a fork is in a strand or a block
    fork_held : (f : ℕ) → 0 < f → f < length t → is_fork t f ≡ true → (is_strand t (parent_of t f) || is_block t (parent_of t f)) ≡ true
    fork_held f some low fork = drop_middle (is_strand t (parent_of t f)) (is_fork t (parent_of t f)) (is_block t (parent_of t f)) (tree.parents f low some) (false_from_ne_true (is_fork t (parent_of t f)) (λ above.
        let up : parent_of t f < f = tree.rooted f some low in
        let y = sides (parent_of t f) (omega arith) above in
        let x : IsChild t (parent_of t f) f = record { some = some; there = low; parent = refl } in
        let R : List ℕ → Type 0 = In f in
        let never = fork_no_strand t f fork in
        elim (subst R y.these (child_in t (parent_of t f) f x)) [
          | inl same ↦ (let sure = ap (is_strand t) same ∙ y.left_strand in cc (sure, never))
          | inr more ↦ elim more [ inl same ↦ (let sure = ap (is_strand t) same ∙ y.right_strand in cc (sure, never)) | inr none ↦ none ]
        ]))

    goes_on : (f : ℕ) → f < length t → (is_fork t f && (has_later t f || is_committed t (parent_of t f))) ≡ true → Joined f
    goes_on f low h =
        let z = and_parts (is_fork t f) (has_later t f || is_committed t (parent_of t f)) h in
        let some = fork_some t tree.root f z.0 in
        let up : parent_of t f < f = tree.rooted f some low in
        let x : IsChild t (parent_of t f) f = record { some = some; there = low; parent = refl } in
        let here_child = child_in t (parent_of t f) f x in
        fork_joined f low z.0 (elim (or_cases (has_later t f) (is_committed t (parent_of t f)) z.1) [
          | inl more ↦ (
              let held = fork_held f some low z.0 in
              let (d, i, less) = any_in (λ m. nat_lt f m) (children t (parent_of t f)) more in
              somes (children t (parent_of t f)) (here (parent_of t f) None) (reached (parent_of t f)) (children_rise t (parent_of t f)) (runs (parent_of t f) held)
              (place_fits (parent_of t f) (omega arith) held (all_fit (parent_of t f) (omega arith))) f d here_child i (ltb-true f d less))
          | inr done ↦ committed_passes (parent_of t f) (omega arith) done f here_child
        ])

    pub follow : Follows s t before after reached
    follow = record { start = refl; series = λ n low held. runs n held; fits = wanted; joined = goes_on }

    -- ## Ends

    -- a place that may be left where something holds has reached it, and has no open fork
    leaves : (p : ℕ) (Is : A → Type 0) → (held : (is_strand t p || is_block t p) ≡ true) → IsSome Is (behind_all s t bh (children t p) (here p None)) → Is (reached p) × HasNoOpenFork s t before after reached p
    leaves p Is held = by (behind_all s t bh (children t p) (here p None)) refl where
      by : (o : Option A) → behind_all s t bh (children t p) (here p None) ≡ o → IsSome Is o → Is (reached p) × HasNoOpenFork s t before after reached p
      by None at well = absurd well
      by (Some y) at well =
          let z = ends (children t p) (here p None) (reached p) y (runs p held) at in (
            subst Is (sym z.0) well,
            λ f last fork.
                (let y = last_passes (is_child t p) (length t) f last in
                let w = and_parts (nat_lt 0 f) (nat_eq (parent_of t f) p) y.1 in
                let x : IsChild t p f = record { some = ltb-true 0 f w.0; there = y.0; parent = eqb-true (parent_of t f) p w.1 } in
                fork_joined f y.0 fork (z.1 f (child_in t p f x))),
          )

    -- what may be left, of a strand or a block that was not committed
    may_leave : (p : ℕ) → p < length t → (is_strand t p || is_pending t p) ≡ true → ((is_strand t p || is_block t p) ≡ true) × MayLeave s t e p (behind_all s t bh (children t p) (here p None))
    may_leave p low h =
        let z = node_at p low in
        let pending = ap (passes (λ y. is_block_kind y.kind && is_pending_state y.state)) z.1 in
        by z.0.kind z.0.state (sym (ap (λ b. b || (is_block_kind z.0.kind && is_pending_state z.0.state)) (strand_is p z.0 z.1)) ∙ sym (ap (λ b. is_strand t p || b) pending) ∙ h) (strand_is p z.0 z.1) (block_is p z.0 z.1) (fits_as p z.0 z.1 (all_fit p low)).1 where
          P : A → Type 0
          P a = MayLeave s t e p (behind_all s t bh (children t p) a)

          by : (k : Kind) (state : BlockState) → (is_strand_kind k || (is_block_kind k && is_pending_state state)) ≡ true → is_strand t p ≡ is_strand_kind k → is_block t p ≡ is_block_kind k → FitsInside s t e bh Fit p k state (before p)
              → ((is_strand t p || is_block t p) ≡ true) × P (here p None)
          by Strand state h es eb x = (or_left (is_strand t p) (is_block t p) es, subst P (sym (strand_here p es)) x.1)
          by Block Pending h es eb x = (or_right (is_strand t p) (is_block t p) eb, subst P (sym (block_here p eb)) x.1)
          by Block Committed h es eb x = absurd (cc h)
          by Block Aborted h es eb x = absurd (cc h)
          by Fork state h es eb x = absurd (cc h)
          by (Read c v) state h es eb x = absurd (cc h)
          by (Write c v) state h es eb x = absurd (cc h)
          by (Out v) state h es eb x = absurd (cc h)
          by (Cancel back) state h es eb x = absurd (cc h)
          by (Tried c) state h es eb x = absurd (cc h)

    live_ended : (x : ℕ) → x < length t → is_strand t x ≡ true → IsSome (λ a. is_over (s.want a) ≡ true) (behind_all s t bh (children t x) (here x None)) → Ended x
    live_ended x low sure = by (behind_all s t bh (children t x) (here x None)) (strand_behind x low sure) where
      by : (o : Option A) → bh x (before x) ≡ o → IsSome (λ a. is_over (s.want a) ≡ true) o → Ended x
      by None at well = absurd well
      by (Some y) at well = ended x y low sure at well

    -- where a strand is, is the strand itself or a pending block
    place_is : (x : ℕ) → is_strand t x ≡ true → (place t x < length t) × ((is_strand t (place t x) || is_pending t (place t x)) ≡ true)
    place_is x sure = by (last_below (λ n. is_pending t n && nat_eq (strand_of t n) x) (length t)) refl where
      by : (o : Option ℕ) → last_below (λ n. is_pending t n && nat_eq (strand_of t n) x) (length t) ≡ o → (unwrap_or o x < length t) × ((is_strand t (unwrap_or o x) || is_pending t (unwrap_or o x)) ≡ true)
      by None at = (strand_there t x sure, or_left (is_strand t x) (is_pending t x) sure)
      by (Some b) at =
          let z = last_passes (λ n. is_pending t n && nat_eq (strand_of t n) x) (length t) b at in
          (z.0, or_right (is_strand t b) (is_pending t b) (and_parts (is_pending t b) (nat_eq (strand_of t b) x) z.1).0)

-- ## All

ends_stand : {A : Type 0} (s : Strands A) (t : List Node) (e : RecordEnd) (tree : IsTree t) → is_strand t (ending_strand e) ≡ true → ClosesBlocks t e → (main : CanDo s t e (length t) 0 s.start)
    → EndStands s t (before s t e tree) (after s t e tree) (reached s t e tree) e
ends_stand s t (Finished memory outputs) tree named closes main = (
  closes,
  λ x low h.
      (let z = and_parts (is_strand t x) (is_live t x) h in
      let y = may_leave s t (Finished memory outputs) tree main x low (or_left (is_strand t x) (is_pending t x) z.0) in
      live_ended s t (Finished memory outputs) tree main x low z.0 (y.1 h)),
)
ends_stand s t (Fault x kind) tree named closes main =
    let z = place_is s t (Fault x kind) tree main x named in
    let y = may_leave s t (Fault x kind) tree main (place t x) z.0 z.1 in
    leaves s t (Fault x kind) tree main (place t x) (λ a. s.want a ≡ want.Fault kind) y.0 (y.1 refl)
ends_stand s t (Budget x) tree named closes main = tt
ends_stand s t Moves tree named closes main = tt

pub can_follow : {A : Type 0} (s : Strands A) (t : List Node) (e : RecordEnd) → IsTree t → is_strand t (ending_strand e) ≡ true → ClosesBlocks t e → CanDo s t e (length t) 0 s.start → CanHaveDone s t e
can_follow s t e tree named closes main = (before s t e tree, after s t e tree, reached s t e tree, follow s t e tree main, ends_stand s t e tree named closes main)
