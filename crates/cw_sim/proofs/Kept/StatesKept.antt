-- States before, after and in each node, as a machine changes in one node and behind one child of it.
use Rattle.std.proofs.Common.{◌≡◌, ◌≢◌, ℕ, ◌<◌, ◌≤◌, List, [], ◌∷◌, ◌++◌, length, refl, ap, sym, ◌∙◌, subst, arith, true, false, cond, inl, inr, Some, nat_eq}
use Rattle.std.specs.Prelude.{◌&&◌, ◌||◌, not, slice_get}
use Rattle.std.specs.List.{list_any, filter}
use Rattle.std.proofs.lemmas.Bool.{and_parts, and_right, cases_Bool, cases_eq, cases_lt, false_from_ne_true}
use Rattle.cw_strand.specs.declared.want.Given.TheVariants.{Nothing, Value, Back}
use Rattle.cw_strand.specs.Strands.{Strands, is_over}
use Rattle.cw_tree.specs.declared.node.Node.{Node}
use Rattle.cw_tree.specs.declared.node.Kind.{Kind}
use Rattle.cw_tree.specs.declared.node.Kind.TheVariants.{Strand, Fork, Block, Read, Write, Out, Cancel, Tried}
use Rattle.cw_tree.specs.declared.node.BlockState.{BlockState}
use Rattle.cw_tree.specs.declared.node.BlockState.TheVariants.{Pending, Committed, Aborted}
use Rattle.cw_tree.specs.Nodes.{passes, is_fork_kind, is_block_kind, is_pending_state, is_committed_state, parent_of, is_strand, is_fork, is_block, is_pending, is_committed, below}
use Rattle.cw_tree.specs.Walks.{has}
use Rattle.cw_tree.specs.Series.{children}
use Rattle.cw_tree.specs.Links.{is_child}
use Rattle.cw_tree.proofs.Lists.{In}
use Rattle.cw_tree.proofs.InOrder.DepthFirst.{child_is}
use Rattle.cw_tree.proofs.NodeKinds.{node_tells}
use Rattle.cw_tree.proofs.Members.{in_below, in_filter}
use Rattle.cw_open.specs.Machine.{OpenMachine, has_finished, finished_dead}
use Rattle.cw_open.specs.Open.{is_open}
use Rattle.cw_open.proofs.Open.Standing.{open_block}
use Rattle.cw_open.proofs.Open.Trees.{IsWell}
use Rattle.cw_open.proofs.Open.Kinds.{finished_shut, open_unjoined}
use Rattle.cw_core.proofs.Kept.Tails.{child_low}
use Rattle.cw_record.specs.Coherent.{InSeries, IsForkOf, IsClosed, IsWanted, entered}
use Rattle.cw_record.specs.ClosedRun.{AreStates}
use Rattle.cw_record.specs.Replay.{IsAccessOf}
use Rattle.cw_record.proofs.Coherent.States.{Closes}

-- ## Series

module _ {A : Type 0} (b a d c : ℕ → A) where
  -- where the states before and behind each node are the same
  pub series_same : (ns : List ℕ) (x y : A) → ((n : ℕ) → In n ns → (d n ≡ b n) × (c n ≡ a n)) → InSeries b a x ns y → InSeries d c x ns y
  series_same [] x y same e = e
  series_same (n ∷ ns) x y same e =
      let w = same n (inl refl) in
      let P : A → Type 0 = λ v. InSeries d c v ns y in
      (w.0 ∙ e.0, subst P (sym w.1) (series_same ns (a n) y (λ m i. same m (inr i)) e.1))

  -- one node more
  pub series_more : (ns : List ℕ) (n : ℕ) (x y : A) → ((n : ℕ) → In n ns → (d n ≡ b n) × (c n ≡ a n)) → d n ≡ y → InSeries b a x ns y → InSeries d c x (ns ++ n ∷ []) (c n)
  series_more [] n x y same at e = (at ∙ sym e, refl)
  series_more (i ∷ ns) n x y same at e =
      let w = same i (inl refl) in
      let P : A → Type 0 = λ v. InSeries d c v (ns ++ n ∷ []) (c n) in
      (w.0 ∙ e.0, subst P (sym w.1) (series_more ns n (a i) y (λ m j. same m (inr j)) at e.1))

  -- another state behind the last one
  pub series_last : (ns : List ℕ) (n : ℕ) (x y : A) → ((n : ℕ) → In n ns → (d n ≡ b n) × (c n ≡ a n)) → d n ≡ b n → InSeries b a x (ns ++ n ∷ []) y → InSeries d c x (ns ++ n ∷ []) (c n)
  series_last [] n x y same at e = (at ∙ e.0, refl)
  series_last (i ∷ ns) n x y same at e =
      let w = same i (inl refl) in
      let P : A → Type 0 = λ v. InSeries d c v (ns ++ n ∷ []) (c n) in
      (w.0 ∙ e.0, subst P (sym w.1) (series_last ns n (a i) y (λ m j. same m (inr j)) at e.1))

-- from one state to another by nodes that are given otherwise
pub series_at : {A : Type 0} (b a : ℕ → A) (x v : A) (ns ms : List ℕ) (y w : A) → v ≡ x → ms ≡ ns → w ≡ y → InSeries b a x ns y → InSeries b a v ms w
series_at {A} b a x v ns ms y w e f g h =
    let P : A → Type 0 = λ i. InSeries b a i ms w in
    let Q : List ℕ → Type 0 = λ is. InSeries b a x is w in
    let R : A → Type 0 = λ i. InSeries b a x ns i in
    subst P (sym e) (subst Q (sym f) (subst R (sym g) h))

-- a block is closed, of its own states
pub closed_by : {A : Type 0} (s : Strands A) (t : List Node) (before after reached : ℕ → A) (n : ℕ) (state : BlockState) → Closes s (before n) (after n) (reached n) state → IsClosed s t before after reached n state
closed_by s t before after reached n Committed e = e
closed_by s t before after reached n Pending e = e
closed_by s t before after reached n Aborted e = e

-- ## What stays

-- the states before, behind and in each node
pub record AllStates (A : Type 0) : Type 0 where
  pub before : ℕ → A
  pub after : ℕ → A
  pub reached : ℕ → A

-- Machine m becomes z: the nodes that were there stay, with their children and states, but in node p and behind c, a child of it.
pub record Stay {A : Type 0} (m z : OpenMachine) (x y : AllStates A) (p c : ℕ) : Type 0 where
  pub longer : length m.tree ≤ length z.tree
  pub nodes : (n : ℕ) → n < length m.tree → n ≢ c → slice_get z.tree n ≡ slice_get m.tree n
  pub strands : (n : ℕ) → n < length m.tree → is_strand z.tree n ≡ is_strand m.tree n
  pub blocks : (n : ℕ) → n < length m.tree → is_block z.tree n ≡ is_block m.tree n
  pub children : (n : ℕ) → n < length m.tree → n ≢ p → children z.tree n ≡ children m.tree n
  pub finished : z.finished ≡ m.finished
  pub before : (n : ℕ) → n < length m.tree → y.before n ≡ x.before n
  pub after : (n : ℕ) → n < length m.tree → n ≢ c → y.after n ≡ x.after n
  pub reached : (n : ℕ) → n < length m.tree → n ≢ p → y.reached n ≡ x.reached n

-- Node p is open, and no fork; c is a child of it, or comes anew, and no fork that was joined.
pub record MayChange (m : OpenMachine) (p c : ℕ) : Type 0 where
  pub well : IsWell m
  pub forks : (f : ℕ) → has m.joined f ≡ true → is_fork m.tree f ≡ true
  pub opened : is_open m p ≡ true
  pub no_fork : is_fork m.tree p ≡ false
  pub under : c < length m.tree → parent_of m.tree c ≡ p
  pub apart : has m.joined c ≡ false

-- What is to be shown of node p, of c, and of nodes that come anew.
pub record AreNew {A : Type 0} (s : Strands A) (m z : OpenMachine) (y : AllStates A) (p c : ℕ) : Type 0 where
  pub here : InSeries y.before y.after (entered s z.tree y.before y.after y.reached p) (children z.tree p) (y.reached p)
  pub series : (n : ℕ) → length m.tree ≤ n → n < length z.tree → (is_strand z.tree n || is_block z.tree n) ≡ true
      → InSeries y.before y.after (entered s z.tree y.before y.after y.reached n) (children z.tree n) (y.reached n)
  pub behind : (v : Node) → slice_get z.tree c ≡ Some v → IsWanted s z.tree y.before y.after y.reached c v.kind v.state
  pub fits : (n : ℕ) → length m.tree ≤ n → n ≢ c → (v : Node) → slice_get z.tree n ≡ Some v → IsWanted s z.tree y.before y.after y.reached n v.kind v.state
  pub joins : (f l r : ℕ) → has z.joined f ≡ true → has m.joined f ≡ false → children z.tree f ≡ l ∷ r ∷ [] → y.after f ≡ s.joined (y.reached r) (y.reached l)

-- what is pending is not committed
pending_undone : (t : List Node) (n : ℕ) → is_pending t n ≡ true → is_committed t n ≡ false
pending_undone t = node_tells false t (λ v. is_block_kind v.kind && is_pending_state v.state) (λ v. is_block_kind v.kind && is_committed_state v.state) (λ v e.
    let w = and_parts (is_block_kind v.kind) (is_pending_state v.state) e in
    and_right (is_block_kind v.kind) (is_committed_state v.state) (by v.state w.1)) where
      by : (state : BlockState) → is_pending_state state ≡ true → is_committed_state state ≡ false
      by Pending e = refl
      by Aborted e = refl
      by Committed e = absurd (cc e)

module _ {A : Type 0} (s : Strands A) (m z : OpenMachine) (x y : AllStates A) (p c : ℕ) (may : MayChange m p c) (k : Stay m z x y p c) where
  abbrev t : List Node
  t = m.tree

  abbrev u : List Node
  u = z.tree

  pub entered_same : (n : ℕ) → n < length t → entered s u y.before y.after y.reached n ≡ entered s t x.before x.after x.reached n
  entered_same n l = ap (λ b. cond b (s.answer (y.before n) Nothing) (y.before n)) (k.blocks n l) ∙ ap (λ v. cond (is_block t n) (s.answer v Nothing) v) (k.before n l)

  -- node p, where c comes as its last child
  pub series_with_new : p < length t → length t ≤ c → children u p ≡ children t p ++ c ∷ [] → y.before c ≡ x.reached p → y.reached p ≡ y.after c
      → InSeries x.before x.after (entered s t x.before x.after x.reached p) (children t p) (x.reached p) → InSeries y.before y.after (entered s u y.before y.after y.reached p) (children u p) (y.reached p)
  series_with_new l past more at same e =
      series_at y.before y.after (entered s t x.before x.after x.reached p) (entered s u y.before y.after y.reached p) (children t p ++ c ∷ []) (children u p) (y.after c) (y.reached p) (entered_same p l) more same
      (series_more x.before x.after y.before y.after (children t p) c (entered s t x.before x.after x.reached p) (x.reached p)
      (λ i j. let low = child_low t p i j in (k.before i low, k.after i low (λ q. omega (arith, q)))) at e)

  -- and where c was its last child
  pub series_with_last : p < length t → c < length t → children t p ≡ filter (is_child t p) (below c) ++ c ∷ [] → children u p ≡ filter (is_child t p) (below c) ++ c ∷ [] → y.reached p ≡ y.after c
      → InSeries x.before x.after (entered s t x.before x.after x.reached p) (children t p) (x.reached p) → InSeries y.before y.after (entered s u y.before y.after y.reached p) (children u p) (y.reached p)
  series_with_last l there was now same e =
      let elders : List ℕ = filter (is_child t p) (below c) in
      series_at y.before y.after (entered s t x.before x.after x.reached p) (entered s u y.before y.after y.reached p) (elders ++ c ∷ []) (children u p) (y.after c) (y.reached p) (entered_same p l) now same
      (series_last x.before x.after y.before y.after elders c (entered s t x.before x.after x.reached p) (x.reached p)
      (λ i j. let low : i < c = in_below i c (in_filter (is_child t p) i (below c) j).0 in (k.before i (omega arith), k.after i (omega arith) (λ q. omega (arith, q)))) (k.before c there)
      (series_at x.before x.after (entered s t x.before x.after x.reached p) (entered s t x.before x.after x.reached p) (children t p) (elders ++ c ∷ []) (x.reached p) (x.reached p) refl (sym was) refl e))

  child_same : (n i : ℕ) → n ≢ p → In i (children t n) → (y.before i ≡ x.before i) × (y.after i ≡ x.after i)
  child_same n i ne j =
      let q = child_is t n i j in
      let l = q.there in
      (k.before i l, k.after i l (λ e. ne (sym q.parent ∙ ap (parent_of t) e ∙ may.under (omega (arith, e)))))

  not_committed : is_committed t p ≡ false
  not_committed = false_from_ne_true (is_committed t p) (λ e.
      let block = node_tells true t (λ v. is_block_kind v.kind && is_committed_state v.state) (λ v. is_block_kind v.kind) (λ v e. (and_parts (is_block_kind v.kind) (is_committed_state v.state) e).0) p e in
      absurd (let pending = pending_undone t p (open_block m may.well.sound.tree may.well.nested p block may.opened) in cc (e, pending)))

  -- the strands of a fork that was joined are open no more
  child_shut : (f i : ℕ) → has m.joined f ≡ true → In i (children t f) → i ≢ p
  child_shut f i e j same =
      let q = child_is t f i j in
      let outer = may.well.nested.outer i q.some q.there (ap (is_open m) same ∙ may.opened) in
      let off = open_unjoined m f (may.forks f e) (ap (is_open m) (sym q.parent) ∙ outer) in
      cc (e, off)

  -- ## The states

  module _ (h : AreStates s m x.before x.after x.reached) where
    series_old : (n : ℕ) → n < length t → n ≢ p → (is_strand u n || is_block u n) ≡ true → InSeries y.before y.after (entered s u y.before y.after y.reached n) (children u n) (y.reached n)
    series_old n l ne e =
        let was : (is_strand t n || is_block t n) ≡ true = sym (ap (λ b. b || is_block u n) (k.strands n l) ∙ ap (λ b. is_strand t n || b) (k.blocks n l)) ∙ e in
        series_at y.before y.after (entered s t x.before x.after x.reached n) (entered s u y.before y.after y.reached n) (children t n) (children u n) (x.reached n) (y.reached n) (entered_same n l) (k.children n l ne) (k.reached n l ne)
        (series_same x.before x.after y.before y.after (children t n) (entered s t x.before x.after x.reached n) (x.reached n) (λ i. child_same n i ne) (h.series n l was))

    forks_same : (n : ℕ) → n < length t → (ns : List ℕ) → ((i : ℕ) → In i ns → i < length t) → IsForkOf s t x.before x.after x.reached n ns → IsForkOf s u y.before y.after y.reached n ns
    forks_same n l [] low e = e
    forks_same n l (i ∷ []) low e = e
    forks_same n l (i ∷ j ∷ []) low e = (
      k.before i (low i (inl refl)) ∙ e.0 ∙ ap s.left (sym (k.before n l)),
      k.before j (low j (inr (inl refl))) ∙ e.1 ∙ ap s.right (sym (k.before n l)),
    )
    forks_same n l (i ∷ j ∷ v ∷ ns) low e = e

    closed_same : (n : ℕ) → n < length t → n ≢ c → (state : BlockState) → (is_committed_state state ≡ true → n ≢ p) → IsClosed s t x.before x.after x.reached n state → IsClosed s u y.before y.after y.reached n state
    closed_same n l nc Committed ne e = (ap s.want (k.reached n l (ne refl)) ∙ e.0, k.after n l nc ∙ e.1 ∙ ap (λ v. s.answer v Nothing) (sym (k.reached n l (ne refl))))
    closed_same n l nc Pending ne e = k.after n l nc ∙ e ∙ sym (k.before n l)
    closed_same n l nc Aborted ne e = k.after n l nc ∙ e ∙ sym (k.before n l)

    wanted_same : (n : ℕ) → n < length t → n ≢ c → (kind : Kind) (state : BlockState) → (is_fork_kind kind ≡ true → n ≢ p) → ((is_block_kind kind && is_committed_state state) ≡ true → n ≢ p)
        → IsWanted s t x.before x.after x.reached n kind state → IsWanted s u y.before y.after y.reached n kind state
    wanted_same n l nc Strand state fork done e = tt
    wanted_same n l nc Fork state fork done e =
        let P : List ℕ → Type 0 = λ ns. IsForkOf s u y.before y.after y.reached n ns in
        (ap s.want (k.before n l) ∙ e.0, subst P (sym (k.children n l (fork refl))) (forks_same n l (children t n) (child_low t n) e.1))
    wanted_same n l nc Block state fork done e = (ap s.want (k.before n l) ∙ e.0, closed_same n l nc state done e.1)
    wanted_same n l nc (Read d v) state fork done e = (ap s.want (k.before n l) ∙ e.0, k.after n l nc ∙ e.1 ∙ ap (λ i. s.answer i (Value v)) (sym (k.before n l)))
    wanted_same n l nc (Write d v) state fork done e = (ap s.want (k.before n l) ∙ e.0, k.after n l nc ∙ e.1 ∙ ap (λ i. s.answer i Nothing) (sym (k.before n l)))
    wanted_same n l nc (Out v) state fork done e = (ap s.want (k.before n l) ∙ e.0, k.after n l nc ∙ e.1 ∙ ap (λ i. s.answer i Nothing) (sym (k.before n l)))
    wanted_same n l nc (Cancel back) state fork done e = (ap s.want (k.before n l) ∙ e.0, k.after n l nc ∙ e.1 ∙ ap (λ i. s.answer i (Back back)) (sym (k.before n l)))
    wanted_same n l nc (Tried d) state fork done e =
        let P : A → Type 0 = λ i. IsAccessOf d (s.want i) in
        (subst P (sym (k.before n l)) e.0, k.after n l nc ∙ e.1 ∙ sym (k.before n l))

    fits_old : (n : ℕ) → n < length t → n ≢ c → (v : Node) → slice_get u n ≡ Some v → IsWanted s u y.before y.after y.reached n v.kind v.state
    fits_old n l nc v is =
        let was : slice_get t n ≡ Some v = sym (k.nodes n l nc) ∙ is in
        wanted_same n l nc v.kind v.state
        (λ fork e. let yes : is_fork t n ≡ true = ap (passes (λ i. is_fork_kind i.kind)) was ∙ fork in let no = may.no_fork in cc (yes, e, no))
        (λ done e. let yes : is_committed t n ≡ true = ap (passes (λ i. is_block_kind i.kind && is_committed_state i.state)) was ∙ done in let no = not_committed in cc (yes, ap (is_committed t) e, no))
        (h.fits n v was)

    module _ (new : AreNew s m z y p c) where
      dead_same : (i : ℕ) → finished_dead z i ≡ finished_dead m i
      dead_same i = ap (list_any (λ f. nat_eq f.0 i && f.1)) k.finished

      done_same : (i : ℕ) → has_finished z i ≡ has_finished m i
      done_same i = ap (list_any (λ f. nat_eq f.0 i)) k.finished

      joined_old : (f l r : ℕ) → has m.joined f ≡ true → children u f ≡ l ∷ r ∷ [] → finished_dead z l ≡ false → finished_dead z r ≡ false → y.after f ≡ s.joined (y.reached r) (y.reached l)
      joined_old f l r e kids left right =
          let low = may.well.joined f e in
          let not_p : f ≢ p = λ q. (let yes = may.forks f e in let no = may.no_fork in cc (yes, q, no)) in
          let not_c : f ≢ c = λ q. (let no = may.apart in cc (e, ap (has m.joined) q, no)) in
          let was : children t f ≡ l ∷ r ∷ [] = sym (k.children f low not_p) ∙ kids in
          let P : ℕ → List ℕ → Type 0 = In in
          let in_l : In l (children t f) = subst (P l) (sym was) (inl refl) in
          let in_r : In r (children t f) = subst (P r) (sym was) (inr (inl refl)) in
          k.after f low not_c
          ∙ h.joined f l r e was (sym (dead_same l) ∙ left) (sym (dead_same r) ∙ right)
          ∙ ap (λ i. s.joined i (x.reached l)) (sym (k.reached r (child_low t f r in_r) (child_shut f r e in_r)))
          ∙ ap (s.joined (y.reached r)) (sym (k.reached l (child_low t f l in_l) (child_shut f l e in_l)))

      over_old : (i : ℕ) → (is_strand u i && has_finished z i && not (finished_dead z i)) ≡ true → is_over (s.want (y.reached i)) ≡ true
      over_old i e =
          let a = and_parts (is_strand u i && has_finished z i) (not (finished_dead z i)) e in
          let b = and_parts (is_strand u i) (has_finished z i) a.0 in
          let done : has_finished m i ≡ true = sym (done_same i) ∙ b.1 in
          let low = may.well.finished i done in
          let strand : is_strand t i ≡ true = sym (k.strands i low) ∙ b.0 in
          let ne : i ≢ p = λ q. (let shut = finished_shut m i strand done in let open_p = may.opened in cc (shut, ap (is_open m) q, open_p)) in
          let was = h.over i (ap (λ v. v && has_finished m i && not (finished_dead m i)) strand ∙ ap (λ v. v && not (finished_dead m i)) done ∙ ap not (sym (dead_same i)) ∙ a.1) in
          ap (λ v. is_over (s.want v)) (k.reached i low ne) ∙ was

      pub states_kept : AreStates s z y.before y.after y.reached
      states_kept = record {
        start = k.before 0 may.well.sound.tree.some ∙ h.start;
        series = λ n l e. elim (cases_lt n (length t)) [
          | inr le ↦ new.series n le l e
          | inl low ↦ elim (cases_eq n p) [
            | inr ne ↦ series_old n low ne e
            | inl q ↦ (let P : ℕ → Type 0 = λ i. InSeries y.before y.after (entered s u y.before y.after y.reached i) (children u i) (y.reached i) in subst P (sym q) new.here)
          ]
        ];
        fits = λ n v is. elim (cases_eq n c) [
          | inl q ↦ (let P : ℕ → Type 0 = λ i. slice_get u i ≡ Some v → IsWanted s u y.before y.after y.reached i v.kind v.state in subst P (sym q) (new.behind v) is)
          | inr nc ↦ elim (cases_lt n (length t)) [ inl low ↦ fits_old n low nc v is | inr le ↦ new.fits n le nc v is ]
        ];
        joined = λ f l r e kids left right. elim (cases_Bool (has m.joined f)) [ inl was ↦ joined_old f l r was kids left right | inr off ↦ new.joins f l r e off kids ];
        over = over_old;
      }
