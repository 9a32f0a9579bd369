-- Each live read has what the live accesses before it left, where an access may conflict with the newest one alone.
use Rattle.std.proofs.Common.{◌≡◌, ℕ, ◌<◌, List, [], ◌∷◌, ◌++◌, length, map, refl, ap, sym, ◌∙◌, subst, true, inl, inr, Option, Some, None, nat_lt}
use Rattle.std.specs.Prelude.{◌&&◌, ℤ, pos, filter, slice_get, slice_set, unwrap_or}
use Rattle.std.proofs.lemmas.Bool.{and_parts, ltb-true, cases_eq}
use Rattle.std.proofs.lemmas.List.{map-append}
use Rattle.cw_tree.specs.declared.node.Node.{Node}
use Rattle.cw_tree.specs.declared.node.BlockState.{BlockState}
use Rattle.cw_tree.specs.declared.node.BlockState.TheVariants.{Committed, Aborted}
use Rattle.cw_tree.specs.Nodes.{touches_kind, stamp_of, touches, is_pending, closed, fresh_node}
use Rattle.cw_tree.specs.Walks.{is_above}
use Rattle.cw_tree.specs.Series.{place}
use Rattle.cw_tree.specs.Shape.{AreStamps}
use Rattle.cw_tree.specs.Accesses.{read, written, cell_value, value_in, read_kind, written_kind}
use Rattle.cw_tree.specs.AccessStacks.{access_kind, access_at}
use Rattle.cw_tree.proofs.Lists.{In}
use Rattle.cw_tree.proofs.Walks.There.{node_there}
use Rattle.cw_tree.proofs.NextNodes.Growing.{get_append, get_next, node_new, number_new}
use Rattle.cw_tree.proofs.NextNodes.Closing.{node_closed, number_closed, same_closed}
use Rattle.cw_tree.proofs.ChainLaws.Stamps.{stamps_beneath}
use Rattle.cw_open.specs.Machine.{OpenMachine, live, live_value, is_free, rolls_back}
use Rattle.cw_open.specs.Steps.{Step, forks, begins, accesses, refuses, outputs, cancels, commits, undoes, aborts, finishes, joins, stops, live_beside, after_open_step, first_machine}
use Rattle.cw_open.specs.Runs.{Allowed}
use Rattle.cw_open.specs.Reads.{AreRead, ReadsAreMet}
use Rattle.cw_open.proofs.Open.TreeSteps.{rolls_runs, place_pending}
use Rattle.cw_open.proofs.Laws.Listing.{listed}
use Rattle.cw_open.proofs.Laws.ListSteps.{listed_here, listed_other}
use Rattle.cw_open.proofs.Laws.Named.{access_named}
use Rattle.cw_open.proofs.Laws.ChainSteps.{names_same, kept_grown}
use Rattle.cw_open.proofs.Laws.ChainStates.{newest_alone, access_touched, IsChainState, chained_after, chained_opening}
use Rattle.cw_open.proofs.Runs.States.{IsState, by_run, state_after, state_opening, empty_lists}

-- accesses that are what they were have read what they had
read_same : (t u : List Node) (v : ℤ) (ns : List ℕ) → ((n : ℕ) → In n ns → (read u n ≡ read t n) × (written u n ≡ written t n)) → AreRead t v ns → AreRead u v ns
read_same t u v [] f a = a
read_same t u v (n ∷ ns) f a =
    let z = f n (inl refl) in
    let P : ℤ → Type 0 = λ x. AreRead u x ns in (
      λ w e. a.0 w (sym z.0 ∙ e),
      subst P (sym (ap (λ o. unwrap_or o v) z.1)) (read_same t u (unwrap_or (written t n) v) ns (λ k i. f k (inr i)) a.1),
    )

read_front : (t : List Node) (v : ℤ) (ns ks : List ℕ) → AreRead t v (ns ++ ks) → AreRead t v ns
read_front t v [] ks a = tt
read_front t v (n ∷ ns) ks a = (a.0, read_front t (unwrap_or (written t n) v) ns ks a.1)

read_more : (t : List Node) (v : ℤ) (ns : List ℕ) (n : ℕ) → AreRead t v ns → ((w : ℤ) → read t n ≡ Some w → w ≡ cell_value v (map (written t) ns)) → AreRead t v (ns ++ n ∷ [])
read_more t v [] n a f = (f, tt)
read_more t v (k ∷ ns) n a f = (a.0, read_more t (unwrap_or (written t k) v) ns n a.1 f)

abbrev pub AreAllRead : OpenMachine → Type 0
AreAllRead m = (c : ℕ) (v : ℤ) → slice_get m.first c ≡ Some v → AreRead m.tree v (map (access_at m.tree) (live m c))

in_map_access : (f : ℕ → ℕ) (us : List ℕ) (n : ℕ) → In n (map f us) → (s : ℕ) × In s us × (n ≡ f s)
in_map_access f [] n i = absurd i
in_map_access f (u ∷ us) n (inl e) = (u, inl refl, e)
in_map_access f (u ∷ us) n (inr i) = let z = in_map_access f us n i in (z.0, inr z.1, z.2)

read_access : (c : ℕ) (write : Option ℤ) (v w : ℤ) → read_kind (access_kind c write v) ≡ Some w → w ≡ v
read_access c None v w e = let same : v ≡ w = cc e in sym same
read_access c (Some x) v w e = absurd (cc e)

module _ (first : List ℤ) (m : OpenMachine) (s : IsState first m) (h : AreAllRead m) where
  abbrev t : List Node
  t = m.tree

  -- the accesses of a list in another tree, which has them as they were
  moved : (u : List Node) → AreStamps u → (c : ℕ) → ((n : ℕ) → touches t c n ≡ true → (touches u c n ≡ true) × (stamp_of u n ≡ stamp_of t n)) → ((n : ℕ) → touches t c n ≡ true → (read u n ≡ read t n) × (written u n ≡ written t n))
      → (v : ℤ) → slice_get m.first c ≡ Some v → AreRead u v (map (access_at u) (live m c))
  moved u su c kept same v e =
      let P : List ℕ → Type 0 = λ ns. AreRead u v ns in
      subst P (sym (names_same t u s.well.sound.stamps su c kept (live m c) (s.listed.accesses c)))
      (read_same t u v (map (access_at t) (live m c))
      (λ n i.
      let (x, j, q) = in_map_access (access_at t) (live m c) n i in
      let a = s.listed.accesses c x j in
      let named : access_at t x ≡ a.0 = ap (access_at t) (sym a.2) ∙ access_named t s.well.sound.stamps c a.0 a.1 in
      same n (ap (touches t c) (q ∙ named) ∙ a.1)) (h c v e))

  grown : (xs : List Node) → AreStamps (t ++ xs) → (c : ℕ) (v : ℤ) → slice_get m.first c ≡ Some v → AreRead (t ++ xs) v (map (access_at (t ++ xs)) (live m c))
  grown xs su c =
      moved (t ++ xs) su c (kept_grown t xs c)
      (λ n e. let low = node_there (λ y. touches_kind c y.kind) t n e in (ap (value_in read_kind) (get_append t xs n low), ap (value_in written_kind) (get_append t xs n low)))

  shut : (p : ℕ) (state : BlockState) (end : ℕ) → AreStamps (closed t p state end) → (c : ℕ) (v : ℤ) → slice_get m.first c ≡ Some v → AreRead (closed t p state end) v (map (access_at (closed t p state end)) (live m c))
  shut p state end su c =
      moved (closed t p state end) su c
      (λ n e. (node_closed t p state end (λ y. touches_kind c y.kind) (λ y. refl) n ∙ e, number_closed t p state end (λ y. y.stamp) (λ y. refl) n))
      (λ n e. (same_closed t p state end (value_in read_kind) (λ y. refl) n, same_closed t p state end (value_in written_kind) (λ y. refl) n))

  -- the list of another cell than the one that was changed, and of that one
  by_cell : (u : List Node) (c : ℕ) (l : List ℕ) → c < length m.lists → ((v : ℤ) → slice_get m.first c ≡ Some v → AreRead u v (map (access_at u) l)) → ((d : ℕ) (v : ℤ) → slice_get m.first d ≡ Some v → AreRead u v (map (access_at u) (live m d)))
      → (d : ℕ) (v : ℤ) → slice_get m.first d ≡ Some v → AreRead u v (map (access_at u) (listed (slice_set m.lists c l) d))
  by_cell u c l there here other d v e =
      let P : List ℕ → Type 0 = λ us. AreRead u v (map (access_at u) us) in
      elim (cases_eq d c) [
        | inl q ↦ subst P (sym (ap (listed (slice_set m.lists c l)) q ∙ listed_here m.lists c l there)) (here v (ap (slice_get m.first) (sym q) ∙ e))
        | inr ne ↦ subst P (sym (listed_other m.lists c d l ne)) (other d v e)
      ]

map_both : (t : List Node) (us : List ℕ) → map (λ s. written t (access_at t s)) us ≡ map (written t) (map (access_at t) us)
map_both t [] = refl
map_both t (u ∷ us) = ap (λ ws. written t (access_at t u) ∷ ws) (map_both t us)

map_same_written : (t u : List Node) (ns : List ℕ) → ((n : ℕ) → In n ns → written u n ≡ written t n) → map (written u) ns ≡ map (written t) ns
map_same_written t u [] f = refl
map_same_written t u (n ∷ ns) f = ap (λ w. w ∷ map (written u) ns) (f n (inl refl)) ∙ ap (λ ws. written t n ∷ ws) (map_same_written t u ns (λ k i. f k (inr i)))

module _ (first : List ℤ) (m : OpenMachine) (s : IsChainState first m) (h : AreAllRead m) where
  abbrev now : List Node
  now = m.tree

  st : IsState first m
  st = s.state

  -- a new access reads the value of its cell
  accessed : (p c : ℕ) (write : Option ℤ) (stamp : ℕ) → AreStamps (now ++ fresh_node p (access_kind c write (live_value m c)) stamp ∷ [])
      → (v : ℤ) → slice_get m.first c ≡ Some v → AreRead (now ++ fresh_node p (access_kind c write (live_value m c)) stamp ∷ []) v (map (access_at (now ++ fresh_node p (access_kind c write (live_value m c)) stamp ∷ [])) (live m c ++ stamp ∷ []))
  accessed p c write stamp su v e =
      let x = fresh_node p (access_kind c write (live_value m c)) stamp in
      let u = now ++ x ∷ [] in
      let touched : touches u c (length now) ≡ true = node_new now x (λ y. touches_kind c y.kind) ∙ access_touched c write (live_value m c) in
      let new : access_at u stamp ≡ length now = ap (access_at u) (sym (number_new now x (λ y. y.stamp))) ∙ access_named u su c (length now) touched in
      let names = names_same now u st.well.sound.stamps su c (kept_grown now (x ∷ []) c) (live m c) (st.listed.accesses c) in
      let old = grown first m st h (x ∷ []) su c v e in
      let same_writes : map (written u) (map (access_at u) (live m c)) ≡ map (λ s. written now (access_at now s)) (live m c) =
      ap (map (written u)) names
      ∙ map_same_written now u (map (access_at now) (live m c))
      (λ n i.
      let (y, j, q) = in_map_access (access_at now) (live m c) n i in
      let a = st.listed.accesses c y j in
      let named : access_at now y ≡ a.0 = ap (access_at now) (sym a.2) ∙ access_named now st.well.sound.stamps c a.0 a.1 in
      ap (value_in written_kind) (get_append now (x ∷ []) n (node_there (λ z. touches_kind c z.kind) now n (ap (touches now c) (q ∙ named) ∙ a.1))))
      ∙ sym (map_both now (live m c)) in
      let P : List ℕ → Type 0 = λ ns. AreRead u v ns in
      subst P (sym (map-append (access_at u) (live m c) (stamp ∷ []) ∙ ap (λ k. map (access_at u) (live m c) ++ k ∷ []) new))
      (read_more u v (map (access_at u) (live m c)) (length now) old
      (λ w f.
      read_access c write (live_value m c) w (sym (ap (value_in read_kind) (get_next now x [])) ∙ f)
      ∙ ap (λ o. cell_value (unwrap_or o (pos 0)) (map (λ s. written now (access_at now s)) (live m c))) e
      ∙ ap (cell_value v) (sym same_writes)))

  -- what an undo leaves is a front
  undone : (p c : ℕ) → is_pending now p ≡ true → (v : ℤ) → slice_get m.first c ≡ Some v → AreRead now v (map (access_at now) (live_beside m p c))
  undone p c pending v e =
      let kept = live_beside m p c in
      let gone = filter (λ s. is_above now p (access_at now s)) (live m c) in
      let P : List ℕ → Type 0 = λ ns. AreRead now v ns in
      read_front now v (map (access_at now) kept) (map (access_at now) gone)
      (subst P (ap (map (access_at now)) (stamps_beneath now c p (live m c) st.well.sound.tree.rooted pending (s.chained c).chain) ∙ map-append (access_at now) kept gone) (h c v e))

  read_after : (e : Step) → Allowed newest_alone m e → IsState first (after_open_step m e) → AreAllRead (after_open_step m e)
  read_after (forks x stamp) a z = grown first m st h _ z.well.sound.stamps
  read_after (begins x stamp) a z = grown first m st h _ z.well.sound.stamps
  read_after (accesses x c write stamp) a z =
      let y = and_parts (is_free m x && nat_lt c (length m.lists)) _ a.0 in
      let q = and_parts (is_free m x) (nat_lt c (length m.lists)) y.0 in
      let node = fresh_node (place now x) (access_kind c write (live_value m c)) stamp in
      by_cell first m st h (now ++ node ∷ []) c (live m c ++ stamp ∷ []) (ltb-true c (length m.lists) q.1) (accessed (place now x) c write stamp z.well.sound.stamps) (grown first m st h (node ∷ []) z.well.sound.stamps)
  read_after (refuses x c write met) a z = grown first m st h _ z.well.sound.stamps
  read_after (outputs x v stamp) a z = grown first m st h _ z.well.sound.stamps
  read_after (cancels x stamp) a z = grown first m st h _ z.well.sound.stamps
  read_after (commits x stamp) a z = shut first m st h (place now x) Committed stamp z.well.sound.stamps
  read_after (undoes x c) a z =
      let y = and_parts (rolls_back m x) _ a in
      let q = rolls_runs m x y.0 in
      by_cell first m st h now c (live_beside m (place now x) c) (ltb-true c (length m.lists) y.1) (undone (place now x) c (place_pending m st.well x q.running q.within)) h
  read_after (aborts x stamp) a z = shut first m st h (place now x) Aborted stamp z.well.sound.stamps
  read_after (finishes x dead) a z = h
  read_after (joins f) a z = h
  read_after (stops x) a z = h

read_opening : (first : List ℤ) → AreAllRead (first_machine first)
read_opening first c v e = let P : List ℕ → Type 0 = λ us. AreRead (first_machine first).tree v (map (access_at (first_machine first).tree) us) in subst P (sym (empty_lists first c)) tt

record IsReadState (first : List ℤ) (m : OpenMachine) : Type 0 where
  pub chained : IsChainState first m
  pub reads : AreAllRead m

pub reads_met : ReadsAreMet
reads_met first m reached c v e =
    let w = by_run newest_alone first (IsReadState first) (record { chained = record { state = state_opening first; chained = chained_opening first }; reads = read_opening first })
    (λ m e w a.
    let z = state_after newest_alone first m e w.chained.state a in
    record { chained = record { state = z; chained = chained_after first m w.chained.state w.chained.chained e a z }; reads = read_after first m w.chained w.reads e a z }) m reached in
    w.reads c v (ap (λ vs. slice_get vs c) w.chained.state.values ∙ e)
