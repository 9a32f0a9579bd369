-- A step of another leaves what a strand finds in a list beneath its block.
use Rattle.std.proofs.Common.{◌≡◌, ◌≢◌, ℕ, ◌<◌, ◌≤◌, List, [], ◌∷◌, ◌++◌, length, map, refl, ap, sym, ◌∙◌, subst, arith, Bool, true, false, inl, inr, nat_eq, nat_lt}
use Rattle.std.specs.Prelude.{◌⊎◌, ◌&&◌, ◌||◌, not, ℤ, pos, is_some, slice_set, slice_index_or}
use Rattle.std.specs.List.{list_any}
use Rattle.std.proofs.lemmas.Bool.{and_parts, and_from, or_parts, cases_eq, cases_lt, cases_Bool, ltb-true, eq-eqb, false_from_ne_true, not-true, not_from_false}
use Rattle.cw_tree.specs.declared.node.Node.{Node}
use Rattle.cw_tree.specs.declared.node.BlockState.TheVariants.{Committed, Aborted}
use Rattle.cw_tree.specs.Nodes.{touches_kind, stamp_of, is_pending, touches, fresh_node}
use Rattle.cw_tree.specs.Walks.{IsRooted, has, is_ancestor, is_above}
use Rattle.cw_tree.specs.Series.{place}
use Rattle.cw_tree.specs.Accesses.{written}
use Rattle.cw_tree.specs.AccessStacks.{AreThere, access_at, access_kind, conflict_at}
use Rattle.cw_tree.specs.Newest.{newest}
use Rattle.cw_tree.proofs.Lists.{In, any_in, any_from}
use Rattle.cw_tree.proofs.Members.{in_filter, filter_all, map_in, any_same, in_append}
use Rattle.cw_tree.proofs.Cancels.{left_before}
use Rattle.cw_tree.proofs.Walks.Kin.{has_in, in_has, ancestor_linear}
use Rattle.cw_tree.proofs.Walks.Ancestors.{above_ancestor, ancestor_trans}
use Rattle.cw_tree.proofs.NextNodes.Growing.{length_more, node_new, number_new}
use Rattle.cw_tree.proofs.ChainLaws.Stamps.{named_there}
use Rattle.cw_tree.proofs.ChainLaws.Chains.{there_in}
use Rattle.cw_tree.proofs.ChainLaws.Nearest.{free_passes}
use Rattle.cw_open.specs.Machine.{OpenMachine, live, live_value, is_running, in_block, is_free, rolls_back}
use Rattle.cw_open.specs.Steps.{Step, forks, begins, accesses, refuses, outputs, cancels, commits, undoes, aborts, finishes, joins, stops, live_beside, after_open_step}
use Rattle.cw_open.specs.Runs.{Allowed, IsReachedBy, meets}
use Rattle.cw_open.specs.Hands.{is_step_of, brought}
use Rattle.cw_open.specs.Looked.{NewestAreBeneath, OneBlockHas, BeneathStays, IsFound, LooksStay}
use Rattle.cw_open.proofs.Open.Trees.{IsWell}
use Rattle.cw_open.proofs.Open.TreeSteps.{free_runs, rolls_runs, place_pending}
use Rattle.cw_open.proofs.Open.Staying.{ancestor_stays}
use Rattle.cw_open.proofs.Open.Standing.{stands}
use Rattle.cw_open.proofs.Laws.CancelsKept.{AreAsBefore, as_grown, as_closed, named_kept, over_kept, left_kept}
use Rattle.cw_open.proofs.Laws.ChainStates.{newest_alone, chain_states, access_touched}
use Rattle.cw_open.proofs.Laws.ChainSteps.{newest_in}
use Rattle.cw_open.proofs.Laws.Listing.{listed}
use Rattle.cw_open.proofs.Laws.ListSteps.{listed_here, listed_other}
use Rattle.cw_open.proofs.Laws.Named.{access_named}
use Rattle.cw_open.proofs.Laws.OwnAccesses.{newest_single, newest_over}
use Rattle.cw_open.proofs.Runs.States.{IsState, state_after, same_first}
use Rattle.cw_open.proofs.Refused.Victims.{IsToldState, told_states, over_place}
use Rattle.cw_open.proofs.Hands.Apart.{places_parallel}
use Rattle.cw_open.proofs.Hands.Beside.{beside}
use Rattle.cw_open.proofs.Hands.Alone.{place_stays}

-- ## One list

none_newest : (us : List ℕ) (u : ℕ) → In u us → newest us ≡ [] → ⊥
none_newest [] u i e = i
none_newest (x ∷ []) u i e = cc e
none_newest (x ∷ y ∷ us) u (inl q) e = none_newest (y ∷ us) y (inl refl) e
none_newest (x ∷ y ∷ us) u (inr i) e = none_newest (y ∷ us) u i e

module _ (first : List ℤ) (m : OpenMachine) (reached : IsReachedBy newest_alone first m) where
  abbrev t : List Node
  t = m.tree

  state : IsState first m
  state = (chain_states first m reached).state

  well : IsWell m
  well = state.well

  r : IsRooted t
  r = well.sound.tree.rooted

  module _ (c : ℕ) where
    there : AreThere t (map (access_at t) (live m c))
    there = named_there t c (live m c) ((chain_states first m reached).chained c).chain.accesses

    -- the newest is beneath a pending block, if any of the list is
    newest_beneath : (p : ℕ) → is_pending t p ≡ true → (u : ℕ) → In u (live m c) → is_above t p (access_at t u) ≡ true
        → (v : ℕ) × (newest (live m c) ≡ v ∷ []) × ((has (live m c) v && is_above t p (access_at t v)) ≡ true)
    newest_beneath p pending u i over = by (newest (live m c)) refl where
      by : (ns : List ℕ) → newest (live m c) ≡ ns → (v : ℕ) × (newest (live m c) ≡ v ∷ []) × ((has (live m c) v && is_above t p (access_at t v)) ≡ true)
      by [] e = absurd (none_newest (live m c) u i e)
      by (v ∷ w ∷ ns) e = absurd (newest_single (live m c) v w ns e)
      by (v ∷ []) e = (
        v,
        e,
        and_from (has (live m c) v) (is_above t p (access_at t v)) (in_has (live m c) v (newest_in (live m c) v e))
            (newest_over t r p pending (access_at t) (live m c) there ((chain_states first m reached).chained c).chain.chain u i over v e),
      )

  pub newest_is : (s c u : ℕ) → (is_running m s && in_block m s) ≡ true → (has (live m c) u && is_above t (place t s) (access_at t u)) ≡ true
      → (v : ℕ) × (newest (live m c) ≡ v ∷ []) × ((has (live m c) v && is_above t (place t s) (access_at t v)) ≡ true)
  newest_is s c u a b =
      let z = and_parts (is_running m s) (in_block m s) a in
      let y = and_parts (has (live m c) u) (is_above t (place t s) (access_at t u)) b in
      newest_beneath c (place t s) (place_pending m well s z.0 z.1) u (has_in (live m c) u y.0) y.1

  pub one_has : (s x c u v : ℕ) → s ≢ x → (is_running m s && in_block m s) ≡ true → (is_running m x && in_block m x) ≡ true
      → (has (live m c) u && is_above t (place t s) (access_at t u)) ≡ true → (has (live m c) v && is_above t (place t x) (access_at t v)) ≡ true → ⊥
  one_has s x c u v ne a b k l =
      let p = place t s in
      let q = place t x in
      let zs = newest_is s c u a k in
      let zx = newest_is x c v b l in
      let one : zs.0 ≡ zx.0 = cc (zs.1, zx.1) in
      let n = access_at t zs.0 in
      let is = and_parts (has (live m c) zs.0) (is_above t p n) zs.2 in
      let over_p = above_ancestor t p n is.1 in
      let over_q = above_ancestor t q n (ap (λ y. is_above t q (access_at t y)) one ∙ (and_parts (has (live m c) zx.0) (is_above t q (access_at t zx.0)) zx.2).1) in
      let low = there_in (length t) (map (access_at t) (live m c)) (there c) n (map_in (access_at t) zs.0 (live m c) (has_in (live m c) zs.0 is.0)) in
      let apart = and_parts (not (is_ancestor t p q) && not (is_ancestor t q p)) _ (places_parallel m well s x (and_parts (is_running m s) (in_block m s) a).0 (and_parts (is_running m x) (in_block m x) b).0 ne) in
      let not_over = and_parts (not (is_ancestor t p q)) (not (is_ancestor t q p)) apart.0 in
      elim (cases_lt q p) [
        | inl less ↦ cc (ancestor_linear t r q p n low over_q over_p (omega arith), not-true (is_ancestor t q p) not_over.1)
        | inr le ↦ cc (ancestor_linear t r p q n low over_p over_q le, not-true (is_ancestor t p q) not_over.0)
      ]

pub newest_are_beneath : NewestAreBeneath
newest_are_beneath first m reached s c u a b = newest_is first m reached s c u a b

pub one_block_has : OneBlockHas
one_block_has first m reached s x c u v ne a b k l = one_has first m reached s x c u v ne a b k l

-- ## Accesses after a step

as_same : (t : List Node) (c b : ℕ) → AreAsBefore t t c b
as_same t c b = record { touched = λ n e. e; stamps = λ n e. refl; over = λ n e. refl; wrote = λ n e. refl }

pub as_after : (m : OpenMachine) → IsRooted m.tree → (e : Step) (c b : ℕ) → AreAsBefore m.tree (after_open_step m e).tree c b
as_after m r (forks s stamp) c b = as_grown m.tree _ r c b
as_after m r (begins s stamp) c b = as_grown m.tree _ r c b
as_after m r (accesses s d w stamp) c b = as_grown m.tree _ r c b
as_after m r (refuses s d w met) c b = as_grown m.tree _ r c b
as_after m r (outputs s v stamp) c b = as_grown m.tree _ r c b
as_after m r (cancels s stamp) c b = as_grown m.tree _ r c b
as_after m r (commits s stamp) c b = as_closed m.tree (place m.tree s) Committed stamp r c b
as_after m r (undoes s d) c b = as_same m.tree c b
as_after m r (aborts s stamp) c b = as_closed m.tree (place m.tree s) Aborted stamp r c b
as_after m r (finishes s dead) c b = as_same m.tree c b
as_after m r (joins f) c b = as_same m.tree c b
as_after m r (stops s) c b = as_same m.tree c b

-- ## The list after a step of another

-- an access of another came behind, which is not beneath the place of strand s
pub record IsMore (m n : OpenMachine) (s c : ℕ) : Type 0 where
  pub strand : ℕ
  pub other : s ≢ strand
  pub running : is_running m strand ≡ true
  pub free : meets m.tree (newest (live m c)) (place m.tree strand) ≡ false
  pub stamp : ℕ
  pub list : live n c ≡ live m c ++ stamp ∷ []
  pub beside : is_above n.tree (place m.tree s) (access_at n.tree stamp) ≡ false

-- what the block of another did is gone
pub record IsUndone (m n : OpenMachine) (s c : ℕ) : Type 0 where
  pub strand : ℕ
  pub other : s ≢ strand
  pub within : (is_running m strand && in_block m strand) ≡ true
  pub list : live n c ≡ live_beside m (place m.tree strand) c

abbrev After : (m n : OpenMachine) → (s c : ℕ) → Type 0
After m n s c = (live n c ≡ live m c) ⊎ IsMore m n s c ⊎ IsUndone m n s c

-- the strand of a step of another
differs : (x s : ℕ) → nat_eq x s ≡ false → s ≢ x
differs x s q same = cc (q, eq-eqb x s (sym same))

module _ (first : List ℤ) (m : OpenMachine) (told : IsToldState first m) (s : ℕ) (running : is_running m s ≡ true) where
  new_is_beside : (e : Step) → Allowed newest_alone m e → is_step_of s e ≡ false → (n : ℕ) → length m.tree ≤ n → n < length (after_open_step m e).tree → is_above (after_open_step m e).tree (place m.tree s) n ≡ false
  new_is_beside e a o n le h =
      let b = beside first m told s running newest_alone e o a in
      let u = (after_open_step m e).tree in
      let p = place m.tree s in
      let low = (stands m told.state.well.sound.tree told.state.well.nested s running).there in
      false_from_ne_true (is_above u p n) (λ q.
      absurd (cc ((b.new n le h).outside, ancestor_trans u b.rooted s p n h (ancestor_stays m.tree u b.stays s p low ∙ over_place first m told s running) (above_ancestor u p n q))))

  list_after : (c : ℕ) (e : Step) → Allowed newest_alone m e → is_step_of s e ≡ false → After m (after_open_step m e) s c
  list_after c (forks x stamp) a o = inl refl
  list_after c (begins x stamp) a o = inl refl
  list_after c (accesses x d w stamp) a o =
      let e = accesses x d w stamp in
      let k = after_open_step m e in
      let u = k.tree in
      let z = and_parts (is_free m x && nat_lt d (length m.lists)) (not (meets m.tree (newest (live m d)) (place m.tree x))) a.0 in
      let y = and_parts (is_free m x) (nat_lt d (length m.lists)) z.0 in
      let node = fresh_node (place m.tree x) (access_kind d w (live_value m d)) stamp in
      let n = length m.tree in
      let h : n < length u = omega (arith, length_more m.tree node) in
      let touched : touches u d n ≡ true = node_new m.tree node (λ y. touches_kind d y.kind) ∙ access_touched d w (live_value m d) in
      let stamped : stamp_of u n ≡ stamp = number_new m.tree node (λ y. y.stamp) in
      let later = state_after newest_alone first m e told.state a in
      let named : access_at u stamp ≡ n = ap (access_at u) (sym stamped) ∙ access_named u later.well.sound.stamps d n touched in
      let beside_it : is_above u (place m.tree s) (access_at u stamp) ≡ false = ap (is_above u (place m.tree s)) named ∙ new_is_beside e a o n (omega arith) h in
      elim (cases_eq c d) [
        | inl same ↦ inr (inl (record {
          strand = x;
          other = differs x s o;
          running = free_runs m x y.0;
          free = ap (λ f. meets m.tree (newest (live m f)) (place m.tree x)) same ∙ not-true (meets m.tree (newest (live m d)) (place m.tree x)) z.1;
          stamp = stamp;
          list = ap (listed (slice_set m.lists d (live m d ++ stamp ∷ []))) same ∙ listed_here m.lists d (live m d ++ stamp ∷ []) (ltb-true d (length m.lists) y.1) ∙ ap (λ f. live m f ++ stamp ∷ []) (sym same);
          beside = beside_it;
        }))
        | inr other ↦ inl (listed_other m.lists d c (live m d ++ stamp ∷ []) other)
      ]
  list_after c (refuses x d w met) a o = inl refl
  list_after c (outputs x v stamp) a o = inl refl
  list_after c (cancels x stamp) a o = inl refl
  list_after c (commits x stamp) a o = inl refl
  list_after c (undoes x d) a o =
      let y = and_parts (rolls_back m x) (nat_lt d (length m.lists)) a in
      let q = rolls_runs m x y.0 in
      elim (cases_eq c d) [
        | inl same ↦ inr (inr (record {
          strand = x;
          other = differs x s o;
          within = and_from (is_running m x) (in_block m x) q.running q.within;
          list = ap (listed (slice_set m.lists d (live_beside m (place m.tree x) d))) same ∙ listed_here m.lists d (live_beside m (place m.tree x) d) (ltb-true d (length m.lists) y.1) ∙ ap (live_beside m (place m.tree x)) (sym same);
        }))
        | inr other ↦ inl (listed_other m.lists d c (live_beside m (place m.tree x) d) other)
      ]
  list_after c (aborts x stamp) a o = inl refl
  list_after c (finishes x dead) a o = inl refl
  list_after c (joins f) a o = inl refl
  list_after c (stops x) a o = inl refl

-- where an access is beneath the block of a strand, no undo of another takes any
module _ (first : List ℤ) (m : OpenMachine) (reached : IsReachedBy newest_alone first m) (e : Step) (a : Allowed newest_alone m e) (s : ℕ) (is : (is_running m s && in_block m s) ≡ true) (o : is_step_of s e ≡ false) (c : ℕ) where
  abbrev k : OpenMachine
  k = after_open_step m e

  abbrev p : ℕ
  p = place m.tree s

  told : IsToldState first m
  told = told_states newest_alone first m reached

  running : is_running m s ≡ true
  running = (and_parts (is_running m s) (in_block m s) is).0

  after : After m k s c
  after = list_after first m told s running c e a o

  -- so the list stays
  pub list_stays : (v : ℕ) → (has (live m c) v && is_above m.tree p (access_at m.tree v)) ≡ true → live k c ≡ live m c
  list_stays v mine = elim after [
    | inl same ↦ same
    | inr z ↦ elim z [
      | inl y ↦ absurd (came y)
      | inr y ↦ (
          let q = place m.tree y.strand in
          y.list
          ∙ filter_all (λ n. not (is_above m.tree q (access_at m.tree n))) (live m c)
          (λ n j. not_from_false (is_above m.tree q (access_at m.tree n)) (false_from_ne_true (is_above m.tree q (access_at m.tree n)) (λ g.
          one_has first m reached s y.strand c v n y.other is y.within mine (and_from (has (live m c) n) (is_above m.tree q (access_at m.tree n)) (in_has (live m c) n j) g)))))
    ]
  ] where
    -- an access of another would conflict with the newest one
    came : IsMore m k s c → ⊥
    came y =
        let well = told.state.well in
        let r = well.sound.tree.rooted in
        let q = place m.tree y.strand in
        let z = newest_is first m reached s c v is mine in
        let x = and_parts (has (live m c) z.0) (is_above m.tree p (access_at m.tree z.0)) z.2 in
        let n = access_at m.tree z.0 in
        let P : List ℕ → Type 0 = λ ns. meets m.tree ns q ≡ false in
        let free : conflict_at m.tree n q ≡ false = (or_parts (conflict_at m.tree n q) false (subst P z.1 y.free)).0 in
        let low = there_in (length m.tree) (map (access_at m.tree) (live m c)) (there first m reached c) n (map_in (access_at m.tree) z.0 (live m c) (has_in (live m c) z.0 x.0)) in
        let at = (stands m well.sound.tree well.nested y.strand y.running).there in
        let over = free_passes m.tree r n q low at free p (place_pending m well s running (and_parts (is_running m s) (in_block m s) is).1) x.1 in
        let apart = and_parts (not (is_ancestor m.tree p q) && not (is_ancestor m.tree q p)) _ (places_parallel m well s y.strand running y.running y.other) in
        cc (over, not-true (is_ancestor m.tree p q) (and_parts (not (is_ancestor m.tree p q)) (not (is_ancestor m.tree q p)) apart.0).0)

  -- ## What is found

  abbrev IsWrite : OpenMachine → ℕ → Bool
  IsWrite n v = is_above n.tree p (access_at n.tree v) && is_some (written n.tree (access_at n.tree v))

  any_map : (n : OpenMachine) (us : List ℕ) → list_any (λ x. is_above n.tree p x && is_some (written n.tree x)) (map (access_at n.tree) us) ≡ list_any (IsWrite n) us
  any_map n [] = refl
  any_map n (v ∷ us) = ap (λ q. IsWrite n v || q) (any_map n us)

  as_were : AreAsBefore m.tree k.tree c p
  as_were = as_after m told.state.well.sound.tree.rooted e c p

  later : IsState first k
  later = state_after newest_alone first m e told.state a

  -- an access that was in the list
  module _ (v : ℕ) (i : In v (live m c)) where
    over_same : is_above k.tree p (access_at k.tree v) ≡ is_above m.tree p (access_at m.tree v)
    over_same = over_kept m.tree k.tree c p as_were told.state.well.sound.stamps later.well.sound.stamps (live m c) (told.state.listed.accesses c) v i

    write_same : IsWrite k v ≡ IsWrite m v
    write_same =
        let h = told.state.listed.accesses c v i in
        let named : access_at m.tree v ≡ h.0 = ap (access_at m.tree) (sym h.2) ∙ access_named m.tree told.state.well.sound.stamps c h.0 h.1 in
        let touched : touches m.tree c (access_at m.tree v) ≡ true = ap (touches m.tree c) named ∙ h.1 in
        let one = named_kept m.tree k.tree c p as_were told.state.well.sound.stamps later.well.sound.stamps (live m c) (told.state.listed.accesses c) v i in
        ap (λ q. q && is_some (written k.tree (access_at k.tree v))) over_same
        ∙ ap (λ x. is_above m.tree p (access_at m.tree v) && is_some (written k.tree x)) one
        ∙ ap (λ x. is_above m.tree p (access_at m.tree v) && is_some x) (as_were.wrote (access_at m.tree v) touched)

  any_alike : (us : List ℕ) → ((v : ℕ) → In v us → IsWrite k v ≡ IsWrite m v) → list_any (IsWrite k) us ≡ list_any (IsWrite m) us
  any_alike us f = any_same (IsWrite k) (IsWrite m) us f

  same_place : place k.tree s ≡ p
  same_place = place_stays m.tree k.tree s p (brought e) (beside first m told s running newest_alone e o a)

  -- none of the list is beneath the block: none of what is left of it is, nor of what came
  none_after : ((v : ℕ) → In v (live m c) → is_above m.tree p (access_at m.tree v) ≡ false) → list_any (IsWrite k) (live k c) ≡ false
  none_after none =
      false_from_ne_true (list_any (IsWrite k) (live k c)) (λ q.
      let z = any_in (IsWrite k) (live k c) q in
      let over = (and_parts (is_above k.tree p (access_at k.tree z.0)) _ z.2).0 in
      let In' : List ℕ → Type 0 = λ us. In z.0 us in
      elim after [
        | inl same ↦ (let i = subst In' same z.1 in absurd (cc (over, over_same z.0 i, none z.0 i)))
        | inr w ↦ elim w [
          | inl y ↦ elim (in_append z.0 (live m c) (y.stamp ∷ []) (subst In' y.list z.1)) [
            | inl i ↦ absurd (cc (over, over_same z.0 i, none z.0 i))
            | inr i ↦ elim i [ inl q ↦ absurd (cc (over, ap (λ f. is_above k.tree p (access_at k.tree f)) q, y.beside)) | inr q ↦ absurd q ]
          ]
          | inr y ↦ (
              let i = (in_filter (λ n. not (is_above m.tree (place m.tree y.strand) (access_at m.tree n))) z.0 (live m c) (subst In' y.list z.1)).0 in
              absurd (cc (over, over_same z.0 i, none z.0 i)))
        ]
      ])

  found_then : (w : Bool) (v : ℤ) → IsFound m p c w v → IsFound k p c w v
  found_then w v f =
      let anywhere = λ (n : ℕ). is_above m.tree p (access_at m.tree n) in
      let there_then : c < length k.first = subst (λ (vs : List ℤ). c < length vs) (sym (same_first m e)) f.there in
      elim (cases_Bool (list_any anywhere (live m c))) [
        | inr none ↦ (
            let each : (n : ℕ) → In n (live m c) → anywhere n ≡ false = λ n i. false_from_ne_true (anywhere n) (λ g. absurd (cc (none, any_from anywhere n (live m c) i g))) in
            let before : list_any (IsWrite m) (live m c) ≡ false = false_from_ne_true (list_any (IsWrite m) (live m c)) (λ g.
            let z = any_in (IsWrite m) (live m c) g in
            absurd (cc (each z.0 z.1, (and_parts (anywhere z.0) _ z.2).0))) in
            let not_wrote : w ≡ false = f.wrote ∙ any_map m (live m c) ∙ before in
            record { there = there_then; wrote = not_wrote ∙ sym (any_map k (live k c) ∙ none_after each); value = λ g. absurd (cc (g, not_wrote)) })
        | inl some ↦ (
            let z = any_in anywhere (live m c) some in
            let same = list_stays z.0 (and_from (has (live m c) z.0) (anywhere z.0) (in_has (live m c) z.0 z.1) z.2) in
            let first_value = slice_index_or m.first c (pos 0) in
            record {
              there = there_then;
              wrote = f.wrote ∙ any_map m (live m c) ∙ sym (any_map k (live k c) ∙ ap (list_any (IsWrite k)) same ∙ any_alike (live m c) write_same);
              value = λ g. f.value g
                  ∙ sym (left_kept m.tree k.tree c p as_were told.state.well.sound.stamps later.well.sound.stamps (live m c) (told.state.listed.accesses c) first_value)
                  ∙ ap (λ us. left_before k.tree first_value p (map (access_at k.tree) us)) (sym same)
                  ∙ ap (λ vs. left_before k.tree (slice_index_or vs c (pos 0)) p (map (access_at k.tree) (live k c))) (sym (same_first m e));
            })
      ]

  pub found_still : (w : Bool) (v : ℤ) → IsFound m p c w v → IsFound k (place k.tree s) c w v
  found_still w v f = let P : ℕ → Type 0 = λ q. IsFound k q c w v in subst P (sym same_place) (found_then w v f)

pub beneath_stays : BeneathStays
beneath_stays first m reached e a s is o c u h = list_stays first m reached e a s is o c u h

pub looks_stay : LooksStay
looks_stay first m reached e a s is o c w v f = found_still first m reached e a s is o c w v f
