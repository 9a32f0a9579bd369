-- A step of another leaves a running strand where it stands, as free as it was, with the blocks that it began.
use Rattle.std.proofs.Common.{◌≡◌, ℕ, ◌<◌, ◌≤◌, List, [], ◌∷◌, ◌++◌, length, refl, ap, sym, ◌∙◌, subst, arith, Bool, true, false, inl, inr, nat_eq, append-nil}
use Rattle.std.specs.Prelude.{◌&&◌, ◌||◌, not, unwrap_or, All, ℤ}
use Rattle.std.specs.List.{list_any}
use Rattle.std.specs.Option.{option_map_or}
use Rattle.std.proofs.lemmas.Bool.{and_parts, and_from, and_left, and_right, or_right, cases_lt, cases_Bool, not-true, not_from_false, false_from_ne_true, eqb-true, ne_eqb}
use Rattle.cw_tree.specs.declared.node.Node.{Node}
use Rattle.cw_tree.specs.declared.conflict.Conflict.{Conflict}
use Rattle.cw_tree.specs.Nodes.{passes, number_in, is_block_kind, is_pending_state, is_strand, is_fork, is_pending, all_nodes, fresh_node}
use Rattle.cw_tree.specs.Walks.{IsRooted, has, is_ancestor, is_above}
use Rattle.cw_tree.specs.Series.{strand_of, place}
use Rattle.cw_tree.specs.Refusals.{victim_of, is_victim}
use Rattle.cw_tree.proofs.Lists.{In, any_in, any_from}
use Rattle.cw_tree.proofs.Members.{in_append, append_in, in_below, below_in, all_at, any_same, filter_same, below_none}
use Rattle.cw_tree.proofs.LastBelow.{last_past, last_same}
use Rattle.cw_tree.proofs.Names.Forks.{same_truth}
use Rattle.cw_tree.proofs.NextNodes.Growing.{length_more}
use Rattle.cw_tree.proofs.Walks.There.{fork_there, strand_there}
use Rattle.cw_tree.proofs.Walks.Kin.{ancestor_linear}
use Rattle.cw_tree.proofs.Walks.Ancestors.{above_ancestor, ancestor_le, ancestor_trans}
use Rattle.cw_open.specs.Machine.{OpenMachine, has_finished, waits, is_running, in_block, falls, is_dying, leads_back}
use Rattle.cw_open.specs.Steps.{Step, forks, begins, accesses, refuses, outputs, cancels, commits, undoes, aborts, finishes, joins, stops, after_open_step, refusal}
use Rattle.cw_open.specs.Runs.{Rules, Allowed, at_any_time}
use Rattle.cw_open.specs.Hands.{is_step_of, brought, begun_in, IsLeftAlone, OthersLeaveAlone}
use Rattle.cw_open.proofs.Open.Trees.{IsWell}
use Rattle.cw_open.proofs.Open.Standing.{stands, runs, Runs}
use Rattle.cw_open.proofs.Open.Staying.{ancestor_stays, above_stays, strand_stays}
use Rattle.cw_open.proofs.Refused.Victims.{IsTold, IsToldState, told_states, told_state_after, victim_above, over_place}
use Rattle.cw_open.proofs.Hands.Beside.{IsBeside, ShutBeside, beside}
use Rattle.cw_tree.specs.declared.node.Kind.TheVariants.{Tried}

-- ## The place, and the blocks that were begun

module _ (t u : List Node) (s p number : ℕ) (b : IsBeside t u s p number) where
  abbrev begun : List Node → ℕ → Bool
  begun v n = is_pending v n && nat_eq (strand_of v n) s

  begun_new : (n : ℕ) → length t ≤ n → n < length u → begun u n ≡ false
  begun_new n le h = and_right (is_pending u n) (nat_eq (strand_of u n) s) (ne_eqb (strand_of u n) s (b.new n le h).strand)

  begun_old : (n : ℕ) → n < length t → begun u n ≡ begun t n
  begun_old n h =
      let own : strand_of u n ≡ strand_of t n = strand_stays t u b.stays n h in
      elim (b.old n h) [
        | inl e ↦ ap (λ o. passes (λ y. is_block_kind y.kind && is_pending_state y.state) o && nat_eq (strand_of u n) s) e ∙ ap (λ x. is_pending t n && nat_eq x s) own
        | inr z ↦ and_right (is_pending u n) (nat_eq (strand_of u n) s) (ap (λ x. nat_eq x s) own ∙ ne_eqb (strand_of t n) s z.strand) ∙ sym (and_right (is_pending t n) (nat_eq (strand_of t n) s) (ne_eqb (strand_of t n) s z.strand))
      ]

  pub place_stays : place u s ≡ place t s
  place_stays = ap (λ o. unwrap_or o s) (last_past (begun u) (length t) (length u) b.stays.longer begun_new ∙ last_same (begun u) (begun t) (length t) begun_old)

  pub begun_stays : begun_in u s ≡ begun_in t s
  begun_stays = below_none (begun u) (length t) (length u) b.stays.longer begun_new ∙ filter_same (begun u) (begun t) (all_nodes t) (λ n i. begun_old n (in_below n (length t) i))

  -- a test of old nodes that they pass as before, and that no new one passes
  any_nodes : (f g : ℕ → Bool) → ((n : ℕ) → n < length t → f n ≡ g n) → ((n : ℕ) → length t ≤ n → n < length u → f n ≡ false) → list_any f (all_nodes u) ≡ list_any g (all_nodes t)
  any_nodes f g old new =
      same_truth (list_any f (all_nodes u)) (list_any g (all_nodes t))
      (λ e.
      let z = any_in f (all_nodes u) e in
      let h : z.0 < length u = in_below z.0 (length u) z.1 in
      elim (cases_lt z.0 (length t)) [
        | inl low ↦ any_from g z.0 (all_nodes t) (below_in z.0 (length t) low) (sym (old z.0 low) ∙ z.2)
        | inr le ↦ absurd (cc (z.2, new z.0 le h))
      ])
      (λ e.
      let z = any_in g (all_nodes t) e in
      let h : z.0 < length t = in_below z.0 (length t) z.1 in
      let longer = b.stays.longer in
      any_from f z.0 (all_nodes u) (below_in z.0 (length u) (omega arith)) (old z.0 h ∙ z.2))

-- ## The conflicts that a step makes

abbrev conflicts_of : OpenMachine → Step → List Conflict
conflicts_of m (refuses s c write met) = refusal m (place m.tree s) c met ∷ []
conflicts_of m _ = []

conflicts_after : (m : OpenMachine) (e : Step) → (after_open_step m e).conflicts ≡ m.conflicts ++ conflicts_of m e
conflicts_after m (forks s stamp) = sym (append-nil m.conflicts)
conflicts_after m (begins s stamp) = sym (append-nil m.conflicts)
conflicts_after m (accesses s c w stamp) = sym (append-nil m.conflicts)
conflicts_after m (refuses s c w met) = refl
conflicts_after m (outputs s v stamp) = sym (append-nil m.conflicts)
conflicts_after m (cancels s stamp) = sym (append-nil m.conflicts)
conflicts_after m (commits s stamp) = sym (append-nil m.conflicts)
conflicts_after m (undoes s c) = sym (append-nil m.conflicts)
conflicts_after m (aborts s stamp) = sym (append-nil m.conflicts)
conflicts_after m (finishes s dead) = sym (append-nil m.conflicts)
conflicts_after m (joins f) = sym (append-nil m.conflicts)
conflicts_after m (stops s) = sym (append-nil m.conflicts)

new_askers : (m : OpenMachine) (e : Step) (c : Conflict) → In c (conflicts_of m e) → (length m.tree ≤ c.asker) × (c.asker < length (after_open_step m e).tree)
new_askers m (forks s stamp) c i = absurd i
new_askers m (begins s stamp) c i = absurd i
new_askers m (accesses s d w stamp) c i = absurd i
new_askers m (refuses s d w met) c i = elim i [
  | inl e ↦ (omega (arith, ap (λ x. x.asker) e), omega (arith, ap (λ x. x.asker) e, length_more m.tree (fresh_node (place m.tree s) (Tried d) 0)))
  | inr z ↦ absurd z
]
new_askers m (outputs s v stamp) c i = absurd i
new_askers m (cancels s stamp) c i = absurd i
new_askers m (commits s stamp) c i = absurd i
new_askers m (undoes s d) c i = absurd i
new_askers m (aborts s stamp) c i = absurd i
new_askers m (finishes s dead) c i = absurd i
new_askers m (joins f) c i = absurd i
new_askers m (stops s) c i = absurd i

any_first : {X : Type 0} (f g : X → Bool) (xs ys : List X) → ((x : X) → In x xs → f x ≡ g x) → ((y : X) → In y ys → f y ≡ false) → list_any f (xs ++ ys) ≡ list_any g xs
any_first f g xs ys same none =
    same_truth (list_any f (xs ++ ys)) (list_any g xs)
    (λ e.
    let z = any_in f (xs ++ ys) e in
    elim (in_append z.0 xs ys z.1) [ inl i ↦ any_from g z.0 xs i (sym (same z.0 i) ∙ z.2) | inr i ↦ absurd (cc (z.2, none z.0 i)) ])
    (λ e. let z = any_in g xs e in any_from f z.0 (xs ++ ys) (append_in z.0 xs ys (inl z.1)) (same z.0 z.1 ∙ z.2))

-- ## What others finish, join and stop

pub finished_stays : (m : OpenMachine) (e : Step) (s : ℕ) → is_step_of s e ≡ false → has_finished (after_open_step m e) s ≡ has_finished m s
finished_stays m (forks u stamp) s o = refl
finished_stays m (begins u stamp) s o = refl
finished_stays m (accesses u c w stamp) s o = refl
finished_stays m (refuses u c w met) s o = refl
finished_stays m (outputs u v stamp) s o = refl
finished_stays m (cancels u stamp) s o = refl
finished_stays m (commits u stamp) s o = refl
finished_stays m (undoes u c) s o = refl
finished_stays m (aborts u stamp) s o = refl
finished_stays m (finishes u dead) s o = ap (λ q. q || has_finished m s) o
finished_stays m (joins f) s o = refl
finished_stays m (stops u) s o = refl

stopped_stays : (m : OpenMachine) (e : Step) (s : ℕ) → is_step_of s e ≡ false → has (after_open_step m e).stopped s ≡ has m.stopped s
stopped_stays m (forks u stamp) s o = refl
stopped_stays m (begins u stamp) s o = refl
stopped_stays m (accesses u c w stamp) s o = refl
stopped_stays m (refuses u c w met) s o = refl
stopped_stays m (outputs u v stamp) s o = refl
stopped_stays m (cancels u stamp) s o = refl
stopped_stays m (commits u stamp) s o = refl
stopped_stays m (undoes u c) s o = refl
stopped_stays m (aborts u stamp) s o = refl
stopped_stays m (finishes u dead) s o = refl
stopped_stays m (joins f) s o = refl
stopped_stays m (stops u) s o = ap (λ q. q || has m.stopped s) o

joined_stays : (m : OpenMachine) (e : Step) (f : ℕ) → has m.joined f ≡ true → has (after_open_step m e).joined f ≡ true
joined_stays m (forks u stamp) f j = j
joined_stays m (begins u stamp) f j = j
joined_stays m (accesses u c w stamp) f j = j
joined_stays m (refuses u c w met) f j = j
joined_stays m (outputs u v stamp) f j = j
joined_stays m (cancels u stamp) f j = j
joined_stays m (commits u stamp) f j = j
joined_stays m (undoes u c) f j = j
joined_stays m (aborts u stamp) f j = j
joined_stays m (finishes u dead) f j = j
joined_stays m (joins g) f j = or_right (nat_eq g f) (has m.joined f) j
joined_stays m (stops u) f j = j

-- ## The strand

module _ (rules : Rules) (first : List ℤ) (m : OpenMachine) (w : IsToldState first m) (e : Step) (a : Allowed rules m e)
    (s : ℕ) (running : is_running m s ≡ true) (o : is_step_of s e ≡ false) where
  abbrev t : List Node
  t = m.tree

  abbrev k : OpenMachine
  k = after_open_step m e

  abbrev u : List Node
  u = k.tree

  abbrev p : ℕ
  p = place t s

  well : IsWell m
  well = w.state.well

  r : IsRooted t
  r = well.sound.tree.rooted

  low : p < length t
  low = (stands m well.sound.tree well.nested s running).there

  was : Runs m well.sound.tree well.nested s running
  was = runs m well.sound.tree well.nested s running

  low_strand : s < length t
  low_strand = strand_there t s was.strand

  b : IsBeside t u s p (brought e)
  b = beside first m w s running rules e o a

  later : IsToldState first k
  later = told_state_after rules first m e w a

  waits_not : waits k s ≡ false
  waits_not =
      false_from_ne_true (waits k s) (λ q.
      let z = any_in (λ f. is_fork u f && nat_eq (strand_of u f) s && not (has k.joined f)) (all_nodes u) q in
      let y = and_parts (is_fork u z.0 && nat_eq (strand_of u z.0) s) (not (has k.joined z.0)) z.2 in
      let x = and_parts (is_fork u z.0) (nat_eq (strand_of u z.0) s) y.0 in
      let own : strand_of u z.0 ≡ s = eqb-true (strand_of u z.0) s x.1 in
      let h : z.0 < length u = fork_there u z.0 x.0 in
      elim (cases_lt z.0 (length t)) [
        | inl old ↦ absurd (cc (not-true (has k.joined z.0) y.1, joined_stays m e z.0 (was.waits_for_none z.0 (sym (b.stays.forks z.0 old) ∙ x.0) (sym (strand_stays t u b.stays z.0 old) ∙ own))))
        | inr le ↦ absurd ((b.new z.0 le h).strand own)
      ])

  stopped_not : has m.stopped s ≡ false
  stopped_not = not-true (has m.stopped s) (and_parts (is_strand t s && not (has_finished m s) && not (waits m s)) (not (has m.stopped s)) running).1

  pub running_stays : is_running k s ≡ true
  running_stays =
      and_from (is_strand u s && not (has_finished k s) && not (waits k s)) (not (has k.stopped s))
      (and_from (is_strand u s && not (has_finished k s)) (not (waits k s))
      (and_from (is_strand u s) (not (has_finished k s)) (b.stays.strands s low_strand ∙ was.strand) (not_from_false (has_finished k s) (finished_stays m e s o ∙ was.unfinished)))
      (not_from_false (waits k s) waits_not))
      (not_from_false (has k.stopped s) (stopped_stays m e s o ∙ stopped_not))

  -- ## Who dies

  module _ (c : Conflict) (told : IsTold t c) (also : IsTold u c) (above : is_above t s c.asker ≡ true) where
    -- no block that is closed beside the strand is a victim of a conflict beneath it
    spared : (v : ℕ) → ShutBeside t u s p (brought e) v → falls m c v ≡ false
    spared v z =
        false_from_ne_true (falls m c v) (λ q.
        let over = above_ancestor t v c.asker (victim_above first m w c told v (and_parts (is_pending t v) (is_victim t (c ∷ []) v) q).1) in
        let mine = above_ancestor t s c.asker above in
        elim (cases_lt v s) [
          | inl less ↦ absurd (cc (z.under, ancestor_trans t r v s p low (ancestor_linear t r v s c.asker told.asker over mine (omega arith)) (over_place first m w s running)))
          | inr le ↦ absurd (cc (z.outside, ancestor_linear t r s v c.asker told.asker mine over le))
        ])

    falls_old : (v : ℕ) → v < length t → falls k c v ≡ falls m c v
    falls_old v h = elim (b.old v h) [
      | inl q ↦ ap
          (λ y. passes (λ y. is_block_kind y.kind && is_pending_state y.state) y
          && (passes (λ y. is_block_kind y.kind) y && list_any (λ d. option_map_or (λ x. nat_eq x (number_in (λ y. y.stamp) y)) (victim_of d) false) (c ∷ []))) q
      | inr z ↦ and_left (is_pending u v) (is_victim u (c ∷ []) v) z.done ∙ sym (spared v z)
    ]

    falls_new : (v : ℕ) → length t ≤ v → falls k c v ≡ false
    falls_new v le =
        false_from_ne_true (falls k c v) (λ q.
        let over = above_ancestor u v c.asker (victim_above first k later c also v (and_parts (is_pending u v) (is_victim u (c ∷ []) v) q).1) in
        let high = ancestor_le u b.rooted v c.asker also.asker over in
        absurd (let h = told.asker in omega arith))

  -- a test of conflicts that asks for a victim of one that is beneath the strand
  module _ (f g : ℕ → Bool) (same : (n : ℕ) → n < length t → f n ≡ g n) where
    abbrev asks : OpenMachine → (ℕ → Bool) → Conflict → Bool
    asks n f c = is_above n.tree s c.asker && list_any (λ v. falls n c v && f v) (all_nodes n.tree)

    asks_old : (c : Conflict) → IsTold t c → IsTold u c → asks k f c ≡ asks m g c
    asks_old c told also =
        let above_same : is_above u s c.asker ≡ is_above t s c.asker = above_stays t u b.stays s c.asker told.asker in
        elim (cases_Bool (is_above t s c.asker)) [
          | inr not_above ↦ and_left (is_above u s c.asker) _ (above_same ∙ not_above) ∙ sym (and_left (is_above t s c.asker) _ not_above)
          | inl above ↦ ap (λ q. q && list_any (λ v. falls k c v && f v) (all_nodes u)) above_same
              ∙ ap (λ q. is_above t s c.asker && q)
              (any_nodes t u s p (brought e) b (λ v. falls k c v && f v) (λ v. falls m c v && g v)
              (λ n h. ap (λ q. q && f n) (falls_old c told also above n h) ∙ ap (λ q. falls m c n && q) (same n h))
              (λ n le h. and_left (falls k c n) (f n) (falls_new c told also above n le)))
        ]

    asks_new : (c : Conflict) → In c (conflicts_of m e) → asks k f c ≡ false
    asks_new c i =
        let z = new_askers m e c i in
        and_left (is_above u s c.asker) _ (false_from_ne_true (is_above u s c.asker) (λ q. absurd (cc (above_ancestor u s c.asker q, (b.new c.asker z.0 z.1).outside))))

    asks_same : list_any (asks k f) k.conflicts ≡ list_any (asks m g) m.conflicts
    asks_same =
        ap (list_any (asks k f)) (conflicts_after m e)
        ∙ any_first (asks k f) (asks m g) m.conflicts (conflicts_of m e)
        (λ c i.
        let P : List Conflict → Type 0 = λ ds. All (IsTold u) ds in
        asks_old c (all_at (IsTold t) m.conflicts w.told c i)
        (all_at (IsTold u) (m.conflicts ++ conflicts_of m e) (subst P (conflicts_after m e) later.told) c (append_in c m.conflicts (conflicts_of m e) (inl i))))
        asks_new

  -- it is dying if it was
  pub dying_stays : is_dying k s ≡ is_dying m s
  dying_stays = no_more k ∙ asks_same (λ n. true) (λ n. true) (λ n h. refl) ∙ sym (no_more m) where
    no_more : (n : OpenMachine) → is_dying n s ≡ list_any (λ c. is_above n.tree s c.asker && list_any (λ v. falls n c v && true) (all_nodes n.tree)) n.conflicts
    no_more n =
        any_same (λ c. is_above n.tree s c.asker && list_any (falls n c) (all_nodes n.tree)) (λ c. is_above n.tree s c.asker && list_any (λ v. falls n c v && true) (all_nodes n.tree)) n.conflicts
        (λ c i. ap (λ q. is_above n.tree s c.asker && q) (any_same (falls n c) (λ v. falls n c v && true) (all_nodes n.tree) (λ v j. plain (falls n c v)))) where
          plain : (q : Bool) → q ≡ (q && true)
          plain true = refl
          plain false = refl

  back_stays : leads_back k s p ≡ leads_back m s p
  back_stays = asks_same (λ v. is_ancestor u v p) (λ v. is_ancestor t v p) (λ n h. ancestor_stays t u b.stays n p low)

  pub left_alone : IsLeftAlone m k s
  left_alone =
      let same = place_stays t u s p (brought e) b in
      record {
        running = running_stays;
        place = same;
        begun = begun_stays t u s p (brought e) b;
        free = ap (λ q. q && not (is_dying k s)) (running_stays ∙ sym running) ∙ ap (λ q. is_running m s && not q) dying_stays;
        rolls_back = ap (λ q. q && in_block k s && leads_back k s (place u s)) (running_stays ∙ sym running)
            ∙ ap (λ n. is_running m s && not (nat_eq n s) && leads_back k s n) same
            ∙ ap (λ q. is_running m s && in_block m s && q) back_stays;
      }

pub others_leave_alone : OthersLeaveAlone
others_leave_alone asked first m reached e a s running o = left_alone (at_any_time asked) first m (told_states (at_any_time asked) first m reached) e a s running o
