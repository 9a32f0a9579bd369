-- Victims stand above those for whom they fall.
use Rattle.std.proofs.Common.{◌≡◌, ◌≢◌, ℕ, ◌<◌, ◌≤◌, List, [], ◌∷◌, ◌++◌, length, refl, ap, sym, ◌∙◌, subst, arith, Bool, true, false, cond, Option, Some, None, inl, inr, nat_eq, length-append}
use Rattle.std.specs.Prelude.{◌⊎◌, ◌&&◌, ◌||◌, not, ℤ, All}
use Rattle.std.specs.List.{list_any}
use Rattle.std.specs.Option.{option_or, option_map_or}
use Rattle.std.proofs.lemmas.Bool.{and_parts, and_from, or_cases, or_left, or_right, cases_lt, cases_eq, cases_Bool, not-true, not_from_true, false_from_ne_true, true_from_ne_false, eqb-true, eq-eqb, ne_eqb}
use Rattle.std.proofs.lemmas.List.Elements.{All-nil, All-cons, All-append, All-weaker, All-head, All-tail}
use Rattle.cw_tree.specs.declared.node.Node.{Node}
use Rattle.cw_tree.specs.declared.node.BlockState.{BlockState}
use Rattle.cw_tree.specs.declared.conflict.Conflict.{Conflict}
use Rattle.cw_tree.specs.declared.node.Kind.TheVariants.{Tried}
use Rattle.cw_tree.specs.Nodes.{is_fork_kind, is_block_kind, is_pending_state, stamp_of, is_strand, is_fork, is_block, is_pending, all_nodes, fresh_node, closed}
use Rattle.cw_tree.specs.Walks.{IsRooted, has, path, lca, is_ancestor, is_above, outermost, may_fall}
use Rattle.cw_tree.specs.Series.{strand_of, place, parallel}
use Rattle.cw_tree.specs.ForkCounts.{one_if}
use Rattle.cw_tree.specs.AccessStacks.{access_at}
use Rattle.cw_tree.specs.Refusals.{victim_of, is_victim}
use Rattle.cw_tree.specs.VictimsAt.{victim_at}
use Rattle.cw_tree.proofs.Lists.{In, any_in, any_from}
use Rattle.cw_tree.proofs.Members.{below_in}
use Rattle.cw_tree.proofs.Walks.There.{node_there}
use Rattle.cw_tree.proofs.Walks.Kin.{in_ancestor, ancestor_linear}
use Rattle.cw_tree.proofs.Walks.Ancestors.{ancestor_self, ancestor_above, above_ancestor, ancestor_trans, ancestor_le}
use Rattle.cw_tree.proofs.Walks.Meets.{lca_is_meet}
use Rattle.cw_tree.proofs.Walks.Parting.{series_or_parallel}
use Rattle.cw_tree.proofs.Walks.Strands.{strand_over, strand_innermost}
use Rattle.cw_tree.proofs.NextNodes.Growing.{length_more, node_grown, number_grown, is_above_grown, above_new}
use Rattle.cw_tree.proofs.NextNodes.Closing.{length_closed, node_closed, number_closed, is_above_closed}
use Rattle.cw_tree.proofs.NextNodes.Before.{above_down}
use Rattle.cw_tree.proofs.NodeKinds.{fork_no_strand, fork_no_block, pending_block}
use Rattle.cw_open.specs.Machine.{OpenMachine, has_finished, falls, is_running, in_block, is_dying, is_free, leads_back, rolls_back}
use Rattle.cw_open.specs.Steps.{Met, Step, forks, begins, accesses, refuses, outputs, cancels, commits, undoes, aborts, finishes, joins, stops, refusal, after_open_step, first_machine}
use Rattle.cw_open.specs.Runs.{Rules, Allowed, IsReachedBy, at_any_time}
use Rattle.cw_open.specs.Laws.{VictimsAreAbove, DyingRollBack, FreeAreSafe}
use Rattle.cw_open.proofs.Open.Standing.{runs, stands, pending_open, open_over, open_last, place_open}
use Rattle.cw_open.proofs.Open.Trees.{IsWell, stands_well}
use Rattle.cw_open.proofs.Open.TreeSteps.{free_runs, place_pending}
use Rattle.cw_open.proofs.Laws.Named.{strand_is}
use Rattle.cw_open.proofs.Runs.States.{IsState, state_after, state_opening, by_run}

-- a conflict has no victim, or that is a block above its asker
abbrev pub IsNamed : List Node → Conflict → Type 0
IsNamed t c = (c.victim ≡ 0) ⊎ ((b : ℕ) × (((is_block t b && is_above t b c.asker) ≡ true)) × (stamp_of t b ≡ c.victim))

-- and its asker is there
pub record IsTold (t : List Node) (c : Conflict) : Type 0 where
  pub asker : c.asker < length t
  pub named : IsNamed t c

told_grown : (t xs : List Node) → IsRooted t → (c : Conflict) → IsTold t c → IsTold (t ++ xs) c
told_grown t xs r c w = record {
  asker = (let h = w.asker in omega (arith, length-append t xs));
  named = elim w.named [
    | inl e ↦ inl e
    | inr z ↦
        (let y = and_parts (is_block t z.0) (is_above t z.0 c.asker) z.1 in
        let h = node_there (λ n. is_block_kind n.kind) t z.0 y.0 in
        inr (z.0, and_from (is_block (t ++ xs) z.0) (is_above (t ++ xs) z.0 c.asker) (node_grown t xs (λ n. is_block_kind n.kind) z.0 h ∙ y.0) (is_above_grown t xs r z.0 c.asker w.asker ∙ y.1), number_grown t xs (λ n. n.stamp) z.0 h ∙ z.2))
  ];
}

told_closed : (t : List Node) → IsRooted t → (p : ℕ) (state : BlockState) (end : ℕ) (c : Conflict) → IsTold t c → IsTold (closed t p state end) c
told_closed t r p state end c w = record {
  asker = (let h = w.asker in omega (arith, length_closed t p state end));
  named = elim w.named [
    | inl e ↦ inl e
    | inr z ↦
        (let y = and_parts (is_block t z.0) (is_above t z.0 c.asker) z.1 in
        inr (
          z.0,
          and_from (is_block (closed t p state end) z.0) (is_above (closed t p state end) z.0 c.asker) (node_closed t p state end (λ n. is_block_kind n.kind) (λ n. refl) z.0 ∙ y.0) (is_above_closed t p state end r z.0 c.asker w.asker ∙ y.1),
          number_closed t p state end (λ n. n.stamp) (λ n. refl) z.0 ∙ z.2,
        ))
  ];
}

-- the outermost of some nodes that pass is one of them
pub outermost_in : (q : ℕ → Bool) (ns : List ℕ) (b : ℕ) → outermost q ns ≡ Some b → In b ns × (q b ≡ true)
outermost_in q [] b e = absurd (cc e)
outermost_in q (n ∷ ns) b e = by (outermost q ns) (q n) refl e (outermost_in q ns b) where
  by : (o : Option ℕ) (x : Bool) → q n ≡ x → option_or o (cond x (Some n) None) ≡ Some b → (o ≡ Some b → In b ns × (q b ≡ true)) → In b (n ∷ ns) × (q b ≡ true)
  by (Some m) x is f more = let z = more f in (inr z.0, z.1)
  by None true is f more = let same : n ≡ b = cc f in (inl (sym same), sym (ap q same) ∙ is)
  by None false is f more = absurd (cc f)

-- a new conflict
pub told_new : (m : OpenMachine) → IsRooted m.tree → (p : ℕ) → p < length m.tree → (c : ℕ) (met : Met) → IsTold (m.tree ++ fresh_node p (Tried c) 0 ∷ []) (refusal m p c met)
told_new m r p h c met =
    let t = m.tree in
    let x = fresh_node p (Tried c) 0 in
    let u = t ++ x ∷ [] in
    record { asker = omega (arith, length_more t x); named = by (victim_at t (access_at t met.last) p) refl } where
      by : (o : Option ℕ) → victim_at m.tree (access_at m.tree met.last) p ≡ o
          → (option_map_or (stamp_of m.tree) o 0 ≡ 0) ⊎ ((b : ℕ) × ((is_block (m.tree ++ fresh_node p (Tried c) 0 ∷ []) b && is_above (m.tree ++ fresh_node p (Tried c) 0 ∷ []) b (length m.tree)) ≡ true) × (stamp_of (m.tree ++ fresh_node p (Tried c) 0 ∷ []) b ≡ option_map_or (stamp_of m.tree) o 0))
      by None e = inl refl
      by (Some b) e =
          let t = m.tree in
          let x = fresh_node p (Tried c) 0 in
          let u = t ++ x ∷ [] in
          let z = outermost_in (may_fall t (access_at t met.last)) (path t p) b e in
          let over : is_ancestor t b p ≡ true = in_ancestor t b p z.0 in
          let le = ancestor_le t r b p h over in
          let pending = (and_parts (is_pending t b) (not (is_above t b (access_at t met.last))) z.1).0 in
          inr (
            b,
            and_from (is_block u b) (is_above u b (length t)) (node_grown t (x ∷ []) (λ n. is_block_kind n.kind) b (omega arith) ∙ pending_block t b pending) (ap (λ ns. has ns b) (above_new t x r h) ∙ over),
            number_grown t (x ∷ []) (λ n. n.stamp) b (omega arith),
          )

-- if a recorded conflict that passes one test passes another, so does one among several
pub any_told : {t : List Node} (p q : Conflict → Bool) (cs : List Conflict) → All (IsTold t) cs → ((c : Conflict) → IsTold t c → p c ≡ true → q c ≡ true) → list_any p cs ≡ true → list_any q cs ≡ true
any_told p q [] all f e = absurd (cc e)
any_told {t} p q (c ∷ cs) all f e =
    elim (or_cases (p c) (list_any p cs) e) [
      | inl a ↦ or_left (q c) (list_any q cs) (f c (All-head (IsTold t) c cs all) a)
      | inr a ↦ or_right (q c) (list_any q cs) (any_told p q cs (All-tail (IsTold t) c cs all) f a)
    ]

abbrev pub AreTold : OpenMachine → Type 0
AreTold m = All (IsTold m.tree) m.conflicts

told_after : (r : Rules) (first : List ℤ) (m : OpenMachine) (e : Step) → IsState first m → AreTold m → Allowed r m e → AreTold (after_open_step m e)
told_after r first m (forks s stamp) w a n = All-weaker (IsTold m.tree) _ (told_grown m.tree _ w.well.sound.tree.rooted) m.conflicts a
told_after r first m (begins s stamp) w a n = All-weaker (IsTold m.tree) _ (told_grown m.tree _ w.well.sound.tree.rooted) m.conflicts a
told_after r first m (accesses s c write stamp) w a n = All-weaker (IsTold m.tree) _ (told_grown m.tree _ w.well.sound.tree.rooted) m.conflicts a
told_after r first m (refuses s c write met) w a n =
    let p = place m.tree s in
    let u = m.tree ++ fresh_node p (Tried c) 0 ∷ [] in
    let free = (and_parts (is_free m s) _ n.0).0 in
    let rooted = w.well.sound.tree.rooted in
    All-append (IsTold u) m.conflicts (refusal m p c met ∷ []) (All-weaker (IsTold m.tree) (IsTold u) (told_grown m.tree (fresh_node p (Tried c) 0 ∷ []) rooted) m.conflicts a)
    (All-cons (IsTold u) (refusal m p c met) [] (told_new m rooted p (stands_well m w.well s (free_runs m s free)).there c met) (All-nil (IsTold u)))
told_after r first m (outputs s v stamp) w a n = All-weaker (IsTold m.tree) _ (told_grown m.tree _ w.well.sound.tree.rooted) m.conflicts a
told_after r first m (cancels s stamp) w a n = All-weaker (IsTold m.tree) _ (told_grown m.tree _ w.well.sound.tree.rooted) m.conflicts a
told_after r first m (commits s stamp) w a n = All-weaker (IsTold m.tree) _ (told_closed m.tree w.well.sound.tree.rooted (place m.tree s) _ stamp) m.conflicts a
told_after r first m (undoes s c) w a n = a
told_after r first m (aborts s stamp) w a n = All-weaker (IsTold m.tree) _ (told_closed m.tree w.well.sound.tree.rooted (place m.tree s) _ stamp) m.conflicts a
told_after r first m (finishes s dead) w a n = a
told_after r first m (joins f) w a n = a
told_after r first m (stops s) w a n = a

pub record IsToldState (first : List ℤ) (m : OpenMachine) : Type 0 where
  pub state : IsState first m
  pub told : AreTold m

pub told_opening : (first : List ℤ) → IsToldState first (first_machine first)
told_opening first = record { state = state_opening first; told = All-nil _ }

pub told_state_after : (r : Rules) (first : List ℤ) (m : OpenMachine) (e : Step) → IsToldState first m → Allowed r m e → IsToldState first (after_open_step m e)
told_state_after r first m e w a = record { state = state_after r first m e w.state a; told = told_after r first m e w.state w.told a }

pub told_states : (r : Rules) (first : List ℤ) (m : OpenMachine) → IsReachedBy r first m → IsToldState first m
told_states r first = by_run r first (IsToldState first) (told_opening first) (told_state_after r first)

-- ## What a victim is to a running strand

module _ (first : List ℤ) (m : OpenMachine) (w : IsToldState first m) where
  abbrev t : List Node
  t = m.tree

  well : IsWell m
  well = w.state.well

  r : IsRooted t
  r = well.sound.tree.rooted

  -- if a conflict was recorded, a block with the victim's stamp is above the asker
  pub victim_above : (c : Conflict) → IsTold t c → (b : ℕ) → is_victim t (c ∷ []) b ≡ true → is_above t b c.asker ≡ true
  victim_above c told b e =
      let z = and_parts (is_block t b) (list_any (λ c. option_map_or (λ v. nat_eq v (stamp_of t b)) (victim_of c) false) (c ∷ [])) e in
      let low = node_there (λ n. is_block_kind n.kind) t b z.0 in
      let stamps = well.sound.stamps in
      elim (cases_eq c.victim 0) [
        | inl none ↦
            absurd (cc (z.1, ap (λ x. option_map_or (λ v. nat_eq v (stamp_of t b)) (cond x None (Some c.victim)) false || false) (eq-eqb c.victim 0 none)))
        | inr some ↦
            (let same : c.victim ≡ stamp_of t b = eqb-true c.victim (stamp_of t b) (elim (or_cases (nat_eq c.victim (stamp_of t b)) false (sym (ap (λ x. option_map_or (λ v. nat_eq v (stamp_of t b)) (cond x None (Some c.victim)) false || false) (ne_eqb c.victim 0 some)) ∙ z.1)) [ inl q ↦ q | inr q ↦ absurd (cc q) ]) in
            elim told.named [
              | inl none ↦ absurd (some none)
              | inr y ↦
                  (let x = and_parts (is_block t y.0) (is_above t y.0 c.asker) y.1 in
                  let one : b ≡ y.0 = stamps.distinct b y.0 low (node_there (λ n. is_block_kind n.kind) t y.0 x.0) (omega (arith, same, some)) (sym same ∙ sym y.2) in
                  ap (λ b. is_above t b c.asker) one ∙ x.1)
            ])
      ]

  module _ (s : ℕ) (running : is_running m s ≡ true) where
    abbrev p : ℕ
    p = place t s

    there : p < length t
    there = (stands_well m well s running).there

    strand : is_strand t s ≡ true
    strand = (runs m well.sound.tree well.nested s running).strand

    same_strand : strand_of t p ≡ s
    same_strand = (stands m well.sound.tree well.nested s running).strand

    pub over_place : is_ancestor t s p ≡ true
    over_place = let P : ℕ → Type 0 = λ x. is_ancestor t x p ≡ true in subst P same_strand (strand_over t r p there)

    -- a fork between a running strand and its place would be one of that strand, and open
    pub no_fork_between : (f : ℕ) → is_fork t f ≡ true → is_ancestor t s f ≡ true → is_ancestor t f p ≡ true → ⊥
    no_fork_between f fork below above =
        let h = node_there (λ n. is_fork_kind n.kind) t f fork in
        let open_f = open_over m well.sound.tree well.nested f p there above (place_open m well.sound.tree well.nested s running) in
        let own = strand_innermost t r s strand f h below in
        let inner : strand_of t f ≤ strand_of t p = strand_innermost t r (strand_of t f) (strand_is t well.sound.tree.root f) p there (ancestor_trans t r (strand_of t f) f p there (strand_over t r f h) above) in
        let same : strand_of t f ≡ s = omega (arith, same_strand) in
        let joined = (runs m well.sound.tree well.nested s running).waits_for_none f fork same in
        elim (or_cases (is_strand t f && not (has_finished m f) || is_fork t f && not (has m.joined f)) (is_pending t f) open_f) [
          | inr z ↦ cc (fork_no_block t f fork, pending_block t f z)
          | inl z ↦ elim (or_cases (is_strand t f && not (has_finished m f)) (is_fork t f && not (has m.joined f)) z) [
            | inl y ↦ cc ((and_parts (is_strand t f) (not (has_finished m f)) y).0, fork_no_strand t f fork)
            | inr y ↦ cc (joined, not-true (has m.joined f) (and_parts (is_fork t f) (not (has m.joined f)) y).1)
          ]
        ]

    -- a pending block beneath a running strand is its place or above that
    pub over_own : (v : ℕ) → is_pending t v ≡ true → is_ancestor t s v ≡ true → is_ancestor t v p ≡ true
    over_own v pending below =
        let h = node_there (λ n. is_block_kind n.kind && is_pending_state n.state) t v pending in
        let tree = well.sound.tree in
        let nested = well.nested in
        let open_v = pending_open m tree nested v pending in
        let open_p = place_open m tree nested s running in
        let meet = lca_is_meet t r v p h there in
        elim (cases_Bool (is_ancestor t v p)) [
          | inl q ↦ q
          | inr off ↦ elim (cases_Bool (is_ancestor t p v)) [
            | inl over ↦
                (let place = stands_well m well s running in
                elim (cases_eq v p) [
                  | inl same ↦ absurd (cc (off, ap (λ x. is_ancestor t x p) same, ancestor_self t p))
                  | inr ne ↦ absurd (cc (pending, place.within v h (sym (ancestor_above t p v ne) ∙ over)))
                ])
            | inr under ↦
                (let one = series_or_parallel t r v p h there off under in
                let apart : parallel t v p ≡ true = true_from_ne_false (parallel t v p) (λ e. omega (arith, one, ap one_if e, ap one_if (open_last m tree nested v p h there open_v), ap one_if (open_last m tree nested p v there h open_p))) in
                let fork = (and_parts (not (is_ancestor t v p) && not (is_ancestor t p v)) (is_fork t (lca t v p)) apart).1 in
                absurd (no_fork_between (lca t v p) fork (meet.innermost s below over_place) meet.right))
          ]
        ]

    dying_rolls : in_block m s ≡ true → is_dying m s ≡ true → rolls_back m s ≡ true
    dying_rolls within dying =
        and_from (is_running m s && in_block m s) (leads_back m s p) (and_from (is_running m s) (in_block m s) running within)
        (any_told (λ c. is_above t s c.asker && list_any (falls m c) (all_nodes t)) (λ c. is_above t s c.asker && list_any (λ v. falls m c v && is_ancestor t v p) (all_nodes t)) m.conflicts w.told
        (λ c told e.
        let z = and_parts (is_above t s c.asker) (list_any (falls m c) (all_nodes t)) e in
        let y = any_in (falls m c) (all_nodes t) z.1 in
        let x = and_parts (is_pending t y.0) (is_victim t (c ∷ []) y.0) y.2 in
        let above = victim_above c told y.0 x.1 in
        and_from (is_above t s c.asker) (list_any (λ v. falls m c v && is_ancestor t v p) (all_nodes t)) z.0
        (any_from (λ v. falls m c v && is_ancestor t v p) y.0 (all_nodes t) y.1 (and_from (falls m c y.0) (is_ancestor t y.0 p) y.2 (victim_over y.0 c told x.0 z.0 above))))
        dying) where
          -- a pending victim of a conflict beneath the strand is above the strand, or its own
          victim_over : (v : ℕ) (c : Conflict) → IsTold t c → is_pending t v ≡ true → is_above t s c.asker ≡ true → is_above t v c.asker ≡ true → is_ancestor t v p ≡ true
          victim_over v c told pending s_above v_above =
              elim (cases_lt v s) [
                | inl less ↦ ancestor_trans t r v s p there (ancestor_linear t r v s c.asker told.asker (above_ancestor t v c.asker v_above) (above_ancestor t s c.asker s_above) (omega arith)) over_place
                | inr le ↦ over_own v pending (ancestor_linear t r s v c.asker told.asker (above_ancestor t s c.asker s_above) (above_ancestor t v c.asker v_above) le)
              ]

    free_safe : in_block m s ≡ true → is_dying m s ≡ false → is_victim t m.conflicts p ≡ false
    free_safe within lives =
        false_from_ne_true (is_victim t m.conflicts p) (λ e.
        let z = and_parts (is_block t p) (list_any (λ c. option_map_or (λ v. nat_eq v (stamp_of t p)) (victim_of c) false) m.conflicts) e in
        let dying = any_told (λ c. option_map_or (λ v. nat_eq v (stamp_of t p)) (victim_of c) false) (λ c. is_above t s c.asker && list_any (falls m c) (all_nodes t)) m.conflicts w.told
        (λ c told f.
        let is : is_victim t (c ∷ []) p ≡ true = and_from (is_block t p) (option_map_or (λ v. nat_eq v (stamp_of t p)) (victim_of c) false || false) z.0 (or_left (option_map_or (λ v. nat_eq v (stamp_of t p)) (victim_of c) false) false f) in
        let above = victim_above c told p is in
        let ne : p ≢ s = λ q. absurd (cc (within, not_from_true (nat_eq p s) (eq-eqb p s q))) in
        let over : is_above t s p ≡ true = sym (ancestor_above t s p ne) ∙ over_place in
        let falling : falls m c p ≡ true = and_from (is_pending t p) (is_victim t (c ∷ []) p) (place_pending m well s running within) is in
        and_from (is_above t s c.asker) (list_any (falls m c) (all_nodes t)) (above_down t r s p c.asker told.asker over (above_ancestor t p c.asker above)) (any_from (falls m c) p (all_nodes t) (below_in p (length t) there) falling))
        z.1 in
        absurd (cc (lives, dying)))

-- ## The laws

pub victims_above : VictimsAreAbove
victims_above asked first m reached = All-weaker (IsTold m.tree) (IsNamed m.tree) (λ c told. told.named) m.conflicts (told_states (at_any_time asked) first m reached).told

pub dying_roll_back : DyingRollBack
dying_roll_back asked first m reached s e =
    let z = and_parts (is_running m s && in_block m s) (is_dying m s) e in
    let y = and_parts (is_running m s) (in_block m s) z.0 in
    dying_rolls first m (told_states (at_any_time asked) first m reached) s y.0 y.1 z.1

pub free_are_safe : FreeAreSafe
free_are_safe asked first m reached s e =
    let z = and_parts (is_free m s) (in_block m s) e in
    let y = and_parts (is_running m s) (not (is_dying m s)) z.0 in
    free_safe first m (told_states (at_any_time asked) first m reached) s y.0 z.1 (not-true (is_dying m s) y.1)
