-- Which blocks have to fall for what was refused beneath each strand, as an access is refused: one strand alone is marked.
use Rattle.std.proofs.Common.{◌≡◌, ◌≢◌, ℕ, ◌<◌, ◌≤◌, List, [], ◌∷◌, ◌++◌, length, refl, ap, sym, ◌∙◌, subst, arith, Bool, true, false, cond, Option, Some, None, nat_eq, inl, inr}
use Rattle.std.specs.Prelude.{◌&&◌, ◌||◌, not, ℤ, slice_get, is_some}
use Rattle.std.specs.List.{list_any}
use Rattle.std.specs.Option.{option_map_or}
use Rattle.std.proofs.lemmas.Bool.{and_parts, and_from, and_left, or_cases, cases_eq, cases_Bool, not-true, false_from_ne_true, eqb-true, eq-eqb, ne_eqb}
use Rattle.cw_tree.specs.declared.node.Node.{Node}
use Rattle.cw_tree.specs.declared.conflict.Conflict.{Conflict}
use Rattle.cw_tree.specs.declared.node.Kind.TheVariants.{Tried}
use Rattle.cw_tree.specs.Nodes.{is_fork_kind, is_block_kind, is_pending_state, parent_of, stamp_of, is_strand, is_fork, is_block, is_pending, fresh_node}
use Rattle.cw_tree.specs.Walks.{IsRooted, has, is_ancestor, is_above}
use Rattle.cw_tree.specs.Series.{strand_of, place}
use Rattle.cw_tree.specs.Refusals.{victim_of, is_victim}
use Rattle.cw_tree.proofs.Walks.There.{node_there}
use Rattle.cw_tree.proofs.Walks.Ancestors.{beneath, ancestor_up, ancestor_self}
use Rattle.cw_tree.proofs.Walks.Strands.{strand_of_other, strand_itself}
use Rattle.cw_tree.proofs.NextNodes.Growing.{get_append, get_next, node_grown, number_grown, strand_of_grown, is_above_grown, above_new}
use Rattle.cw_tree.proofs.NodeKinds.{fork_no_strand, fork_no_block, pending_block}
use Rattle.cw_open.specs.Machine.{OpenMachine, has_finished, is_running, is_dying, is_free, falls}
use Rattle.cw_open.specs.Runs.{at_once}
use Rattle.cw_open.proofs.Laws.ListSteps.{none_new}
use Rattle.cw_open.proofs.Open.Standing.{stands, place_open, open_over}
use Rattle.cw_open.proofs.Open.TreeSteps.{free_runs}
use Rattle.cw_open.proofs.Refused.Victims.{IsTold, told_states}
use Rattle.cw_core.specs.State.{CoreState, waits_for_left}
use Rattle.cw_core.specs.Laws.{IsCore}
use Rattle.cw_core.specs.Kept.{IsAtStake, IsVictim, is_counted}
use Rattle.cw_core.proofs.Events.Going.{well, at_place}
use Rattle.cw_core.proofs.Kept.Stakes.{stake_old, falls_still}
use Rattle.cw_core.proofs.Kept.PartsGrow.{all_at}
use Rattle.cw_core.proofs.Fits.Dying.{dying_is}
use Rattle.cw_core.proofs.Kept.Entering.{there_or_last}

-- beneath a strand, and not in it, stands a fork of it above each node
pub fork_between : (t : List Node) → IsRooted t → (n : ℕ) → is_strand t n ≡ true → (q : ℕ) → q < length t → is_ancestor t n q ≡ true → strand_of t q ≢ n
    → (is_strand_under : (v : ℕ) → 0 < v → v < length t → is_strand t v ≡ true → is_fork t (parent_of t v) ≡ true)
    → (g : ℕ) × (is_fork t g ≡ true) × (strand_of t g ≡ n) × (is_ancestor t g q ≡ true)
fork_between t r n strand q h over out forks =
    beneath t r n (λ q. q < length t → strand_of t q ≢ n → Found q) (λ h out. absurd (out (strand_itself t r n strand))) step q h over h out where
      Found : ℕ → Type 0
      Found q = (g : ℕ) × (is_fork t g ≡ true) × (strand_of t g ≡ n) × (is_ancestor t g q ≡ true)

      step : (v : ℕ) → 0 < v → v < length t → is_ancestor t n (parent_of t v) ≡ true → (parent_of t v < length t → strand_of t (parent_of t v) ≢ n → Found (parent_of t v)) → v < length t → strand_of t v ≢ n → Found v
      step v some there up more h out =
          let low : parent_of t v < v = r v some there in
          elim (cases_eq (strand_of t (parent_of t v)) n) [
            | inr ne ↦ (let z = more (omega arith) ne in (z.0, z.1, z.2, ancestor_up t r z.0 v some there z.3))
            | inl same ↦ elim (cases_Bool (is_strand t v)) [
              | inl is ↦ (parent_of t v, forks v some there is, same, ancestor_up t r (parent_of t v) v some there (ancestor_self t (parent_of t v)))
              | inr other ↦ absurd (out (strand_of_other t r v some there other ∙ same))
            ]
          ]

module _ (first : List ℤ) (k : CoreState) (core : IsCore first k) (s : ℕ) (free : is_free k.machine s ≡ true) (ready : waits_for_left k s ≡ false) (c : ℕ) (conflict : Conflict) (asks : conflict.asker ≡ length k.machine.tree) where
  abbrev t : List Node
  t = k.machine.tree

  abbrev m : OpenMachine
  m = k.machine

  abbrev p : ℕ
  p = place t s

  abbrev f : ℕ
  f = length t

  abbrev x : Node
  x = fresh_node p (Tried c) 0

  abbrev u : List Node
  u = t ++ x ∷ []

  abbrev pub refused_machine : OpenMachine
  refused_machine = record m { tree = u; conflicts = m.conflicts ++ conflict ∷ [] }

  abbrev z : OpenMachine
  z = refused_machine

  running : is_running m s ≡ true
  running = free_runs m s free

  rooted : IsRooted t
  rooted = (well first k core).sound.tree.rooted

  there : p < length t
  there = (at_place first k core s running ready).there

  own : strand_of t p ≡ s
  own = (stands m (well first k core).sound.tree (well first k core).nested s running).strand

  quiet : (n : ℕ) → f ≤ n → is_pending u n ≡ false
  quiet n le = none_new (λ y. is_block_kind y.kind && is_pending_state y.state) t (x ∷ []) n refl le

  fresh : (d : Conflict) (v : ℕ) → f ≤ v → falls z d v ≡ false
  fresh d v le = and_left (is_pending u v) (is_victim u (d ∷ []) v) (quiet v le)

  asker_low : (i : ℕ) (d : Conflict) → slice_get m.conflicts i ≡ Some d → d.asker < f
  asker_low i d at = (all_at (λ d. IsTold t d) m.conflicts i d at (told_states at_once first m core.reached).told).asker

  above_new_one : (n : ℕ) → is_above u n f ≡ is_ancestor t n p
  above_new_one n = ap (λ ns. has ns n) (above_new t x rooted there)

  -- a fork above the asker was not joined
  unjoined : (g : ℕ) → is_fork t g ≡ true → is_ancestor t g p ≡ true → has m.joined g ≡ false
  unjoined g fork over =
      let tree = (well first k core).sound.tree in
      let nested = (well first k core).nested in
      let open_g = open_over m tree nested g p there over (place_open m tree nested s running) in
      elim (or_cases (is_strand t g && not (has_finished m g) || is_fork t g && not (has m.joined g)) (is_pending t g) open_g) [
        | inr e ↦ absurd (let a = pending_block t g e in let b = fork_no_block t g fork in cc (a, b))
        | inl e ↦ elim (or_cases (is_strand t g && not (has_finished m g)) (is_fork t g && not (has m.joined g)) e) [
          | inl y ↦ absurd (let a = (and_parts (is_strand t g) (not (has_finished m g)) y).0 in let b = fork_no_strand t g fork in cc (a, b))
          | inr y ↦ not-true (has m.joined g) (and_parts (is_fork t g) (not (has m.joined g)) y).1
        ]
      ]

  -- it is at stake for no other strand
  pub not_beside : (n v : ℕ) → n < f → is_strand t n ≡ true → n ≢ s → IsAtStake z n conflict v → ⊥
  not_beside n v h strand ne stake =
      let over : is_ancestor t n p ≡ true = sym (above_new_one n) ∙ ap (is_above u n) (sym asks) ∙ stake.over in
      let g = fork_between t rooted n strand p there over (λ e. ne (sym (sym own ∙ e))) (λ v some h is. (well first k core).sound.tree.strands v h some is) in
      let low = node_there (λ y. is_fork_kind y.kind) t g.0 g.1 in
      let off = stake.beside g.0 (node_grown t (x ∷ []) (λ y. is_fork_kind y.kind) g.0 low ∙ g.1) (strand_of_grown t (x ∷ []) rooted g.0 low ∙ g.2) (unjoined g.0 g.1 g.3) in
      let on : is_above u g.0 conflict.asker ≡ true = ap (is_above u g.0) asks ∙ above_new_one g.0 ∙ g.3 in
      cc (on, off)

  -- what an old conflict puts at stake now, it put at stake before
  old_stake : (n v i : ℕ) (d : Conflict) → slice_get m.conflicts i ≡ Some d → IsAtStake z n d v → IsAtStake m n d v
  old_stake n v i d at stake = stake_old t (x ∷ []) rooted m z refl refl refl n v d (asker_low i d at) (λ v le. fresh d v le) stake

  -- the machine with the new node alone is counted alike
  module _ (counted : (n : ℕ) → n < f → is_counted z n ≡ is_counted m n) where
    pub victim_other : (n : ℕ) → n < f → is_strand t n ≡ true → n ≢ s → (o : Option ℕ) → IsVictim m n o → IsVictim z n o
    victim_other n h strand ne None w = λ i v d at stake. elim (there_or_last m.conflicts conflict i d at) [
      | inl old ↦ w i v d old (old_stake n v i d old stake)
      | inr new ↦ (let P : Conflict → Type 0 = λ d. IsAtStake z n d v in absurd (not_beside n v h strand ne (subst P new.1 stake)))
    ]
    victim_other n h strand ne (Some y) w = (
      λ i v d at stake. elim (there_or_last m.conflicts conflict i d at) [
        | inl old ↦ w.0 i v d old (old_stake n v i d old stake)
        | inr new ↦ (let P : Conflict → Type 0 = λ d. IsAtStake z n d v in absurd (not_beside n v h strand ne (subst P new.1 stake)))
      ],
      λ e.
          (let q = w.1 (sym (counted n h) ∙ e) in
          let low = Rattle.std.proofs.lemmas.Option.slice_get_within m.conflicts q.0 q.1 q.2 in
          (q.0, q.1, get_append m.conflicts (conflict ∷ []) q.0 low ∙ q.2, is_above_grown t (x ∷ []) rooted n q.1.asker (asker_low q.0 q.1 q.2) ∙ q.3, falls_still t (x ∷ []) rooted m z refl refl refl q.1 y q.4)),
    )

    -- nothing was at stake for the strand that asks
    none_before : (o : Option ℕ) → IsVictim m s o → IsVictim m s None
    none_before o w = by o (sym (dying_is first k core s running o w) ∙ not-true (is_dying m s) (and_parts (is_running m s) (not (is_dying m s)) free).1) w where
      by : (o : Option ℕ) → is_some o ≡ false → IsVictim m s o → IsVictim m s None
      by None e w = w
      by (Some y) e w = absurd (cc e)

    -- where the conflict has no victim nothing is
    pub victim_free : (o : Option ℕ) → IsVictim m s o → conflict.victim ≡ 0 → IsVictim z s None
    victim_free o w zero = λ i v d at stake. elim (there_or_last m.conflicts conflict i d at) [
      | inl old ↦ none_before o w i v d old (old_stake s v i d old stake)
      | inr new ↦ (
          let P : Conflict → Type 0 = λ d. IsAtStake z s d v in
          let falls_v = (subst P new.1 stake).falls in
          let a = and_parts (is_pending u v) (is_victim u (conflict ∷ []) v) falls_v in
          let h = node_there (λ y. is_block_kind y.kind && is_pending_state y.state) u v a.0 in
          let e = unnamed v zero in
          absurd (cc (falls_v, e)))
    ] where
      unnamed : (v : ℕ) → conflict.victim ≡ 0 → falls z conflict v ≡ false
      unnamed v zero = false_from_ne_true (falls z conflict v) (λ e.
          let y = and_parts (is_pending u v) (is_victim u (conflict ∷ []) v) e in
          let q = and_parts (is_block u v) (list_any (λ d. option_map_or (λ x. nat_eq x (stamp_of u v)) (victim_of d) false) (conflict ∷ [])) y.1 in
          none (nat_eq conflict.victim 0) (eq-eqb conflict.victim 0 zero) q.1) where
            none : (b : Bool) → b ≡ true → (option_map_or (λ x. nat_eq x (stamp_of u v)) (cond b None (Some conflict.victim)) false || false) ≡ true → ⊥
            none true e h = absurd (cc h)
            none false e h = absurd (cc e)

    -- else its victim is
    pub victim_marked : (o : Option ℕ) → IsVictim m s o → (b : ℕ) → is_pending t b ≡ true → 0 < stamp_of t b → conflict.victim ≡ stamp_of t b → IsVictim z s (Some b)
    victim_marked o w b pending some named = (
      λ i v d at stake. elim (there_or_last m.conflicts conflict i d at) [
        | inl old ↦ absurd (let h = none_before o w i v d old (old_stake s v i d old stake) in omega arith)
        | inr new ↦ (let P : Conflict → Type 0 = λ d. IsAtStake z s d v in let e = only v (subst P new.1 stake).falls in omega (arith, e))
      ],
      λ e. (length m.conflicts, conflict, get_next m.conflicts conflict [], over, fall),
    ) where
      low : b < f
      low = node_there (λ y. is_block_kind y.kind && is_pending_state y.state) t b pending

      over : is_above u s conflict.asker ≡ true
      over =
          let P : ℕ → Type 0 = λ n. is_ancestor t n p ≡ true in
          ap (is_above u s) asks ∙ above_new_one s ∙ subst P own (Rattle.cw_tree.proofs.Walks.Strands.strand_over t rooted p there)

      one_name : (v : ℕ) → list_any (λ d. option_map_or (λ x. nat_eq x (stamp_of u v)) (victim_of d) false) (conflict ∷ []) ≡ nat_eq conflict.victim (stamp_of u v)
      one_name v =
          ap (λ z. option_map_or (λ x. nat_eq x (stamp_of u v)) (cond z None (Some conflict.victim)) false || false) (ne_eqb conflict.victim 0 (λ q. absurd (omega (arith, q, named, some))))
          ∙ or_false (nat_eq conflict.victim (stamp_of u v)) where
            or_false : (b : Bool) → (b || false) ≡ b
            or_false true = refl
            or_false false = refl

      only : (v : ℕ) → falls z conflict v ≡ true → v ≡ b
      only v e =
          let y = and_parts (is_pending u v) (is_victim u (conflict ∷ []) v) e in
          let q = and_parts (is_block u v) (list_any (λ d. option_map_or (λ x. nat_eq x (stamp_of u v)) (victim_of d) false) (conflict ∷ [])) y.1 in
          let same : conflict.victim ≡ stamp_of u v = eqb-true conflict.victim (stamp_of u v) (sym (one_name v) ∙ q.1) in
          elim (Rattle.std.proofs.lemmas.Bool.cases_lt v f) [
            | inr le ↦ absurd (let a = quiet v le in cc (a, y.0))
            | inl h ↦
                (let at : stamp_of u v ≡ stamp_of t v = number_grown t (x ∷ []) (λ y. y.stamp) v h in
                sym ((well first k core).sound.stamps.distinct b v low h some (sym named ∙ same ∙ at)))
          ]

      fall : falls z conflict b ≡ true
      fall =
          let pend : is_pending u b ≡ true = node_grown t (x ∷ []) (λ y. is_block_kind y.kind && is_pending_state y.state) b low ∙ pending in
          let block : is_block u b ≡ true = node_grown t (x ∷ []) (λ y. is_block_kind y.kind) b low ∙ pending_block t b pending in
          let at : stamp_of u b ≡ stamp_of t b = number_grown t (x ∷ []) (λ y. y.stamp) b low in
          and_from (is_pending u b) (is_victim u (conflict ∷ []) b) pend
          (and_from (is_block u b) (list_any (λ d. option_map_or (λ x. nat_eq x (stamp_of u b)) (victim_of d) false) (conflict ∷ [])) block (one_name b ∙ eq-eqb conflict.victim (stamp_of u b) (named ∙ sym at)))
