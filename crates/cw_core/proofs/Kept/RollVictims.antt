-- What is at stake for strands as the block of a running strand is rolled back.
use Rattle.std.proofs.Common.{◌≡◌, ◌≢◌, ℕ, ◌<◌, ◌≤◌, List, [], ◌∷◌, length, refl, ap, sym, ◌∙◌, subst, arith, Bool, true, false, cond, Some, None, nat_eq, inl, inr}
use Rattle.std.specs.Prelude.{◌⊎◌, ◌&&◌, ◌||◌, not, ℤ, slice_get}
use Rattle.std.specs.Option.{option_map_or}
use Rattle.std.proofs.lemmas.Bool.{and_parts, and_from, or_left, or_cases, cases_lt, cases_Bool, eqb-true, not_from_false, not-true}
use Rattle.cw_tree.specs.declared.node.Node.{Node}
use Rattle.cw_tree.specs.declared.node.BlockState.TheVariants.{Aborted}
use Rattle.cw_tree.specs.declared.conflict.Conflict.{Conflict}
use Rattle.cw_tree.specs.Nodes.{is_block_kind, is_strand_kind, is_pending_state, parent_of, stamp_of, is_fork, is_strand, is_block, is_pending}
use Rattle.cw_tree.specs.Walks.{has, is_ancestor, is_above}
use Rattle.cw_tree.specs.Series.{strand_of, place}
use Rattle.cw_tree.specs.Refusals.{victim_of, is_victim}
use Rattle.cw_tree.specs.Shape.{IsTree}
use Rattle.cw_tree.proofs.Walks.Ancestors.{ancestor_self, above_ancestor, ancestor_up, ancestor_le, beneath}
use Rattle.cw_tree.proofs.Walks.Kin.{branch, ancestor_linear}
use Rattle.cw_tree.proofs.Walks.Strands.{strand_of_other, strand_over, strand_itself}
use Rattle.cw_tree.proofs.Walks.There.{node_there}
use Rattle.cw_tree.proofs.NodeKinds.{strand_no_block, fork_no_strand, fork_no_block, pending_block}
use Rattle.cw_open.specs.Machine.{OpenMachine, has_finished, is_running, in_block, falls}
use Rattle.cw_open.specs.Open.{is_open}
use Rattle.cw_open.specs.Runs.{at_once}
use Rattle.cw_open.proofs.Open.Standing.{open_over, pending_open, runs, stands, none_open}
use Rattle.cw_core.proofs.Kept.PartsGrow.{all_at}
use Rattle.cw_open.proofs.Refused.Victims.{IsTold, told_states}
use Rattle.cw_core.specs.State.{CoreState, waits_for_left}
use Rattle.cw_core.specs.Laws.{IsCore}
use Rattle.cw_core.specs.Kept.{is_counted}
use Rattle.cw_core.proofs.Events.Going.{well, pending_stamped}
use Rattle.cw_core.proofs.Events.Closing.{pending}

-- what stands beneath a strand stands in it, or beneath a fork of it
pub fork_over : (t : List Node) → IsTree t → (s : ℕ) → is_strand t s ≡ true → (n : ℕ) → n < length t → is_ancestor t s n ≡ true → (strand_of t n ≡ s) ⊎ ((f : ℕ) × (is_fork t f ≡ true) × (strand_of t f ≡ s) × (is_ancestor t f n ≡ true))
fork_over t tree s own =
    beneath t tree.rooted s (λ n. (strand_of t n ≡ s) ⊎ ((f : ℕ) × (is_fork t f ≡ true) × (strand_of t f ≡ s) × (is_ancestor t f n ≡ true))) (inl (strand_itself t tree.rooted s own))
    (λ n p h up more.
    elim more [
      | inr z ↦ inr (z.0, z.1, z.2, ancestor_up t tree.rooted z.0 n p h z.3)
      | inl e ↦
          elim (cases_Bool (is_strand t n)) [
            | inl g ↦ inr (parent_of t n, tree.strands n h p g, e, ancestor_up t tree.rooted (parent_of t n) n p h (ancestor_self t (parent_of t n)))
            | inr g ↦ inl (strand_of_other t tree.rooted n p h g ∙ e)
          ]
    ])

module _ (first : List ℤ) (k : CoreState) (core : IsCore first k) (s : ℕ) (running : is_running k.machine s ≡ true) (ready : waits_for_left k s ≡ false) (within : in_block k.machine s ≡ true) where
  abbrev t : List Node
  t = k.machine.tree

  abbrev m : OpenMachine
  m = k.machine

  abbrev b : ℕ
  b = place t s

  tree : IsTree t
  tree = (well first k core).sound.tree

  block_here : is_block t b ≡ true
  block_here = pending_block t b (pending first k core s running ready within Aborted refl)

  fork_shut : (f : ℕ) → is_fork t f ≡ true → is_open m f ≡ true → has m.joined f ≡ false
  fork_shut f fork e =
      elim (or_cases (is_strand t f && not (has_finished m f) || is_fork t f && not (has m.joined f)) (is_pending t f) e) [
        | inr z ↦ absurd (let x = pending_block t f z in let y = fork_no_block t f fork in cc (x, y))
        | inl z ↦ elim (or_cases (is_strand t f && not (has_finished m f)) (is_fork t f && not (has m.joined f)) z) [
          | inl y ↦ absurd (let x = (and_parts (is_strand t f) (not (has_finished m f)) y).0 in let y = fork_no_strand t f fork in cc (x, y))
          | inr y ↦ not-true (has m.joined f) (and_parts (is_fork t f) (not (has m.joined f)) y).1
        ]
      ]

  -- nothing beneath the block is open
  none_beneath : (n : ℕ) → n < length t → n ≢ b → is_ancestor t b n ≡ true → is_open m n ≡ true → ⊥
  none_beneath n h ne over e =
      let c = branch t tree.rooted b n h ne over in
      let le : c.child ≤ n = ancestor_le t tree.rooted c.child n h c.over in
      let up = open_over m tree (well first k core).nested c.child n h c.over e in
      let no = none_open m tree (well first k core).nested s running c.child c.some (omega arith) c.parent in
      cc (up, no)

  -- a pending block beneath the strand is no later one
  none_later : (v : ℕ) → is_pending t v ≡ true → is_ancestor t s v ≡ true → b < v → ⊥
  none_later v pend over less =
      let h = node_there (λ y. is_block_kind y.kind && is_pending_state y.state) t v pend in
      elim (fork_over t tree s (runs m tree (well first k core).nested s running).strand v h over) [
        | inl e ↦ (stands m tree (well first k core).nested s running).last v less pend e
        | inr z ↦
            (let up = open_over m tree (well first k core).nested z.0 v h z.3 (pending_open m tree (well first k core).nested v pend) in
            let shut = fork_shut z.0 z.1 up in
            let joined = (runs m tree (well first k core).nested s running).waits_for_none z.0 z.1 z.2 in
            cc (shut, joined))
      ]

  -- what falls for a conflict stands above its asker
  falls_above : (i v : ℕ) (c : Conflict) → slice_get m.conflicts i ≡ Some c → falls m c v ≡ true → is_above t v c.asker ≡ true
  falls_above i v c at e =
      let told = all_at (λ c. IsTold t c) m.conflicts i c at (told_states at_once first m core.reached).told in
      let y = and_parts (is_pending t v) (is_victim t (c ∷ []) v) e in
      let x = and_parts (is_block t v) (option_map_or (λ x. nat_eq x (stamp_of t v)) (victim_of c) false || false) y.1 in
      let h = node_there (λ y. is_block_kind y.kind && is_pending_state y.state) t v y.0 in
      let some = pending_stamped first k core v y.0 in
      let stamp : c.victim ≡ stamp_of t v = named (nat_eq c.victim 0) x.1 in
      elim told.named [
        | inl none ↦ absurd (omega (arith, none, stamp, some))
        | inr z ↦
            (let w = and_parts (is_block t z.0) (is_above t z.0 c.asker) z.1 in
            let g = node_there (λ n. is_block_kind n.kind) t z.0 w.0 in
            let same : v ≡ z.0 = (well first k core).sound.stamps.distinct v z.0 h g some (sym stamp ∙ sym z.2) in
            let P : ℕ → Type 0 = λ n. is_above t n c.asker ≡ true in
            subst P (sym same) w.1)
      ] where
        named : (z : Bool) → (option_map_or (λ x. nat_eq x (stamp_of t v)) (cond z None (Some c.victim)) false || false) ≡ true → c.victim ≡ stamp_of t v
        named true g = absurd (cc g)
        named false g = eqb-true c.victim (stamp_of t v) (sym (or_false (nat_eq c.victim (stamp_of t v))) ∙ g) where
          or_false : (x : Bool) → (x || false) ≡ x
          or_false true = refl
          or_false false = refl

  asker_there : (i : ℕ) (c : Conflict) → slice_get m.conflicts i ≡ Some c → c.asker < length t
  asker_there i c at = (all_at (λ c. IsTold t c) m.conflicts i c at (told_states at_once first m core.reached).told).asker

  -- where the block falls for the strand, nothing else does that is beneath it
  pub last_victim : (i v : ℕ) (c : Conflict) → slice_get m.conflicts i ≡ Some c → is_above t s c.asker ≡ true → falls m c v ≡ true → b < v → ⊥
  last_victim i v c at over fall less =
      let low = asker_there i c at in
      let up = falls_above i v c at fall in
      let h = strand_over t tree.rooted b (node_there (λ y. is_block_kind y.kind) t b block_here) in
      let own : strand_of t b ≡ s = (stands m tree (well first k core).nested s running).strand in
      let P : ℕ → Type 0 = λ n. is_ancestor t n b ≡ true in
      let le : s ≤ b = ancestor_le t tree.rooted s b (node_there (λ y. is_block_kind y.kind) t b block_here) (subst P own h) in
      let in_strand = ancestor_linear t tree.rooted s v c.asker low (above_ancestor t s c.asker over) (above_ancestor t v c.asker up) (omega arith) in
      none_later v (and_parts (is_pending t v) (is_victim t (c ∷ []) v) fall).0 in_strand less

  -- the block falls for no other strand that runs, or has finished and waits for its join
  pub other_victim : (n i : ℕ) (c : Conflict) → is_strand t n ≡ true → n ≢ s → is_counted m n ≡ true → slice_get m.conflicts i ≡ Some c → is_above t n c.asker ≡ true → falls m c b ≡ true → ⊥
  other_victim n i c strand ne counted at over fall =
      let low = asker_there i c at in
      let up = falls_above i b c at fall in
      let hb = node_there (λ y. is_block_kind y.kind) t b block_here in
      let hn = node_there (λ y. is_strand_kind y.kind) t n strand in
      let apart : n ≢ b = λ q. absurd (let x = ap (is_strand t) q in let y = strand_no_block t n strand in let z = ap (is_block t) q in let w = block_here in cc (y, z, w)) in
      elim (cases_lt b n) [
        | inl less ↦ within_it hn (ancestor_linear t tree.rooted b n c.asker low (above_ancestor t b c.asker up) (above_ancestor t n c.asker over) (omega arith)) apart
        | inr le ↦ around_it (ancestor_linear t tree.rooted n b c.asker low (above_ancestor t n c.asker over) (above_ancestor t b c.asker up) le) hb
      ] where
        strand_open : has_finished m n ≡ false → is_open m n ≡ true
        strand_open off = or_left (is_strand t n && not (has_finished m n) || is_fork t n && not (has m.joined n)) (is_pending t n) (or_left (is_strand t n && not (has_finished m n)) (is_fork t n && not (has m.joined n)) (and_from (is_strand t n) (not (has_finished m n)) strand (not_from_false (has_finished m n) off)))

        -- beneath the block: it is open, or its fork is
        within_it : n < length t → is_ancestor t b n ≡ true → n ≢ b → ⊥
        within_it hn down apart =
            elim (cases_Bool (has_finished m n)) [
              | inr off ↦ none_beneath n hn apart down (strand_open off)
              | inl on ↦
                  (let unjoined : not (has m.joined (parent_of t n)) ≡ true = ap (λ x. cond x (not (has m.joined (parent_of t n))) (is_running m n)) (sym on) ∙ counted in
                  let le : b ≤ n = ancestor_le t tree.rooted b n hn down in
                  let some : 0 < n = omega arith in
                  let fork = tree.strands n hn some strand in
                  let low : parent_of t n < n = tree.rooted n some hn in
                  let above : is_ancestor t b (parent_of t n) ≡ true = sym (Rattle.cw_tree.proofs.Walks.Ancestors.ancestor_step t tree.rooted b n some hn apart) ∙ down in
                  let other : parent_of t n ≢ b = λ q. absurd (let x = ap (is_block t) q in let y = fork_no_block t (parent_of t n) fork in let w = block_here in cc (x, y, w)) in
                  let open_fork : is_open m (parent_of t n) ≡ true = or_left (is_strand t (parent_of t n) && not (has_finished m (parent_of t n)) || is_fork t (parent_of t n) && not (has m.joined (parent_of t n))) (is_pending t (parent_of t n))
                  (Rattle.std.proofs.lemmas.Bool.or_right (is_strand t (parent_of t n) && not (has_finished m (parent_of t n))) (is_fork t (parent_of t n) && not (has m.joined (parent_of t n))) (and_from (is_fork t (parent_of t n)) (not (has m.joined (parent_of t n))) fork unjoined)) in
                  none_beneath (parent_of t n) (omega arith) other above open_fork)
            ]

        -- above it: the strand waits for the fork in which the block stands
        around_it : is_ancestor t n b ≡ true → b < length t → ⊥
        around_it down hb =
            let own : strand_of t b ≡ s = (stands m tree (well first k core).nested s running).strand in
            let pend = pending first k core s running ready within Aborted refl in
            let open_at = λ (x : ℕ) (over : is_ancestor t x b ≡ true). open_over m tree (well first k core).nested x b hb over (pending_open m tree (well first k core).nested b pend) in
            elim (fork_over t tree n strand b hb down) [
              | inl e ↦ ne (sym e ∙ own)
              | inr z ↦
                  (let shut = fork_shut z.0 z.1 (open_at z.0 z.3) in
                  elim (cases_Bool (has_finished m n)) [
                    | inl on ↦ finished_open on (open_at n down)
                    | inr off ↦
                        (let runs_n : is_running m n ≡ true = ap (λ x. cond x (not (has m.joined (parent_of t n))) (is_running m n)) (sym off) ∙ counted in
                        let joined = (runs m tree (well first k core).nested n runs_n).waits_for_none z.0 z.1 z.2 in
                        cc (shut, joined))
                  ])
            ] where
              finished_open : has_finished m n ≡ true → is_open m n ≡ true → ⊥
              finished_open on e =
                  elim (or_cases (is_strand t n && not (has_finished m n) || is_fork t n && not (has m.joined n)) (is_pending t n) e) [
                    | inr z ↦ (let x = pending_block t n z in let y = strand_no_block t n strand in cc (x, y))
                    | inl z ↦ elim (or_cases (is_strand t n && not (has_finished m n)) (is_fork t n && not (has m.joined n)) z) [
                      | inl y ↦ (let x = not-true (has_finished m n) (and_parts (is_strand t n) (not (has_finished m n)) y).1 in cc (x, on))
                      | inr y ↦ (let x = fork_no_strand t n (and_parts (is_fork t n) (not (has m.joined n)) y).0 in cc (x, strand))
                    ]
                  ]
