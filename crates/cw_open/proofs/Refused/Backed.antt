-- What was rolled back was so for its victim, and what dying strands leave is the last of its place: in every state that a run leads to.
use Rattle.std.proofs.Common.{◌≡◌, ℕ, ◌<◌, List, [], ◌∷◌, ◌++◌, length, ap, sym, ◌∙◌, subst, arith, Bool, true, false, cond, Option, Some, None, inl, inr, nat_eq, append-nil}
use Rattle.std.specs.Prelude.{◌⊎◌, ◌&&◌, ℤ, is_some, slice_get}
use Rattle.std.specs.List.{list_any}
use Rattle.std.specs.Option.{option_map_or}
use Rattle.std.proofs.lemmas.Bool.{and_parts, and_from, or_cases, or_left, or_right, cases_eq, eqb-true, eq-eqb, ne_eqb, false_from_ne_true}
use Rattle.cw_tree.specs.declared.node.Node.{Node}
use Rattle.cw_tree.specs.declared.node.Kind.TheVariants.{Tried}
use Rattle.cw_tree.specs.declared.node.BlockState.{BlockState}
use Rattle.cw_tree.specs.declared.node.BlockState.TheVariants.{Pending, Committed, Aborted}
use Rattle.cw_tree.specs.declared.conflict.Conflict.{Conflict}
use Rattle.cw_tree.specs.Nodes.{passes, is_block_kind, is_pending_state, is_committed_state, number_in, parent_of, stamp_of, is_block, is_pending, is_committed, fresh_node}
use Rattle.cw_tree.specs.Walks.{IsRooted, has, is_ancestor, is_above}
use Rattle.cw_tree.specs.Series.{strand_of, place}
use Rattle.cw_tree.specs.Refusals.{victim_of, is_victim, names_victim as tells_back}
use Rattle.cw_tree.specs.NextNodes.{IsPlace}
use Rattle.cw_tree.proofs.Walks.There.{node_there}
use Rattle.cw_tree.proofs.Walks.Ancestors.{ancestor_le}
use Rattle.cw_tree.proofs.NextNodes.Growing.{length_more, number_grown, above_new}
use Rattle.cw_tree.proofs.NextNodes.Pending.{end_of_place}
use Rattle.cw_tree.proofs.NodeKinds.{committed_block}
use Rattle.cw_open.specs.Machine.{OpenMachine, has_finished, finished_dead, is_running, is_dying}
use Rattle.cw_open.specs.Steps.{Met, refusal}
use Rattle.cw_open.proofs.Open.Trees.{IsWell, stands_well}
use Rattle.cw_open.proofs.Open.Standing.{stands}
use Rattle.cw_open.proofs.Refused.Falling.{AreAskers}
use Rattle.cw_open.proofs.Open.Growth.{IsGrowth, growth_leaf}
use Rattle.cw_open.proofs.Open.Staying.{later_last}
use Rattle.cw_open.proofs.Refused.Fell.{any_one}
use Rattle.cw_open.proofs.Refused.Victims.{IsTold, IsToldState, told_new}
use Rattle.cw_open.proofs.Refused.Backing.{Died, GoesBack, AllDied, one_more, back_grown, died_grown}

pub record IsBacked (m : OpenMachine) : Type 0 where
  pub back : GoesBack m.tree m.conflicts
  pub died : AllDied m.tree m.conflicts (has_finished m) (finished_dead m)

pub dead_finished : (m : OpenMachine) (x : ℕ) → finished_dead m x ≡ true → has_finished m x ≡ true
dead_finished m x e = by m.finished e where
  by : (fs : List (ℕ × Bool)) → list_any (λ f. nat_eq f.0 x && f.1) fs ≡ true → list_any (λ f. nat_eq f.0 x) fs ≡ true
  by [] e = e
  by (f ∷ fs) e =
      elim (or_cases (nat_eq f.0 x && f.1) (list_any (λ f. nat_eq f.0 x && f.1) fs) e) [
        | inl z ↦ or_left (nat_eq f.0 x) (list_any (λ f. nat_eq f.0 x) fs) (and_parts (nat_eq f.0 x) f.1 z).0
        | inr z ↦ or_right (nat_eq f.0 x) (list_any (λ f. nat_eq f.0 x) fs) (by fs z)
      ]

-- a pending block is not committed
pub not_both : (t : List Node) (n : ℕ) → is_pending t n ≡ true → is_committed t n ≡ true → ⊥
not_both t n = by (slice_get t n) where
  states : (k : Bool) (s : BlockState) → (k && is_pending_state s) ≡ true → (k && is_committed_state s) ≡ true → ⊥
  states false s e f = cc e
  states true Pending e f = cc f
  states true Committed e f = cc e
  states true Aborted e f = cc e

  by : (o : Option Node) → passes (λ x. is_block_kind x.kind && is_pending_state x.state) o ≡ true → passes (λ x. is_block_kind x.kind && is_committed_state x.state) o ≡ true → ⊥
  by None e f = cc e
  by (Some x) e f = states (is_block_kind x.kind) x.state e f

module _ (first : List ℤ) (m : OpenMachine) (w : IsToldState first m) (k : IsBacked m) where
  abbrev t : List Node
  t = m.tree

  abbrev cs : List Conflict
  cs = m.conflicts

  abbrev well : IsWell m
  well = w.state.well

  r : IsRooted t
  r = well.sound.tree.rooted

  askers : AreAskers t cs
  askers = w.state.listed.askers

  own : (s : ℕ) → is_running m s ≡ true → strand_of t (place t s) ≡ s
  own s running = (stands m well.sound.tree well.nested s running).strand

  -- what a conflict tells back is there
  tells_there : (n : ℕ) → tells_back cs n ≡ true → n < length t
  tells_there n e =
      let o = any_one (IsTold t) (λ c. nat_eq c.asker n && is_some (victim_of c)) cs w.told e in
      let at : o.one.asker ≡ n = eqb-true o.one.asker n (and_parts (nat_eq o.one.asker n) (is_some (victim_of o.one)) o.passes).0 in
      let low = o.holds.asker in
      omega arith

  -- ## Nodes come

  module _ (s : ℕ) (running : is_running m s ≡ true) (lives : is_dying m s ≡ false) (u : List Node) (stamp : ℕ) (g : IsGrowth t u (place t s) stamp) where
    died_come : (more : List Conflict) → AllDied u (cs ++ more) (has_finished m) (finished_dead m)
    died_come more x some e =
        let low = well.finished x (dead_finished m x e) in
        let P : ℕ → Type 0 = λ f. Died u (cs ++ more) (has_finished m) (finished_dead m) f in
        subst P (sym (ap (number_in (λ y. y.parent)) (g.old x low)))
        (died_grown m r well.sound.tree.root w.told askers s (stands_well m well s running) (own s running) lives u stamp g more (has_finished m) (finished_dead m) (parent_of t x) (k.died x some e))

    pub come : GoesBack u cs × AllDied u cs (has_finished m) (finished_dead m)
    come =
        let P : List Conflict → Type 0 = λ ds. GoesBack u ds × AllDied u ds (has_finished m) (finished_dead m) in
        subst P (append-nil cs) (
          back_grown m r well.sound.tree.root w.told askers s (stands_well m well s running) (own s running) lives u stamp g []
              (λ b e. ap (λ ds. is_victim t ds b) (append-nil cs) ∙ k.back.committed b e)
              (λ n some h e. let f = ap (λ ds. tells_back ds n) (sym (append-nil cs)) ∙ e in inl (tells_there n f, f)) k.back,
          died_come [],
        )

  -- ## An access is refused

  module _ (s : ℕ) (running : is_running m s ≡ true) (lives : is_dying m s ≡ false) (c : ℕ) (met : Met) where
    abbrev p : ℕ
    p = place t s

    abbrev x : Node
    x = fresh_node p (Tried c) 0

    abbrev u : List Node
    u = t ++ x ∷ []

    abbrev d : Conflict
    d = refusal m p c met

    at : IsPlace t p
    at = stands_well m well s running

    -- its victim is pending
    names_pending : (b : ℕ) → option_map_or (λ v. nat_eq v (stamp_of t b)) (victim_of d) false ≡ true → is_block t b ≡ true → is_pending t b ≡ true
    names_pending b e block =
        let low = node_there (λ y. is_block_kind y.kind) t b block in
        let told = told_new m r p at.there c met in
        elim (cases_eq d.victim 0) [
          | inl none ↦ absurd (cc (e, ap (λ q. option_map_or (λ v. nat_eq v (stamp_of t b)) (cond q None (Some d.victim)) false) (eq-eqb d.victim 0 none)))
          | inr some ↦
              (let same : d.victim ≡ stamp_of t b = eqb-true d.victim (stamp_of t b) (sym (ap (λ q. option_map_or (λ v. nat_eq v (stamp_of t b)) (cond q None (Some d.victim)) false) (ne_eqb d.victim 0 some)) ∙ e) in
              elim told.named [
                | inl none ↦ absurd (some none)
                | inr y ↦
                    (let (v, is, stamped) = y in
                    let z = and_parts (is_block u v) (is_above u v (length t)) is in
                    let over : is_ancestor t v p ≡ true = sym (ap (λ ns. has ns v) (above_new t x r at.there)) ∙ z.1 in
                    let le = ancestor_le t r v p at.there over in
                    let there = at.there in
                    let was : v < length t = omega arith in
                    let stays : stamp_of u v ≡ stamp_of t v = number_grown t (x ∷ []) (λ y. y.stamp) v was in
                    let one : b ≡ v = well.sound.stamps.distinct b v low was (omega (arith, same, some)) (sym same ∙ sym stamped ∙ stays) in
                    ap (is_pending t) one ∙ at.around v (and_from (is_block t v) (is_ancestor t v p) (sym (ap (is_block t) one) ∙ block) over))
              ])
        ]

    safe : (b : ℕ) → is_committed t b ≡ true → is_victim t (cs ++ d ∷ []) b ≡ false
    safe b e =
        let block = committed_block t b e in
        false_from_ne_true (is_victim t (cs ++ d ∷ []) b) (λ q.
        elim (any_split (λ c. option_map_or (λ v. nat_eq v (stamp_of t b)) (victim_of c) false) cs (and_parts (is_block t b) (list_any (λ c. option_map_or (λ v. nat_eq v (stamp_of t b)) (victim_of c) false) (cs ++ d ∷ [])) q).1) [
          | inl z ↦ absurd (cc (k.back.committed b e, and_from (is_block t b) (list_any (λ c. option_map_or (λ v. nat_eq v (stamp_of t b)) (victim_of c) false) cs) block z))
          | inr z ↦ absurd (not_both t b (names_pending b z block) e)
        ]) where
          any_split : (p : Conflict → Bool) (ds : List Conflict) → list_any p (ds ++ d ∷ []) ≡ true → (list_any p ds ≡ true) ⊎ (p d ≡ true)
          any_split p [] e = elim (or_cases (p d) false e) [ inl z ↦ inr z | inr z ↦ absurd (cc z) ]
          any_split p (y ∷ ds) e =
              elim (or_cases (p y) (list_any p (ds ++ d ∷ [])) e) [
                | inl z ↦ inl (or_left (p y) (list_any p ds) z)
                | inr z ↦ elim (any_split p ds z) [ inl q ↦ inl (or_right (p y) (list_any p ds) q) | inr q ↦ inr q ]
              ]

    pub refused_come : GoesBack u (cs ++ d ∷ []) × AllDied u (cs ++ d ∷ []) (has_finished m) (finished_dead m)
    refused_come =
        let g = growth_leaf t r p (end_of_place t p at) (Tried c) 0 in (
          back_grown m r well.sound.tree.root w.told askers s at (own s running) lives u 0 g (d ∷ []) safe
              (λ n some h e.
              elim (cases_eq (length t) n) [
                | inl q ↦ inr (later_last u n (omega (arith, length_more t x)))
                | inr ne ↦ inl (omega (arith, length_more t x), one_more cs d n ne e)
              ]) k.back,
          died_come s running lives u 0 g (d ∷ []),
        )
