-- Which strands are dying, as a strand makes a step.
use Rattle.std.proofs.Common.{◌≡◌, ◌≢◌, ℕ, ◌<◌, List, [], ◌∷◌, length, ap, sym, ◌∙◌, subst, arith, Bool, true, false, inl, inr}
use Rattle.std.specs.Prelude.{◌&&◌, ℤ, All}
use Rattle.std.specs.List.{list_any}
use Rattle.std.proofs.lemmas.Bool.{and_parts, and_from, cases_lt}
use Rattle.cw_tree.specs.declared.node.Node.{Node}
use Rattle.cw_tree.specs.declared.conflict.Conflict.{Conflict}
use Rattle.cw_tree.specs.Nodes.{is_block_kind, is_pending_state, parent_of, is_strand, is_block, is_fork, is_pending, all_nodes}
use Rattle.cw_tree.specs.Walks.{IsRooted, has, is_ancestor, is_above}
use Rattle.cw_tree.specs.Series.{strand_of, place}
use Rattle.cw_tree.specs.Refusals.{is_victim}
use Rattle.cw_tree.proofs.Walks.Ancestors.{above_ancestor, ancestor_above, ancestor_le, ancestor_trans}
use Rattle.cw_tree.proofs.Walks.Kin.{ancestor_linear}
use Rattle.cw_tree.proofs.Lists.{any_in, any_from}
use Rattle.cw_tree.proofs.Members.{below_in}
use Rattle.cw_tree.proofs.NextNodes.Before.{above_down}
use Rattle.cw_tree.proofs.Walks.Strands.{strand_over}
use Rattle.cw_tree.proofs.Walks.There.{node_there, fork_there, strand_there}
use Rattle.cw_tree.proofs.NodeKinds.{fork_no_strand}
use Rattle.cw_open.specs.Machine.{OpenMachine, finished_dead, is_running, is_dying, falls}
use Rattle.cw_open.specs.Open.{is_open, AreNested}
use Rattle.cw_open.proofs.Refused.BackedStates.{IsBackedState}
use Rattle.cw_open.proofs.Refused.Fell.{fell, any_one, of_fell, one_fell, names_block, victim_stays}
use Rattle.cw_open.proofs.Laws.Named.{strand_is}
use Rattle.cw_open.proofs.Open.Standing.{open_over, open_block, stands}
use Rattle.cw_open.proofs.Open.Staying.{Stays, above_stays}
use Rattle.cw_open.proofs.Refused.Victims.{IsTold, IsToldState, victim_above}
use Rattle.cw_open.proofs.Open.Kinds.{unjoined_open}
use Rattle.cw_sim.specs.Inside.{HasOneOpenFork}
use Rattle.cw_sim.proofs.Inside.Waits.{going, over_waits, stands_waits}

-- why strand y is dying: a conflict beneath it, and its victim
pub record Dies (m : OpenMachine) (y : ℕ) (c : Conflict) (v : ℕ) : Type 0 where
  pub over : is_above m.tree y c.asker ≡ true
  pub pending : is_pending m.tree v ≡ true
  pub victim : is_victim m.tree (c ∷ []) v ≡ true

abbrev pub dies_by : OpenMachine → ℕ → Conflict → Bool
dies_by m y c = is_above m.tree y c.asker && list_any (falls m c) (all_nodes m.tree)

pub died_by : (m : OpenMachine) (y : ℕ) (c : Conflict) → dies_by m y c ≡ true → (v : ℕ) × Dies m y c v
died_by m y c e =
    let x = and_parts (is_above m.tree y c.asker) (list_any (falls m c) (all_nodes m.tree)) e in
    let w = any_in (falls m c) (all_nodes m.tree) x.1 in
    let f = and_parts (is_pending m.tree w.0) (is_victim m.tree (c ∷ []) w.0) w.2 in
    (w.0, record { over = x.0; pending = f.0; victim = f.1 })

pub by_dies : (m : OpenMachine) (y : ℕ) (c : Conflict) (v : ℕ) → Dies m y c v → dies_by m y c ≡ true
by_dies m y c v d =
    let low = node_there (λ n. is_block_kind n.kind && is_pending_state n.state) m.tree v d.pending in
    and_from (is_above m.tree y c.asker) (list_any (falls m c) (all_nodes m.tree)) d.over
    (any_from (falls m c) v (all_nodes m.tree) (below_in v (length m.tree) low) (and_from (is_pending m.tree v) (is_victim m.tree (c ∷ []) v) d.pending d.victim))

-- ## As the tree changes

told_stays : (t u : List Node) → Stays t u → (c : Conflict) → IsTold t c → IsTold u c
told_stays t u s c w = record {
  asker = (let h = w.asker in let l = s.longer in omega arith);
  named = elim w.named [
    | inl e ↦ inl e
    | inr z ↦
        (let y = and_parts (is_block t z.0) (is_above t z.0 c.asker) z.1 in
        let low = node_there (λ x. is_block_kind x.kind) t z.0 y.0 in
        inr (z.0, and_from (is_block u z.0) (is_above u z.0 c.asker) (s.blocks z.0 low ∙ y.0) (above_stays t u s z.0 c.asker w.asker ∙ y.1), s.stamps z.0 low ∙ z.2))
  ];
}

module _ (m z : OpenMachine) (told : All (IsTold m.tree) m.conflicts) (s : Stays m.tree z.tree) (y : ℕ) where
  -- a strand that is dying still is, while what falls beneath it stays pending
  pub dies_on : ((q : Conflict → Bool) → list_any q m.conflicts ≡ true → list_any q z.conflicts ≡ true)
      → ((c : Conflict) (v : ℕ) → IsTold m.tree c → ((q : Conflict → Bool) → q c ≡ true → list_any q m.conflicts ≡ true) → Dies m y c v → is_pending z.tree v ≡ true)
      → is_dying m y ≡ true → is_dying z y ≡ true
  dies_on more keep e =
      let o = any_one (IsTold m.tree) (dies_by m y) m.conflicts told e in
      let c = o.one in
      let (v, d) = died_by m y c o.passes in
      let low = node_there (λ n. is_block_kind n.kind && is_pending_state n.state) m.tree v d.pending in
      more (dies_by z y)
      (o.among (dies_by z y)
      (by_dies z y c v (record {
        over = above_stays m.tree z.tree s y c.asker o.holds.asker ∙ d.over;
        pending = keep c v o.holds o.among d;
        victim = victim_stays m.tree z.tree s (c ∷ []) v low ∙ d.victim;
      })))

  -- and one that is was so, by a conflict that was there
  pub dies_back : (first : List ℤ) → IsToldState first z → ((v : ℕ) → v < length m.tree → is_pending z.tree v ≡ true → is_pending m.tree v ≡ true) → list_any (dies_by z y) m.conflicts ≡ true → is_dying m y ≡ true
  dies_back first w pend e =
      let o = any_one (IsTold m.tree) (dies_by z y) m.conflicts told e in
      let c = o.one in
      let (v, d) = died_by z y c o.passes in
      let asker = o.holds.asker in
      let longer = s.longer in
      let over = victim_above first z w c (told_stays m.tree z.tree s c o.holds) v d.victim in
      let le = ancestor_le z.tree w.state.well.sound.tree.rooted v c.asker (omega arith) (above_ancestor z.tree v c.asker over) in
      let low : v < length m.tree = omega arith in
      o.among (dies_by m y)
      (by_dies m y c v (record {
        over = sym (above_stays m.tree z.tree s y c.asker asker) ∙ d.over;
        pending = pend v low d.pending;
        victim = sym (victim_stays m.tree z.tree s (c ∷ []) v low) ∙ d.victim;
      }))

-- ## Beside a running strand

module _ (first : List ℤ) (m : OpenMachine) (w : IsToldState first m) (x : ℕ) (running : is_running m x ≡ true) where
  abbrev t : List Node
  t = m.tree

  abbrev p : ℕ
  p = place t x

  r : IsRooted t
  r = w.state.well.sound.tree.rooted

  nested : AreNested t (is_open m)
  nested = w.state.well.nested

  -- the block in which it stands is not what falls for another strand that stands
  pub not_its_block : (y : ℕ) → HasOneOpenFork m y → y ≢ x → (c : Conflict) (v : ℕ) → IsTold t c → Dies m y c v → v ≢ p
  not_its_block y st ne c v told d at =
      let tree = w.state.well.sound.tree in
      let here = stands m tree nested x running in
      let x_is = (going m x running).strand in
      let x_alone = (going m x running).alone in
      let asker = told.asker in
      let over_v = above_ancestor t v c.asker (victim_above first m w c told v d.victim) in
      let over_y = above_ancestor t y c.asker d.over in
      let P : ℕ → Type 0 = λ n. is_ancestor t n c.asker ≡ true in
      let over_p = subst P at over_v in
      let y_alone = st.alone in
      let x_over_p : is_ancestor t x p ≡ true = (let Q : ℕ → Type 0 = λ n. is_ancestor t n p ≡ true in subst Q here.strand (strand_over t r p here.there)) in
      elim (cases_lt p y) [
        | inl less ↦
            (let down = ancestor_trans t r x p y (strand_there t y st.strand) x_over_p (ancestor_linear t r p y c.asker asker over_p over_y (omega arith)) in
            let waits_x = stands_waits m tree nested y st x x_is (sym (ancestor_above t x y ne) ∙ down) in
            cc (waits_x, x_alone))
        | inr le ↦
            (let waits_y = over_waits m tree nested x running p y here.there here.strand st.strand (ancestor_linear t r y p c.asker asker over_y over_p le) ne in
            cc (waits_y, y_alone))
      ]

-- ## Dead strands

-- a strand is dying of whose fork, which is not joined, a strand finished dead
pub dead_dies : (first : List ℤ) (m : OpenMachine) → IsBackedState first m → (f y : ℕ) → is_fork m.tree f ≡ true → has m.joined f ≡ false → 0 < y → parent_of m.tree y ≡ f → finished_dead m y ≡ true → is_dying m (strand_of m.tree f) ≡ true
dead_dies first m w f y fork apart some up dead =
    let t = m.tree in
    let tree = w.told.state.well.sound.tree in
    let r = tree.rooted in
    let nested = w.told.state.well.nested in
    let told = w.told.told in
    let low = fork_there t f fork in
    let died = w.backed.died y some dead in
    let P : ℕ → Type 0 = λ g. fell t m.conflicts g g ≡ true in
    let o = one_fell t r m.conflicts told f f (subst P up died.fell) in
    let c = o.one in
    let v = of_fell t f f c o.passes in
    let block = names_block t c v.victim v.named in
    let open_v = open_over m tree nested v.victim f low v.over (unjoined_open m f fork apart) in
    let over = above_down t r (strand_of t f) f c.asker o.holds.asker (sym (ancestor_above t (strand_of t f) f (λ e. absurd (let is = strand_is t tree.root f in cc (is, ap (is_strand t) e, fork_no_strand t f fork)))) ∙ strand_over t r f low) (above_ancestor t f c.asker v.asker) in
    o.among (dies_by m (strand_of t f)) (by_dies m (strand_of t f) c v.victim (record { over = over; pending = open_block m tree nested v.victim block open_v; victim = v.named }))
