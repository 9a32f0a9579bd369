-- Strands stay inside their blocks, as one of them forks.
use Rattle.std.proofs.Common.{◌≡◌, ◌≢◌, ℕ, zero, suc, ◌+◌, ◌<◌, ◌≤◌, List, [], ◌∷◌, ◌++◌, length, refl, ap, sym, ◌∙◌, subst, arith, true, false, inl, inr, nat_eq, length-append}
use Rattle.std.specs.Prelude.{◌⊎◌, ◌&&◌, ◌||◌, ℤ}
use Rattle.std.proofs.lemmas.Bool.{cases_eq, cases_lt, and_left, and_right, or_from, ne_eqb, false_from_ne_true}
use Rattle.cw_strand.specs.declared.want.Want.TheVariants.{Fork as ForkWant}
use Rattle.cw_strand.specs.Strands.{Strands}
use Rattle.cw_strand.specs.Saving.{Inside, goes_right}
use Rattle.cw_tree.specs.declared.node.Node.{Node}
use Rattle.cw_tree.specs.declared.node.Kind.TheVariants.{Strand, Fork}
use Rattle.cw_tree.specs.Nodes.{passes, number_in, is_fork_kind, is_block_kind, is_pending_state, parent_of, is_strand, is_fork, is_pending, fresh_node}
use Rattle.cw_tree.specs.Walks.{has}
use Rattle.cw_tree.specs.Series.{strand_of, place}
use Rattle.cw_tree.specs.Shape.{IsTree}
use Rattle.cw_tree.specs.NextNodes.{fork_nodes}
use Rattle.cw_tree.proofs.Walks.Ancestors.{above_ancestor, ancestor_le}
use Rattle.cw_tree.proofs.NextNodes.Growing.{get_next, node_grown, length_more}
use Rattle.cw_tree.proofs.Walks.Strands.{strand_of_le, strand_of_other}
use Rattle.cw_tree.proofs.Walks.There.{node_there, strand_there}
use Rattle.cw_open.specs.Machine.{OpenMachine, has_finished, finished_dead, waits, is_running, is_dying}
use Rattle.cw_open.specs.Runs.{at_once}
use Rattle.cw_open.proofs.Refused.Backed.{dead_finished}
use Rattle.cw_open.proofs.Refused.Fell.{any_one}
use Rattle.cw_open.proofs.Open.Growth.{growth_fork}
use Rattle.cw_open.proofs.Laws.ListSteps.{none_new}
use Rattle.cw_open.proofs.Open.Standing.{stands}
use Rattle.cw_open.proofs.Open.Staying.{Stays, grown_stays, strand_stays}
use Rattle.cw_open.proofs.Open.Trees.{stands_well}
use Rattle.cw_open.proofs.Refused.Victims.{IsTold, IsToldState, told_states}
use Rattle.cw_core.specs.declared.event.Event.TheVariants as event
use Rattle.cw_tree.proofs.NodeKinds.{fork_no_strand}
use Rattle.cw_core.specs.State.{CoreState}
use Rattle.cw_core.specs.Events.{after_event, next}
use Rattle.cw_core.specs.Laws.{IsCore}
use Rattle.cw_core.proofs.Events.Places.{waits_grown, waits_for}
use Rattle.cw_sim.specs.Workers.{left_node, right_node, changed_at}
use Rattle.cw_sim.specs.Kept.{CoreGoesOn}
use Rattle.cw_sim.proofs.Kept.Halves.{left_child}
use Rattle.cw_sim.specs.Inside.{HasOneOpenFork, IsRightOf, goes_back, LivesIn, GoesBackIn, AreInside}
use Rattle.cw_sim.proofs.Inside.Dying.{dies_by, died_by}
use Rattle.cw_sim.proofs.Inside.Kept.{changed_here, changed_other, dying_same}
use Rattle.cw_sim.proofs.Inside.Quiet.{right_was, lives_to, back_to}
use Rattle.cw_sim.proofs.Inside.Waits.{going, running_stands}

module _ {A : Type 0} (s : Strands A) (first : List ℤ) (k : CoreState) (on : CoreGoesOn first k) (x : ℕ) (running : is_running k.machine x ≡ true) (core : IsCore first (after_event k (event.Fork x)))
    (at saved there : ℕ → A) (old : AreInside s k.machine at saved there) (free : is_dying k.machine x ≡ false) (wants : s.want (at x) ≡ ForkWant) where
  abbrev m : OpenMachine
  m = k.machine

  abbrev t : List Node
  t = m.tree

  abbrev n : ℕ
  n = length t

  abbrev p : ℕ
  p = place t x

  abbrev xs : List Node
  xs = fork_nodes n p (next k)

  abbrev z : OpenMachine
  z = record m { tree = t ++ xs; clock = Rattle.std.specs.Prelude.max m.clock (next k) }

  abbrev u : List Node
  u = t ++ xs

  told : IsToldState first m
  told = told_states at_once first m on.core.reached

  told_now : IsToldState first z
  told_now = told_states at_once first z core.reached

  tree : IsTree t
  tree = told.state.well.sound.tree

  stays : Stays t u
  stays = grown_stays t u p (next k) tree.rooted (growth_fork t tree p (stands_well m told.state.well x running) (next k))

  len : length u ≡ n + 3
  len = length-append t xs

  x_is : is_strand t x ≡ true
  x_is = (going m x running).strand

  x_low : x < n
  x_low = strand_there t x x_is

  fork_here : is_fork u n ≡ true
  fork_here = ap (passes (λ y. is_fork_kind y.kind)) (get_next t (fresh_node p Fork (next k)) (fresh_node n Strand 0 ∷ fresh_node n Strand 0 ∷ []))

  fork_strand : strand_of u n ≡ x
  fork_strand =
      let here = stands m tree told.state.well.nested x running in
      let some : 0 < n = (let h = x_low in omega arith) in
      let up : parent_of u n ≡ p = ap (number_in (λ y. y.parent)) (get_next t (fresh_node p Fork (next k)) (fresh_node n Strand 0 ∷ fresh_node n Strand 0 ∷ [])) in
      strand_of_other u told_now.state.well.sound.tree.rooted n some (omega (arith, len)) (fork_no_strand u n fork_here) ∙ ap (strand_of u) up ∙ strand_stays t u stays p here.there ∙ here.strand

  x_back : goes_back m x ≡ false
  x_back = or_from (is_dying m x) (finished_dead m x) free (false_from_ne_true (finished_dead m x) (λ e. absurd (let d = dead_finished m x e in let g = (going m x running).unfinished in cc (d, g))))

  -- no other new node is a fork
  fork_old : (f : ℕ) → n ≤ f → f ≢ n → is_fork u f ≡ false
  fork_old f le ne =
      let v = t ++ fresh_node p Fork (next k) ∷ [] in
      let apart : u ≡ v ++ fresh_node n Strand 0 ∷ fresh_node n Strand 0 ∷ [] = sym (Rattle.std.proofs.Common.append_assoc t (fresh_node p Fork (next k) ∷ []) (fresh_node n Strand 0 ∷ fresh_node n Strand 0 ∷ [])) in
      let l : length v ≡ suc n = length_more t (fresh_node p Fork (next k)) in
      ap (λ w. is_fork w f) apart ∙ none_new (λ y. is_fork_kind y.kind) v (fresh_node n Strand 0 ∷ fresh_node n Strand 0 ∷ []) f refl (omega (arith, ne, l))

  -- no block comes
  pub pending_old : (b : ℕ) → is_pending u b ≡ true → (b < n) × (is_pending t b ≡ true)
  pending_old b e = elim (cases_lt b n) [
    | inl low ↦ (low, sym (node_grown t xs (λ y. is_block_kind y.kind && is_pending_state y.state) b low) ∙ e)
    | inr le ↦ absurd (cc (e, none_new (λ y. is_block_kind y.kind && is_pending_state y.state) t xs b refl le))
  ]

  dying_old : (y : ℕ) → is_dying z y ≡ is_dying m y
  dying_old y =
      dying_same first m z told told_now stays (λ b low e. (pending_old b e).1) y
      (λ c b is among d. node_grown t xs (λ y. is_block_kind y.kind && is_pending_state y.state) b (node_there (λ y. is_block_kind y.kind && is_pending_state y.state) t b d.pending) ∙ d.pending) refl

  -- a new strand is not on its way back
  new_lives : (y : ℕ) → n ≤ y → goes_back z y ≡ false
  new_lives y le =
      or_from (is_dying z y) (finished_dead m y)
      (false_from_ne_true (is_dying z y) (λ e. absurd (
      let o = any_one (IsTold t) (dies_by z y) m.conflicts told.told e in
      let (v, d) = died_by z y o.one o.passes in
      let asker = o.holds.asker in
      let up = ancestor_le u told_now.state.well.sound.tree.rooted y o.one.asker (omega (arith, len)) (above_ancestor u y o.one.asker d.over) in
      omega arith)))
      (false_from_ne_true (finished_dead m y) (λ e. absurd (let h = told.state.well.finished y (dead_finished m y e) in omega arith)))

  new_going : (y : ℕ) → n ≤ y → has_finished m y ≡ false
  new_going y le = false_from_ne_true (has_finished m y) (λ e. absurd (let h = told.state.well.finished y e in omega arith))

  -- the strand that forks waits
  x_waits : waits z x ≡ true
  x_waits = waits_for z x n (omega (arith, len)) fork_here fork_strand (false_from_ne_true (has m.joined n) (λ e. absurd (let h = told.state.well.joined n e in omega arith)))

  -- which strands stand
  pub which : (y : ℕ) → HasOneOpenFork z y → ((y < n) × (y ≢ x)) ⊎ ((y ≡ left_node n) ⊎ (y ≡ right_node n))
  which y st = elim (cases_lt y n) [
    | inl low ↦ inl (low, λ e. (let alone = st.alone in let w = x_waits in cc (alone, w, ap (waits z) e)))
    | inr le ↦
        (let there_y = strand_there u y st.strand in
        let other : y ≢ n = λ e. (let strand = st.strand in cc (strand, ap (is_strand u) e, fork_no_strand u n fork_here)) in
        elim (cases_eq y (left_node n)) [ inl e ↦ inr (inl e) | inr ne ↦ inr (inr (omega (arith, len, other, ne))) ])
  ]

  pub was : (y : ℕ) → y < n → y ≢ x → HasOneOpenFork z y → HasOneOpenFork m y
  was y low ne st = record {
    strand = sym (stays.strands y low) ∙ st.strand;
    apart = λ some. ap (has m.joined) (sym (stays.parents y low)) ∙ st.apart some;
    alone = sym (waits_grown t xs tree.rooted m z refl refl refl y (λ f le h. elim (cases_eq f n) [
      | inl q ↦ and_right (is_fork u f) (nat_eq (strand_of u f) y) (ne_eqb (strand_of u f) y (λ e. ne (sym e ∙ ap (strand_of u) q ∙ fork_strand)))
      | inr nf ↦ and_left (is_fork u f) (nat_eq (strand_of u f) y) (fork_old f le nf)
    ])) ∙ st.alone;
  }

  pub back_old : (y : ℕ) → goes_back z y ≡ goes_back m y
  back_old y = ap (λ b. b || finished_dead m y) (dying_old y)

  own_as : (b : ℕ) → is_pending u b ≡ true → strand_of u b ≡ strand_of t b
  own_as b e = strand_stays t u stays b (pending_old b e).0

  own_low : (b : ℕ) → is_pending u b ≡ true → strand_of u b < n
  own_low b e = let low = (pending_old b e).0 in let le = strand_of_le t tree.rooted b low in omega (arith, own_as b e)

  right_as : (y b j : ℕ) → y < n → is_pending u b ≡ true → IsRightOf u j y (strand_of u b) → IsRightOf t j y (strand_of t b)
  right_as y b j low e right = let P : ℕ → Type 0 = λ c. IsRightOf t j y c in subst P (own_as b e) (right_was t u stays j y (strand_of u b) low right)

  -- the left strand comes from none, and the right one from the strand that forks
  left_none : (b j : ℕ) → is_pending u b ≡ true → IsRightOf u j (left_node n) (strand_of u b) → ⊥
  left_none b zero e right = let h = own_low b e in omega arith
  left_none b (suc j) e (g, (fork, (same, rest))) =
      let low : g < n = omega (arith, same) in
      let c = left_child t tree on.forks g (sym (stays.forks g low) ∙ fork) in
      let h = c.there in
      omega (arith, same)

  right_from : (b j : ℕ) → is_pending u b ≡ true → IsRightOf u j (right_node n) (strand_of u b) → (i : ℕ) × ((j ≡ suc i) × IsRightOf t i x (strand_of t b))
  right_from b zero e right = absurd (let h = own_low b e in omega arith)
  right_from b (suc j) e (g, (fork, (same, rest))) =
      let at_n : g ≡ n = omega (arith, same) in
      let P : ℕ → Type 0 = λ c. IsRightOf u j c (strand_of u b) in
      (j, (refl, right_as x b j x_low e (subst P (ap (strand_of u) at_n ∙ fork_strand) rest)))

  -- ## Where they stand

  abbrev l : A
  l = s.left (at x)

  abbrev r : A
  r = s.right (at x)

  abbrev set : (ℕ → A) → ℕ → A
  set f = changed_at (left_node n) l (changed_at (right_node n) r f)

  pub set_old : (f : ℕ → A) (y : ℕ) → y < n → set f y ≡ f y
  set_old f y low = changed_other (left_node n) l (changed_at (right_node n) r f) y (λ e. omega (arith, e, low)) ∙ changed_other (right_node n) r f y (λ e. omega (arith, e, low))

  pub set_left : (f : ℕ → A) → set f (left_node n) ≡ l
  set_left f = changed_here (left_node n) l (changed_at (right_node n) r f)

  pub set_right : (f : ℕ → A) → set f (right_node n) ≡ r
  set_right f = changed_other (left_node n) l (changed_at (right_node n) r f) (right_node n) (λ e. omega (arith, e)) ∙ changed_here (right_node n) r f

  same : (y : ℕ) → HasOneOpenFork z y → goes_back z y ≡ false → set there y ≡ set at y
  same y st e = elim (which y st) [
    | inl (low, ne) ↦ set_old there y low ∙ old.same y (was y low ne st) (sym (back_old y) ∙ e) ∙ sym (set_old at y low)
    | inr side ↦ elim side [
      | inl q ↦ ap (set there) q ∙ set_left there ∙ sym (ap (set at) q ∙ set_left at)
      | inr q ↦ ap (set there) q ∙ set_right there ∙ sym (ap (set at) q ∙ set_right at)
    ]
  ]

  lives : (y b j : ℕ) → HasOneOpenFork z y → goes_back z y ≡ false → is_pending u b ≡ true → IsRightOf u j y (strand_of u b) → LivesIn s (has_finished m y) (saved b) j (set at y)
  lives y b j st e pending right = elim (which y st) [
    | inl (low, ne) ↦
        lives_to s (has_finished m y) (has_finished m y) (saved b) (saved b) j (at y) (set at y) refl refl (set_old at y low)
        (old.lives y b j (was y low ne st) (sym (back_old y) ∙ e) (pending_old b pending).1 (right_as y b j low pending right))
    | inr side ↦ elim side [
      | inl q ↦ absurd (let P : ℕ → Type 0 = λ c. IsRightOf u j c (strand_of u b) in left_none b j pending (subst P q right))
      | inr q ↦
          (let P : ℕ → Type 0 = λ c. IsRightOf u j c (strand_of u b) in
          let (i, (js, from)) = right_from b j pending (subst P q right) in
          let h = old.lives x b i (running_stands m tree told.state.well.nested x running) x_back (pending_old b pending).1 from in
          let Q : ℕ → Type 0 = λ c. LivesIn s (has_finished m y) (saved b) c (set at y) in
          let R : A → Type 0 = λ c. LivesIn s (has_finished m y) (saved b) (suc i) c in
          subst Q (sym js) (subst R (sym (ap (set at) q ∙ set_right at)) (record { inner = h.inner; inside = goes_right h.inside wants; stays = λ done. absurd (let off = new_going y (omega (arith, q)) in cc (done, off)) })))
    ]
  ]

  back : (y b j : ℕ) → HasOneOpenFork z y → goes_back z y ≡ true → is_pending u b ≡ true → IsRightOf u j y (strand_of u b) → GoesBackIn s (saved b) (set there y)
  back y b j st e pending right = elim (which y st) [
    | inl (low, ne) ↦ back_to s (saved b) (saved b) (there y) (set there y) refl (set_old there y low) (old.back y b j (was y low ne st) (sym (back_old y) ∙ e) (pending_old b pending).1 (right_as y b j low pending right))
    | inr side ↦ absurd (let le : n ≤ y = elim side [ inl q ↦ omega (arith, q) | inr q ↦ omega (arith, q) ] in let off = new_lives y le in cc (e, off))
  ]

  blocks : (q b j : ℕ) → is_pending u q ≡ true → is_pending u b ≡ true → IsRightOf u j (strand_of u q) (strand_of u b) → (j ≡ 0 → b < q) → (inner : ℕ) × Inside s (saved b) j inner (saved q)
  blocks q b j pq pb right less =
      let P : ℕ → Type 0 = λ c. IsRightOf t j c (strand_of t b) in
      old.blocks q b j (pending_old q pq).1 (pending_old b pb).1 (subst P (own_as q pq) (right_as (strand_of u q) b j (own_low q pq) pb right)) less

  pub forked : AreInside s z (set at) saved (set there)
  forked = record { same = same; lives = lives; back = back; blocks = blocks; begins = λ b e. old.begins b (pending_old b e).1 }
