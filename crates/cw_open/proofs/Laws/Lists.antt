-- Each step keeps of the lists of live accesses what is true of them.
use Rattle.std.proofs.Common.{◌≡◌, ℕ, zero, suc, ◌<◌, List, [], ◌∷◌, ◌++◌, length, refl, ap, sym, ◌∙◌, subst, arith, Bool, true, false, inl, inr, nat_eq, nat_lt}
use Rattle.std.specs.Prelude.{◌&&◌, ◌||◌, not, max, slice_set}
use Rattle.std.specs.List.{list_any, list_all}
use Rattle.std.proofs.lemmas.Bool.{and_parts, and_right, cases_eq, cases_lt, not-true, not_from_true, or_from, or_parts, or_right, ltb-true}
use Rattle.std.proofs.lemmas.List.Elements.{All-nil, All-cons}
use Rattle.cw_tree.specs.declared.node.Node.{Node}
use Rattle.cw_tree.specs.declared.conflict.Conflict.{Conflict}
use Rattle.cw_tree.specs.declared.node.Kind.{Kind}
use Rattle.cw_tree.specs.declared.node.Kind.TheVariants.{Block, Out, Tried, Cancel}
use Rattle.cw_tree.specs.declared.node.BlockState.{BlockState}
use Rattle.cw_tree.specs.declared.node.BlockState.TheVariants.{Committed, Aborted}
use Rattle.cw_tree.specs.Nodes.{is_block_kind, is_pending_state, is_strand, is_fork, is_pending, stamp_of, fresh_node, closed}
use Rattle.cw_tree.specs.Walks.{has, is_ancestor, is_above}
use Rattle.cw_tree.specs.Series.{strand_of, place}
use Rattle.cw_tree.specs.AccessStacks.{access_kind, access_at}
use Rattle.cw_tree.specs.NextNodes.{fork_nodes}
use Rattle.cw_tree.proofs.Lists.{In, all_in}
use Rattle.cw_tree.proofs.Walks.There.{node_there}
use Rattle.cw_tree.proofs.Walks.Ancestors.{ancestor_above}
use Rattle.cw_tree.proofs.NextNodes.Growing.{length_more, is_above_grown}
use Rattle.cw_tree.proofs.NextNodes.Closing.{length_closed, is_above_closed}
use Rattle.cw_tree.proofs.NextNodes.Pending.{end_of_place}
use Rattle.cw_open.specs.Machine.{OpenMachine, live, live_value, has_finished, is_running, in_block, is_dying, is_free, leads_back, rolls_back}
use Rattle.cw_open.specs.Steps.{Step, forks, begins, accesses, refuses, outputs, cancels, commits, undoes, aborts, finishes, joins, stops, puts_back, refusal, after_open_step}
use Rattle.cw_open.specs.Runs.{Rules, Allowed, is_undone}
use Rattle.cw_open.specs.Open.{is_open}
use Rattle.cw_open.proofs.Open.Standing.{stands, place_open, shut_beneath}
use Rattle.cw_open.proofs.Open.Growth.{IsGrowth, growth_leaf, growth_fork}
use Rattle.cw_open.proofs.Open.Staying.{came_beneath}
use Rattle.cw_open.proofs.Open.Trees.{IsWell, open_more, open_closed, shut, stands_well}
use Rattle.cw_open.proofs.Open.TreeSteps.{free_runs, rolls_runs, place_pending}
use Rattle.cw_open.proofs.Refused.Falling.{IsGone, StayShut, back_dies}
use Rattle.cw_open.proofs.Laws.Named.{access_named}
use Rattle.cw_open.proofs.Laws.Listing.{AreListed, listed, with_parts}
use Rattle.cw_open.proofs.Laws.ListSteps.{quiet_grown, quiet_more, access_listed}
use Rattle.cw_open.proofs.Laws.ListCloses.{committed_listed, aborted_listed, undone_listed, same_listed}

-- a list whose stamp is live has it
in_listed : (ls : List (List ℕ)) (p : ℕ → Bool) (c s : ℕ) → list_all (list_all p) ls ≡ true → In s (listed ls c) → p s ≡ true
in_listed [] p c s e i = absurd i
in_listed (l ∷ ls) p zero s e i = all_in p s l (and_parts (list_all p l) (list_all (list_all p) ls) e).0 i
in_listed (l ∷ ls) p (suc c) s e i = in_listed ls p c s (and_parts (list_all p l) (list_all (list_all p) ls) e).1 i

module _ (m : OpenMachine) (w : IsWell m) (s : ℕ) (running : is_running m s ≡ true) where
  abbrev p : ℕ
  p = place m.tree s

  same_strand : strand_of m.tree p ≡ s
  same_strand = (stands m w.sound.tree w.nested s running).strand

  free_no_back : is_dying m s ≡ false → leads_back m (strand_of m.tree p) p ≡ true → ⊥
  free_no_back lives e = let P : ℕ → Type 0 = λ s. leads_back m s p ≡ true in absurd (cc (lives, back_dies m s p (subst P same_strand e)))

  pub rolls : rolls_back m s ≡ true → leads_back m (strand_of m.tree p) p ≡ true
  rolls e =
      let P : ℕ → Type 0 = λ s. leads_back m s p ≡ true in
      subst P (sym same_strand) (and_parts (is_running m s && in_block m s) (leads_back m s p) e).1

  -- what comes at the place of a free strand comes in nothing that is undone
  module _ (lives : is_dying m s ≡ false) where
    pub none_around : (n : ℕ) (g : IsGone m n) → is_ancestor m.tree g.block p ≡ true → ⊥
    none_around n g over =
        elim (cases_eq p g.block) [
          | inl q ↦ (let P : ℕ → Type 0 = λ b. leads_back m (strand_of m.tree b) b ≡ true in free_no_back lives (subst P (sym q) g.back))
          | inr ne ↦ absurd
              (cc (place_open m w.sound.tree w.nested s running, g.shut p (stands_well m w s running).there (sym (ancestor_above m.tree g.block p ne) ∙ over)))
        ]

    pub still_grown : (xs : List Node) (stamp : ℕ) → IsGrowth m.tree (m.tree ++ xs) p stamp → (ls : List (List ℕ)) (clock : ℕ) (cs : List Conflict)
        → StayShut m (with_parts m (m.tree ++ xs) ls clock cs m.finished m.joined m.stopped)
    still_grown xs stamp growth ls clock cs n g k h over =
        let t = m.tree in
        let r = w.sound.tree.rooted in
        let there : p < length t = (stands_well m w s running).there in
        let low : g.block < length t = node_there (λ y. is_block_kind y.kind && is_pending_state y.state) t g.block g.pending in
        elim (cases_lt k (length t)) [
          | inl old ↦ open_more m xs k old ∙ g.shut k old (sym (is_above_grown t xs r g.block k old) ∙ over)
          | inr new ↦ absurd (none_around n g (came_beneath t (t ++ xs) p stamp r there growth g.block k low new h over))
        ]

    pub still_leaf : (kind : Kind) (stamp : ℕ) (ls : List (List ℕ)) (clock : ℕ) (cs : List Conflict)
        → StayShut m (with_parts m (m.tree ++ fresh_node p kind stamp ∷ []) ls clock cs m.finished m.joined m.stopped)
    still_leaf kind stamp =
        still_grown (fresh_node p kind stamp ∷ []) stamp
        (growth_leaf m.tree w.sound.tree.rooted p (end_of_place m.tree p (stands_well m w s running)) kind stamp)

  -- a block that is closed was open
  pub still_closed : (state : BlockState) (end : ℕ) → is_pending_state state ≡ false → is_pending m.tree p ≡ true → (clock : ℕ)
      → StayShut m (with_parts m (closed m.tree p state end) m.lists clock m.conflicts m.finished m.joined m.stopped)
  still_closed state end done pending clock n g k h over =
      let t = m.tree in
      let low : k < length t = omega (arith, length_closed t p state end) in
      elim (cases_eq k p) [
        | inl q ↦ ap (is_open (record m { tree = closed t p state end })) q ∙ shut m w s running state end done pending
        | inr ne ↦ open_closed m w s running state end done pending k ne
            ∙ g.shut k low (sym (is_above_closed t p state end w.sound.tree.rooted g.block k low) ∙ over)
      ]

-- what finishes, and what is joined, is open no more
pub still_finished : (m : OpenMachine) (finished : List (ℕ × Bool)) (joined stopped : List ℕ)
    → ((n : ℕ) → has_finished m n ≡ true → list_any (λ f. nat_eq f.0 n) finished ≡ true) → ((n : ℕ) → has m.joined n ≡ true → has joined n ≡ true)
    → StayShut m (with_parts m m.tree m.lists m.clock m.conflicts finished joined stopped)
still_finished m finished joined stopped f j n g k h over =
    let z = or_parts (is_strand m.tree k && not (has_finished m k) || is_fork m.tree k && not (has m.joined k)) (is_pending m.tree k) (g.shut k h over) in
    let y = or_parts (is_strand m.tree k && not (has_finished m k)) (is_fork m.tree k && not (has m.joined k)) z.0 in
    or_from (is_strand m.tree k && not (list_any (λ f. nat_eq f.0 k) finished) || is_fork m.tree k && not (has joined k)) (is_pending m.tree k)
    (or_from (is_strand m.tree k && not (list_any (λ f. nat_eq f.0 k) finished)) (is_fork m.tree k && not (has joined k))
    (fewer (is_strand m.tree k) (has_finished m k) (list_any (λ f. nat_eq f.0 k) finished) (f k) y.0)
    (fewer (is_fork m.tree k) (has m.joined k) (has joined k) (j k) y.1))
    z.1 where
      fewer : (a b c : Bool) → (b ≡ true → c ≡ true) → (a && not b) ≡ false → (a && not c) ≡ false
      fewer a true c g e = and_right a (not c) (not_from_true c (g refl))
      fewer true false c g e = absurd (cc e)
      fewer false false c g e = refl

-- the strand of what is free is not dying
pub free_lives : (m : OpenMachine) (s : ℕ) → is_free m s ≡ true → is_dying m s ≡ false
free_lives m s e = not-true (is_dying m s) (and_parts (is_running m s) (not (is_dying m s)) e).1

pub listed_after : (r : Rules) (m : OpenMachine) (e : Step) → IsWell m → AreListed m → Allowed r m e → AreListed (after_open_step m e)
listed_after r m (forks s stamp) w a n =
    let running = free_runs m s n.0 in
    quiet_grown m w.sound.tree.rooted a _ _ m.finished m.joined m.stopped (λ c. refl) refl
    (still_grown m w s running (free_lives m s n.0) (fork_nodes (length m.tree) (place m.tree s) stamp) stamp
    (growth_fork m.tree w.sound.tree (place m.tree s) (stands_well m w s running) stamp) m.lists (max m.clock stamp) m.conflicts)
listed_after r m (begins s stamp) w a n =
    quiet_grown m w.sound.tree.rooted a _ _ m.finished m.joined m.stopped (λ c. refl) refl
    (still_leaf m w s (free_runs m s n.0) (free_lives m s n.0) Block stamp m.lists (max m.clock stamp) m.conflicts)
listed_after r m (accesses s c write stamp) w a n =
    let z = and_parts (is_free m s && nat_lt c (length m.lists)) _ n.0 in
    let y = and_parts (is_free m s) (nat_lt c (length m.lists)) z.0 in
    access_listed m w.sound.tree.rooted a (place m.tree s) c stamp write (live_value m c) (stands_well m w s (free_runs m s y.0)) (ltb-true c (length m.lists) y.1) n.1 n.2.listed _ m.finished m.joined m.stopped
    (still_leaf m w s (free_runs m s y.0) (free_lives m s y.0) (access_kind c write (live_value m c)) stamp (slice_set m.lists c (live m c ++ stamp ∷ []))
    (max m.clock stamp) m.conflicts)
listed_after r m (refuses s c write met) w a n =
    quiet_more m w.sound.tree.rooted a (fresh_node (place m.tree s) (Tried c) 0 ∷ []) m.clock m.finished m.joined m.stopped (λ d. refl) refl (m.conflicts ++ refusal m (place m.tree s) c met ∷ []) (refusal m (place m.tree s) c met ∷ []) refl
    (All-cons (λ x. x.asker < length (m.tree ++ fresh_node (place m.tree s) (Tried c) 0 ∷ [])) (refusal m (place m.tree s) c met) [] (omega (arith, length_more m.tree (fresh_node (place m.tree s) (Tried c) 0)))
    (All-nil (λ x. x.asker < length (m.tree ++ fresh_node (place m.tree s) (Tried c) 0 ∷ []))))
    (still_leaf m w s (free_runs m s (and_parts (is_free m s) (nat_lt c (length m.lists)) n.0).0)
    (free_lives m s (and_parts (is_free m s) (nat_lt c (length m.lists)) n.0).0) (Tried c) 0 m.lists m.clock
    (m.conflicts ++ refusal m (place m.tree s) c met ∷ []))
listed_after r m (outputs s v stamp) w a n =
    quiet_grown m w.sound.tree.rooted a _ _ m.finished m.joined m.stopped (λ c. refl) refl
    (still_leaf m w s (free_runs m s n.0) (free_lives m s n.0) (Out v) stamp m.lists (max m.clock stamp) m.conflicts)
listed_after r m (cancels s stamp) w a n =
    let free = (and_parts (is_free m s) (in_block m s) n.0).0 in
    quiet_grown m w.sound.tree.rooted a _ _ m.finished m.joined m.stopped (λ c. refl) refl
    (still_leaf m w s (free_runs m s free) (free_lives m s free) (Cancel (puts_back m s stamp)) stamp m.lists (max m.clock stamp) m.conflicts)
listed_after r m (commits s stamp) w a n =
    let z = and_parts (is_free m s && in_block m s) _ n.0 in
    let y = and_parts (is_free m s) (in_block m s) z.0 in
    let running = free_runs m s y.0 in
    committed_listed m w.sound.tree.rooted a (place m.tree s) (stands_well m w s running)
    (place_pending m w s running y.1) Committed stamp _ m.finished m.joined m.stopped
    (still_closed m w s running Committed stamp refl (place_pending m w s running y.1) (max m.clock stamp)) refl
    (free_no_back m w s running (free_lives m s y.0))
listed_after r m (undoes s c) w a n =
    let z = and_parts (rolls_back m s) _ n in
    let y = rolls_runs m s z.0 in
    undone_listed m w.sound.stamps a (place m.tree s) c m.clock (ltb-true c (length m.lists) z.1) (place_pending m w s y.running y.within) (rolls m w s y.running z.0)
    (shut_beneath m w.sound.tree w.nested s y.running)
listed_after r m (aborts s stamp) w a n =
    let z = and_parts (rolls_back m s) (is_undone m (place m.tree s)) n.0 in
    let y = rolls_runs m s z.0 in
    aborted_listed m w.sound.tree.rooted a (place m.tree s) (stands_well m w s y.running)
    (place_pending m w s y.running y.within) Aborted stamp _ m.finished m.joined m.stopped
    (still_closed m w s y.running Aborted stamp refl (place_pending m w s y.running y.within) (max m.clock stamp)) refl
    (λ c k e i.
    let off = not-true _ (in_listed m.lists (λ u. not (is_above m.tree (place m.tree s) (access_at m.tree u))) c (stamp_of m.tree k) z.1 i) in
    ap (is_above m.tree (place m.tree s)) (sym (access_named m.tree w.sound.stamps c k e)) ∙ off)
listed_after r m (finishes s dead) w a n =
    same_listed m m.clock ((s, dead) ∷ m.finished) m.joined m.stopped
    (still_finished m ((s, dead) ∷ m.finished) m.joined m.stopped (λ k e. or_right (nat_eq s k) (has_finished m k) e) (λ k e. e)) a
listed_after r m (joins f) w a n =
    same_listed m m.clock m.finished (f ∷ m.joined) m.stopped
    (still_finished m m.finished (f ∷ m.joined) m.stopped (λ k e. e) (λ k e. or_right (nat_eq f k) (has m.joined k) e)) a
listed_after r m (stops s) w a n =
    same_listed m m.clock m.finished m.joined (s ∷ m.stopped) (still_finished m m.finished m.joined (s ∷ m.stopped) (λ k e. e) (λ k e. e)) a
