-- What a strand learned of an access stays so, as others step.
use Rattle.std.proofs.Common.{◌≡◌, ℕ, ◌<◌, List, [], ◌∷◌, ◌++◌, length, refl, ap, sym, ◌∙◌, arith, Bool, true, false, cond, Some, None, inl, inr, length-append}
use Rattle.std.specs.Prelude.{◌&&◌, not}
use Rattle.std.specs.List.{find}
use Rattle.std.proofs.lemmas.Bool.{and_parts, and_from, not-true, false_from_ne_true}
use Rattle.cw_tree.specs.declared.node.Node.{Node}
use Rattle.cw_tree.specs.declared.node.BlockState.{BlockState}
use Rattle.cw_tree.specs.declared.node.BlockState.TheVariants.{Committed, Aborted}
use Rattle.cw_tree.specs.Nodes.{is_strand_kind, is_fork_kind, is_block_kind, is_pending_state, touches_kind, stamp_of, is_block, is_pending, touches, closed}
use Rattle.cw_tree.specs.Walks.{IsRooted, above, is_ancestor, is_above}
use Rattle.cw_tree.specs.Series.{place, parallel}
use Rattle.cw_tree.specs.AccessStacks.{access_at}
use Rattle.cw_tree.proofs.Lists.{In}
use Rattle.cw_tree.proofs.NodeKinds.{pending_block}
use Rattle.cw_tree.proofs.Walks.There.{node_there}
use Rattle.cw_tree.proofs.Walks.Kin.{in_above}
use Rattle.cw_tree.proofs.Walks.Ancestors.{above_ancestor, ancestor_le}
use Rattle.cw_tree.proofs.NextNodes.Growing.{node_grown, number_grown}
use Rattle.cw_tree.proofs.NextNodes.Closing.{node_closed}
use Rattle.cw_tree.proofs.NextNodes.Pending.{pending_closed}
use Rattle.cw_tree.proofs.NextNodes.Kept.{above_kept}
use Rattle.cw_open.specs.Machine.{OpenMachine}
use Rattle.cw_open.specs.Steps.{Step, forks, begins, accesses, refuses, outputs, cancels, commits, undoes, aborts, finishes, joins, stops, after_open_step}
use Rattle.cw_open.specs.Runs.{at_any_time}
use Rattle.cw_open.specs.Judged.{AccessesStay, FreeStay, WithinStay, BarredArePart, BarredAreMet}
use Rattle.cw_open.proofs.Open.Staying.{Stays, closed_stays, keeps, ancestor_stays}
use Rattle.cw_open.proofs.Open.Trees.{stands_well}
use Rattle.cw_open.proofs.Laws.Named.{access_named}
use Rattle.cw_open.proofs.Refused.Told.{are_parallel}
use Rattle.cw_open.proofs.Refused.Victims.{told_states}
use Rattle.cw_open.proofs.Runs.States.{states, state_after}
use Rattle.cw_open.proofs.Hands.Around.{kept_at, same_place_after}

-- ## Searches

find_none : (p q : ℕ → Bool) (ns : List ℕ) → find p ns ≡ None → ((n : ℕ) → In n ns → p n ≡ false → q n ≡ false) → find q ns ≡ None
find_none p q [] e f = refl
find_none p q (n ∷ ns) e f = by (p n) refl e (λ g. find_none p q ns g (λ m i. f m (inr i))) where
  by : (x : Bool) → p n ≡ x → cond x (Some n) (find p ns) ≡ None → (find p ns ≡ None → find q ns ≡ None) → find q (n ∷ ns) ≡ None
  by true is g more = absurd (cc g)
  by false is g more = ap (λ y. cond y (Some n) (find q ns)) (f n (inl refl) is) ∙ more g

find_some : (p q : ℕ → Bool) (ns : List ℕ) (b : ℕ) → find p ns ≡ Some b → ((n : ℕ) → In n ns → p n ≡ false → q n ≡ false) → q b ≡ true → find q ns ≡ Some b
find_some p q [] b e f k = absurd (cc e)
find_some p q (n ∷ ns) b e f k = by (p n) refl e (λ g. find_some p q ns b g (λ m i. f m (inr i)) k) where
  by : (x : Bool) → p n ≡ x → cond x (Some n) (find p ns) ≡ Some b → (find p ns ≡ Some b → find q ns ≡ Some b) → find q (n ∷ ns) ≡ Some b
  by true is g more = let same : n ≡ b = cc g in ap (λ y. cond y (Some n) (find q ns)) (ap q same ∙ k) ∙ ap Some same
  by false is g more = ap (λ y. cond y (Some n) (find q ns)) (f n (inl refl) is) ∙ more g

-- ## Each step

-- the nodes of tree t are in tree u what they were, and none is pending that was not
pub record IsStill (t u : List Node) : Type 0 where
  pub stays : Stays t u
  pub touched : (c n : ℕ) → n < length t → touches u c n ≡ touches t c n
  pub pending : (n : ℕ) → n < length t → is_pending t n ≡ false → is_pending u n ≡ false

still_grown : (t xs : List Node) → IsRooted t → IsStill t (t ++ xs)
still_grown t xs r = record {
  stays = record {
    longer = omega (arith, length-append t xs);
    rooted = r;
    parents = number_grown t xs (λ y. y.parent);
    stamps = number_grown t xs (λ y. y.stamp);
    strands = node_grown t xs (λ y. is_strand_kind y.kind);
    forks = node_grown t xs (λ y. is_fork_kind y.kind);
    blocks = node_grown t xs (λ y. is_block_kind y.kind);
  };
  touched = λ c n h. node_grown t xs (λ y. touches_kind c y.kind) n h;
  pending = λ n h e. node_grown t xs (λ y. is_block_kind y.kind && is_pending_state y.state) n h ∙ e;
}

still_closed : (t : List Node) → IsRooted t → (p : ℕ) (state : BlockState) (end : ℕ) → is_pending_state state ≡ false → IsStill t (closed t p state end)
still_closed t r p state end done = record {
  stays = closed_stays t r p state end;
  touched = λ c n h. node_closed t p state end (λ y. touches_kind c y.kind) (λ y. refl) n;
  pending = λ n h e. false_from_ne_true (is_pending (closed t p state end) n) (λ q. absurd (cc (e, (pending_closed t p state end done n q).1)));
}

still_same : (t : List Node) → IsRooted t → IsStill t t
still_same t r = record {
  stays = record { longer = omega arith; rooted = r; parents = λ n h. refl; stamps = λ n h. refl; strands = λ n h. refl; forks = λ n h. refl; blocks = λ n h. refl };
  touched = λ c n h. refl;
  pending = λ n h e. e;
}

pub still_after : (m : OpenMachine) → IsRooted m.tree → (e : Step) → IsStill m.tree (after_open_step m e).tree
still_after m r (forks s stamp) = still_grown m.tree _ r
still_after m r (begins s stamp) = still_grown m.tree _ r
still_after m r (accesses s c w stamp) = still_grown m.tree _ r
still_after m r (refuses s c w met) = still_grown m.tree _ r
still_after m r (outputs s v stamp) = still_grown m.tree _ r
still_after m r (cancels s stamp) = still_grown m.tree _ r
still_after m r (commits s stamp) = still_closed m.tree r (place m.tree s) Committed stamp refl
still_after m r (undoes s c) = still_same m.tree r
still_after m r (aborts s stamp) = still_closed m.tree r (place m.tree s) Aborted stamp refl
still_after m r (finishes s dead) = still_same m.tree r
still_after m r (joins f) = still_same m.tree r
still_after m r (stops s) = still_same m.tree r

pub accesses_stay : AccessesStay
accesses_stay asked first m reached e a c n touched =
    let state = states (at_any_time asked) first m reached in
    let still = still_after m state.well.sound.tree.rooted e in
    let h : n < length m.tree = node_there (λ y. touches_kind c y.kind) m.tree n touched in
    let now = still.touched c n h ∙ touched in
    let later = state_after (at_any_time asked) first m e state a in
    record {
      touches = now;
      stamp = still.stays.stamps n h;
      named = ap (access_at (after_open_step m e).tree) (sym (still.stays.stamps n h)) ∙ access_named (after_open_step m e).tree later.well.sound.stamps c n now;
    }

-- a node above another of tree t is one of them
there_above : (t : List Node) → IsRooted t → (n : ℕ) → n < length t → (b : ℕ) → In b (above t n) → b < length t
there_above t r n h b i = let le = ancestor_le t r b n h (above_ancestor t b n (in_above t b n i)) in omega arith

pub free_stay : FreeStay
free_stay asked first m reached e a n h none =
    let r = (states (at_any_time asked) first m reached).well.sound.tree.rooted in
    let still = still_after m r e in
    let u = (after_open_step m e).tree in
    ap (find (is_pending u)) (above_kept m.tree u (keeps m.tree u still.stays) n h)
    ∙ find_none (is_pending m.tree) (is_pending u) (above m.tree n) none (λ b i q. still.pending b (there_above m.tree r n h b i) q)

-- ## Steps of others

pub within_stay : WithinStay
within_stay asked first m reached e a s running o n b h near over =
    let rules = at_any_time asked in
    let told = told_states rules first m reached in
    let well = told.state.well in
    let r = well.sound.tree.rooted in
    let still = still_after m r e in
    let u = (after_open_step m e).tree in
    let at = stands_well m well s running in
    let low = at.there in
    let kept = kept_at rules first m told e a s running o b over in
    let pending_now = nearest_pending (is_pending m.tree) (above m.tree n) b near in
    let still_pending : is_pending u b ≡ true = ap (Rattle.cw_tree.specs.Nodes.passes (λ y. is_block_kind y.kind && is_pending_state y.state)) kept.node ∙ pending_now in (
      ap (find (is_pending u)) (above_kept m.tree u (keeps m.tree u still.stays) n h)
          ∙ find_some (is_pending m.tree) (is_pending u) (above m.tree n) b near (λ c i q. still.pending c (there_above m.tree r n h c i) q) still_pending,
      ap (is_ancestor u b) (same_place_after rules first m told e a s running o) ∙ ancestor_stays m.tree u still.stays b (place m.tree s) low ∙ over,
    ) where
      nearest_pending : (p : ℕ → Bool) (ns : List ℕ) (b : ℕ) → find p ns ≡ Some b → p b ≡ true
      nearest_pending p [] b q = absurd (cc q)
      nearest_pending p (x ∷ ns) b q = by (p x) refl q (nearest_pending p ns b) where
        by : (y : Bool) → p x ≡ y → cond y (Some x) (find p ns) ≡ Some b → (find p ns ≡ Some b → p b ≡ true) → p b ≡ true
        by true is g more = let same : x ≡ b = cc g in sym (ap p same) ∙ is
        by false is g more = more g

-- ## What bars an access

pub barred_part : BarredArePart
barred_part asked first m reached s c n b running touched barred =
    let well = (states (at_any_time asked) first m reached).well in
    let z = and_parts (is_pending m.tree b && is_above m.tree b n) (not (is_ancestor m.tree b (place m.tree s))) barred in
    let y = and_parts (is_pending m.tree b) (is_above m.tree b n) z.0 in
    are_parallel m.tree well.sound c n b (place m.tree s) touched y.0 y.1 (stands_well m well s running) (not-true (is_ancestor m.tree b (place m.tree s)) z.1)

pub barred_met : BarredAreMet
barred_met asked first m reached times s c n b running touched barred =
    let t = m.tree in
    let p = place t s in
    let well = (states (at_any_time asked) first m reached).well in
    let named : access_at t (stamp_of t n) ≡ n = access_named t well.sound.stamps c n touched in
    let z = and_parts (is_pending t b && is_above t b n) (not (is_ancestor t b p)) barred in
    let y = and_parts (is_pending t b) (is_above t b n) z.0 in
    let block : is_block t b ≡ true = pending_block t b y.0 in (
      record {
        last = (ap (touches t c) named ∙ touched, ap (stamp_of t) named);
        parallel = ap (λ x. parallel t x p) named ∙ barred_part asked first m reached s c n b running touched barred;
        block = (b, and_from (is_block t b && is_above t b (access_at t (stamp_of t n))) (not (is_ancestor t b p)) (and_from (is_block t b) (is_above t b (access_at t (stamp_of t n))) block (ap (is_above t b) named ∙ y.1)) z.1, refl);
      },
      (b, block, refl, inl y.0),
    )
