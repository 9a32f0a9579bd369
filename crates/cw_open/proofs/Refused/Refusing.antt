-- The conflict of an access that is refused is a recorded one.
use Rattle.std.proofs.Common.{◌≡◌, ℕ, suc, ◌<◌, List, [], ◌∷◌, ◌++◌, length, refl, ap, sym, ◌∙◌, subst, arith, true, false, cond, Option, Some, None, inl, inr, nat_eq}
use Rattle.std.specs.Prelude.{◌⊎◌, ◌&&◌, not, unwrap_or, option_map, ℤ}
use Rattle.std.specs.Option.{option_map_or}
use Rattle.std.proofs.lemmas.Bool.{and_parts, and_from, or_from, not-true, not_from_false, cases_lt, cases_Bool, eq-eqb, ne_eqb, false_from_ne_true}
use Rattle.std.proofs.lemmas.List.Elements.{All-weaker}
use Rattle.cw_tree.specs.declared.node.Node.{Node}
use Rattle.cw_tree.specs.declared.node.Kind.TheVariants.{Tried}
use Rattle.cw_tree.specs.declared.conflict.Conflict.{Conflict}
use Rattle.cw_tree.specs.Nodes.{is_fork_kind, is_block_kind, is_pending_state, tries_kind, touches_kind, stamp_of, end_of, is_fork, is_block, is_pending, fresh_node}
use Rattle.cw_tree.specs.Walks.{IsRooted, has, path, lca, is_ancestor, is_above, outermost, may_fall}
use Rattle.cw_tree.specs.Series.{parallel, is_before, place}
use Rattle.cw_tree.specs.Attempts.{attempt_of}
use Rattle.cw_tree.specs.Accesses.{HasAccess}
use Rattle.cw_tree.specs.AccessStacks.{access_at}
use Rattle.cw_tree.specs.VictimsAt.{victim_at}
use Rattle.cw_tree.specs.Refusals.{outermost_apart, victim_of, IsRefusal}
use Rattle.cw_tree.specs.NextNodes.{IsPlace, is_before_at}
use Rattle.cw_tree.proofs.Walks.There.{node_there}
use Rattle.cw_tree.proofs.Walks.Kin.{in_ancestor}
use Rattle.cw_tree.proofs.Walks.Ancestors.{ancestor_le, ancestor_past}
use Rattle.cw_tree.proofs.Walks.Meets.{lca_right, lca_is_meet}
use Rattle.cw_tree.proofs.NextNodes.Kept.{find_path_kept}
use Rattle.cw_tree.proofs.NextNodes.Growing.{length_more, node_grown, node_new, number_grown, number_new, ancestor_grown, is_above_grown, above_new, ancestor_new, keeps_grown, rooted_more}
use Rattle.cw_tree.proofs.NextNodes.Before.{new_before_at}
use Rattle.cw_tree.proofs.NextNodes.Pending.{end_of_place}
use Rattle.cw_tree.proofs.NodeKinds.{pending_block, block_stamped}
use Rattle.cw_open.specs.Machine.{OpenMachine, is_running}
use Rattle.cw_open.specs.Steps.{Met, refuses, refusal}
use Rattle.cw_open.specs.Runs.{IsMet}
use Rattle.cw_open.specs.Times.{times_after, IsMetInTime, ClosedLater}
use Rattle.cw_open.specs.Refused.{IsNewest}
use Rattle.cw_open.proofs.Open.Growth.{IsGrowth, growth_leaf}
use Rattle.cw_open.proofs.Refused.Attempted.{outermost_agrees}
use Rattle.cw_open.proofs.Open.Trees.{IsWell, stands_well}
use Rattle.cw_open.proofs.Refused.Victims.{outermost_in}
use Rattle.cw_open.proofs.Refused.Onward.{AreTimes, IsKept}
use Rattle.cw_open.proofs.Refused.OnwardSteps.{before_grown, pending_grown, times_same, times_new}

module _ (m : OpenMachine) (w : IsWell m) (s : ℕ) (running : is_running m s ≡ true) (c : ℕ) (write : Option ℤ) (met : Met) (told : IsMet m.tree (place m.tree s) c met) (newest : IsNewest m.tree c met) (times : ℕ → ℕ) (in_time : IsMetInTime times m.tree (place m.tree s) met)
    (are : AreTimes times m.clock m.tree) where
  abbrev t : List Node
  t = m.tree

  abbrev p : ℕ
  p = place t s

  abbrev x : Node
  x = fresh_node p (Tried c) 0

  abbrev u : List Node
  u = t ++ x ∷ []

  abbrev v : ℕ
  v = length t

  abbrev a : ℕ
  a = access_at t met.last

  abbrev d : Conflict
  d = refusal m p c met

  r : IsRooted t
  r = w.sound.tree.rooted

  at : IsPlace t p
  at = stands_well m w s running

  more : IsRooted u
  more = rooted_more t x r at.there

  len : length u ≡ suc (length t)
  len = length_more t x

  growth : IsGrowth t u p 0
  growth = growth_leaf t r p (end_of_place t p at) (Tried c) 0

  low_a : a < length t
  low_a = node_there (λ y. touches_kind c y.kind) t a told.last.0

  -- ## Parallel

  asked : parallel t a p ≡ true
  asked = told.parallel

  lca_same : is_fork u (lca u a v) ≡ is_fork t (lca t a p)
  lca_same =
      let there = at.there in
      let low = low_a in
      let up : lca u a v ≡ lca u a p = lca_right u more a v (omega (arith, len)) (omega (arith, len)) low_a ∙ ap (lca u a) (number_new t x (λ y. y.parent)) in
      let one : lca u a p ≡ lca t a p = ap (λ o. unwrap_or o 0) (find_path_kept t u (keeps_grown t (x ∷ []) r) (λ n. is_ancestor u n p) (λ n. is_ancestor t n p) (λ n h. ancestor_grown t (x ∷ []) r n p at.there) a low_a) in
      let le = ancestor_le t r (lca t a p) a low_a (lca_is_meet t r a p low_a at.there).left in
      ap (is_fork u) (up ∙ one) ∙ node_grown t (x ∷ []) (λ y. is_fork_kind y.kind) (lca t a p) (omega (arith, low_a))

  is_parallel : parallel u a v ≡ true
  is_parallel =
      let z = and_parts (not (is_ancestor t a p) && not (is_ancestor t p a)) (is_fork t (lca t a p)) asked in
      let y = and_parts (not (is_ancestor t a p)) (not (is_ancestor t p a)) z.0 in
      let low = low_a in
      and_from (not (is_ancestor u a v) && not (is_ancestor u v a)) (is_fork u (lca u a v))
      (and_from (not (is_ancestor u a v)) (not (is_ancestor u v a))
      (not_from_false (is_ancestor u a v) (ancestor_new t x r at.there a ∙ or_from (nat_eq v a) (is_ancestor t a p) (ne_eqb v a (λ q. omega arith)) (not-true (is_ancestor t a p) y.0)))
      (not_from_false (is_ancestor u v a) (ancestor_past u more v a (omega (arith, len)) low_a)))
      (lca_same ∙ z.1)

  -- ## The block

  abbrev b : ℕ
  b = told.block.0

  is_over : ((is_block t b && is_above t b a) ≡ true) × (not (is_ancestor t b p) ≡ true)
  is_over = and_parts (is_block t b && is_above t b a) (not (is_ancestor t b p)) told.block.1

  block_b : is_block t b ≡ true
  block_b = (and_parts (is_block t b) (is_above t b a) is_over.0).0

  low_b : b < length t
  low_b = node_there (λ y. is_block_kind y.kind) t b block_b

  above_is : (n : ℕ) → is_above u n v ≡ is_ancestor t n p
  above_is n = ap (λ ns. has ns n) (above_new t x r at.there)

  is_apart : (is_block u b && is_above u b a && not (is_above u b v)) ≡ true
  is_apart =
      ap (λ k. k && is_above u b a && not (is_above u b v)) (node_grown t (x ∷ []) (λ y. is_block_kind y.kind) b low_b)
      ∙ ap (λ k. is_block t b && k && not (is_above u b v)) (is_above_grown t (x ∷ []) r b a low_a)
      ∙ ap (λ k. is_block t b && is_above t b a && not k) (above_is b)
      ∙ told.block.1

  -- ## The victim

  outermost_is : outermost_apart u a v ≡ victim_at t a p
  outermost_is =
      ap (outermost (λ n. is_block u n && not (is_above u n a))) (above_new t x r at.there)
      ∙ outermost_agrees (λ n. is_block u n && not (is_above u n a)) (may_fall t a) (path t p)
      (λ n i.
      let over = in_ancestor t n p i in
      let le = ancestor_le t r n p at.there over in
      let there = at.there in
      ap (λ k. k && not (is_above u n a)) (node_grown t (x ∷ []) (λ y. is_block_kind y.kind) n (omega arith) ∙ same_pending n over (cases_Bool (is_block t n)))
      ∙ ap (λ k. is_pending t n && not k) (is_above_grown t (x ∷ []) r n a low_a)) where
        same_pending : (n : ℕ) → is_ancestor t n p ≡ true → (is_block t n ≡ true) ⊎ (is_block t n ≡ false) → is_block t n ≡ is_pending t n
        same_pending n over (inl e) = e ∙ sym (at.around n (and_from (is_block t n) (is_ancestor t n p) e over))
        same_pending n over (inr e) = e ∙ sym (false_from_ne_true (is_pending t n) (λ q. absurd (cc (e, pending_block t n q))))

  victim_is : victim_of d ≡ option_map (stamp_of u) (outermost_apart u a v)
  victim_is = by (victim_at t a p) refl ∙ ap (option_map (stamp_of u)) (sym outermost_is) where
    by : (o : Option ℕ) → victim_at t a p ≡ o → cond (nat_eq (option_map_or (stamp_of t) o 0) 0) None (Some (option_map_or (stamp_of t) o 0)) ≡ option_map (stamp_of u) o
    by None e = refl
    by (Some n) e =
        let z = outermost_in (may_fall t a) (path t p) n e in
        let pending = (and_parts (is_pending t n) (not (is_above t n a)) z.1).0 in
        let low = node_there (λ y. is_block_kind y.kind && is_pending_state y.state) t n pending in
        let some = block_stamped t w.sound.stamps n (pending_block t n pending) in
        ap (λ k. cond k None (Some (stamp_of t n))) (ne_eqb (stamp_of t n) 0 (λ q. omega arith))
        ∙ ap Some (sym (number_grown t (x ∷ []) (λ y. y.stamp) n low))

  -- ## Its moment

  old_before : (n : ℕ) → n < length u → is_before u n v ≡ true → (n < length t) × (is_before_at t n p ≡ true)
  old_before n h e = elim (cases_lt n (length t)) [
    | inr new ↦ absurd (cc (e, growth.apart n v new h (omega arith) (omega (arith, len))))
    | inl old ↦ (old, new_before_at t x r at.there n old e)
  ]

  -- the same block
  same_block : in_time.0 ≡ b
  same_block =
      let (n, is, stamped, z) = in_time in
      w.sound.stamps.distinct n b (node_there (λ y. is_block_kind y.kind) t n is) low_b (block_stamped t w.sound.stamps n is) (stamped ∙ sym told.block.2)

  in_time_b : (is_pending t b ≡ true) ⊎ ClosedLater times t p b
  in_time_b = let P : ℕ → Type 0 = λ n. (is_pending t n ≡ true) ⊎ ClosedLater times t p n in subst P same_block in_time.3

  end_same : (n : ℕ) → n < length t → end_of u n ≡ end_of t n
  end_same = number_grown t (x ∷ []) (λ y. y.end)

  stamp_same : (n : ℕ) → n < length t → stamp_of u n ≡ stamp_of t n
  stamp_same = number_grown t (x ∷ []) (λ y. y.stamp)

  -- what is after the block was there, and so the block was closed
  after_block : (k : ℕ) → k < length u → is_before u b k ≡ true → 0 < stamp_of u k → (k < length t) × ClosedLater times t p b × (times b < stamp_of u k)
  after_block k h e some = elim (cases_lt k (length t)) [
    | inr new ↦ absurd (let q : k ≡ length t = omega (arith, len) in omega (arith, ap (stamp_of u) q, number_new t x (λ y. y.stamp)))
    | inl old ↦
        (let before = sym (before_grown t u p 0 r growth b k low_b old) ∙ e in
        let later = are.later b k low_b old before (omega (arith, stamp_same k old)) in
        elim in_time_b [
          | inl pending ↦ absurd (cc (before, w.sound.pending_last.last b k low_b old pending))
          | inr closed ↦ (old, closed, omega (arith, later, stamp_same k old))
        ])
  ]

  around_old : (n : ℕ) → (is_block u n && is_above u n v) ≡ true → (n < length t) × ((is_block t n && is_ancestor t n p) ≡ true)
  around_old n e =
      let z = and_parts (is_block u n) (is_above u n v) e in
      let over = sym (above_is n) ∙ z.1 in
      let le = ancestor_le t r n p at.there over in
      let there = at.there in
      let h : n < length t = omega arith in
      (h, and_from (is_block t n) (is_ancestor t n p) (sym (node_grown t (x ∷ []) (λ y. is_block_kind y.kind) n h) ∙ z.0) over)

  is_refusal : IsRefusal u d a b
  is_refusal = record {
    last = (node_grown t (x ∷ []) (λ y. touches_kind c y.kind) a low_a ∙ told.last.0, stamp_same a low_a ∙ told.last.1);
    asker = node_new t x (λ y. tries_kind c y.kind) ∙ eq-eqb c c refl;
    parallel = is_parallel;
    block = (is_apart, stamp_same b low_b ∙ told.block.2);
    victim = victim_is;
    attempt = ap (attempt_of u v) (sym outermost_is);
    chain_len = newest.len;
    chain_rises = newest.rises;
    chain_accesses = All-weaker (HasAccess t c) (HasAccess u c)
        (λ y (n, e, f). let h = node_there (λ z. touches_kind c z.kind) t n e in (n, node_grown t (x ∷ []) (λ z. touches_kind c z.kind) n h ∙ e, stamp_same n h ∙ f)) met.chain newest.accesses;
    chain_last = newest.last;
    before_after_block = λ n k hn hk e f some.
        (let (old, was) = old_before n hn e in
        let (low, closed, less) = after_block k hk f some in
        let z = closed.before n old was in
        (omega (arith, z.0, less, stamp_same n old), omega (arith, z.1, less, end_same n old)));
    begun_after_block = λ n k hn hk e f some.
        (let (old, was) = around_old n e in
        let (low, closed, less) = after_block k hk f some in
        omega (arith, closed.around n was, less, stamp_same n old));
    last_after_asker = λ k hk e some. elim (cases_lt k (length t)) [
      | inl old ↦ absurd (cc (e, growth.first v k (omega arith) (omega (arith, len)) old))
      | inr new ↦ absurd (cc (e, growth.apart v k (omega arith) (omega (arith, len)) new hk))
    ];
  }

  abbrev after : ℕ → ℕ
  after = times_after times m (refuses s c write met)

  pub kept_new : IsKept after u d
  kept_new = record {
    access = a;
    block = b;
    refusal = is_refusal;
    met = elim in_time_b [
      | inl pending ↦ inl (pending_grown t u p 0 r growth b low_b ∙ pending)
      | inr closed ↦
          (let same = times_same times m (refuses s c write met) b low_b (sym (pending_grown t u p 0 r growth b low_b)) in
          inr (record {
            before = λ n h e. (let (old, was) = old_before n h e in let z = closed.before n old was in (omega (arith, z.0, same, stamp_same n old), omega (arith, z.1, same, end_same n old)));
            around = λ n e. (let (old, was) = around_old n e in omega (arith, closed.around n was, same, stamp_same n old));
          }))
    ];
    last = (let low = (w.clock a low_a).0 in omega (arith, told.last.1, times_new times m (refuses s c write met) v (omega arith)));
  }
