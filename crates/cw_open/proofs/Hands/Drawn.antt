-- A number that was drawn early stays what it was drawn for, as others step.
use Rattle.std.proofs.Common.{◌≡◌, ◌≢◌, ℕ, ◌<◌, ◌≤◌, List, length, ap, sym, ◌∙◌, subst, arith, true, false, inl, inr}
use Rattle.std.specs.Prelude.{◌⊎◌, ◌&&◌, ℤ, Option}
use Rattle.std.proofs.lemmas.Bool.{and_parts, and_from, or_cases, cases_lt, false_from_ne_true, or_right, or_left}
use Rattle.cw_tree.specs.declared.node.Node.{Node}
use Rattle.cw_tree.specs.Nodes.{passes, number_in, is_block_kind, is_pending_state, end_of, is_block, is_pending}
use Rattle.cw_tree.specs.Walks.{is_ancestor, is_above}
use Rattle.cw_tree.specs.Series.{place, is_before}
use Rattle.cw_tree.specs.NextNodes.{is_before_at, IsFresh, IsNextStamp, IsEndStamp}
use Rattle.cw_tree.proofs.Walks.Ancestors.{above_ancestor, ancestor_le, ancestor_trans}
use Rattle.cw_open.specs.Machine.{OpenMachine, is_running}
use Rattle.cw_open.specs.Steps.{Step, after_open_step}
use Rattle.cw_open.specs.Runs.{Allowed, at_any_time}
use Rattle.cw_open.specs.Times.{times_after, IsDrawn}
use Rattle.cw_open.specs.Hands.{is_step_of, brought, NextStampsStay, DrawnStay, EndStampsStay}
use Rattle.cw_open.proofs.Open.Staying.{above_stays, ancestor_stays}
use Rattle.cw_open.proofs.Open.Standing.{stands}
use Rattle.cw_open.proofs.Refused.OnwardSteps.{times_same}
use Rattle.cw_open.proofs.Refused.Victims.{IsToldState, told_states, over_place}
use Rattle.cw_open.proofs.Hands.Beside.{IsBeside, beside}
use Rattle.cw_open.proofs.Hands.Alone.{place_stays}

module _ (t u : List Node) (s p number : ℕ) (b : IsBeside t u s p number) (low : p < length t) (own : is_ancestor t s p ≡ true) where
  -- what comes, and what is closed, is not beneath the place
  new_not_beneath : (n : ℕ) → length t ≤ n → n < length u → is_above u p n ≡ false
  new_not_beneath n le h =
      false_from_ne_true (is_above u p n) (λ e.
      absurd (cc ((b.new n le h).outside, ancestor_trans u b.rooted s p n h (ancestor_stays t u b.stays s p low ∙ own) (above_ancestor u p n e))))

  -- an old node with its end, if it is not one that was closed
  same_end : (n : ℕ) → n < length t → (is_ancestor t s n ≡ true) ⊎ (is_before t n p ≡ true) → (end_of u n ≡ end_of t n) × (is_pending t n ≡ is_pending u n)
  same_end n h w = elim (b.old n h) [
    | inl e ↦ (ap (number_in (λ y. y.end)) e, sym (ap (passes (λ y. is_block_kind y.kind && is_pending_state y.state)) e))
    | inr z ↦ elim w [ inl q ↦ absurd (cc (q, z.outside)) | inr q ↦ absurd (cc (q, z.later)) ]
  ]

  -- what is beneath the place was
  pub record WasBeneath (n : ℕ) : Type 0 where
    pub there : n < length t
    pub beneath : is_above t p n ≡ true
    pub end : end_of u n ≡ end_of t n
    pub pending : is_pending t n ≡ is_pending u n

  pub was_beneath : (n : ℕ) → n < length u → is_above u p n ≡ true → WasBeneath n
  was_beneath n h e = elim (cases_lt n (length t)) [
    | inr le ↦ absurd (cc (e, new_not_beneath n le h))
    | inl old ↦ (
        let was = sym (above_stays t u b.stays p n old) ∙ e in
        let z = same_end n old (inl (ancestor_trans t b.stays.rooted s p n old own (above_ancestor t p n was))) in
        record { there = old; beneath = was; end = z.0; pending = z.1 })
  ]

  -- what is before the next node there was
  pub record WasBefore (n : ℕ) : Type 0 where
    pub there : n < length t
    pub before : is_before_at t n p ≡ true
    pub end : end_of u n ≡ end_of t n
    pub pending : is_pending t n ≡ is_pending u n

  pub was_before : (n : ℕ) → n < length u → is_before_at u n p ≡ true → WasBefore n
  was_before n h e = elim (or_cases (is_above u p n) (is_before u n p) e) [
    | inl q ↦ (let z = was_beneath n h q in record { there = z.there; before = or_left (is_above t p n) (is_before t n p) z.beneath; end = z.end; pending = z.pending })
    | inr q ↦ elim (cases_lt n (length t)) [
      | inr le ↦ absurd (cc (q, (b.new n le h).later))
      | inl old ↦ (
          let was = sym (b.before n p old low) ∙ q in
          let z = same_end n old (inr was) in
          record { there = old; before = or_right (is_above t p n) (is_before t n p) was; end = z.0; pending = z.1 })
    ]
  ]

  module _ (x : ℕ) (some : 0 < x) (ne : number ≢ x) where
    fresh_stays : IsFresh t x → IsFresh u x
    fresh_stays w n h = elim (cases_lt n (length t)) [
      | inr le ↦ (
          let z = b.new n le h in
          (λ e. elim z.stamp [ inl q ↦ omega (arith, q, e) | inr q ↦ ne (sym q ∙ e) ], λ e. (let q = z.end in omega (arith, q, e))))
      | inl old ↦ (
        λ e. (w n old).0 (sym (b.stays.stamps n old) ∙ e),
        λ e. elim (b.old n old) [ inl q ↦ (w n old).1 (sym (ap (number_in (λ y. y.end)) q) ∙ e) | inr z ↦ ne (sym z.end ∙ e) ],
      )
    ]

  pub next_stays : (x : ℕ) → number ≢ x → IsNextStamp t p x → IsNextStamp u p x
  next_stays x ne w = record {
    some = w.some;
    fresh = fresh_stays x w.some ne w.fresh;
    series = λ n h e.
        (let z = was_before n h e in
        let y = w.series n z.there z.before in (omega (arith, y.0, b.stays.stamps n z.there), omega (arith, y.1, z.end)));
    begun = λ a h e.
        (let z = and_parts (is_block u a) (is_ancestor u a p) e in
        let le : a ≤ p = ancestor_le u b.rooted a p (let l = b.stays.longer in omega arith) z.1 in
        let old : a < length t = omega arith in
        let y = w.begun a old (and_from (is_block t a) (is_ancestor t a p) (sym (b.stays.blocks a old) ∙ z.0) (sym (ancestor_stays t u b.stays a p low) ∙ z.1)) in
        omega (arith, y, b.stays.stamps a old));
  }

  pub end_stays : (x : ℕ) → number ≢ x → IsEndStamp t p x → IsEndStamp u p x
  end_stays x ne w = record {
    fresh = fresh_stays x (let y = w.begun in omega arith) ne w.fresh;
    begun = (let y = w.begun in omega (arith, b.stays.stamps p low));
    beneath = λ n h e.
        (let z = was_beneath n h e in
        let y = w.beneath n z.there z.beneath in (omega (arith, y.0, b.stays.stamps n z.there), omega (arith, y.1, z.end)));
  }

-- ## The laws

module _ (asked : List Node → List ℕ → Option ℤ → List ℕ) (first : List ℤ) (m : OpenMachine) (w : IsToldState first m) (e : Step)
    (a : Allowed (at_any_time asked) m e) (s : ℕ) (running : is_running m s ≡ true) (o : is_step_of s e ≡ false) where
  abbrev t : List Node
  t = m.tree

  abbrev u : List Node
  u = (after_open_step m e).tree

  b : IsBeside t u s (place t s) (brought e)
  b = beside first m w s running (at_any_time asked) e o a

  low : place t s < length t
  low = (stands m w.state.well.sound.tree w.state.well.nested s running).there

  own : is_ancestor t s (place t s) ≡ true
  own = over_place first m w s running

  same : place u s ≡ place t s
  same = place_stays t u s (place t s) (brought e) b

  next_then : (x : ℕ) → brought e ≢ x → IsNextStamp t (place t s) x → IsNextStamp u (place u s) x
  next_then x ne h = let P : ℕ → Type 0 = λ p. IsNextStamp u p x in subst P (sym same) (next_stays t u s (place t s) (brought e) b low own x ne h)

  end_then : (x : ℕ) → brought e ≢ x → IsEndStamp t (place t s) x → IsEndStamp u (place u s) x
  end_then x ne h = let P : ℕ → Type 0 = λ p. IsEndStamp u p x in subst P (sym same) (end_stays t u s (place t s) (brought e) b low own x ne h)

  drawn_then : (times : ℕ → ℕ) (x : ℕ) → IsDrawn times t (place t s) x → IsDrawn (times_after times m e) u (place u s) x
  drawn_then times x h =
      let P : ℕ → Type 0 = λ p. IsDrawn (times_after times m e) u p x in
      subst P (sym same) (λ n l q.
      let z = was_before t u s (place t s) (brought e) b low own n l q in omega (arith, h n z.there z.before, times_same times m e n z.there z.pending))

pub next_stamps_stay : NextStampsStay
next_stamps_stay asked first m reached e a s running o = next_then asked first m (told_states (at_any_time asked) first m reached) e a s running o

pub end_stamps_stay : EndStampsStay
end_stamps_stay asked first m reached e a s running o = end_then asked first m (told_states (at_any_time asked) first m reached) e a s running o

pub drawn_stay : DrawnStay
drawn_stay asked first m reached e a s running o = drawn_then asked first m (told_states (at_any_time asked) first m reached) e a s running o
