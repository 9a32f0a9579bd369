-- An act before which nothing is left can be done.
use Rattle.std.proofs.Common.{◌≡◌, ℕ, suc, List, [], ◌∷◌, ◌++◌, refl, ap, sym, ◌∙◌, true, false, Some, inl, inr, subst, append_assoc, append-nil}
use Rattle.std.specs.Prelude.{◌⊎◌}
use Rattle.cw_strand.specs.declared.want.Want.TheVariants as want
use Rattle.cw_strand.specs.Strands.{IsDeep}
use Rattle.cw_tree.specs.declared.picks.Turn.{Turn}
use Rattle.cw_serial.specs.Spots.{turn_to}
use Rattle.cw_serial.specs.StrandTree.{state_at_end, goes_on}
use Rattle.cw_serial.proofs.Deep.{meet_both, ended_stands, goes_over, goes_forking}
use Rattle.cw_replay.proofs.RecordsReplay.Work.Work.{Work, nil, act, split, Has, Before, has_more, Doing, fold, Over, Fits, Way, runs, splits, HasWay, BeforeWay, OnceWay}
use Rattle.cw_replay.proofs.RecordsReplay.Work.Ways.{threads, final, OverWay, FitsWay, Step, here, opens, left, right, closes}

module _ {I A : Type 0} (u : Doing I A) where
  -- the act j can be done, by a strand whose name goes on from q
  pub record Next (q : List Turn) (c : Way I A) (j : I) : Type 0 where
    pub turns : List Turn
    pub state : A
    pub after : Way I A
    pub step : Step u c turns j state after
    pub named : u.name j ≡ q ++ turns
    pub wants : u.law.want state ≡ u.wanted j

  module _ (deep : IsDeep u.law) where
    -- where nothing is left to do, strands that come to their end have ended
    pub over_work : (w : Work I) (k : ℕ) (a : A) → Over u a w → ((i : I) → Has i w → ⊥) → state_at_end u.law (goes_on u.law k a) ≡ Some (fold u a w)
    over_work nil k a o n = (ap (state_at_end u.law) (goes_over u.law k a o) ∙ ended_stands u.law k a o)
    over_work (act i w) k a o n = absurd (n i (inl refl))
    over_work (split l r w) k a o n =
        let x = over_work l 0 (u.law.left a) o.1 (λ i h. n i (inl h)) in
        let y = over_work r 0 (u.law.right a) o.2 (λ i h. n i (inr (inl h))) in
        ap (state_at_end u.law) (goes_forking u.law deep k a o.0 ∙ meet_both u.law (goes_on u.law) (suc k) (goes_on u.law 0 (u.law.left a)) (goes_on u.law 0 (u.law.right a)) _ _ x y)
        ∙ over_work w (suc k) _ o.3 (λ i h. n i (inr (inr h)))

    pub over_way : (c : Way I A) → OverWay u c → ((i : I) → HasWay i c → ⊥) → state_at_end u.law (threads u c) ≡ Some (final u c)
    over_way (runs k a w) o n = over_work w k a o n
    over_way (splits k l r w) o n =
        let x = over_way l o.0 (λ i h. n i (inl h)) in
        let y = over_way r o.1 (λ i h. n i (inr (inl h))) in
        ap (state_at_end u.law) (meet_both u.law (goes_on u.law) k (threads u l) (threads u r) _ _ x y)
        ∙ over_work w k _ o.2 (λ i h. n i (inr (inr h)))

    in_left : (q : List Turn) (k : ℕ) (l r : Way I A) (w : Work I) (j : I) → Next (q ++ turn_to k false ∷ []) l j → Next q (splits k l r w) j
    in_left q k l r w j z = record {
      turns = turn_to k false ∷ z.turns;
      state = z.state;
      after = splits k z.after r w;
      step = left z.step;
      named = z.named ∙ append_assoc q (turn_to k false ∷ []) z.turns;
      wants = z.wants;
    }

    in_right : (q : List Turn) (k : ℕ) (l r : Way I A) (w : Work I) (j : I) → Next (q ++ turn_to k true ∷ []) r j → Next q (splits k l r w) j
    in_right q k l r w j z = record {
      turns = turn_to k true ∷ z.turns;
      state = z.state;
      after = splits k l z.after w;
      step = right z.step;
      named = z.named ∙ append_assoc q (turn_to k true ∷ []) z.turns;
      wants = z.wants;
    }

    beyond : (q : List Turn) (k : ℕ) (l r : Way I A) (w : Work I) (j : I) → OverWay u l × OverWay u r → ((i : I) → HasWay i l ⊎ HasWay i r → ⊥)
        → Next q (runs k (u.law.joined (final u r) (final u l)) w) j → Next q (splits k l r w) j
    beyond q k l r w j o n z = record {
      turns = z.turns;
      state = z.state;
      after = z.after;
      step = closes (over_way l o.0 (λ i h. n i (inl h))) (over_way r o.1 (λ i h. n i (inr h))) n z.step;
      named = z.named;
      wants = z.wants;
    }

    opened : (q : List Turn) (k : ℕ) (a : A) (l r w : Work I) (j : I) → u.law.want a ≡ want.Fork → Next q (splits (suc k) (runs 0 (u.law.left a) l) (runs 0 (u.law.right a) r) w) j → Next q (runs k a (split l r w)) j
    opened q k a l r w j e z = record { turns = z.turns; state = z.state; after = z.after; step = opens e z.step; named = z.named; wants = z.wants }

    pub next_work : (w : Work I) (q : List Turn) (k : ℕ) (a : A) (j : I) → Fits u q k a w → Has j w → ((i : I) → Before i j w → ⊥) → Next q (runs k a w) j
    next_work nil q k a j f h n = absurd h
    next_work (act i w) q k a j f (inl e) n =
        let P : I → Type 0 = λ x. Next q (runs k a (act i w)) x in
        subst P (sym e) (record { turns = []; state = a; after = runs k (u.law.answer a (u.given i)) w; step = here; named = f.1 ∙ sym (append-nil q); wants = f.0 })
    next_work (act i w) q k a j f (inr h) n = absurd (n i (inl (refl, h)))
    next_work (split l r w) q k a j f (inl h) n = opened q k a l r w j f.0 (in_left q (suc k) _ _ w j (next_work l _ 0 (u.law.left a) j f.1 h (λ i g. n i (inl g))))
    next_work (split l r w) q k a j f (inr (inl h)) n = opened q k a l r w j f.0 (in_right q (suc k) _ _ w j (next_work r _ 0 (u.law.right a) j f.2 h (λ i g. n i (inr (inl g)))))
    next_work (split l r w) q k a j f (inr (inr h)) n =
        opened q k a l r w j f.0 (beyond q (suc k) (runs 0 (u.law.left a) l) (runs 0 (u.law.right a) r) w j (f.4 (has_more j w h)) (λ i g. n i (inr (inr (inr (g, h)))))
        (next_work w q (suc k) _ j f.3 h (λ i g. n i (inr (inr (inl g))))))

    pub next_way : (c : Way I A) (q : List Turn) (j : I) → FitsWay u q c → HasWay j c → ((i : I) → BeforeWay i j c → ⊥) → Next q c j
    next_way (runs k a w) q j f h n = next_work w q k a j f h n
    next_way (splits k l r w) q j f (inl h) n = in_left q k l r w j (next_way l _ j f.0 h (λ i g. n i (inl g)))
    next_way (splits k l r w) q j f (inr (inl h)) n = in_right q k l r w j (next_way r _ j f.1 h (λ i g. n i (inr (inl g))))
    next_way (splits k l r w) q j f (inr (inr h)) n =
        beyond q k l r w j (f.3 (has_more j w h)) (λ i g. n i (inr (inr (inr (g, h))))) (next_work w q k _ j f.2 h (λ i g. n i (inr (inr (inl g)))))

  -- what a step leaves was there, and all but its own act stays
  pub has_step : (c d : Way I A) (p : List Turn) (j : I) (b : A) → Step u c p j b d → (i : I) → HasWay i d → HasWay i c
  has_step c d p j b here i h = inr h
  has_step c d p j b (opens e z) i h = has_step _ d p j b z i h
  has_step c d p j b (left {l = l} {m = m} {p = q} z) i (inl h) = inl (has_step l m q j b z i h)
  has_step c d p j b (left z) i (inr h) = inr h
  has_step c d p j b (right z) i (inl h) = inl h
  has_step c d p j b (right {m = m} {r = r} {p = q} z) i (inr (inl h)) = inr (inl (has_step r m q j b z i h))
  has_step c d p j b (right z) i (inr (inr h)) = inr (inr h)
  has_step c d p j b (closes e f n z) i h = inr (inr (has_step _ d p j b z i h))

  pub stays : (c d : Way I A) (p : List Turn) (j : I) (b : A) → Step u c p j b d → (i : I) → HasWay i c → (i ≡ j) ⊎ HasWay i d
  stays c d p j b here i h = h
  stays c d p j b (opens e z) i h = stays _ d p j b z i h
  stays c d p j b (left {l = l} {m = m} {p = q} z) i (inl h) = elim (stays l m q j b z i h) [ inl e ↦ inl e | inr g ↦ inr (inl g) ]
  stays c d p j b (left z) i (inr h) = inr (inr h)
  stays c d p j b (right z) i (inl h) = inr (inl h)
  stays c d p j b (right {m = m} {r = r} {p = q} z) i (inr (inl h)) = elim (stays r m q j b z i h) [ inl e ↦ inl e | inr g ↦ inr (inr (inl g)) ]
  stays c d p j b (right z) i (inr (inr h)) = inr (inr (inr h))
  stays c d p j b (closes e f n z) i (inl h) = absurd (n i (inl h))
  stays c d p j b (closes e f n z) i (inr (inl h)) = absurd (n i (inr h))
  stays c d p j b (closes e f n z) i (inr (inr h)) = stays _ d p j b z i h

  pub before_step : (c d : Way I A) (p : List Turn) (x : I) (b : A) → Step u c p x b d → (i j : I) → BeforeWay i j d → BeforeWay i j c
  before_step c d p x b here i j h = inr h
  before_step c d p x b (opens e z) i j h = before_step _ d p x b z i j h
  before_step c d p x b (left {l = l} {m = m} {p = q} z) i j (inl h) = inl (before_step l m q x b z i j h)
  before_step c d p x b (left z) i j (inr (inl h)) = inr (inl h)
  before_step c d p x b (left z) i j (inr (inr (inl h))) = inr (inr (inl h))
  before_step c d p x b (left {l = l} {m = m} {p = q} z) i j (inr (inr (inr (inl h, g)))) = inr (inr (inr (inl (has_step l m q x b z i h), g)))
  before_step c d p x b (left z) i j (inr (inr (inr (inr h, g)))) = inr (inr (inr (inr h, g)))
  before_step c d p x b (right z) i j (inl h) = inl h
  before_step c d p x b (right {m = m} {r = r} {p = q} z) i j (inr (inl h)) = inr (inl (before_step r m q x b z i j h))
  before_step c d p x b (right z) i j (inr (inr (inl h))) = inr (inr (inl h))
  before_step c d p x b (right z) i j (inr (inr (inr (inl h, g)))) = inr (inr (inr (inl h, g)))
  before_step c d p x b (right {m = m} {r = r} {p = q} z) i j (inr (inr (inr (inr h, g)))) = inr (inr (inr (inr (has_step r m q x b z i h), g)))
  before_step c d p x b (closes e f n z) i j h = inr (inr (inl (before_step _ d p x b z i j h)))

  -- the act of a step was left to do
  pub done_left : (c d : Way I A) (p : List Turn) (j : I) (b : A) → Step u c p j b d → HasWay j c
  done_left c d p j b here = inl refl
  done_left c d p j b (opens e z) = done_left _ d p j b z
  done_left c d p j b (left {l = l} {m = m} {p = q} z) = inl (done_left l m q j b z)
  done_left c d p j b (right {m = m} {r = r} {p = q} z) = inr (inl (done_left r m q j b z))
  done_left c d p j b (closes e f n z) = inr (inr (done_left _ d p j b z))

  -- an act that stands once is gone when it is done
  pub gone : (c d : Way I A) (p : List Turn) (j : I) (b : A) → Step u c p j b d → OnceWay c → HasWay j d → ⊥
  gone c d p j b here o h = o.0 h
  gone c d p j b (opens e z) o h = gone _ d p j b z o h
  gone c d p j b (left {l = l} {m = m} {p = q} z) o (inl h) = gone l m q j b z o.0 h
  gone c d p j b (left {l = l} {m = m} {p = q} z) o (inr (inl h)) = o.3 j (done_left l m q j b z) h
  gone c d p j b (left {l = l} {m = m} {p = q} z) o (inr (inr h)) = o.4 j (inl (done_left l m q j b z)) h
  gone c d p j b (right {m = m} {r = r} {p = q} z) o (inl h) = o.3 j h (done_left r m q j b z)
  gone c d p j b (right {m = m} {r = r} {p = q} z) o (inr (inl h)) = gone r m q j b z o.1 h
  gone c d p j b (right {m = m} {r = r} {p = q} z) o (inr (inr h)) = o.4 j (inr (done_left r m q j b z)) h
  gone c d p j b (closes e f n z) o h = gone _ d p j b z o.2 h

  pub once_step : (c d : Way I A) (p : List Turn) (j : I) (b : A) → Step u c p j b d → OnceWay c → OnceWay d
  once_step c d p j b here o = o.1
  once_step c d p j b (opens e z) o = once_step _ d p j b z o
  once_step c d p j b (left {l = l} {m = m} {p = q} z) o = (once_step l m q j b z o.0, o.1, o.2, (λ i h. o.3 i (has_step l m q j b z i h)), (λ i h g. elim h [ inl x ↦ o.4 i (inl (has_step l m q j b z i x)) g | inr x ↦ o.4 i (inr x) g ]))
  once_step c d p j b (right {m = m} {r = r} {p = q} z) o = (o.0, once_step r m q j b z o.1, o.2, (λ i h g. o.3 i h (has_step r m q j b z i g)), (λ i h g. elim h [ inl x ↦ o.4 i (inl x) g | inr x ↦ o.4 i (inr (has_step r m q j b z i x)) g ]))
  once_step c d p j b (closes e f n z) o = once_step _ d p j b z o.2
