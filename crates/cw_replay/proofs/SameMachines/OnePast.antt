-- Strands of two laws that want the same, with one past, and trees of such strands.
use Rattle.std.proofs.Common.{◌≡◌, ℕ, zero, suc, ◌+◌, refl, ap, sym, ◌∙◌, subst, arith, Bool, true, false, cond, List, [], ◌∷◌, Option, Some, None}
use Rattle.std.specs.Prelude.{◌==◌}
use Rattle.cw_strand.specs.declared.want.Want.TheVariants.{Fork}
use Rattle.cw_strand.specs.declared.want.Given.{Given}
use Rattle.cw_strand.specs.Strands.{Strands, IsAnswer, IsDeep, is_over, wants_fork}
use Rattle.cw_strand.specs.Pasts.{Past, answered, left_of, right_of, joined_of, became, CanBe, WantTheSame}
use Rattle.cw_tree.specs.declared.picks.Turn.{Turn}
use Rattle.cw_serial.specs.StrandTree.{StrandTree, stands, waits, side_by, state_at_end, meet, run_on, goes_on, at, put}
use Rattle.cw_serial.proofs.Deep.{fork_want, met, meet_is, same_levels}
use Rattle.cw_replay.specs.SameMachines.{BothOrNeither}

-- ## Both or neither

module _ {X Y : Type 0} (Is : X → Y → Type 0) where
  pub both_some : (o : Option X) (u : Option Y) → BothOrNeither Is o u → (x : X) → o ≡ Some x → (y : Y) × (u ≡ Some y) × Is x y
  both_some None None h x e = absurd cc
  both_some None (Some y) h x e = absurd h
  both_some (Some z) None h x e = absurd h
  both_some (Some z) (Some y) h x e = let same : z ≡ x = cc in (y, refl, subst (λ v. Is v y) same h)

  pub both_chosen : (b : Bool) (o p : Option X) (u v : Option Y) → BothOrNeither Is o u → BothOrNeither Is p v → BothOrNeither Is (cond b o p) (cond b u v)
  both_chosen true o p u v h i = h
  both_chosen false o p u v h i = i

-- ## Strands

module _ {A B : Type 0} (s : Strands A) (t : Strands B) where
  -- both are what one past has made of a strand, and that may have happened
  pub record HaveOnePast (a : A) (b : B) : Type 0 where
    pub past : Past
    pub can : CanBe s past
    pub one : a ≡ became s past
    pub other : b ≡ became t past

  pub answered_so : (a : A) (b : B) (given : Given) → HaveOnePast a b → IsAnswer s.elements (s.want a) given → HaveOnePast (s.answer a given) (t.answer b given)
  answered_so a b given h takes = record {
    past = answered h.past given;
    can = (h.can, subst (λ x. IsAnswer s.elements (s.want x) given) h.one takes);
    one = ap (λ x. s.answer x given) h.one;
    other = ap (λ x. t.answer x given) h.other;
  }

  left_so : (a : A) (b : B) → HaveOnePast a b → s.want a ≡ Fork → HaveOnePast (s.left a) (t.left b)
  left_so a b h w = record { past = left_of h.past; can = (h.can, sym (ap s.want h.one) ∙ w); one = ap s.left h.one; other = ap t.left h.other }

  right_so : (a : A) (b : B) → HaveOnePast a b → s.want a ≡ Fork → HaveOnePast (s.right a) (t.right b)
  right_so a b h w = record { past = right_of h.past; can = (h.can, sym (ap s.want h.one) ∙ w); one = ap s.right h.one; other = ap t.right h.other }

  -- and they are at their ends
  abbrev HaveOneEnd : A → B → Type 0
  HaveOneEnd a b = HaveOnePast a b × (is_over (s.want a) ≡ true)

  can_end : (a : A) (b : B) (h : HaveOneEnd a b) → CanBe s h.0.past × (is_over (s.want (became s h.0.past)) ≡ true)
  can_end a b h = (h.0.can, sym (ap (λ x. is_over (s.want x)) h.0.one) ∙ h.1)

  joined_so : (right left : A) (other_right other_left : B) → HaveOneEnd right other_right → HaveOneEnd left other_left → HaveOnePast (s.joined right left) (t.joined other_right other_left)
  joined_so right left other_right other_left h i = record {
    past = joined_of h.0.past i.0.past;
    can = (can_end right other_right h, can_end left other_left i);
    one = ap (λ x. s.joined x left) h.0.one ∙ ap (s.joined (became s h.0.past)) i.0.one;
    other = ap (λ x. t.joined x other_left) h.0.other ∙ ap (t.joined (became t h.0.past)) i.0.other;
  }

  -- ## Trees of strands

  -- strands stand in the same places, and those of one place have one past
  abbrev pub AreAlike : StrandTree A → StrandTree B → Type 0
  AreAlike (stands k a) (stands j b) = (k ≡ j) × HaveOnePast a b
  AreAlike (waits k l r) (waits j u v) = (k ≡ j) × AreAlike l u × AreAlike r v
  AreAlike x y = ⊥

  alike_chosen : (c : Bool) (x x' : StrandTree A) (y y' : StrandTree B) → AreAlike x y → AreAlike x' y' → AreAlike (cond c x x') (cond c y y')
  alike_chosen true x x' y y' h i = h
  alike_chosen false x x' y y' h i = i

  -- strands with one past go on to trees that are alike
  abbrev GoAlike : (ℕ → A → StrandTree A) → (ℕ → B → StrandTree B) → Type 0
  GoAlike go run = (k : ℕ) (a : A) (b : B) → HaveOnePast a b → AreAlike (go k a) (run k b)

  -- the strands of one name
  pub at_alike : (x : StrandTree A) (y : StrandTree B) → AreAlike x y → (p : List Turn) → BothOrNeither HaveOnePast (at s x p) (at t y p)
  at_alike (stands k a) (stands j b) h [] = h.1
  at_alike (stands k a) (stands j b) h (q ∷ p) = tt
  at_alike (waits k l r) (waits j u v) h [] = tt
  at_alike (waits k l r) (waits j u v) h (q ∷ p) =
      subst (λ i. BothOrNeither HaveOnePast (side_by q k (at s l p) (at s r p) None) (side_by q i (at t u p) (at t v p) None)) h.0
      (both_chosen HaveOnePast (q.fork == k) (cond q.right (at s r p) (at s l p)) None (cond q.right (at t v p) (at t u p)) None
      (both_chosen HaveOnePast q.right (at s r p) (at s l p) (at t v p) (at t u p) (at_alike r v h.2 p) (at_alike l u h.1 p)) tt)
  at_alike (stands k a) (waits j u v) h p = absurd h
  at_alike (waits k l r) (stands j b) h p = absurd h

  module _ (same : WantTheSame s t) where
    pub want_same : (a : A) (b : B) → HaveOnePast a b → s.want a ≡ t.want b
    want_same a b h = ap s.want h.one ∙ same.wants h.past h.can ∙ sym (ap t.want h.other)

    pub ended_alike : (x : StrandTree A) (y : StrandTree B) → AreAlike x y → BothOrNeither HaveOneEnd (state_at_end s x) (state_at_end t y)
    ended_alike (stands k a) (stands j b) h =
        subst (λ w. BothOrNeither HaveOneEnd (cond (is_over (s.want a)) (Some a) None) (cond (is_over w) (Some b) None)) (want_same a b h.1) (by (is_over (s.want a)) refl) where
          by : (c : Bool) → is_over (s.want a) ≡ c → BothOrNeither HaveOneEnd (cond c (Some a) None) (cond c (Some b) None)
          by true e = (h.1, e)
          by false e = tt
    ended_alike (waits k l r) (waits j u v) h = tt
    ended_alike (stands k a) (waits j u v) h = absurd h
    ended_alike (waits k l r) (stands j b) h = absurd h

    -- where the two strands of a fork meet
    module _ (go : ℕ → A → StrandTree A) (run : ℕ → B → StrandTree B) (alike : GoAlike go run) (k : ℕ) (l r : StrandTree A) (u v : StrandTree B) (left : AreAlike l u) (right : AreAlike r v) where
      met_alike : (o q : Option A) (o' q' : Option B) → BothOrNeither HaveOneEnd o o' → BothOrNeither HaveOneEnd q q' → AreAlike (met s go k l r o q) (met t run k u v o' q')
      met_alike None q None q' h i = (refl, left, right)
      met_alike (Some x) None (Some y) None h i = (refl, left, right)
      met_alike (Some x) (Some x') (Some y) (Some y') h i = alike k (s.joined x' x) (t.joined y' y) (joined_so x' x y' y i h)
      met_alike (Some x) None (Some y) (Some y') h i = absurd i
      met_alike (Some x) (Some x') (Some y) None h i = absurd i
      met_alike None q (Some y) q' h i = absurd h
      met_alike (Some x) q None q' h i = absurd h

      meet_alike : AreAlike (meet s go k l r) (meet t run k u v)
      meet_alike =
          subst (λ x. AreAlike x (meet t run k u v)) (sym (meet_is s go k l r))
          (subst (λ y. AreAlike (met s go k l r (state_at_end s l) (state_at_end s r)) y) (sym (meet_is t run k u v))
          (met_alike (state_at_end s l) (state_at_end s r) (state_at_end t u) (state_at_end t v) (ended_alike l u left) (ended_alike r v right)))

    -- one level of forks more
    level_alike : (n : ℕ) → GoAlike (run_on s n) (run_on t n) → GoAlike (run_on s (suc n)) (run_on t (suc n))
    level_alike n more k a b h =
        subst (λ w. AreAlike (run_on s (suc n) k a) (elim (wants_fork w) [ false ↦ stands k b | true ↦ meet t (run_on t n) (suc k) (run_on t n 0 (t.left b)) (run_on t n 0 (t.right b)) ])) (want_same a b h)
        (by (wants_fork (s.want a)) refl) where
          by : (c : Bool) → wants_fork (s.want a) ≡ c
              → AreAlike (elim c [ false ↦ stands k a | true ↦ meet s (run_on s n) (suc k) (run_on s n 0 (s.left a)) (run_on s n 0 (s.right a)) ])
              (elim c [ false ↦ stands k b | true ↦ meet t (run_on t n) (suc k) (run_on t n 0 (t.left b)) (run_on t n 0 (t.right b)) ])
          by false e = (refl, h)
          by true e =
              let w = fork_want (s.want a) e in
              meet_alike (run_on s n) (run_on t n) more (suc k) (run_on s n 0 (s.left a)) (run_on s n 0 (s.right a)) (run_on t n 0 (t.left b)) (run_on t n 0 (t.right b))
              (more 0 (s.left a) (t.left b) (left_so a b h w)) (more 0 (s.right a) (t.right b) (right_so a b h w))

    levels_alike : (n : ℕ) → GoAlike (run_on s n) (run_on t n)
    levels_alike zero k a b h = (refl, h)
    levels_alike (suc n) k a b h = level_alike n (levels_alike n) k a b h

    module _ (deep : IsDeep s) (other_deep : IsDeep t) where
      -- all levels
      pub goes_alike : GoAlike (goes_on s) (goes_on t)
      goes_alike k a b h =
          let n = s.depth a + t.depth b in
          subst (λ x. AreAlike x (goes_on t k b)) (same_levels s deep n (s.depth a) k a (omega arith) (omega arith))
          (subst (λ y. AreAlike (run_on s n k a) y) (same_levels t other_deep n (t.depth b) k b (omega arith) (omega arith)) (levels_alike n k a b h))

      -- strands of one name are answered
      pub put_alike : (x : StrandTree A) (y : StrandTree B) → AreAlike x y → (p : List Turn) (a : A) (b : B) → HaveOnePast a b → AreAlike (put s x p a) (put t y p b)
      put_alike (stands k c) (stands j d) h p a b one = subst (λ i. AreAlike (goes_on s k a) (goes_on t i b)) h.0 (goes_alike k a b one)
      put_alike (waits k l r) (waits j u v) h [] a b one = h
      put_alike (waits k l r) (waits j u v) h (q ∷ p) a b one =
          let left = alike_chosen q.right l (put s l p a) u (put t u p b) h.1 (put_alike l u h.1 p a b one) in
          let right = alike_chosen q.right (put s r p a) r (put t v p b) v (put_alike r v h.2 p a b one) h.2 in
          subst (λ i. AreAlike (put s (waits k l r) (q ∷ p) a) (put t (waits i u v) (q ∷ p) b)) h.0
          (meet_alike (goes_on s) (goes_on t) goes_alike k (cond q.right l (put s l p a)) (cond q.right (put s r p a) r) (cond q.right u (put t u p b)) (cond q.right (put t v p b) v) left right)
      put_alike (stands k c) (waits j u v) h p a b one = absurd h
      put_alike (waits k l r) (stands j d) h p a b one = absurd h
