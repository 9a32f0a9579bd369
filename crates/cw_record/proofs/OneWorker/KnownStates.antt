-- What one worker knows of the states of its strands: those of the nodes that it drew, where the strand that it runs stands, that all strands
-- off its way are over and all forks off it joined, and what waits at the forks on its way.
use Rattle.std.proofs.Common.{◌≡◌, ◌≢◌, ℕ, ◌<◌, ◌≤◌, List, [], ◌∷◌, length, ap, sym, ◌∙◌, subst, arith, true, false, inl, inr, Some, nat_lt, nat_eq}
use Rattle.std.proofs.lemmas.Bool.{and_parts, cases_lt, eqb-true, ltb-true, false_from_ne_true}
use Rattle.cw_strand.specs.Strands.{Strands, is_over}
use Rattle.cw_tree.specs.declared.node.Node.{Node}
use Rattle.cw_tree.specs.Nodes.{parent_of, is_strand, is_fork}
use Rattle.cw_tree.specs.Walks.{IsRooted, is_ancestor}
use Rattle.cw_tree.specs.Links.{is_child, child_before}
use Rattle.cw_tree.proofs.Walks.Ancestors.{ancestor_self, ancestor_up, ancestor_trans}
use Rattle.cw_tree.proofs.Walks.Children.{last_passes}
use Rattle.cw_tree.proofs.InOrder.DepthFirst.{IsChild}
use Rattle.cw_job.specs.Room.Strands.{StrandState, state_of}
use Rattle.cw_record.specs.declared.worker.Branch.{Branch}
use Rattle.cw_record.specs.declared.worker.Branch.TheVariants.{Left, Right}
use Rattle.cw_record.proofs.Coherent.States.{States, reached, AreStates, IsOver, JoinsAt}
use Rattle.cw_record.proofs.Coherent.KeptStates.{Keeps, reached_same, before_same}

module _ (s : Strands StrandState) where
  -- strand l of fork f has ended in this state, and is not on the way to place p
  pub record HasWaited (t : List Node) (p : ℕ) (x : States StrandState) (f : ℕ) (a : StrandState) : Type 0 where
    pub strand : ℕ
    pub child : IsChild t f strand
    pub off : is_ancestor t strand p ≡ false
    pub ended : a ≡ reached s t x strand

  -- what waits at the forks on the way: a right strand at its start, or a left one at its end
  abbrev pub Waits : List Node → ℕ → States StrandState → List Branch → Type 0
  Waits t p x [] = Unit {0}
  Waits t p x (Left f right ∷ xs) = ((f < length t) × (state_of right ≡ s.right (x.before f))) × Waits t p x xs
  Waits t p x (Right f left ∷ xs) = HasWaited t p x f (state_of left) × Waits t p x xs

  -- Place p is reached in state a, beneath these forks.
  pub record Knows (t : List Node) (p : ℕ) (xs : List Branch) (a : StrandState) (x : States StrandState) : Type 0 where
    pub states : AreStates s t x
    pub here : reached s t x p ≡ a
    pub over : (n : ℕ) → n < length t → is_strand t n ≡ true → is_ancestor t n p ≡ false → IsOver s t x n
    pub joins : (f : ℕ) → f < length t → is_fork t f ≡ true → is_ancestor t f p ≡ false → JoinsAt s t x f
    pub waits : Waits t p x xs

  abbrev pub Known : List Node → ℕ → List Branch → StrandState → Type 0
  Known t p xs a = (x : States StrandState) × Knows t p xs a x

  -- From tree t and place p to tree u and place q, where node o is on the way to q, and what is new is right in it.
  pub record Moves (t u : List Node) (p q o : ℕ) : Type 0 where
    pub rooted : IsRooted u
    pub there : q < length u
    pub on : is_ancestor u o q ≡ true
    pub strands : (n : ℕ) → n < length t → is_strand u n ≡ is_strand t n
    pub away : (n : ℕ) → n < length t → is_ancestor u n q ≡ true → is_ancestor t n p ≡ true
    pub parents : (n : ℕ) → length t ≤ n → n < length u → parent_of u n ≡ o

  module _ (t u : List Node) (x y : States StrandState) (e o : ℕ) (k : Keeps s t u x y e o) (p q : ℕ) (m : Moves t u p q o) where
    not_o : (n : ℕ) → is_ancestor u n q ≡ false → n ≢ o
    not_o n off same = let P : ℕ → Type 0 = λ i. is_ancestor u i q ≡ false in absurd (let no = subst P same off in let yes = m.on in cc (no, yes))

    off_still : (n : ℕ) → n < length t → is_ancestor t n p ≡ false → is_ancestor u n q ≡ false
    off_still n h off = false_from_ne_true (is_ancestor u n q) (λ over. absurd (let yes = m.away n h over in cc (off, yes)))

    same_here : (n : ℕ) → n < length t → is_ancestor u n q ≡ false → reached s u y n ≡ reached s t x n
    same_here n h off = reached_same s t u x y e o k n (k.touched n h (not_o n off))

    pub over_old : (n : ℕ) → n < length t → is_ancestor u n q ≡ false → IsOver s t x n → IsOver s u y n
    over_old n h off old = ap (λ a. is_over (s.want a)) (same_here n h off) ∙ old

    -- where each strand that is new is on the way, too
    pub over_kept : ((n : ℕ) → length t ≤ n → n < length u → is_strand u n ≡ true → is_ancestor u n q ≡ true) → ((n : ℕ) → n < length t → is_strand t n ≡ true → is_ancestor u n q ≡ false → IsOver s t x n)
        → (n : ℕ) → n < length u → is_strand u n ≡ true → is_ancestor u n q ≡ false → IsOver s u y n
    over_kept fresh old n low strand off =
        elim (cases_lt n (length t)) [
          | inl h ↦ over_old n h off (old n h (sym (m.strands n h) ∙ strand) off)
          | inr le ↦ absurd (let on = fresh n le low strand in cc (on, off))
        ]

    -- a child of a node off the way is off the way
    child_off : (f n : ℕ) → 0 < n → n < length u → parent_of u n ≡ f → is_ancestor u f q ≡ false → is_ancestor u n q ≡ false
    child_off f n some low up off =
        false_from_ne_true (is_ancestor u n q) (λ over.
        let P : ℕ → Type 0 = λ i. is_ancestor u f i ≡ true in
        let above : is_ancestor u f n ≡ true = ancestor_up u m.rooted f n some low (subst P (sym up) (ancestor_self u f)) in
        absurd (let yes = ancestor_trans u m.rooted f n q m.there above over in cc (yes, off)))

    pub joins_kept : (f : ℕ) → f < length t → is_ancestor u f q ≡ false → f ≢ e → JoinsAt s t x f → JoinsAt s u y f
    joins_kept f low off ne old l r child before =
        elim (cases_lt r (length t)) [
          | inr le ↦ absurd (not_o f off (sym child.parent ∙ m.parents r le child.there))
          | inl h ↦ (
              let up : parent_of t r ≡ f = sym (k.parents r h) ∙ child.parent in
              let was : child_before t r ≡ Some l = sym (before_same s t u x y e o k r h) ∙ before in
              let z = last_passes (is_child t (parent_of t r)) r l was in
              let first = and_parts (nat_lt 0 l) (nat_eq (parent_of t l) (parent_of t r)) z.1 in
              let less = z.0 in
              let l_low : l < length t = omega arith in
              let l_up : parent_of u l ≡ f = k.parents l l_low ∙ (eqb-true (parent_of t l) (parent_of t r) first.1 ∙ up) in
              let longer = k.longer in
              let l_some : 0 < l = ltb-true 0 l first.0 in
              let l_off = child_off f l l_some (omega arith) l_up off in
              let r_off = child_off f r child.some child.there child.parent off in
              k.after f low ne
              ∙ old l r (record { some = child.some; there = h; parent = up }) was
              ∙ ap (λ a. s.joined a (reached s t x l)) (sym (same_here r h r_off))
              ∙ ap (s.joined (reached s u y r)) (sym (same_here l l_low l_off)))
        ]

    pub waited_kept : (f : ℕ) (a : StrandState) → HasWaited t p x f a → HasWaited u q y f a
    waited_kept f a w =
        let l = w.strand in
        let h = w.child.there in
        let longer = k.longer in
        let off = off_still l h w.off in
        record { strand = l; child = record { some = w.child.some; there = omega arith; parent = k.parents l h ∙ w.child.parent }; off = off; ended = w.ended ∙ sym (same_here l h off) }

    pub waits_kept : (xs : List Branch) → Waits t p x xs → Waits u q y xs
    waits_kept [] w = tt
    waits_kept (Left f right ∷ xs) w = (let longer = k.longer in let low = w.0.0 in ((omega arith, w.0.1 ∙ ap s.right (sym (k.before f low))), waits_kept xs w.1))
    waits_kept (Right f left ∷ xs) w = (waited_kept f (state_of left) w.0, waits_kept xs w.1)
