-- The walk outward from a fork to the fork that has to be split before it.
use Rattle.std.proofs.Common.{◌≡◌, ◌≢◌, ℕ, zero, suc, ◌+◌, ◌<◌, ◌≤◌, List, refl, ap, sym, ◌∙◌, arith, Bool, true, false, Some, None, nat_eq, inl, inr, subst, eq-eqb, eqb-true}
use Rattle.std.specs.Prelude.{◌⊎◌, ◌%◌, ◌&&◌, not, slice_index, if◌then◌else◌}
use Rattle.std.proofs.lemmas.Bool.{cases_eq}
use Rattle.cw_trace.specs.Columns.{ColumnTable, used, owner, left_column_of}
use Rattle.cw_tree.specs.Walks.{has}
use Rattle.cw_trace.specs.Stands.{is_apart}
use Rattle.cw_trace.specs.Segments.{IsOpen, IsTrace, Segments, outward, next_outward}
use Rattle.cw_trace.proofs.Segments.Lines.{left_of_odd, left_of_is_odd, is_split, apart_parts, made, first, split_off, forked, own_trace, open_after, open_pos, forked_after}

module _ (c : ColumnTable) (cuts joins : List ℕ) (pend : ℕ → Bool) (col : ℕ → ℕ) (g : Segments c cuts joins pend col) where
  -- column p's trace goes on past the fork s by its right strand
  abbrev pub Past : ℕ → Type 0
  Past s = (i : ℕ) × (0 < i) × (i < used c) × (slice_index c.parents i ≡ s + 1)

  is_even : (n : ℕ) → nat_eq (n % 2) 1 ≡ false → n % 2 ≡ 0
  is_even n e = elim (cases_eq (n % 2) 1) [ inl q ↦ absurd (cc (eq-eqb (n % 2) 1 q, e)) | inr q ↦ omega (arith, q) ]

  even_left : (n : ℕ) → 0 < n → n % 2 ≡ 0 → n ≡ left_column_of n + 1
  even_left n p e = omega arith

  -- where the walk from column p finds nothing, an open fork s of its trace that stands outward of p was taken back
  walk : (t s : ℕ) → IsTrace c cuts joins t → IsOpen c joins t s → (k p : ℕ) → p < k → p < used c → owner c p ≡ t → s ≤ p → (0 < p → has joins (left_column_of p) ≡ false) → outward cuts c.parents k p ≡ None → (p ≡ s + 1) ⊎ Past s
  walk t s tr o zero p l h e le u w = absurd (omega arith)
  walk t s tr o (suc k) zero l h e le u w = absurd (omega (arith, open_pos c cuts joins pend col g t s o))
  walk t s tr o (suc k) (suc n) l h e le u w =
      by_cut (λ q a b x y z v. walk t s tr o k q a b x y z v) (has cuts (left_column_of (suc n))) (nat_eq (suc n % 2) 1) refl refl w where
        p : ℕ
        p = suc n

        unapart : is_apart cuts joins p ≡ true → ⊥
        unapart a = absurd (omega (arith, g.apart p (omega arith) h a, e, open_after c cuts joins pend col g t s o, le))

        on : ((q : ℕ) → q < k → q < used c → owner c q ≡ t → s ≤ q → (0 < q → has joins (left_column_of q) ≡ false) → outward cuts c.parents k q ≡ None → (q ≡ s + 1) ⊎ Past s)
            → p ≢ s + 1 → p % 2 ≡ 0 → outward cuts c.parents k (slice_index c.parents p) ≡ None → (p ≡ s + 1) ⊎ Past s
        on more ne even v = elim (made c cuts joins pend col g p h) [
          | first z ↦ absurd (omega (arith, z))
          | split_off z a q ↦ absurd (unapart a)
          | forked z a low q ↦ (
              let half : p ≡ left_column_of p + 1 = even_left p (omega arith) even in
              let odd : left_column_of p % 2 ≡ 1 = left_of_is_odd p (omega arith) in
              let same : slice_index c.parents p ≡ slice_index c.parents (left_column_of p) = ap (λ x. slice_index c.parents x) half ∙ g.pairs (left_column_of p) odd (omega (arith, half)) in
              let apart : p ≢ s = λ x. omega (arith, x, o.left) in
              let le : s ≤ slice_index c.parents p = forked_after c cuts joins pend col g t s p tr (inr o) h e (omega (arith, apart)) (λ _. ne) in
              let P : ℕ → Type 0 = λ x. 0 < x → has joins (left_column_of x) ≡ false in
              let above : 0 < slice_index c.parents p → has joins (left_column_of (slice_index c.parents p)) ≡ false = subst P (sym same) (g.unjoined_above (left_column_of p) (omega (arith, half)) odd (u (omega arith))) in
              by_more (more (slice_index c.parents p) (omega arith) (omega arith) (sym q ∙ e) le above v))
        ] where
          by_more : (slice_index c.parents p ≡ s + 1) ⊎ Past s → (p ≡ s + 1) ⊎ Past s
          by_more (inl z) = inr (p, omega arith, h, z)
          by_more (inr z) = inr z

        by_cut : ((q : ℕ) → q < k → q < used c → owner c q ≡ t → s ≤ q → (0 < q → has joins (left_column_of q) ≡ false) → outward cuts c.parents k q ≡ None → (q ≡ s + 1) ⊎ Past s)
            → (a b : Bool) → has cuts (left_column_of p) ≡ a → nat_eq (p % 2) 1 ≡ b → (if a then None else if b then Some p else outward cuts c.parents k (slice_index c.parents p)) ≡ None → (p ≡ s + 1) ⊎ Past s
        by_cut more true b ea eb v = absurd (unapart (is_split cuts joins p (ea) (u (omega arith))))
        by_cut more false true ea eb v = absurd (cc v)
        by_cut more false false ea eb v = elim (cases_eq p (s + 1)) [ inl z ↦ inl z | inr z ↦ on more z (is_even p eb) v ]

  -- where nothing has to be split before the fork f, each other open fork of its trace was taken back
  pub all_past : (f s : ℕ) → has cuts f ≡ false → IsOpen c joins (owner c f) f → IsOpen c joins (owner c f) s → s < f → next_outward c cuts f ≡ None → Past s
  all_past f s u o w l e =
      let p : ℕ = slice_index c.parents f in
      let q : 0 < f = open_pos c cuts joins pend col g (owner c f) f o in
      let low : p < f = g.rooted f q o.low in
      let tr : IsTrace c cuts joins (owner c f) = own_trace c cuts joins pend col g f o.low in
      let apart : f ≢ s + 1 = λ x. parity s f x w.left o.left in
      let le : s ≤ p = g.nested (owner c f) s f tr (inr w) o.low (omega (arith, apart)) o.outside in
      elim (walk (owner c f) s tr w f p low (omega (arith, o.low)) o.outside le (g.unjoined_above f o.low o.left o.unjoined) e) [ inl z ↦ (f, q, o.low, z) | inr z ↦ z ] where
        parity : (s f : ℕ) → f ≡ s + 1 → s % 2 ≡ 1 → f % 2 ≡ 1 → ⊥
        parity s f e a b = omega arith

  -- what the walk from column p finds: the next open fork outward that was not split; each open fork of the trace between was taken back
  pub record Next (t p s : ℕ) : Type 0 where
    pub open_fork : IsOpen c joins t s
    pub uncut : has cuts s ≡ false
    pub outer : s ≤ p
    pub between : (r : ℕ) → IsOpen c joins t r → s < r → r ≤ p → (p ≡ r + 1) ⊎ Past r

  some_out : (n m : ℕ) → Some n ≡ Some m → n ≡ m
  some_out n m e = cc e

  pub walk_some : (t s : ℕ) → IsTrace c cuts joins t → (k p : ℕ) → p < k → p < used c → owner c p ≡ t → (0 < p → has joins (left_column_of p) ≡ false) → outward cuts c.parents k p ≡ Some s → Next t p s
  walk_some t s tr zero p l h e u w = absurd (omega arith)
  walk_some t s tr (suc k) zero l h e u w = absurd (cc w)
  walk_some t s tr (suc k) (suc n) l h e u w =
      by_cut (λ q a b x z v. walk_some t s tr k q a b x z v) (has cuts (left_column_of (suc n))) (nat_eq (suc n % 2) 1) refl refl w where
        p : ℕ
        p = suc n

        on : ((q : ℕ) → q < k → q < used c → owner c q ≡ t → (0 < q → has joins (left_column_of q) ≡ false) → outward cuts c.parents k q ≡ Some s → Next t q s)
            → has cuts (left_column_of p) ≡ false → p % 2 ≡ 0 → outward cuts c.parents k (slice_index c.parents p) ≡ Some s → Next t p s
        on more un even v = elim (made c cuts joins pend col g p h) [
          | first z ↦ absurd (omega (arith, z))
          | split_off z a q ↦ absurd (cc ((apart_parts cuts joins p a).0, un))
          | forked z a low q ↦ (
              let half : p ≡ left_column_of p + 1 = even_left p (omega arith) even in
              let odd : left_column_of p % 2 ≡ 1 = left_of_is_odd p (omega arith) in
              let same : slice_index c.parents p ≡ slice_index c.parents (left_column_of p) = ap (λ x. slice_index c.parents x) half ∙ g.pairs (left_column_of p) odd (omega (arith, half)) in
              let P : ℕ → Type 0 = λ x. 0 < x → has joins (left_column_of x) ≡ false in
              let above : 0 < slice_index c.parents p → has joins (left_column_of (slice_index c.parents p)) ≡ false = subst P (sym same) (g.unjoined_above (left_column_of p) (omega (arith, half)) odd (u (omega arith))) in
              let m = more (slice_index c.parents p) (omega arith) (omega arith) (sym q ∙ e) above v in
              record {
                open_fork = m.open_fork;
                uncut = m.uncut;
                outer = omega (arith, m.outer);
                between = λ r o a b. by_near r o a b (m.between r o a);
              })
        ] where
          by_near : (r : ℕ) → IsOpen c joins t r → s < r → r ≤ p → (r ≤ slice_index c.parents p → (slice_index c.parents p ≡ r + 1) ⊎ Past r) → (p ≡ r + 1) ⊎ Past r
          by_near r o a b more = elim (cases_eq p (r + 1)) [
            | inl y ↦ inl y
            | inr y ↦ (
                let apart : p ≢ r = λ x. omega (arith, x, o.left) in
                let le : r ≤ slice_index c.parents p = forked_after c cuts joins pend col g t r p tr (inr o) h e (omega (arith, apart)) (λ _. y) in
                elim (more le) [ inl x ↦ inr (p, omega arith, h, x) | inr x ↦ inr x ])
          ]

        here : has cuts (left_column_of p) ≡ false → nat_eq (p % 2) 1 ≡ true → p ≡ s → Next t p s
        here un o q =
            let odd : p % 2 ≡ 1 = eqb-true _ _ o in
            let self : left_column_of p ≡ p = left_of_odd p odd in
            let cut : has cuts p ≡ false = ap (has cuts) (sym self) ∙ un in
            let P : ℕ → Type 0 = λ x. Next t p x in
            subst P q (record {
              open_fork = record { low = h; left = odd; unjoined = ap (has joins) (sym self) ∙ u (omega arith); outside = sym (g.together p (omega arith) h (ap (λ b. b && not (has joins (left_column_of p))) (ap (has cuts) self ∙ cut))) ∙ e };
              uncut = cut;
              outer = omega arith;
              between = λ r w a b. absurd (omega arith);
            })

        by_cut : ((q : ℕ) → q < k → q < used c → owner c q ≡ t → (0 < q → has joins (left_column_of q) ≡ false) → outward cuts c.parents k q ≡ Some s → Next t q s)
            → (a b : Bool) → has cuts (left_column_of p) ≡ a → nat_eq (p % 2) 1 ≡ b → (if a then None else if b then Some p else outward cuts c.parents k (slice_index c.parents p)) ≡ Some s → Next t p s
        by_cut more true b ea eb v = absurd (cc v)
        by_cut more false true ea eb v = here ea eb (some_out p s v)
        by_cut more false false ea eb v = on more ea (is_even p eb) v

  -- a split is refused for the next open fork outward in the same trace that was not split
  pub early_is_next : (f s : ℕ) → IsOpen c joins (owner c f) f → next_outward c cuts f ≡ Some s → Next (owner c f) (slice_index c.parents f) s
  early_is_next f s o e =
      let p : ℕ = slice_index c.parents f in
      let q : 0 < f = open_pos c cuts joins pend col g (owner c f) f o in
      let low : p < f = g.rooted f q o.low in
      walk_some (owner c f) s (own_trace c cuts joins pend col g f o.low) f p low (omega (arith, o.low)) o.outside (g.unjoined_above f o.low o.left o.unjoined) e
