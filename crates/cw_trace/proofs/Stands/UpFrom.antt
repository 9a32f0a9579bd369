-- The nearest trace around a trace that has a pending block: what stands pending above a node of the trace is the trace's own, or stands above the fork at which that one was cut.
use Rattle.std.proofs.Common.{◌≡◌, ℕ, ◌<◌, List, length, refl, ap, sym, ◌∙◌, arith, true, Option, Some, None, inl, inr, subst, nat_eq, eq-eqb, eqb-true}
use Rattle.std.specs.Prelude.{◌⊎◌, ◌&&◌, is_some, if◌then◌else◌}
use Rattle.std.proofs.lemmas.Bool.{and_parts, and_from}
use Rattle.cw_tree.specs.declared.node.Node.{Node}
use Rattle.cw_tree.specs.Nodes.{parent_of, is_fork, is_pending}
use Rattle.cw_tree.specs.Walks.{is_ancestor}
use Rattle.cw_tree.specs.Shape.{IsTree}
use Rattle.cw_tree.proofs.Walks.Climbs.{by_parent}
use Rattle.cw_tree.proofs.Walks.Ancestors.{ancestor_up, ancestor_self, ancestor_root}
use Rattle.cw_tree.proofs.Walks.Upward.{ancestor_cases}
use Rattle.cw_trace.specs.Columns.{ColumnTable, used, owner, up}
use Rattle.cw_trace.specs.Stands.{Stands, column, fork_column, is_cut_at, outermost_pending}
use Rattle.cw_trace.proofs.Stands.Counting.{none_below, some_below}
use Rattle.cw_trace.proofs.Keeps.Owners.{Heads, HeadOf, OwnStep, own_step, own_root, cut_of, own_named}

module _ (c : ColumnTable) (words : List ℕ) (t : List Node) (cuts merges : List ℕ) (tr : IsTree t) (st : Stands c words t cuts merges) where
  abbrev own : ℕ → ℕ
  own n = owner c (column t (used c) n)

  -- the pending blocks of a trace
  abbrev pub first_begun : ℕ → Option ℕ
  first_begun x = outermost_pending t (used c) (λ i. nat_eq (owner c i) x)

  pub record FirstBegun (x b : ℕ) : Type 0 where
    pub there : b < length t
    pub pending : is_pending t b ≡ true
    pub owner : own b ≡ x
    pub first : (a : ℕ) → a < b → is_pending t a ≡ true → own a ≡ x → ⊥

  pub first_some : (x b : ℕ) → first_begun x ≡ Some b → FirstBegun x b
  first_some x b e =
      let f = some_below (λ b. is_pending t b && nat_eq (own b) x) (length t) b e in
      let z = and_parts (is_pending t b) (nat_eq (own b) x) f.passed in
      record {
        there = f.low;
        pending = z.0;
        owner = eqb-true (own b) x z.1;
        first = λ a l p o. absurd (cc (f.first a l, and_from (is_pending t a) (nat_eq (own a) x) p (eq-eqb (own a) x o)));
      }

  pub first_none : (x : ℕ) → first_begun x ≡ None → (a : ℕ) → a < length t → is_pending t a ≡ true → own a ≡ x → ⊥
  first_none x e a h p o =
      absurd (cc (none_below (λ b. is_pending t b && nat_eq (own b) x) (length t) e a h, and_from (is_pending t a) (nat_eq (own a) x) p (eq-eqb (own a) x o)))

  -- what the way up from a trace tells of the pending blocks above a node
  pub record UpTo (n y g b : ℕ) : Type 0 where
    pub there : g < length t
    pub fork : is_fork t g ≡ true
    pub above : is_ancestor t g n ≡ true
    pub owner : own g ≡ y
    pub cut : is_cut_at c cuts merges y (fork_column t g) ≡ true
    pub first : first_begun y ≡ Some b
    pub near : (a : ℕ) → a < length t → is_ancestor t a n ≡ true → is_pending t a ≡ true → (own a ≡ own n) ⊎ (is_ancestor t a g ≡ true)

  abbrev pub UpFrom : ℕ → Option ℕ → Type 0
  UpFrom n None = (a : ℕ) → a < length t → is_ancestor t a n ≡ true → is_pending t a ≡ true → own a ≡ own n
  UpFrom n (Some y) = (g : ℕ) × (b : ℕ) × UpTo n y g b

  ups_same : (m : ℕ) → 0 < m → m < length t → own m ≡ own (parent_of t m) → (o : Option ℕ) → UpFrom (parent_of t m) o → UpFrom m o
  ups_same m p q e None w = λ a h f s. elim (ancestor_cases t tr.rooted a m p q f) [ inl z ↦ ap own (sym z) | inr z ↦ w a h z s ∙ sym e ]
  ups_same m p q e (Some y) w = (
    w.0,
    w.1,
    record {
      there = w.2.there;
      fork = w.2.fork;
      above = ancestor_up t tr.rooted w.0 m p q w.2.above;
      owner = w.2.owner;
      cut = w.2.cut;
      first = w.2.first;
      near = λ a h f s. elim (ancestor_cases t tr.rooted a m p q f) [ inl z ↦ inl (ap own (sym z)) | inr z ↦ elim (w.2.near a h z s) [ inl x ↦ inl (x ∙ sym e) | inr x ↦ inr x ] ];
    },
  )

  ups_past : (m : ℕ) → 0 < m → m < length t → first_begun (own (parent_of t m)) ≡ None → (o : Option ℕ) → UpFrom (parent_of t m) o → UpFrom m o
  ups_past m p q e None w = λ a h f s. elim (ancestor_cases t tr.rooted a m p q f) [ inl z ↦ ap own (sym z) | inr z ↦ absurd (first_none _ e a h s (w a h z s)) ]
  ups_past m p q e (Some y) w = (
    w.0,
    w.1,
    record {
      there = w.2.there;
      fork = w.2.fork;
      above = ancestor_up t tr.rooted w.0 m p q w.2.above;
      owner = w.2.owner;
      cut = w.2.cut;
      first = w.2.first;
      near = λ a h f s. elim (ancestor_cases t tr.rooted a m p q f) [ inl z ↦ inl (ap own (sym z)) | inr z ↦ elim (w.2.near a h z s) [ inl x ↦ absurd (first_none _ e a h s x) | inr x ↦ inr x ] ];
    },
  )

  ups_here : (m b : ℕ) → 0 < m → m < length t → Heads c words t cuts merges tr st m → first_begun (own (parent_of t m)) ≡ Some b → UpFrom m (Some (own (parent_of t m)))
  ups_here m b p q w e =
      let low : parent_of t m < m = tr.rooted m p q in
      let up : is_ancestor t (parent_of t m) m ≡ true = ancestor_up t tr.rooted (parent_of t m) m p q (ancestor_self t (parent_of t m)) in
      let head : HeadOf c words t cuts merges tr st m (parent_of t m) = record {
        there = omega arith;
        above = up;
        fork = w.fork;
        used_up = w.used_up;
        paired = w.paired;
        apart = w.apart;
        column_is = w.column_is;
        outside = w.outside;
        near = λ a g. elim (ancestor_cases t tr.rooted a m p q g) [ inl z ↦ inl (ap own (sym z)) | inr z ↦ inr z ];
      } in (
        parent_of t m,
        b,
        record {
          there = omega arith;
          fork = w.fork;
          above = up;
          owner = refl;
          cut = (cut_of c words t cuts merges tr st (own (parent_of t m)) m (parent_of t m) q head refl).cut;
          first = e;
          near = λ a h f s. elim (ancestor_cases t tr.rooted a m p q f) [ inl z ↦ inl (ap own (sym z)) | inr z ↦ inr z ];
        },
      )

  pub ups_of : (n : ℕ) → n < length t → UpFrom n (up c (own n))
  ups_of =
      by_parent t tr.rooted (λ n. UpFrom n (up c (own n)))
      (let P : Option ℕ → Type 0 = λ o. UpFrom 0 o in subst P (sym (ap (up c) (own_root c words t cuts merges tr st) ∙ st.no_up)) (λ a h f s. ap own (ancestor_root t a f)))
      (λ m p q more. by_step m p q more (own_step c words t cuts merges tr st m p q)) where
        by_first : (m : ℕ) → 0 < m → m < length t → Heads c words t cuts merges tr st m → UpFrom (parent_of t m) (up c (own (parent_of t m))) → (o : Option ℕ) → first_begun (own (parent_of t m)) ≡ o
            → UpFrom m (if is_some o then Some (own (parent_of t m)) else up c (own (parent_of t m)))
        by_first m p q w more None e = ups_past m p q e (up c (own (parent_of t m))) more
        by_first m p q w more (Some b) e = ups_here m b p q w e

        by_step : (m : ℕ) → 0 < m → m < length t → UpFrom (parent_of t m) (up c (own (parent_of t m))) → OwnStep c words t cuts merges tr st m → UpFrom m (up c (own m))
        by_step m p q more (inl e) = let P : Option ℕ → Type 0 = λ o. UpFrom m o in subst P (ap (up c) (sym e)) (ups_same m p q e (up c (own (parent_of t m))) more)
        by_step m p q more (inr w) =
            let n = own_named c words t cuts merges tr st m q in
            let z : up c (own m) ≡ (if is_some (first_begun (own (parent_of t m))) then Some (own (parent_of t m)) else up c (own (parent_of t m))) =
            st.ups (own m) w.named w.used_up n.named
            ∙ ap (λ x. if is_some (first_begun x) then Some x else up c x) w.outside in
            let P : Option ℕ → Type 0 = λ o. UpFrom m o in
            subst P (sym z) (by_first m p q w more (first_begun (own (parent_of t m))) refl)
