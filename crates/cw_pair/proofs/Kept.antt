-- Each step keeps the rule.
use Rattle.std.proofs.Common.{◌≡◌, ℕ, ◌<◌, ◌⊎◌, List, [], ◌∷◌, ◌++◌, length, set, sym, refl, ap, ◌∙◌, subst, inl, inr, ⊎_elim, arith}
use Rattle.std.specs.Prelude.{Option}
use mathlib.Core.Option.{none, some}
use lib.ListN.{get_elem?}
use Rattle.atomic_table.specs.Table.{Me, State, step, keeps, Allows, Splits, Joins}
use Rattle.atomic_table.proofs.Lists.{at_set, set_again}
use Rattle.cw_base.proofs.Ends.{snoc_at}
use Rattle.cw_pair.specs.declared.view.Binding.{Binding}
use Rattle.cw_pair.specs.declared.view.Known.{Known}
use Rattle.cw_pair.specs.Numbers as numbers
use Rattle.cw_pair.specs.Numbers.{binding, lower, upper, gone, given, both, Has, MayGive, IsKept, looked}

module _ {T : Type 0} where
  -- ## A view is cut in two

  -- where a view comes from once the view of seat id was cut in two
  data Origin (views : List (Known T)) (id : ℕ) (left right : Known T) (k : ℕ) (u : Known T) : Type 0 where
    is_left : k ≡ id → left ≡ u → Origin views id left right k u
    is_old : (k ≡ id → ⊥) → get_elem? views k ≡ some u → Origin views id left right k u
    is_right : k ≡ length (set views id left) → right ≡ u → Origin views id left right k u

  origin : (views : List (Known T)) (id : ℕ) (left right : Known T) (k : ℕ) (u : Known T) → get_elem? (set views id left ++ right ∷ []) k ≡ some u → Origin views id left right k u
  origin views id left right k u e = ⊎_elim
      (λ a. ⊎_elim (λ (t : (k ≡ id) × (left ≡ u)). Origin.is_left t.0 t.1) (λ (t : (k ≡ id → ⊥) × (get_elem? views k ≡ some u)). Origin.is_old t.0 t.1) (at_set views id k left u a))
      (λ b. Origin.is_right b.0 b.1)
      (snoc_at (set views id left) right u k e)

  module _ (views : List (Known T)) (id : ℕ) (v left right : Known T) (new : Binding T) (kept : IsKept views) (at : get_elem? views id ≡ some v) where
    -- the number of the new binding was this seat's, and may be given no more
    record IsSpent : Type 0 where
      was : MayGive v new.number
      not_left : MayGive left new.number → ⊥
      not_right : MayGive right new.number → ⊥

    abbrev Old : Binding T → Type 0
    Old x = (i : ℕ) × (u : Known T) × (get_elem? views i ≡ some u) × Has u.bindings x

    module _ (nl : (x : Binding T) → Has left.bindings x → Has v.bindings x) (nr : (x : Binding T) → Has right.bindings x → Has v.bindings x ⊎ ((new ≡ x) × IsSpent))
        (gl : (n : ℕ) → MayGive left n → MayGive v n) (gr : (n : ℕ) → MayGive right n → MayGive v n) (apart : (n : ℕ) → MayGive left n → MayGive right n → ⊥) where
      from : (k : ℕ) (u : Known T) (x : Binding T) → Origin views id left right k u → Has u.bindings x → Old x ⊎ ((new ≡ x) × IsSpent)
      from k u x (Origin.is_left e l) h = inl (id, v, at, nl x (subst (λ (w : Known T). Has w.bindings x) (sym l) h))
      from k u x (Origin.is_old n e) h = inl (k, u, e, h)
      from k u x (Origin.is_right n r) h = ⊎_elim (λ g. inl (id, v, at, g)) (λ g. inr g) (nr x (subst (λ (w : Known T). Has w.bindings x) (sym r) h))

      gives : (k : ℕ) (u : Known T) (n : ℕ) → Origin views id left right k u → MayGive u n → (i : ℕ) × (w : Known T) × (get_elem? views i ≡ some w) × MayGive w n
      gives k u n (Origin.is_left e l) g = (id, v, at, gl n (subst (λ (w : Known T). MayGive w n) (sym l) g))
      gives k u n (Origin.is_old o e) g = (k, u, e, g)
      gives k u n (Origin.is_right o r) g = (id, v, at, gr n (subst (λ (w : Known T). MayGive w n) (sym r) g))

      not_new : (k : ℕ) (u : Known T) → Origin views id left right k u → IsSpent → MayGive u new.number → ⊥
      not_new k u (Origin.is_left e l) s g = s.not_left (subst (λ (w : Known T). MayGive w new.number) (sym l) g)
      not_new k u (Origin.is_old o e) s g = kept.apart k id new.number u v o e at g s.was
      not_new k u (Origin.is_right o r) s g = s.not_right (subst (λ (w : Known T). MayGive w new.number) (sym r) g)

      agrees : (x y : Binding T) → Old x ⊎ ((new ≡ x) × IsSpent) → Old y ⊎ ((new ≡ y) × IsSpent) → x.number ≡ y.number → x.of ≡ y.of
      agrees x y (inl a) (inl b) e = let (i, u, p, h) = a in let (j, w, q, g) = b in kept.agree i j u w x y p q h g e
      agrees x y (inl a) (inr b) e =
          let (i, u, p, h) = a in
          absurd (kept.fresh id i v u x at p h (subst (λ (n : ℕ). MayGive v n) (ap (λ (z : Binding T). z.number) b.0 ∙ sym e) b.1.was))
      agrees x y (inr a) (inl b) e =
          let (j, w, q, g) = b in
          absurd (kept.fresh id j v w y at q g (subst (λ (n : ℕ). MayGive v n) (ap (λ (z : Binding T). z.number) a.0 ∙ e) a.1.was))
      agrees x y (inr a) (inr b) e = ap (λ (z : Binding T). z.of) (sym a.0 ∙ b.0)

      fresh : (k : ℕ) (u : Known T) (y : Binding T) → Origin views id left right k u → Old y ⊎ ((new ≡ y) × IsSpent) → MayGive u y.number → ⊥
      fresh k u y o (inl b) g = let (j, w, q, h) = b in let (i, z, p, m) = gives k u y.number o g in kept.fresh i j z w y p q h m
      fresh k u y o (inr b) g = not_new k u o b.1 (subst (λ (n : ℕ). MayGive u n) (ap (λ (z : Binding T). z.number) (sym b.0)) g)

      parted : (i j n : ℕ) (u w : Known T) → (i ≡ j → ⊥) → Origin views id left right i u → Origin views id left right j w → MayGive u n → MayGive w n → ⊥
      parted i j n u w ne (Origin.is_left e l) (Origin.is_left f m) g h = ne (e ∙ sym f)
      parted i j n u w ne (Origin.is_left e l) (Origin.is_old o f) g h = kept.apart j id n w v o f at h (gl n (subst (λ (z : Known T). MayGive z n) (sym l) g))
      parted i j n u w ne (Origin.is_left e l) (Origin.is_right o r) g h = apart n (subst (λ (z : Known T). MayGive z n) (sym l) g) (subst (λ (z : Known T). MayGive z n) (sym r) h)
      parted i j n u w ne (Origin.is_old o e) (Origin.is_left f m) g h = kept.apart i id n u v o e at g (gl n (subst (λ (z : Known T). MayGive z n) (sym m) h))
      parted i j n u w ne (Origin.is_old o e) (Origin.is_old q f) g h = kept.apart i j n u w ne e f g h
      parted i j n u w ne (Origin.is_old o e) (Origin.is_right q r) g h = kept.apart i id n u v o e at g (gr n (subst (λ (z : Known T). MayGive z n) (sym r) h))
      parted i j n u w ne (Origin.is_right o r) (Origin.is_left f m) g h = apart n (subst (λ (z : Known T). MayGive z n) (sym m) h) (subst (λ (z : Known T). MayGive z n) (sym r) g)
      parted i j n u w ne (Origin.is_right o r) (Origin.is_old q f) g h = kept.apart j id n w v q f at h (gr n (subst (λ (z : Known T). MayGive z n) (sym r) g))
      parted i j n u w ne (Origin.is_right o r) (Origin.is_right q s) g h = ne (o ∙ sym q)

      cut : IsKept (set views id left ++ right ∷ [])
      cut = record {
        agree = λ i j u w x y p q h g e. agrees x y (from i u x (origin views id left right i u p) h) (from j w y (origin views id left right j w q) g) e;
        fresh = λ i j u w y p q h g. fresh i u y (origin views id left right i u p) (from j w y (origin views id left right j w q) h) g;
        apart = λ i j n u w ne p q g h. parted i j n u w ne (origin views id left right i u p) (origin views id left right j w q) g h;
      }

  -- ## The cuts

  none_may : (v : Known T) (n : ℕ) → v.last ≡ 0 → MayGive v n → ⊥
  none_may v n e g = let p = g.last in omega (arith, e)

  pub shares : {S : Type 0} (id : ℕ) (v : Known T) → Splits {S = S} (λ s. IsKept s.views) id v (lower v) (upper v)
  shares id v s h at = cut s.views id v (lower v) (upper v) (binding 0 Option.None) h at
      (λ x a. a)
      (λ x a. absurd a)
      (λ n g. let p = g.first in let q = g.last in record { first = p; last = omega (arith) })
      (λ n g. let p = g.first in let q = g.last in record { first = omega (arith); last = q })
      (λ n g k. let p = g.last in let q = k.first in absurd (omega arith))

  pub gives_one : {S : Type 0} (id : ℕ) (v : Known T) (m : Option T) → v.first < v.last → Splits {S = S} (λ s. IsKept s.views) id v (gone v) (given v.first m)
  gives_one id v m some_left s h at = cut s.views id v (gone v) (given v.first m) (binding v.first m) h at
      (λ x a. a)
      (λ x a. ⊎_elim (λ e. inr (
        e,
        record {
          was = record { first = omega arith; last = some_left };
          not_left = λ g. let p = g.first in absurd (omega arith);
          not_right = λ g. let p = g.last in absurd (omega arith);
        },
      )) (λ z. absurd z) a)
      (λ n g. let p = g.first in record { first = omega arith; last = g.last })
      (λ n g. let p = g.last in absurd (omega arith))
      (λ n g k. let p = k.last in absurd (omega arith))

  pub copies : {S : Type 0} (id : ℕ) (v : Known T) → v.last ≡ 0 → Splits {S = S} (λ s. IsKept s.views) id v v v
  copies id v e s h at = cut s.views id v v v (binding 0 Option.None) h at (λ x a. a) (λ x a. inl a) (λ n g. g) (λ n g. g) (λ n g k. none_may v n e g)

  -- ## Two views are put together

  has_either : (xs ys : List (Binding T)) (x : Binding T) → Has (xs ++ ys) x → Has xs x ⊎ Has ys x
  has_either [] ys x h = inr h
  has_either (z ∷ xs) ys x (inl e) = inl (inl e)
  has_either (z ∷ xs) ys x (inr h) = ⊎_elim (λ a. inl (inr a)) (λ b. inr b) (has_either xs ys x h)

  module _ (views : List (Known T)) (id other : ℕ) (v w : Known T) (kept : IsKept views) (at : get_elem? views id ≡ some v) (apart : other ≡ id → ⊥) (there_too : get_elem? (set views id (both v w)) other ≡ some w) where
    abbrev after : List (Known T)
    after = set (set views id (both v w)) other numbers.none

    was : get_elem? views other ≡ some w
    was = ⊎_elim (λ (t : (other ≡ id) × (both v w ≡ w)). absurd (apart t.0)) (λ (t : (other ≡ id → ⊥) × (get_elem? views other ≡ some w)). t.1) (at_set views id other (both v w) w there_too)

    was_bound : (k : ℕ) (u : Known T) (x : Binding T) → get_elem? after k ≡ some u → Has u.bindings x → (i : ℕ) × (z : Known T) × (get_elem? views i ≡ some z) × Has z.bindings x
    was_bound k u x e h = ⊎_elim
        (λ (t : (k ≡ other) × (numbers.none ≡ u)). absurd (subst (λ (z : Known T). Has z.bindings x) (sym t.1) h))
        (λ (t : (k ≡ other → ⊥) × (get_elem? (set views id (both v w)) k ≡ some u)). ⊎_elim
        (λ (r : (k ≡ id) × (both v w ≡ u)). ⊎_elim (λ a. (id, v, at, a)) (λ b. (other, w, was, b)) (has_either v.bindings w.bindings x (subst (λ (z : Known T). Has z.bindings x) (sym r.1) h)))
        (λ (r : (k ≡ id → ⊥) × (get_elem? views k ≡ some u)). (k, u, r.1, h))
        (at_set views id k (both v w) u t.1))
        (at_set (set views id (both v w)) other k numbers.none u e)

    may : (k n : ℕ) (u : Known T) → get_elem? after k ≡ some u → MayGive u n → get_elem? views k ≡ some u
    may k n u e g = ⊎_elim
        (λ (t : (k ≡ other) × (numbers.none ≡ u)). absurd (none_may u n (ap (λ (z : Known T). z.last) (sym t.1)) g))
        (λ (t : (k ≡ other → ⊥) × (get_elem? (set views id (both v w)) k ≡ some u)). ⊎_elim
        (λ (r : (k ≡ id) × (both v w ≡ u)). absurd (none_may u n (ap (λ (z : Known T). z.last) (sym r.1)) g))
        (λ (r : (k ≡ id → ⊥) × (get_elem? views k ≡ some u)). r.1)
        (at_set views id k (both v w) u t.1))
        (at_set (set views id (both v w)) other k numbers.none u e)

    joined : IsKept after
    joined = record {
      agree = λ i j u z x y p q h g e. let (a, b, c, d) = was_bound i u x p h in let (a', b', c', d') = was_bound j z y q g in kept.agree a a' b b' x y c c' d d' e;
      fresh = λ i j u z y p q h g. let (a, b, c, d) = was_bound j z y q h in kept.fresh i a u b y (may i y.number u p g) c d g;
      apart = λ i j n u z ne p q g h. kept.apart i j n u z ne (may i n u p g) (may j n z q h) g h;
    }

  pub joins : {S : Type 0} (id : ℕ) (v : Known T) (other : ℕ) (w : Known T) → Joins {S = S} (λ s. IsKept s.views) id v other w (both v w) numbers.none
  joins id v other w s h at ne too = joined s.views id other v w h at ne too

  -- ## Looks

  pub looks : {S : Type 0} (slots id : ℕ) (me : Me S (Known T)) → Allows (λ (s : State S (Known T)). IsKept s.views) slots id me 0 (λ n. n) (looked (step slots 0 0 0 none) me)
  looks slots id me s h deep at bound = (
    me.0,
    keeps,
    tt,
    subst IsKept (sym (set_again s.views id me.0 at)) h,
    (refl, λ x y p q e. h.agree id id me.0 me.0 x y at at p q e),
  )

  -- ## Two halves

  has_right : (xs ys : List (Binding T)) (y : Binding T) → Has ys y → Has (xs ++ ys) y
  has_right [] ys y h = h
  has_right (x ∷ xs) ys y h = inr (has_right xs ys y h)

  pub met : (v w : Known T) (n m : ℕ) → v ≡ given n (numbers.meant v) → w ≡ given m (numbers.meant w) → n ≡ m
      → ((x y : Binding T) → Has (both v w).bindings x → Has (both v w).bindings y → x.number ≡ y.number → x.of ≡ y.of) → numbers.meant v ≡ numbers.meant w
  met v w n m e f s agree = agree (binding n (numbers.meant v)) (binding m (numbers.meant w))
      (subst (λ (ns : List (Binding T)). Has (ns ++ w.bindings) (binding n (numbers.meant v))) (sym (ap (λ (z : Known T). z.bindings) e)) (inl refl))
      (has_right v.bindings w.bindings (binding m (numbers.meant w)) (subst (λ (ns : List (Binding T)). Has ns (binding m (numbers.meant w))) (sym (ap (λ (z : Known T). z.bindings) f)) (inl refl)))
      s
